use Rattle.evm_steps.proofs.tests.unites_squares.Given as goal

-- a ledger of the test's own
abbrev pub ghosts-unites : goal.ghosts-unites
ghosts-unites g a = record { name = a.blank.name; parts = a.blank.parts }
