use Rattle.evm_delta.proofs.tests.booleans.changes_booleans.Given as goal

abbrev pub ghosts-change : goal.ghosts-change
ghosts-change g a = record { name = a.blank.name; parts = a.blank.parts }
