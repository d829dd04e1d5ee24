use Rattle.evm_delta.proofs.tests.shapes.beside.Given as goal

abbrev pub ghosts-counted_beside : goal.ghosts-counted_beside
ghosts-counted_beside a = record { name = a.blank.name; parts = a.blank.parts }
