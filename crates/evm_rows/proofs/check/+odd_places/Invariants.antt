use Rattle.std.proofs.Common.{length}
use Rattle.evm_rows.proofs.check.+odd_places.Given as goal

abbrev pub decreases-odd_places : goal.decreases-odd_places
decreases-odd_places l = length l.flat.now
