use Rattle.std.proofs.Common.{length}
use Rattle.evm_boxes.proofs.union.+unite.Given as goal

abbrev pub decreases-unite : goal.decreases-unite
decreases-unite l = length l.boxes.now
