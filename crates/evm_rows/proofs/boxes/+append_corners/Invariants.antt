use Rattle.std.proofs.Common.{length}
use Rattle.evm_rows.proofs.boxes.+append_corners.Given as goal

abbrev pub decreases-append_corners : goal.decreases-append_corners
decreases-append_corners l = length l.lo.now
