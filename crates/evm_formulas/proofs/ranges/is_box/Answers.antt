use Rattle.std.proofs.Common.{sym}
use Rattle.evm_formulas.proofs.Corners.{fits_by}
use Rattle.evm_formulas.proofs.ranges.is_box.Goals as goal

pub returns : goal.returns
returns c = sym (fits_by c.args.dim c.args.numbers.now c.split_at.result.0.now c.split_at.result.1.now c.has_sides.result c.split_at.ensures.front c.split_at.ensures.back (sym c.has_sides.ensures))
