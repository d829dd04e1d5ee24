use Rattle.std.proofs.Common.{◌∙◌, sym, ap, arith}
use Rattle.std.specs.List.{list_all}
use Rattle.evm_rows.proofs.RowsLaws.{rows_of-none}
use Rattle.evm_shapes.specs.Moves.{stays_in}
use Rattle.evm_shapes.proofs.clips.all_stay.Goals as goal

pub returns : goal.returns
returns c = sym (c.loop-left.invariant.so_far ∙ ap (list_all (stays_in c.args.lo.now c.args.hi.now)) (rows_of-none c.loop-left.left.now c.args.a.width c.args.a.skip (omega arith)))
