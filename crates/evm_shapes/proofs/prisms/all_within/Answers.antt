use Rattle.std.proofs.Common.{◌∙◌, sym, ap, arith}
use Rattle.std.specs.List.{list_all}
use Rattle.evm_cells.specs.Limits.{is_point_coord}
use Rattle.evm_rows.proofs.RowsLaws.{rows_of-none}
use Rattle.evm_shapes.proofs.prisms.all_within.Goals as goal

pub returns : goal.returns
returns c = sym (c.loop-left.invariant.so_far ∙ ap (list_all (list_all (is_point_coord c.args.dim))) (rows_of-none c.loop-left.left.now c.args.a.width c.args.a.skip (omega arith)))
