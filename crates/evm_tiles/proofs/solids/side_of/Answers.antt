use Rattle.evm_cells.proofs.Sides.{rows_under, rows_over}
use Rattle.std.proofs.Common.{◌-◌, sym}
use Rattle.evm_rows.specs.Rows.{rows_of}
use Rattle.evm_rows.proofs.BoxTests.{same32}
use Rattle.evm_tiles.proofs.solids.side_of.Goals as goal

pub returns-then-is_all_up_to : goal.returns-then-is_all_up_to
returns-then-is_all_up_to c = let a = c.args.a in rows_under (a.width - a.skip) c.args.axis c.args.at (rows_of a.flat.now a.width a.skip) c.requires a.vertices (rw (same32 c.args.at c.ranges.at) at (sym c.if-is_all_up_to.ensures))

pub returns-then-is_all_from : goal.returns-then-is_all_from
returns-then-is_all_from c = let a = c.args.a in rows_over (a.width - a.skip) c.args.axis c.args.at (rows_of a.flat.now a.width a.skip) c.requires a.vertices (rw (same32 c.args.at c.ranges.at) at (sym c.if-is_all_from.ensures))
