use Rattle.std.proofs.Common.{arith}
use Rattle.evm_rows.specs.Rows.{rows_of}
use Rattle.evm_rows.proofs.RowsLaws.{rows_of-none}
use Rattle.evm_boolean.proofs.TowerCells.{xor-none}
use Rattle.evm_boolean.proofs.plane.line_after.Goals as goal

pub returns-then-change-eq0-clause-rows : goal.returns-then-change-eq0-clause-rows
returns-then-change-eq0-clause-rows c =
    xor-none 1 (rows_of c.args.line.items 1 0) (rows_of c.args.change.flat.now c.args.change.width c.args.change.skip) (rows_of-none c.args.change.flat.now c.args.change.width c.args.change.skip (omega arith)) c.requires.line.vertices
