use Rattle.evm_rows.proofs.RowsLaws.{rows_of-none}
use Rattle.evm_rows.specs.Rows.{rows_of}
use Rattle.evm_boolean.proofs.TowerCells.{xor-none}
use Rattle.std.proofs.Common.{arith}
use Rattle.evm_cutting.proofs.sweeps.changed.Goals as goal

pub returns-then-change-eq0-clause-rows : goal.returns-then-change-eq0-clause-rows
returns-then-change-eq0-clause-rows c =
    let d = c.args.change in
    xor-none c.args.section.dim c.args.section.rows (rows_of d.flat.now d.width d.skip) (rows_of-none d.flat.now d.width d.skip (omega arith)) c.facts.ensures.solid.vertices
