use Rattle.std.proofs.Common.{refl, arith}
use Rattle.evm_voxels.proofs.Windows.{row_first, row_later}
use Rattle.evm_voxels.proofs.grid.Grid.row.Goals as goal

pub returns-then-first-eq0-clause-bits : goal.returns-then-first-eq0-clause-bits
returns-then-first-eq0-clause-bits c = row_first c.args.self.now c.args.first c.args.y c.args.z c.marks_from.result _ c.if-first-eq0.true c.requires.row c.requires.image c.min.ensures c.marks_from.ensures.bits

pub returns-else-first-eq0-clause-bits : goal.returns-else-first-eq0-clause-bits
returns-else-first-eq0-clause-bits c =
    row_later c.args.self.now c.args.first c.args.y c.args.z c.marks_from-else-first-eq0.result _ _ (omega arith) c.requires.first c.requires.row c.requires.image c.min-else-first-eq0.ensures refl c.marks_from-else-first-eq0.ensures.bits
