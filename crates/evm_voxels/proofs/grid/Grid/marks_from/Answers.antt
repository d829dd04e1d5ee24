use Rattle.evm_voxels.proofs.Windows.{marks_from, marks_small}
use Rattle.evm_voxels.proofs.grid.Grid.marks_from.Goals as goal

pub returns-clause-bits : goal.returns-clause-bits
returns-clause-bits c k = marks_from c.args.self.now.marks.now c.word.result c.word-2.result c.args.mark c.args.count k c.word.ensures.word c.word-2.ensures.word c.word-2.ensures.small c.requires.few

pub returns-clause-small : goal.returns-clause-small
returns-clause-small c = marks_small _ c.args.count c.requires.few
