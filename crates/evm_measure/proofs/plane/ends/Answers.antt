use Rattle.std.proofs.Common.{◌∙◌, sym}
use Rattle.evm_rows.specs.Rows.{rows_of}
use Rattle.evm_measure.proofs.Sums.{boundary-one}
use Rattle.evm_sections.proofs.Counting.{rows-many}
use Rattle.evm_measure.proofs.plane.ends.Goals as goal

pub returns : goal.returns
returns c = sym (rows-many c.args.line.now) ∙ boundary-one (rows_of c.args.line.now 1 0) c.requires.vertices
