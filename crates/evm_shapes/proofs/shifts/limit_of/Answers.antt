use Rattle.std.proofs.Common.{◌∙◌, rules}
use Rattle.evm_sections.proofs.Bits.{same32}
use Rattle.evm_shapes.proofs.Shifted.{same64}
use Rattle.evm_shapes.proofs.shifts.limit_of.Goals as goal

pub returns : goal.returns
returns c = same64 c.from.result (search rules) ∙ c.from.ensures ∙ same32 c.limit.result (search rules) ∙ c.limit.ensures
