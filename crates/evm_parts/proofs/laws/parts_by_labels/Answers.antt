use Rattle.evm_parts.proofs.FloodParts.{parts_by_labels as the_law}
use Rattle.evm_parts.proofs.laws.parts_by_labels.Goals as goal

pub returns : goal.returns
returns c = the_law
