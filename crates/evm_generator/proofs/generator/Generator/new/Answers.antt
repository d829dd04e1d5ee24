use Rattle.std.proofs.Common.{ℕ, ◌++◌, ap}
use Rattle.evm_text.specs.Lines.{lines}
use Rattle.evm_generator.specs.Script.{first_lines, last_lines, edit_lines}
use Rattle.evm_generator.proofs.generator.Generator.new.Goals as goal

-- the two texts are cut into the stated lines
pub returns : goal.returns
unfolding lines
returns c = ap (λ (x : ℕ). first_lines ++ edit_lines c.args.edits x ++ last_lines) c.new.ensures
