use Rattle.std.proofs.Common.{ap₂, ◌∙◌}
use Rattle.evm_cells.specs.Booleans.{xor}
use Rattle.evm_sections.proofs.Zero.{differs}
use Rattle.evm_boolean.specs.Tower.{fills}
use Rattle.evm_boolean.proofs.line.gain.Goals as goal

pub returns : goal.returns
returns c =
    differs c.fills.result c.fills-2.result
    ∙ ap₂ xor c.fills.ensures (c.fills-2.ensures ∙ ap₂ (fills c.args.op) (differs c.args.a c.args.change_a) (differs c.args.b c.args.change_b))
