use Rattle.std.proofs.Common.{◌≡◌, Bool, false, not, ◌&&◌, bytes_eq, sym, ap, ◌∙◌, rules}
use Rattle.evm_scene.specs.Tables.{scene_of}
use Rattle.evm_model.specs.Scene.{stands}
use Rattle.evm_scene.proofs.Views.{stands_at}
use Rattle.evm_scene.proofs.formulas.is_lacking.Goals as goal

pub returns-then-ne : goal.returns-then-ne
returns-then-ne c =
    let other : bytes_eq c.args.operand.now c.args.name.now ≡ false = search rules in
    sym (ap (λ (b : Bool). not b && not (stands (scene_of c.args.table.now.entries) c.args.operand.now)) other
    ∙ ap not (stands_at c.args.table.now.entries c.args.operand.now ∙ sym c.contains_key.ensures))
