use Rattle.std.proofs.Common.{◌≡◌, None, Some, sym, ap, ◌∙◌, subst}
use Rattle.std.specs.Option.{option_copied}
use Rattle.evm_model.specs.Scene.{Scene}
use Rattle.evm_scene.specs.Tables.{node_at}
use Rattle.evm_scene.specs.Shown.{formula_of}
use Rattle.evm_scene.proofs.Views.{formula_at, node_formula}
use Rattle.evm_scene.proofs.scene.Scene.formula.Goals as goal

pub returns-in_default : goal.returns-in_default
returns-in_default g c =
    subst (λ (s : Scene). None ≡ formula_of s c.args.name.now) c.self.view_is
    (sym (formula_at c.self.inside.table.entries c.args.name.now ∙ ap node_formula (sym c.in_default.ensures.value)))

pub returns : goal.returns
returns g c =
    let at : node_at c.self.inside.table.entries c.args.name.now ≡ Some c.in-Some.node.now = sym c.in-Some.ensures.value in
    subst (λ (s : Scene). option_copied c.as_ref.result ≡ formula_of s c.args.name.now) c.self.view_is
    (c.as_ref.ensures.value ∙ sym (formula_at c.self.inside.table.entries c.args.name.now ∙ ap node_formula at))
