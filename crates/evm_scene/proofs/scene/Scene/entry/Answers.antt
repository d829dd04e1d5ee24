use Rattle.std.proofs.Common.{◌≡◌, Bool, true, false, not, Option, Some, is_some, sym, ap, ◌∙◌, subst}
use Rattle.evm_model.specs.Scene.{Scene, stands, dim_of, is_input}
use Rattle.evm_scene.specs.declared.node.Node.{Node}
use Rattle.evm_scene.specs.Tables.{node_at, node_dim}
use Rattle.evm_scene.proofs.Views.{stands_at, dim_is, input_at, is_given}
use Rattle.evm_scene.proofs.scene.Scene.entry.Goals as goal

turned : (a b : Bool) → a ≡ not b → b ≡ not a
turned a true e = ap not (sym e)
turned a false e = ap not (sym e)

pub returns-in_default : goal.returns-in_default
returns-in_default g c =
    subst (λ (s : Scene). stands s c.args.name.now ≡ false) c.self.view_is
    (stands_at c.self.inside.table.entries c.args.name.now ∙ ap (λ (o : Option Node). is_some o) (sym c.in_default.ensures.value))

pub returns : goal.returns
returns g c =
    let at : node_at c.self.inside.table.entries c.args.name.now ≡ Some c.in-Some.node.now = sym c.in-Some.ensures.value in (
      subst (λ (s : Scene). stands s c.args.name.now ≡ true) c.self.view_is
          (stands_at c.self.inside.table.entries c.args.name.now ∙ ap (λ (o : Option Node). is_some o) at),
      subst (λ (s : Scene). c.in-Some.node.now.dim ≡ dim_of s c.args.name.now) c.self.view_is (sym (dim_is c.self.inside.table.entries c.args.name.now ∙ ap node_dim at)),
      subst (λ (s : Scene). c.is_none.result ≡ is_input s c.args.name.now) c.self.view_is
          (turned (is_some c.in-Some.node.now.formula) c.is_none.result c.is_none.ensures ∙ sym (input_at c.self.inside.table.entries c.args.name.now ∙ ap is_given at)),
    )
