use Rattle.std.proofs.Common.{◌≡◌, true, false, Option, Some, is_some, sym, ap, ◌∙◌, subst}
use Rattle.evm_model.specs.Scene.{Scene, stands, dim_of, value}
use Rattle.evm_scene.specs.declared.node.Node.{Node}
use Rattle.evm_formulas.specs.Stated.{figure_of}
use Rattle.evm_scene.specs.Tables.{node_at, node_figure, node_dim, dim_at, NodeSized}
use Rattle.evm_scene.proofs.Views.{stands_at, dim_is, kept_is_value}
use Rattle.evm_scene.proofs.scene.Scene.kept.Goals as goal

pub returns-in_default-clause-value : goal.returns-in_default-clause-value
returns-in_default-clause-value g c =
    subst (λ (s : Scene). stands s c.args.name.now ≡ false) c.self.view_is
    (stands_at c.self.inside.table.entries c.args.name.now ∙ ap (λ (o : Option Node). is_some o) (sym c.in_default.ensures.value))

pub returns-clause-value : goal.returns-clause-value
returns-clause-value g c =
    let at : node_at c.self.inside.table.entries c.args.name.now ≡ Some c.in-Some.node.now = sym c.in-Some.ensures.value in (
      subst (λ (s : Scene). stands s c.args.name.now ≡ true) c.self.view_is
          (stands_at c.self.inside.table.entries c.args.name.now ∙ ap (λ (o : Option Node). is_some o) at),
      subst (λ (s : Scene). figure_of c.in-Some.node.now.solid ≡ value s c.args.name.now) c.self.view_is
          (sym (ap node_figure at) ∙ kept_is_value c.self.inside.table.entries c.self.inside.order.items c.self.invariant.0 c.args.name.now),
    )

pub returns-clause-dim : goal.returns-clause-dim
returns-clause-dim g c =
    let at : node_at c.self.inside.table.entries c.args.name.now ≡ Some c.in-Some.node.now = sym c.in-Some.ensures.value in
    let sized = subst (λ (o : Option Node). NodeSized o (dim_at c.self.inside.table.entries)) at (c.self.invariant.0.sized c.args.name.now) in
    subst (λ (s : Scene). c.in-Some.node.now.solid.dim ≡ dim_of s c.args.name.now) c.self.view_is
    (sized.1 ∙ sym (dim_is c.self.inside.table.entries c.args.name.now ∙ ap node_dim at))
