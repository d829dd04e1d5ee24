use Rattle.std.proofs.Common.{◌≤◌, Option, sym, ap, ◌∙◌, subst}
use Rattle.evm_scene.specs.declared.node.Node.{Node}
use Rattle.evm_scene.specs.Tables.{node_at, node_dim, dim_at}
use Rattle.evm_scene.proofs.Views.{dim_is}
use Rattle.evm_scene.proofs.Stated.{node_low, node_high}
use Rattle.evm_scene.proofs.formulas.dim_named.Goals as goal

pub returns-in-Some-clause-value : goal.returns-in-Some-clause-value
returns-in-Some-clause-value c = sym (dim_is c.args.table.now.entries c.args.name.now ∙ ap node_dim (sym c.in-Some.ensures.value))

pub returns-in-Some-clause-low : goal.returns-in-Some-clause-low
returns-in-Some-clause-low c there =
    subst (λ (o : Option Node). 2 ≤ node_dim o) (sym c.in-Some.ensures.value) (node_low (node_at c.args.table.now.entries c.args.name.now) (dim_at c.args.table.now.entries) (c.requires.sized c.args.name.now) there)

pub returns-in-Some-clause-high : goal.returns-in-Some-clause-high
returns-in-Some-clause-high c =
    subst (λ (o : Option Node). node_dim o ≤ 6) (sym c.in-Some.ensures.value) (node_high (node_at c.args.table.now.entries c.args.name.now) (dim_at c.args.table.now.entries) (c.requires.sized c.args.name.now))

pub returns-in-None-clause-value : goal.returns-in-None-clause-value
returns-in-None-clause-value c = sym (dim_is c.args.table.now.entries c.args.name.now ∙ ap node_dim (sym c.in-None.ensures.value))
