use Rattle.std.proofs.Common.{◌≡◌, ◌==◌, false, rules}
use Rattle.evm_scene.proofs.Reformed.{other_dim}
use Rattle.evm_scene.proofs.defined.fitting.Goals as goal

pub returns-else-dim-dim_named : goal.returns-else-dim-dim_named
returns-else-dim-dim_named c =
    let apart : (c.in-Some.dim == c.dim_named.result) ≡ false = search rules in
    other_dim c.args.table.now.entries c.args.name.now c.args.formula.now c.in-Some.dim c.dim_named.result c.requires.stands c.in-Some.ensures.1 c.dim_named.ensures.value apart
