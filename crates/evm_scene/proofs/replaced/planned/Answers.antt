use Rattle.std.proofs.Common.{◌≡◌, ◌==◌, true, false, is_some, rules, sym}
use Rattle.evm_scene.proofs.OtherFigures.{absent, formula_refused, dim_refused, plan}
use Rattle.evm_scene.proofs.replaced.planned.Goals as goal

pub returns-in_default : goal.returns-in_default
returns-in_default c = absent c.args.table.now.entries c.args.name.now c.args.solid (sym c.in_default.ensures.value)

pub returns-then-is_some : goal.returns-then-is_some
returns-then-is_some c =
    let made : is_some c.in-Some.node.now.formula ≡ true = search rules in
    formula_refused c.args.table.now.entries c.args.name.now c.args.solid c.in-Some.node.now (sym c.in-Some.ensures.value) made

pub returns-then-dim-node : goal.returns-then-dim-node
returns-then-dim-node c =
    let made : is_some c.in-Some.node.now.formula ≡ false = search rules in
    let sized : (c.args.solid.dim == c.in-Some.node.now.dim) ≡ false = search rules in
    dim_refused c.args.table.now.entries c.args.name.now c.args.solid c.in-Some.node.now (sym c.in-Some.ensures.value) made sized

pub returns-in-Ok : goal.returns-in-Ok
returns-in-Ok c =
    let made : is_some c.in-Some.node.now.formula ≡ false = search rules in
    let sized : (c.args.solid.dim == c.in-Some.node.now.dim) ≡ true = search rules in
    plan c.args.table.now.entries c.args.name.now c.args.solid c.in-Some.node.now (sym c.in-Some.ensures.value) c.in-Ok.change made sized
    c.in-Ok.ensures.after c.in-Ok.ensures.change
