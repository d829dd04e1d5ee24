use Rattle.std.proofs.Common.{◌≡◌, ◌*◌, ◌==◌, true, false, is_some, rules, sym, length}
use Rattle.evm_scene.proofs.Planned.{absent, formula_refused, dim_refused, box_refused, plan}
use Rattle.evm_scene.proofs.boxes.planned.Goals as goal

pub returns-in_default : goal.returns-in_default
returns-in_default c = absent c.args.edit c.args.table.now.entries c.args.name.now c.args.nums.now (sym c.in_default.ensures.value)

pub returns-then-is_some : goal.returns-then-is_some
returns-then-is_some c =
    let made : is_some c.in-Some.node.now.formula ≡ true = search rules in
    formula_refused c.args.edit c.args.table.now.entries c.args.name.now c.args.nums.now c.in-Some.node.now (sym c.in-Some.ensures.value) made

pub returns-then-len-node : goal.returns-then-len-node
returns-then-len-node c =
    let made : is_some c.in-Some.node.now.formula ≡ false = search rules in
    let sized : (length c.args.nums.now == 2 * c.in-Some.node.now.dim) ≡ false = search rules in
    dim_refused c.args.edit c.args.table.now.entries c.args.name.now c.args.nums.now c.in-Some.node.now (sym c.in-Some.ensures.value) made sized

pub returns-in-Err : goal.returns-in-Err
returns-in-Err c =
    let made : is_some c.in-Some.node.now.formula ≡ false = search rules in
    let sized : (length c.args.nums.now == 2 * c.in-Some.node.now.dim) ≡ true = search rules in
    box_refused c.args.edit c.args.table.now.entries c.args.name.now c.args.nums.now c.in-Some.node.now (sym c.in-Some.ensures.value) made sized c.in-Err.refusal
    c.in-Err.ensures

pub returns-in-Ok-box_change : goal.returns-in-Ok-box_change
returns-in-Ok-box_change c =
    let made : is_some c.in-Some.node.now.formula ≡ false = search rules in
    let sized : (length c.args.nums.now == 2 * c.in-Some.node.now.dim) ≡ true = search rules in
    plan c.args.edit c.args.table.now.entries c.args.name.now c.args.nums.now c.in-Some.node.now (sym c.in-Some.ensures.value) c.in-Ok.cuboid c.in-Ok-box_change.change c.requires.values made sized
    c.in-Ok.ensures
    c.in-Ok-box_change.ensures.after c.in-Ok-box_change.ensures.change
