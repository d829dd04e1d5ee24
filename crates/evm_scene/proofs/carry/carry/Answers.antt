use Rattle.std.proofs.Common.{take, rules}
use Rattle.evm_scene.specs.Tables.{node_at, kept}
use Rattle.evm_scene.proofs.Nodes.{node_set}
use Rattle.evm_scene.proofs.Walks.{walk_start, walk_more, walk_new_at, walk_halted_at, walk_done, carried_still}
use Rattle.evm_scene.proofs.Steps.{within_none, within_more, within_all, within_end, all_move}
use Rattle.evm_scene.proofs.carry.carry.Goals as goal

pub returns-then-is_still-clause-carried : goal.returns-then-is_still-clause-carried
returns-then-is_still-clause-carried g c =
    carried_still c.args.table.now.entries c.args.front.now c.args.name.now c.args.pending.now.entries c.args.later.now
    c.requires.fixed c.requires.stays c.requires.front c.requires.alone c.requires.later c.requires.whole c.requires.others c.requires.change
    (c.is_still.ensures.still c.if-is_still.true (kept c.args.table.now.entries c.args.name.now) (node_set (node_at c.args.table.now.entries c.args.name.now)) c.requires.change)

pub loop-x-init : goal.loop-x-init
loop-x-init g c = (
  walk_start _ _ _ _ _ c.requires.fixed c.requires.stays c.requires.front c.requires.alone c.requires.later c.requires.whole c.requires.others c.requires.change,
  within_none c.args.table.now.entries c.args.name.now c.args.pending.now.entries c.args.steps.now (take 0 c.args.later.now),
)

pub loop-x-preserved : goal.loop-x-preserved
loop-x-preserved g c = (
  walk_more _ _ _ _ _ _ _ _ _ c.loop-x-test.true c.x-item.is c.loop-x.invariant.0 c.in_ok-carry_to.ensures.carried,
  within_more _ _ _ _ _ _ _ _ _ _ _ c.loop-x-test.true c.x-item.is c.loop-x.invariant.0 c.loop-x.invariant.1 c.carry_to.ensures.few,
)

pub carry_to-requires : goal.carry_to-requires
carry_to-requires g c = record {
  sized = c.requires.sized;
  fixed = c.requires.fixed;
  changes = c.loop-x.invariant.0.change;
  moving = all_move _ _ _ _ _ _ c.loop-x.invariant.0 (c.is_still.ensures.moves c.if-is_still.false);
  stays = c.requires.stays c.x-item.result;
  first = walk_new_at _ _ _ _ _ c.loop-x.pending.entries _ _ _ c.loop-x-test.true c.x-item.is c.loop-x.invariant.0;
}

pub returns-in_err-carry_to-clause-halted : goal.returns-in_err-carry_to-clause-halted
returns-in_err-carry_to-clause-halted g c e =
    walk_halted_at _ _ _ _ _ c.loop-x.pending.entries _ _ _ c.loop-x-test.true c.x-item.is c.loop-x.invariant.0 (search rules)

pub returns-clause-carried : goal.returns-clause-carried
returns-clause-carried g c = walk_done _ _ _ _ _ _ _ c.loop-x-test.false c.loop-x.invariant.0

pub returns-then-is_still-clause-few : goal.returns-then-is_still-clause-few
returns-then-is_still-clause-few g c = within_none c.args.table.now.entries c.args.name.now c.args.pending.now.entries c.args.steps.now c.args.later.now

pub returns-in_err-carry_to-clause-few : goal.returns-in_err-carry_to-clause-few
returns-in_err-carry_to-clause-few g c =
    within_all _ _ _ _ _ _ _ _ _ _ _ c.loop-x-test.true c.x-item.is c.loop-x.invariant.0 c.loop-x.invariant.1 c.carry_to.ensures.few

pub returns-clause-few : goal.returns-clause-few
returns-clause-few g c = within_end c.args.table.now.entries c.args.name.now c.args.pending.now.entries c.args.steps.now _ c.args.later.now c.loop-x.x-index c.loop-x.invariant.1
