use Rattle.std.proofs.Common.{sym, ◌∙◌, arith}
use Rattle.evm_rows.proofs.RowsLaws.{rows_of-none}
use Rattle.evm_member.proofs.Steps.{ascending-rest, levels_none, levels_more, levels_same, levels_end, levels_past}
use Rattle.evm_member.proofs.point.odd_levels.Goals as goal

pub loop-left-init : goal.loop-left-init
loop-left-init c = record { whole = c.args.a.whole; ascends = c.args.a.vertices.ascends; so_far = λ i. levels_none i _ }

pub is_past-requires-clause-place : goal.is_past-requires-clause-place
is_past-requires-clause-place c = omega (arith, c.args.a.left, c.requires)

pub level_with-requires-clause-long : goal.level_with-requires-clause-long
level_with-requires-clause-long c = omega (arith, c.args.a.left, c.requires, c.split_row.ensures.wide)

pub level_with-requires-clause-few : goal.level_with-requires-clause-few
level_with-requires-clause-few c = omega (arith, c.args.a.narrow, c.requires)

pub loop-left-preserved-in-Some : goal.loop-left-preserved-in-Some
loop-left-preserved-in-Some c = record {
  whole = c.split_row.ensures.whole;
  ascends = ascending-rest _ _ _ c.split_row.ensures.first c.loop-left.invariant.ascends;
  so_far = λ i. levels_more c.loop-left.odd c.in-Some.axes i _ _ _ _ _ c.in-Some.ensures.few c.split_row.ensures.first c.in-Some.ensures.axes (c.loop-left.invariant.so_far i);
}

pub loop-left-preserved : goal.loop-left-preserved
loop-left-preserved c = record {
  whole = c.split_row.ensures.whole;
  ascends = ascending-rest _ _ _ c.split_row.ensures.first c.loop-left.invariant.ascends;
  so_far = λ i. levels_same c.loop-left.odd i _ _ _ _ _ c.split_row.ensures.first c.in_default.ensures.axes (c.loop-left.invariant.so_far i);
}

pub returns-after-loop-left : goal.returns-after-loop-left
returns-after-loop-left c = λ i.
    levels_end c.loop-left.odd i _ _ _ (rows_of-none c.loop-left.left.now c.args.a.width c.args.a.skip (omega arith)) (c.loop-left.invariant.so_far i)

pub returns-then-is_past : goal.returns-then-is_past
returns-then-is_past c = λ i.
    levels_past c.loop-left.odd i _ _ _ _ _ c.split_row.ensures.first c.loop-left.invariant.ascends (sym c.is_past.ensures ∙ c.if-is_past.true) (c.loop-left.invariant.so_far i)
