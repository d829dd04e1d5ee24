use Rattle.std.proofs.Common.{sym, ◌∙◌, arith}
use Rattle.evm_cells.proofs.Xor.{false-xor}
use Rattle.evm_cells.proofs.Universe.{cell_parts}
use Rattle.evm_rows.proofs.RowsLaws.{rows_of-none}
use Rattle.evm_member.proofs.Steps.{ascending-rest, filled_more, filled_same, filled_end, filled_past, filled-is}
use Rattle.evm_member.proofs.cell.fills.Goals as goal

pub loop-left-init : goal.loop-left-init
loop-left-init c = record { whole = c.args.a.whole; ascends = c.args.a.vertices.ascends; so_far = false-xor _ }

pub is_past-requires-clause-place : goal.is_past-requires-clause-place
is_past-requires-clause-place c = let (e, a) = cell_parts _ _ c.requires in omega (arith, c.args.a.left)

pub is_below-requires : goal.is_below-requires
is_below-requires c = let (e, a) = cell_parts _ _ c.requires in omega (arith, c.args.a.left, c.split_row.ensures.wide)

pub loop-left-preserved-then-is_below : goal.loop-left-preserved-then-is_below
loop-left-preserved-then-is_below c = record {
  whole = c.split_row.ensures.whole;
  ascends = ascending-rest _ _ _ c.split_row.ensures.first c.loop-left.invariant.ascends;
  so_far = filled_more _ _ _ _ _ _ c.split_row.ensures.first (sym c.is_below.ensures ∙ c.if-is_below.true) c.loop-left.invariant.so_far;
}

pub loop-left-preserved : goal.loop-left-preserved
loop-left-preserved c = record {
  whole = c.split_row.ensures.whole;
  ascends = ascending-rest _ _ _ c.split_row.ensures.first c.loop-left.invariant.ascends;
  so_far = filled_same _ _ _ _ _ _ c.split_row.ensures.first (sym c.is_below.ensures ∙ c.if-is_below.false) c.loop-left.invariant.so_far;
}

pub returns-after-loop-left : goal.returns-after-loop-left
returns-after-loop-left c =
    filled-is _ _ _ _ c.args.a.vertices c.requires
    (filled_end _ _ _ _ (rows_of-none c.loop-left.left.now c.args.a.width c.args.a.skip (omega arith)) c.loop-left.invariant.so_far)

pub returns-then-is_past : goal.returns-then-is_past
returns-then-is_past c =
    filled-is _ _ _ _ c.args.a.vertices c.requires
    (filled_past _ _ _ _ _ _ c.split_row.ensures.first c.loop-left.invariant.ascends (sym c.is_past.ensures ∙ c.if-is_past.true) c.loop-left.invariant.so_far)
