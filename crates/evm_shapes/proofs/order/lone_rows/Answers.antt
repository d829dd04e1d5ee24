use Rattle.std.proofs.Common.{arith, ◌∙◌, ◌-◌, sym, ap}
use Rattle.evm_cells.specs.Places.{same}
use Rattle.evm_rows.proofs.RowsLaws.{rows_of-none}
use Rattle.evm_rows.proofs.Solids.{pointwise-same}
use Rattle.evm_shapes.proofs.Lone.{gathered_start, gathered_push, gathered_pop, gathered_end}
use Rattle.evm_shapes.proofs.order.lone_rows.Goals as goal

pub loop-left-init : goal.loop-left-init
loop-left-init c = record { whole = c.requires.whole; so_far = gathered_start c.args.width _ _ c.in_ok-rows.ensures.items }

pub loop-left-preserved-then-eq : goal.loop-left-preserved-then-eq
loop-left-preserved-then-eq c = record {
  whole = c.split_row.ensures.whole;
  so_far =
      gathered_pop c.args.width c.loop-left.rows.items _ (c.len-count.result - 1) c.index.result.now c.split_row.result.0.now _ _ _
      (let e = c.len-count.ensures in let l = c.if-count-gt0.true in omega arith) c.truncate.ensures.items
      (ap (λ b. same b.now c.split_row.result.0.now) (sym c.index.ensures) ∙ sym (c.if-eq.ensures ∙ pointwise-same _ _)) c.split_row.ensures.first c.loop-left.invariant.so_far;
}

pub loop-left-preserved : goal.loop-left-preserved
loop-left-preserved c = record {
  whole = c.split_row.ensures.whole;
  so_far = gathered_push c.args.width c.loop-left.rows.items _ c.split_row.result.0 _ _ _ c.in_ok-push.ensures.items c.split_row.ensures.first (let w = c.split_row.ensures.wide in omega arith) c.loop-left.invariant.so_far;
}

pub returns : goal.returns
returns c = gathered_end c.args.width _ _ _ (rows_of-none c.loop-left.left.now c.args.width 0 (omega arith)) c.loop-left.invariant.so_far
