use Rattle.std.proofs.Common.{◌≡◌, ◌<◌, ◌++◌, [], Some, List, ℤ, pos, get_or, length, map, subst, sym, ap, ◌∙◌, arith, rules, w32, to_z, of_z}
use Rattle.evm_cells.specs.Unions.{union_of}
use Rattle.evm_rows.specs.Rows.{Vertices, flat_of, raised, xor_rows}
use Rattle.evm_rows.specs.View.{vertices_of}
use Rattle.evm_boxes.specs.BoxRows.{ends_of}
use Rattle.evm_boxes.specs.Fills.{AreEvents}
use Rattle.evm_boxes.proofs.SweepSteps.{swept_start, swept_more, swept_all}
use Rattle.evm_boxes.proofs.EventLists.{written_rows, written_are}
use Rattle.evm_boxes.proofs.sweep.sweep.Goals as goal

pub loop-height-init : goal.loop-height-init
loop-height-init c = record {
  dim = c.empty-below.ensures.dim;
  swept = swept_start c.args.rows.now _ _ _ c.requires.boxes (subst (AreEvents c.args.rows.now) (sym c.as_slice-height-items.ensures.value) c.in_ok-heights.ensures) c.empty-below.ensures.rows c.new-out.ensures.items;
}

pub append_xor-requires : goal.append_xor-requires
append_xor-requires c =
    ap (λ (p : Vertices). p.dim) c.rows.ensures ∙ c.loop-height.invariant.dim ∙ sym (ap (λ (p : Vertices). p.dim) c.rows-in-loop-height.ensures ∙ c.in_ok-above.ensures.dim)

pub loop-height-preserved : goal.loop-height-preserved
loop-height-preserved c =
    let i = c.loop-height.height-index in
    let hs = c.as_slice-height-items.result.now in
    let h : ℤ = get_or hs i (pos 0) in
    let same : to_z w32 (of_z w32 h) ≡ h = search rules in
    let out = c.loop-height.out.items in
    let below = c.loop-height.below in
    let k = to_z w32 (of_z w32 h) in
    record {
      dim = c.in_ok-above.ensures.dim;
      swept = swept_more c.args.rows.now k i below.rows c.in_ok-above.above.rows out _ hs (omega arith) same c.in_ok-above.ensures.rows
          (c.in_ok-out.ensures
          ∙ ap (λ (p : Vertices). out ++ flat_of (raised (Some k) (xor_rows p.dim p.rows (vertices_of c.rows-in-loop-height.result).rows))) c.rows.ensures
          ∙ ap (λ (p : Vertices). out ++ flat_of (raised (Some k) (xor_rows below.dim below.rows p.rows))) c.rows-in-loop-height.ensures
          ∙ ap (λ m. out ++ flat_of (raised (Some k) (xor_rows m below.rows c.in_ok-above.above.rows))) c.loop-height.invariant.dim)
          c.loop-height.invariant.swept;
    }

pub from_rows-requires : goal.from_rows-requires
from_rows-requires c =
    written_are 2 c.args.rows.now c.loop-height.out.items (omega arith) (omega arith)
    (swept_all c.args.rows.now c.loop-height.height-index c.loop-height.below.rows c.loop-height.out.items c.as_slice-height-items.result.now (omega arith) c.loop-height.invariant.swept)

pub returns-clause-rows : goal.returns-clause-rows
returns-clause-rows c =
    c.from_rows.ensures.rows
    ∙ written_rows 2 c.args.rows.now c.loop-height.out.items (omega arith)
    (swept_all c.args.rows.now c.loop-height.height-index c.loop-height.below.rows c.loop-height.out.items c.as_slice-height-items.result.now (omega arith) c.loop-height.invariant.swept)
