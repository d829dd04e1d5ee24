use Rattle.std.proofs.Common.{◌≡◌, ◌<◌, ◌-◌, ◌++◌, suc, [], Some, List, ℤ, pos, get_or, length, map, subst, sym, ap, ap₂, ◌∙◌, arith, rules, w32, to_z, of_z}
use Rattle.std.specs.List.{All}
use Rattle.evm_cells.specs.Sections.{couplet}
use Rattle.evm_cells.specs.Unions.{union_of}
use Rattle.evm_cells.specs.Vertices.{evm}
use Rattle.evm_rows.specs.Rows.{Vertices, flat_of, raised, xor_rows}
use Rattle.evm_rows.specs.View.{vertices_of}
use Rattle.evm_boxes.specs.BoxRows.{ends_of, IsBoxRow}
use Rattle.evm_boxes.specs.Fills.{AreEvents}
use Rattle.evm_boxes.specs.declared.BoxRow.{BoxRow}
use Rattle.evm_boxes.proofs.EventLists.{written_rows, written_are}
use Rattle.evm_boxes.proofs.EventSteps.{rising_start, rising_more, rising_all}
use Rattle.evm_boxes.proofs.Windows.{couplet_in}
use Rattle.evm_boxes.proofs.events.+join_few.Goals as goal

pub loop-height-init : goal.loop-height-init
loop-height-init t c =
    let m = c.args.dim in
    let view = c.as_slice-view.result.now in
    let deep : 2 < m = omega (arith, c.requires.low, c.if-dim-eq1.false, c.if-dim-eq2.false) in
    let one : m ≡ suc (m - 1) = omega arith in
    record {
      deep = deep;
      rises = rising_start m (m - 1) view _ _ one (subst (λ (rows : List BoxRow). All (IsBoxRow m) rows) (sym c.as_slice-view.ensures.value) c.requires.boxes)
          (subst (AreEvents view) (sym c.as_slice-height-items.ensures.value) c.in_ok-heights.ensures) c.new-out.ensures.items;
    }

pub loop-height-preserved : goal.loop-height-preserved
loop-height-preserved t c =
    let m = c.args.dim in
    let n = c.args.dim - 1 in
    let view = c.as_slice-view.result.now in
    let i = c.loop-height.height-index in
    let hs = c.as_slice-height-items.result.now in
    let h : ℤ = get_or hs i (pos 0) in
    let k : ℤ = to_z w32 (of_z w32 h) in
    let same : k ≡ h = search rules in
    let out = c.loop-height.out.items in
    let one : m ≡ suc n = omega (arith, c.requires.low) in
    let boxes : All (IsBoxRow m) view = subst (λ (rows : List BoxRow). All (IsBoxRow m) rows) (sym c.as_slice-view.ensures.value) c.requires.boxes in
    let deep : All (IsBoxRow (suc n)) view = subst (λ j. All (IsBoxRow j) view) one boxes in
    let low = c.in_ok-low.low in
    let high = c.in_ok-high.high in
    let couplet_is : xor_rows n low.rows high.rows ≡ evm n (couplet n 0 k (union_of (suc n) (map ends_of view))) =
    couplet_in n k view c.in_ok-below.below.items c.in_ok-above.above.items c.window_at-window.result low.rows high.rows deep c.window_at-window.ensures c.in_ok-below.ensures c.in_ok-above.ensures
    c.in_ok-low.ensures.rows c.in_ok-high.ensures.rows in
    record {
      deep = c.loop-height.invariant.deep;
      rises = rising_more n view k i out c.in_ok-out.out.items hs (omega arith) same
          (c.in_ok-out.ensures
          ∙ ap (λ (p : Vertices). out ++ flat_of (raised (Some k) (xor_rows p.dim p.rows (vertices_of c.rows-in-loop-height.result).rows))) c.rows.ensures
          ∙ ap (λ (p : Vertices). out ++ flat_of (raised (Some k) (xor_rows low.dim low.rows p.rows))) c.rows-in-loop-height.ensures
          ∙ ap (λ j. out ++ flat_of (raised (Some k) (xor_rows j low.rows high.rows))) c.in_ok-low.ensures.dim
          ∙ ap (λ (V : List (List ℤ)). out ++ flat_of (raised (Some k) V)) couplet_is)
          c.loop-height.invariant.rises;
    }

pub from_rows-requires : goal.from_rows-requires
from_rows-requires t c =
    let m = c.args.dim in
    let one : m ≡ suc (m - 1) = omega (arith, c.requires.low) in
    written_are m c.as_slice-view.result.now c.loop-height.out.items c.requires.low c.requires.high
    (rising_all m (m - 1) c.as_slice-view.result.now c.loop-height.height-index c.loop-height.out.items c.as_slice-height-items.result.now one (omega arith) c.loop-height.invariant.rises)

pub returns-clause-rows : goal.returns-clause-rows
returns-clause-rows t c =
    let m = c.args.dim in
    let one : m ≡ suc (m - 1) = omega (arith, c.requires.low) in
    c.from_rows.ensures.rows
    ∙ written_rows m c.as_slice-view.result.now c.loop-height.out.items c.requires.low
    (rising_all m (m - 1) c.as_slice-view.result.now c.loop-height.height-index c.loop-height.out.items c.as_slice-height-items.result.now one (omega arith) c.loop-height.invariant.rises)
    ∙ ap (λ (rows : List BoxRow). evm m (union_of m (map ends_of rows))) c.as_slice-view.ensures.value
