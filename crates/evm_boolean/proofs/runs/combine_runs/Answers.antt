use Rattle.std.proofs.Common.{◌≡◌, ◌++◌, Some, None, refl, sym, ap, ◌∙◌, arith, rules, w32}
use mir.Val.{SFits}
use Rattle.evm_cells.specs.Vertices.{IsVertexList}
use Rattle.evm_rows.specs.Rows.{rows_of, flat_of, xor_rows, combined_rows, raised}
use Rattle.evm_sections.specs.Couplets.{first_height}
use Rattle.evm_sections.proofs.Bits.{same32}
use Rattle.evm_boolean.specs.Tower.{lower, after, section_at, fills}
use Rattle.evm_sections.specs.Couplets.{mark}
use Rattle.evm_sections.proofs.Zero.{xor_rows-mark, combined_rows-mark}
use Rattle.evm_boolean.proofs.TowerCells.{tower_is_at, fills-none}
use Rattle.evm_boolean.proofs.TowerSteps.{tower_more, tower_done}
use Rattle.evm_boolean.proofs.Answer.{answer_rows, answer_is}
use Rattle.evm_boolean.proofs.runs.combine_runs.Goals as goal

pub loop-height-init : goal.loop-height-init
loop-height-init c =
    let a = c.args.a in
    let b = c.args.b in
    let v : IsVertexList 1 (rows_of a.flat.now a.width a.skip) = rw (sym c.requires.left) a.vertices in
    let w : IsVertexList 1 (rows_of b.flat.now b.width b.skip) = rw (sym c.requires.right) b.vertices in
    record {
      left_single = c.of-left.ensures.single;
      right_single = c.of-right.ensures.single;
      so_far = rw c.clear.ensures.items (ap flat_of (tower_is_at (fills c.args.op) 1 0 (rows_of a.flat.now a.width a.skip) (rows_of b.flat.now b.width b.skip) c.of-left.result c.of-right.result
          refl (fills-none c.args.op) v w c.of-left.ensures.left c.of-right.ensures.left));
    }

pub loop-height-preserved : goal.loop-height-preserved
loop-height-preserved c =
    let inv = c.loop-height.invariant in
    let h = c.in-Some.height in
    let fits : SFits w32 c.in-Some.height = search rules in
    let low : Some c.in-Some.height ≡ lower (first_height c.loop-height.left) (first_height c.loop-height.right) =
    c.in-Some.ensures ∙ rw (c.height.ensures, c.height-in-loop-height.ensures) refl in
    let left : c.passes-at_a.new.walk ≡ after c.in-Some.height c.loop-height.left = rw (sym (same32 c.in-Some.height fits)) c.passes-at_a.ensures.left in
    let right : c.passes-at_b.new.walk ≡ after c.in-Some.height c.loop-height.right = rw (sym (same32 c.in-Some.height fits)) c.passes-at_b.ensures.left in
    let on_a : mark c.flip-on_a.result ≡ section_at 0 c.in-Some.height (mark c.loop-height.on_a) c.loop-height.left =
    ap mark c.flip-on_a.ensures ∙ sym (rw (same32 c.in-Some.height fits) at (c.passes-at_a.ensures.flips c.loop-height.on_a)) in
    let on_b : mark c.flip-on_b.result ≡ section_at 0 c.in-Some.height (mark c.loop-height.on_b) c.loop-height.right =
    ap mark c.flip-on_b.ensures ∙ sym (rw (same32 c.in-Some.height fits) at (c.passes-at_b.ensures.flips c.loop-height.on_b)) in
    let above : mark c.fills-above.result ≡ combined_rows (fills c.args.op) 0 (mark c.flip-on_a.result) (mark c.flip-on_b.result) =
    ap mark c.fills-above.ensures ∙ sym (combined_rows-mark (fills c.args.op) c.flip-on_a.result c.flip-on_b.result) in
    let grown : c.append_mark.new.out.items ≡ c.loop-height.out.items ++ flat_of (raised (Some c.in-Some.height) (xor_rows 0 (mark c.loop-height.below) (mark c.fills-above.result))) =
    (rw (same32 c.in-Some.height fits) at c.in_ok-append_mark.ensures)
    ∙ ap (λ rs. c.loop-height.out.items ++ flat_of (raised (Some c.in-Some.height) rs)) (ap mark c.flip-change.ensures ∙ sym (xor_rows-mark c.loop-height.below c.fills-above.result)) in
    record {
      left_single = c.passes-at_a.ensures.single;
      right_single = c.passes-at_b.ensures.single;
      so_far = tower_more 0 (combined_rows (fills c.args.op) 0) c.in-Some.height _ _ _ _ _ _ _ _ _ _ _ _ _ low left right on_a on_b above grown inv.so_far;
    }

pub from_rows-requires : goal.from_rows-requires
from_rows-requires c =
    let low : None ≡ lower (first_height c.loop-height.left) (first_height c.loop-height.right) =
    c.in_default.ensures ∙ rw (c.height.ensures, c.height-in-loop-height.ensures) refl in
    answer_rows (fills c.args.op) 1 1 _ _ c.loop-height.out.items refl (omega arith) (omega arith)
    (tower_done 0 (combined_rows (fills c.args.op) 0) c.loop-height.left c.loop-height.right _ _ _ c.loop-height.out.items _ low c.loop-height.invariant.so_far)

pub returns-clause-rows : goal.returns-clause-rows
returns-clause-rows c =
    let low : None ≡ lower (first_height c.loop-height.left) (first_height c.loop-height.right) =
    c.in_default.ensures ∙ rw (c.height.ensures, c.height-in-loop-height.ensures) refl in
    c.from_rows.ensures.rows
    ∙ answer_is (fills c.args.op) 1 _ _ c.loop-height.out.items (omega arith)
    (tower_done 0 (combined_rows (fills c.args.op) 0) c.loop-height.left c.loop-height.right _ _ _ c.loop-height.out.items _ low c.loop-height.invariant.so_far)
