use Rattle.std.proofs.Common.{◌≡◌, ℤ, ◌++◌, List, Some, None, refl, sym, ap, ap₂, ◌∙◌, arith, rules, length, w32}
use mir.Val.{SFits}
use Rattle.evm_cells.specs.Vertices.{IsVertexList}
use Rattle.evm_rows.specs.Rows.{rows_of, flat_of, xor_rows, combined_rows, raised}
use Rattle.evm_rows.specs.View.{vertices_of}
use Rattle.evm_sections.specs.Couplets.{first_height}
use Rattle.evm_sections.proofs.Bits.{same32}
use Rattle.evm_boolean.specs.Tower.{lower, after, section_at, couplet_here, fills}
use Rattle.evm_boolean.proofs.Cuts.{cuts-fall}
use Rattle.evm_boolean.proofs.TowerCells.{tower_is_at, fills-none, op-both_none, section-here}
use Rattle.evm_boolean.proofs.TowerSteps.{tower_more, tower_done}
use Rattle.evm_boolean.proofs.Answer.{answer_rows, answer_is}
use Rattle.evm_boolean.proofs.plane.sweep_planes.Goals as goal

pub loop-height-init : goal.loop-height-init
loop-height-init c =
    let a = c.args.a in
    let b = c.args.b in
    let v : IsVertexList 2 (rows_of a.flat.now a.width a.skip) = rw (sym c.requires.left) a.vertices in
    let w : IsVertexList 2 (rows_of b.flat.now b.width b.skip) = rw (sym c.requires.right) b.vertices in
    record {
      left_dim = omega (arith, c.of-left.ensures.dim, c.requires.left);
      right_dim = omega (arith, c.of-right.ensures.dim, c.requires.right);
      a_is = c.taken_line-line_a.ensures.are_rows;
      b_is = c.taken_line-line_b.ensures.are_rows;
      so_far = rw (c.requires.out, c.taken_line-line_a.ensures.rows, c.taken_line-line_b.ensures.rows, op-both_none (fills c.args.op) 1 (fills-none c.args.op))
          (ap flat_of (tower_is_at (fills c.args.op) 2 1 (rows_of a.flat.now a.width a.skip) (rows_of b.flat.now b.width b.skip) c.of-left.result.left c.of-right.result.left
          refl (fills-none c.args.op) v w c.of-left.ensures.left c.of-right.ensures.left));
    }

pub loop-height-smaller : goal.loop-height-smaller
loop-height-smaller c =
    let fits : SFits w32 c.in-Some.height = search rules in
    let low : Some c.in-Some.height ≡ lower (first_height c.loop-height.left.left) (first_height c.loop-height.right.left) =
    c.in-Some.ensures ∙ rw (c.height.ensures, c.height-in-loop-height.ensures) refl in
    let left : c.couplet_at-change_a.new.walk.left ≡ after c.in-Some.height c.loop-height.left.left = rw (sym (same32 c.in-Some.height fits)) c.couplet_at-change_a.ensures.left in
    let right : c.couplet_at-change_b.new.walk.left ≡ after c.in-Some.height c.loop-height.right.left = rw (sym (same32 c.in-Some.height fits)) c.couplet_at-change_b.ensures.left in
    omega (arith, cuts-fall c.in-Some.height c.loop-height.left.left c.loop-height.right.left low, ap length left, ap length right)

pub loop-height-preserved : goal.loop-height-preserved
loop-height-preserved c =
    let inv = c.loop-height.invariant in
    let fits : SFits w32 c.in-Some.height = search rules in
    let low : Some c.in-Some.height ≡ lower (first_height c.loop-height.left.left) (first_height c.loop-height.right.left) =
    c.in-Some.ensures ∙ rw (c.height.ensures, c.height-in-loop-height.ensures) refl in
    let left : c.couplet_at-change_a.new.walk.left ≡ after c.in-Some.height c.loop-height.left.left = rw (sym (same32 c.in-Some.height fits)) c.couplet_at-change_a.ensures.left in
    let right : c.couplet_at-change_b.new.walk.left ≡ after c.in-Some.height c.loop-height.right.left = rw (sym (same32 c.in-Some.height fits)) c.couplet_at-change_b.ensures.left in
    let ca : (vertices_of c.couplet_at-change_a.result).rows ≡ couplet_here c.in-Some.height c.loop-height.left.left = rw (sym (same32 c.in-Some.height fits)) c.couplet_at-change_a.ensures.rows in
    let cb : (vertices_of c.couplet_at-change_b.result).rows ≡ couplet_here c.in-Some.height c.loop-height.right.left = rw (sym (same32 c.in-Some.height fits)) c.couplet_at-change_b.ensures.rows in
    let sa : List (List ℤ) = rows_of c.loop-height.line_a.items 1 0 in
    let sb : List (List ℤ) = rows_of c.loop-height.line_b.items 1 0 in
    let ta : rows_of c.in_ok-next_a.next_a.items 1 0 ≡ section_at 1 c.in-Some.height sa c.loop-height.left.left =
    c.in_ok-next_a.ensures.rows ∙ ap (xor_rows 1 sa) ca ∙ section-here 1 c.in-Some.height sa c.loop-height.left.left inv.a_is.vertices in
    let tb : rows_of c.in_ok-next_b.next_b.items 1 0 ≡ section_at 1 c.in-Some.height sb c.loop-height.right.left =
    c.in_ok-next_b.ensures.rows ∙ ap (xor_rows 1 sb) cb ∙ section-here 1 c.in-Some.height sb c.loop-height.right.left inv.b_is.vertices in
    let grown : c.append_gain.new.out.items ≡ c.loop-height.out.items ++ flat_of (raised (Some c.in-Some.height) (xor_rows 1 (combined_rows (fills c.args.op) 1 sa sb)
    (combined_rows (fills c.args.op) 1 (rows_of c.in_ok-next_a.next_a.items 1 0) (rows_of c.in_ok-next_b.next_b.items 1 0)))) =
    (rw (same32 c.in-Some.height fits, c.deref.ensures.value, c.deref-in-Some.ensures.value) at c.in_ok-append_gain.ensures)
    ∙ ap₂ (λ X Y. c.loop-height.out.items ++ flat_of (raised (Some c.in-Some.height) (xor_rows 1 (combined_rows (fills c.args.op) 1 sa sb) (combined_rows (fills c.args.op) 1 X Y))))
    (sym c.in_ok-next_a.ensures.rows) (sym c.in_ok-next_b.ensures.rows) in
    record {
      left_dim = c.couplet_at-change_a.ensures.walk_dim;
      right_dim = c.couplet_at-change_b.ensures.walk_dim;
      a_is = c.in_ok-next_a.ensures.are_rows;
      b_is = c.in_ok-next_b.ensures.are_rows;
      so_far = tower_more 1 (combined_rows (fills c.args.op) 1) c.in-Some.height _ _ _ _ _ _ _ _ _ _ _ _ _ low left right ta tb refl grown inv.so_far;
    }

pub from_rows-requires : goal.from_rows-requires
from_rows-requires c =
    let low : None ≡ lower (first_height c.loop-height.left.left) (first_height c.loop-height.right.left) =
    c.in_default.ensures ∙ rw (c.height.ensures, c.height-in-loop-height.ensures) refl in
    answer_rows (fills c.args.op) 2 2 _ _ c.loop-height.out.items refl (omega arith) (omega arith)
    (tower_done 1 (combined_rows (fills c.args.op) 1) c.loop-height.left.left c.loop-height.right.left _ _ _ c.loop-height.out.items _ low c.loop-height.invariant.so_far)

pub returns-clause-rows : goal.returns-clause-rows
returns-clause-rows c =
    let low : None ≡ lower (first_height c.loop-height.left.left) (first_height c.loop-height.right.left) =
    c.in_default.ensures ∙ rw (c.height.ensures, c.height-in-loop-height.ensures) refl in
    c.from_rows.ensures.rows
    ∙ answer_is (fills c.args.op) 2 _ _ c.loop-height.out.items (omega arith)
    (tower_done 1 (combined_rows (fills c.args.op) 1) c.loop-height.left.left c.loop-height.right.left _ _ _ c.loop-height.out.items _ low c.loop-height.invariant.so_far)
