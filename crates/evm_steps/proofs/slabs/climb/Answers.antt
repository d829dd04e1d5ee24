use Rattle.std.proofs.Common.{◌≡◌, ℕ, ◌+◌, ◌-◌, ◌<◌, Some, None, refl, ap, ◌∙◌, arith, rules, length, w32, to_z, of_z}
use mir.Val.{SFits}
use Rattle.evm_cells.specs.Vertices.{IsVertexList}
use Rattle.evm_rows.specs.Rows.{Vertices, flat_of, combined_rows}
use Rattle.evm_rows.specs.View.{vertices_of}
use Rattle.evm_sections.specs.Couplets.{first_height}
use Rattle.evm_sections.proofs.Bits.{same32}
use Rattle.evm_boolean.specs.Tower.{lower, fills}
use Rattle.evm_boolean.proofs.TowerCells.{tower_is_at, fills-none}
use Rattle.evm_boolean.proofs.TowerSteps.{tower_done}
use Rattle.evm_boolean.proofs.Answer.{answer_rows, answer_is}
use Rattle.evm_steps.proofs.CutCounts.{length-couplets}
use Rattle.evm_steps.proofs.Climb.{climbed, turn-falls}
use Rattle.evm_steps.proofs.slabs.climb.Goals as goal

pub loop-height-init : goal.loop-height-init
loop-height-init g c =
    let a = vertices_of c.args.a in
    let b = vertices_of c.args.b in
    let deep : 1 < c.dim-dim.result = omega (arith, c.dim-dim.ensures, c.requires.deep) in
    let v : IsVertexList c.dim-dim.result a.rows = rw (c.dim-dim.ensures) c.args.a.vertices in
    let w : IsVertexList c.dim-dim.result b.rows = rw (c.dim-dim.ensures ∙ c.requires.same_dim) c.args.b.vertices in
    let deep_b : 1 < b.dim = omega (arith, c.requires.deep, c.requires.same_dim) in
    let few_a = ap length c.of-left.ensures.left ∙ length-couplets a c.requires.deep c.args.a.vertices in
    let few_b = ap length c.of-right.ensures.left ∙ length-couplets b deep_b c.args.b.vertices in
    record {
      deep = deep;
      dim_is = c.dim-dim.ensures;
      left_dim = omega (arith, c.of-left.ensures.dim, c.dim-dim.ensures);
      right_dim = omega (arith, c.of-right.ensures.dim, c.dim-dim.ensures, c.requires.same_dim);
      a_dim = omega (arith, c.empty-below_a.ensures.dim, deep);
      b_dim = omega (arith, c.empty-below_b.ensures.dim, deep);
      below_dim = omega (arith, c.empty-below.ensures.dim, deep);
      so_far = rw (c.new-out.ensures.items, c.empty-below_a.ensures.rows, c.empty-below_b.ensures.rows, c.empty-below.ensures.rows)
          (ap flat_of (tower_is_at (fills c.args.op) c.dim-dim.result (c.dim-dim.result - 1) a.rows b.rows c.of-left.result.left c.of-right.result.left
          (omega arith) (fills-none c.args.op) v w c.of-left.ensures.left c.of-right.ensures.left));
      few = omega (arith, few_a, few_b);
      more = omega arith;
    }

pub loop-height-preserved : goal.loop-height-preserved
loop-height-preserved g c =
    let inv = c.loop-height.invariant in
    let fits : SFits w32 c.in-Some.height = search rules in
    let same : to_z w32 (of_z w32 c.in-Some.height) ≡ c.in-Some.height = same32 c.in-Some.height fits in
    let low : Some c.in-Some.height ≡ lower (first_height c.loop-height.left.left) (first_height c.loop-height.right.left) =
    c.in-Some.ensures ∙ rw (c.height.ensures, c.height-in-loop-height.ensures) refl in
    let n : ℕ = c.dim-dim.result - 1 in
    let dim_a : c.loop-height.below_a.dim ≡ n = omega (arith, inv.a_dim) in
    let dim_b : c.loop-height.below_b.dim ≡ n = omega (arith, inv.b_dim) in
    let dim_below : c.loop-height.below.dim ≡ n = omega (arith, inv.below_dim) in
    let dim_above : c.in_ok-above.above.dim + 1 ≡ c.dim-dim.result =
    omega (arith, c.in_ok-above.ensures.dim, ap (λ (p : Vertices). p.dim) c.rows.ensures, c.in_ok-next_a.ensures.dim, inv.a_dim) in
    let falls = turn-falls c.in-Some.height _ _ _ _ _ same low c.in_ok-next_a.ensures.left c.in_ok-next_b.ensures.left in
    record {
      deep = inv.deep;
      dim_is = inv.dim_is;
      left_dim = omega (arith, c.in_ok-next_a.ensures.walk_dim, inv.left_dim);
      few = omega (arith, falls, inv.few, c.in_ok-above.ensures.one);
      more = omega (arith, inv.more, c.in_ok-above.ensures.one);
      right_dim = omega (arith, c.in_ok-next_b.ensures.walk_dim, inv.right_dim);
      a_dim = omega (arith, c.in_ok-next_a.ensures.dim, inv.a_dim);
      b_dim = omega (arith, c.in_ok-next_b.ensures.dim, inv.b_dim);
      below_dim = dim_above;
      so_far = climbed (fills c.args.op) n c.in-Some.height _ _ _ _ _ c.loop-height.below_a c.loop-height.below_b c.loop-height.below _ _ c.in_ok-above.above _ _ _ _ _ _ _
          same dim_a dim_b dim_below c.in_ok-next_a.ensures.dim low c.in_ok-next_a.ensures.left c.in_ok-next_b.ensures.left
          c.in_ok-next_a.ensures.rows c.in_ok-next_b.ensures.rows c.rows.ensures c.rows-in-Some.ensures c.in_ok-above.ensures.rows
          c.rows-in-Some-2.ensures c.rows-in-Some-3.ensures c.in_ok-out.ensures inv.so_far;
    }

pub loop-height-smaller : goal.loop-height-smaller
loop-height-smaller g c =
    let fits : SFits w32 c.in-Some.height = search rules in
    let low : Some c.in-Some.height ≡ lower (first_height c.loop-height.left.left) (first_height c.loop-height.right.left) =
    c.in-Some.ensures ∙ rw (c.height.ensures, c.height-in-loop-height.ensures) refl in
    turn-falls c.in-Some.height _ _ _ _ _ (same32 c.in-Some.height fits) low c.in_ok-next_a.ensures.left c.in_ok-next_b.ensures.left

pub from_rows-requires : goal.from_rows-requires
from_rows-requires g c =
    let inv = c.loop-height.invariant in
    let low : None ≡ lower (first_height c.loop-height.left.left) (first_height c.loop-height.right.left) =
    c.in_default.ensures ∙ rw (c.height.ensures, c.height-in-loop-height.ensures) refl in
    answer_rows (fills c.args.op) c.dim-dim.result (vertices_of c.args.a).dim _ _ c.loop-height.out.items inv.dim_is (omega (arith, c.args.a.left)) (omega (arith, c.args.a.narrow))
    (tower_done (c.dim-dim.result - 1) (combined_rows (fills c.args.op) (c.dim-dim.result - 1)) c.loop-height.left.left c.loop-height.right.left _ _ _ c.loop-height.out.items _ low inv.so_far)

pub returns-clause-rows : goal.returns-clause-rows
returns-clause-rows g c =
    let inv = c.loop-height.invariant in
    let low : None ≡ lower (first_height c.loop-height.left.left) (first_height c.loop-height.right.left) =
    c.in_default.ensures ∙ rw (c.height.ensures, c.height-in-loop-height.ensures) refl in
    let some : 0 < c.dim-dim.result = omega (arith, inv.deep) in
    c.from_rows.ensures.rows
    ∙ answer_is (fills c.args.op) c.dim-dim.result _ _ c.loop-height.out.items some
    (tower_done (c.dim-dim.result - 1) (combined_rows (fills c.args.op) (c.dim-dim.result - 1)) c.loop-height.left.left c.loop-height.right.left _ _ _ c.loop-height.out.items _ low inv.so_far)
    ∙ ap (λ m. combined_rows (fills c.args.op) m (vertices_of c.args.a).rows (vertices_of c.args.b).rows) inv.dim_is
