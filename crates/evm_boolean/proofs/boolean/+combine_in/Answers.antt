use Rattle.std.proofs.Common.{◌≡◌, ◌-◌, ◌<◌, ◌++◌, [], Some, None, refl, sym, ap, ap₂, ◌∙◌, arith, rules, length, w32}
use mir.Val.{SFits}
use Rattle.evm_cells.specs.Vertices.{IsVertexList}
use Rattle.evm_rows.specs.Rows.{Vertices, rows_of, flat_of, xor_rows, combined_rows, raised}
use Rattle.evm_rows.specs.View.{vertices_of}
use Rattle.evm_rows.proofs.RowsLaws.{rows_of-none}
use Rattle.evm_sections.specs.Couplets.{first_height}
use Rattle.evm_sections.proofs.Bits.{same32}
use Rattle.evm_boolean.specs.Tower.{lower, after, fills}
use Rattle.evm_boolean.proofs.Cuts.{cuts-fall}
use Rattle.evm_boolean.proofs.TowerCells.{tower_is_at, fills-none}
use Rattle.evm_boolean.proofs.TowerSteps.{tower_more, tower_done}
use Rattle.evm_boolean.proofs.Answer.{answer_rows, answer_is}
use Rattle.evm_boolean.proofs.boolean.+combine_in.Goals as goal

pub loop-height-smaller : goal.loop-height-smaller
loop-height-smaller t c =
    let fits : SFits w32 c.in-Some.height = search rules in
    let low : Some c.in-Some.height ≡ lower (first_height c.loop-height.left.left) (first_height c.loop-height.right.left) =
    c.in-Some.ensures ∙ rw (c.height.ensures, c.height-in-loop-height.ensures) refl in
    let left : c.advance.new.walk.left ≡ after c.in-Some.height c.loop-height.left.left = rw (sym (same32 c.in-Some.height fits)) c.in_ok-next_a.ensures.left in
    let right : c.advance-in-Some.new.walk.left ≡ after c.in-Some.height c.loop-height.right.left = rw (sym (same32 c.in-Some.height fits)) c.in_ok-next_b.ensures.left in
    omega (arith, cuts-fall c.in-Some.height c.loop-height.left.left c.loop-height.right.left low, ap length left, ap length right)

pub loop-height-preserved : goal.loop-height-preserved
loop-height-preserved t c =
    let inv = c.loop-height.invariant in
    let fits : SFits w32 c.in-Some.height = search rules in
    let low : Some c.in-Some.height ≡ lower (first_height c.loop-height.left.left) (first_height c.loop-height.right.left) =
    c.in-Some.ensures ∙ rw (c.height.ensures, c.height-in-loop-height.ensures) refl in
    let left : c.advance.new.walk.left ≡ after c.in-Some.height c.loop-height.left.left = rw (sym (same32 c.in-Some.height fits)) c.in_ok-next_a.ensures.left in
    let right : c.advance-in-Some.new.walk.left ≡ after c.in-Some.height c.loop-height.right.left = rw (sym (same32 c.in-Some.height fits)) c.in_ok-next_b.ensures.left in
    let n_a : c.loop-height.below_a.dim ≡ c.dim-dim.result - 1 = omega (arith, inv.a_dim) in
    let n_b : c.loop-height.below_b.dim ≡ c.dim-dim.result - 1 = omega (arith, inv.b_dim) in
    record {
      deep = inv.deep;
      dim_is = inv.dim_is;
      left_dim = omega (arith, c.in_ok-next_a.ensures.walk_dim, inv.left_dim);
      right_dim = omega (arith, c.in_ok-next_b.ensures.walk_dim, inv.right_dim);
      a_dim = omega (arith, c.in_ok-next_a.ensures.dim, inv.a_dim);
      b_dim = omega (arith, c.in_ok-next_b.ensures.dim, inv.b_dim);
      below_dim = omega (arith, c.in_ok-above.ensures.dim, ap (λ (p : Vertices). p.dim) c.rows.ensures, c.in_ok-next_a.ensures.dim, inv.a_dim);
      so_far =
          let rows_a : rows_of c.rows.result.flat.now c.rows.result.width c.rows.result.skip ≡ c.in_ok-next_a.next_a.rows = ap (λ (p : Vertices). p.rows) c.rows.ensures in
          let rows_b : rows_of c.rows-in-Some.result.flat.now c.rows-in-Some.result.width c.rows-in-Some.result.skip ≡ c.in_ok-next_b.next_b.rows = ap (λ (p : Vertices). p.rows) c.rows-in-Some.ensures in
          let dim_a : c.rows.result.width - c.rows.result.skip ≡ c.dim-dim.result - 1 = omega (arith, ap (λ (p : Vertices). p.dim) c.rows.ensures, c.in_ok-next_a.ensures.dim, inv.a_dim) in
          let above : c.in_ok-above.above.rows ≡ combined_rows (fills c.args.op) (c.dim-dim.result - 1) c.in_ok-next_a.next_a.rows c.in_ok-next_b.next_b.rows =
          rw (dim_a, rows_a, rows_b) at c.in_ok-above.ensures.rows in
          let dim_below : c.loop-height.below.dim ≡ c.dim-dim.result - 1 = omega (arith, inv.below_dim) in
          let grown : c.in_ok-out.out.items ≡ c.loop-height.out.items ++ flat_of (raised (Some c.in-Some.height) (xor_rows (c.dim-dim.result - 1) c.loop-height.below.rows c.in_ok-above.above.rows)) =
          (rw (same32 c.in-Some.height fits) at c.in_ok-out.ensures)
          ∙ ap (λ (p : Vertices). c.loop-height.out.items ++ flat_of (raised (Some c.in-Some.height) (xor_rows p.dim p.rows (vertices_of c.rows-in-Some-3.result).rows))) c.rows-in-Some-2.ensures
          ∙ ap (λ (p : Vertices). c.loop-height.out.items ++ flat_of (raised (Some c.in-Some.height) (xor_rows c.loop-height.below.dim c.loop-height.below.rows p.rows))) c.rows-in-Some-3.ensures
          ∙ ap (λ m. c.loop-height.out.items ++ flat_of (raised (Some c.in-Some.height) (xor_rows m c.loop-height.below.rows c.in_ok-above.above.rows))) dim_below in
          tower_more (c.dim-dim.result - 1) (combined_rows (fills c.args.op) (c.dim-dim.result - 1)) c.in-Some.height _ _ _ _ _ _ _ _ _ _ _ _ _ low left right
          (rw (same32 c.in-Some.height fits, n_a) at c.in_ok-next_a.ensures.rows) (rw (same32 c.in-Some.height fits, n_b) at c.in_ok-next_b.ensures.rows)
          above grown inv.so_far;
    }

pub loop-height-init : goal.loop-height-init
loop-height-init t c =
    let a = c.args.a in
    let b = c.args.b in
    let deep : 1 < c.dim-dim.result = omega (arith, c.dim-dim.ensures, c.args.a.left, c.if-dim-eq1.false) in
    let v : IsVertexList c.dim-dim.result (rows_of a.flat.now a.width a.skip) = rw (c.dim-dim.ensures) a.vertices in
    let w : IsVertexList c.dim-dim.result (rows_of b.flat.now b.width b.skip) = rw (c.dim-dim.ensures ∙ c.requires) b.vertices in
    record {
      deep = deep;
      dim_is = c.dim-dim.ensures;
      left_dim = omega (arith, c.of-left.ensures.dim, c.dim-dim.ensures);
      right_dim = omega (arith, c.of-right.ensures.dim, c.dim-dim.ensures, c.requires);
      a_dim = omega (arith, c.taken-below_a.ensures.dim, deep);
      b_dim = omega (arith, c.taken-below_b.ensures.dim, deep);
      below_dim = omega (arith, c.taken-below.ensures.dim, deep);
      so_far = rw (c.clear.ensures.items, c.taken-below_a.ensures.rows, c.taken-below_b.ensures.rows, c.taken-below.ensures.rows)
          (ap flat_of (tower_is_at (fills c.args.op) c.dim-dim.result (c.dim-dim.result - 1) (rows_of a.flat.now a.width a.skip) (rows_of b.flat.now b.width b.skip) c.of-left.result.left c.of-right.result.left
          (omega arith) (fills-none c.args.op) v w c.of-left.ensures.left c.of-right.ensures.left));
    }

pub from_rows-requires : goal.from_rows-requires
from_rows-requires t c =
    let low : None ≡ lower (first_height c.loop-height.left.left) (first_height c.loop-height.right.left) =
    c.in_default.ensures ∙ rw (c.height.ensures, c.height-in-loop-height.ensures) refl in
    answer_rows (fills c.args.op) c.dim-dim.result (c.args.a.width - c.args.a.skip) _ _ c.loop-height.out.items c.loop-height.invariant.dim_is (omega (arith, c.args.a.left)) (omega (arith, c.args.a.narrow))
    (tower_done (c.dim-dim.result - 1) (combined_rows (fills c.args.op) (c.dim-dim.result - 1)) c.loop-height.left.left c.loop-height.right.left _ _ _ c.loop-height.out.items _ low c.loop-height.invariant.so_far)

pub returns-clause-rows : goal.returns-clause-rows
returns-clause-rows t c =
    let low : None ≡ lower (first_height c.loop-height.left.left) (first_height c.loop-height.right.left) =
    c.in_default.ensures ∙ rw (c.height.ensures, c.height-in-loop-height.ensures) refl in
    let some : 0 < c.dim-dim.result = omega (arith, c.loop-height.invariant.deep) in
    c.from_rows.ensures.rows
    ∙ answer_is (fills c.args.op) c.dim-dim.result _ _ c.loop-height.out.items some
    (tower_done (c.dim-dim.result - 1) (combined_rows (fills c.args.op) (c.dim-dim.result - 1)) c.loop-height.left.left c.loop-height.right.left _ _ _ c.loop-height.out.items _ low c.loop-height.invariant.so_far)
    ∙ ap (λ m. combined_rows (fills c.args.op) m (rows_of c.args.a.flat.now c.args.a.width c.args.a.skip) (rows_of c.args.b.flat.now c.args.b.width c.args.b.skip)) c.loop-height.invariant.dim_is

pub returns-then-a-eq0-clause-rows : goal.returns-then-a-eq0-clause-rows
returns-then-a-eq0-clause-rows t c =
    let a = c.args.a in
    let b = c.args.b in
    let none : rows_of a.flat.now a.width a.skip ≡ [] = rows_of-none a.flat.now a.width a.skip (omega arith) in
    c.in_ok-all.ensures.rows ∙ ap₂ (λ n V. combined_rows (fills c.args.op) n V (rows_of b.flat.now b.width b.skip)) (sym c.requires) (sym none)

pub returns-then-b-eq0-clause-rows : goal.returns-then-b-eq0-clause-rows
returns-then-b-eq0-clause-rows t c =
    let a = c.args.a in
    let b = c.args.b in
    let none : rows_of b.flat.now b.width b.skip ≡ [] = rows_of-none b.flat.now b.width b.skip (omega arith) in
    c.in_ok-all-2.ensures.rows ∙ ap (combined_rows (fills c.args.op) (a.width - a.skip) (rows_of a.flat.now a.width a.skip)) (sym none)
