use Rattle.std.proofs.Common.{◌≡◌, ◌-◌, ◌<◌, ◌++◌, ℕ, ℤ, List, Some, None, refl, sym, ap, ap₂, ◌∙◌, subst, arith, rules, length, w32}
use mir.Val.{SFits}
use Rattle.evm_cells.specs.Vertices.{IsVertexList}
use Rattle.evm_rows.specs.Rows.{Vertices, rows_of, flat_of, xor_rows, combined_rows, raised}
use Rattle.evm_rows.specs.View.{vertices_of}
use Rattle.evm_rows.proofs.Bridge.{vertices_none}
use Rattle.evm_sections.specs.Couplets.{first_height}
use Rattle.evm_sections.proofs.Bits.{same32}
use Rattle.evm_boolean.specs.declared.boolean.Op2.{Op2}
use Rattle.evm_boolean.specs.Tower.{lower, after, couplet_here, fills}
use Rattle.evm_boolean.proofs.Cuts.{cuts-fall}
use Rattle.evm_boolean.proofs.TowerCells.{tower_is_at, fills-none, op-both_none, section-here}
use Rattle.evm_boolean.proofs.TowerSteps.{tower_more, tower_done}
use Rattle.evm_boolean.proofs.Answer.{answer_rows, answer_is, cells_are}
use Rattle.evm_cutting.specs.Changes.{left_part, right_part}
use Rattle.evm_cutting.specs.Hulls.{AgreesOn}
use Rattle.evm_cutting.proofs.Swept.{gains_are, xor_list, not_xor}
use Rattle.evm_cutting.proofs.sweeps.+sweep.Goals as goal

pub loop-height-init : goal.loop-height-init
loop-height-init t c =
    let a = c.args.a in
    let b = c.args.b in
    let n : ℕ = c.dim-dim.result - 1 in
    let deep : 2 < c.dim-dim.result = omega (arith, c.if-dim-le2.false) in
    let v : IsVertexList c.dim-dim.result (rows_of a.flat.now a.width a.skip) = rw (c.dim-dim.ensures) a.vertices in
    let w : IsVertexList c.dim-dim.result (rows_of b.flat.now b.width b.skip) = rw (c.dim-dim.ensures ∙ c.requires) b.vertices in
    record {
      deep = deep;
      differs = not_xor c.args.op (sym c.eq.ensures ∙ c.if-eq.false);
      dim_is = c.dim-dim.ensures;
      left_dim = omega (arith, c.of-left.ensures.dim, c.dim-dim.ensures);
      right_dim = omega (arith, c.of-right.ensures.dim, c.dim-dim.ensures, c.requires);
      a_dim = omega (arith, c.empty-below_a.ensures.dim, deep);
      b_dim = omega (arith, c.empty-below_b.ensures.dim, deep);
      a_list = rw (c.empty-below_a.ensures.rows) (vertices_none n);
      b_list = rw (c.empty-below_b.ensures.rows) (vertices_none n);
      so_far = rw (c.new-out.ensures.items, c.empty-below_a.ensures.rows, c.empty-below_b.ensures.rows, op-both_none (fills c.args.op) n (fills-none c.args.op))
          (ap flat_of (tower_is_at (fills c.args.op) c.dim-dim.result n (rows_of a.flat.now a.width a.skip) (rows_of b.flat.now b.width b.skip) c.of-left.result.left c.of-right.result.left
          (omega arith) (fills-none c.args.op) v w c.of-left.ensures.left c.of-right.ensures.left));
    }

pub loop-height-smaller : goal.loop-height-smaller
loop-height-smaller t c =
    let fits : SFits w32 c.in-Some.height = search rules in
    let low : Some c.in-Some.height ≡ lower (first_height c.loop-height.left.left) (first_height c.loop-height.right.left) = c.in-Some.ensures in
    let left : c.couplet_at-change_a.new.walk.left ≡ after c.in-Some.height c.loop-height.left.left = rw (sym (same32 c.in-Some.height fits)) c.couplet_at-change_a.ensures.left in
    let right : c.couplet_at-change_b.new.walk.left ≡ after c.in-Some.height c.loop-height.right.left = rw (sym (same32 c.in-Some.height fits)) c.couplet_at-change_b.ensures.left in
    omega (arith, cuts-fall c.in-Some.height c.loop-height.left.left c.loop-height.right.left low, ap length left, ap length right)

pub loop-height-preserved : goal.loop-height-preserved
loop-height-preserved t c =
    let inv = c.loop-height.invariant in
    let op : Op2 = c.args.op in
    let n : ℕ = c.dim-dim.result - 1 in
    let h : ℤ = c.in-Some.height in
    let fits : SFits w32 c.in-Some.height = search rules in
    let low : Some c.in-Some.height ≡ lower (first_height c.loop-height.left.left) (first_height c.loop-height.right.left) = c.in-Some.ensures in
    let left : c.couplet_at-change_a.new.walk.left ≡ after c.in-Some.height c.loop-height.left.left = rw (sym (same32 c.in-Some.height fits)) c.couplet_at-change_a.ensures.left in
    let right : c.couplet_at-change_b.new.walk.left ≡ after c.in-Some.height c.loop-height.right.left = rw (sym (same32 c.in-Some.height fits)) c.couplet_at-change_b.ensures.left in
    let sa : Vertices = c.loop-height.below_a in
    let sb : Vertices = c.loop-height.below_b in
    let da : Vertices = vertices_of c.couplet_at-change_a.result in
    let db : Vertices = vertices_of c.couplet_at-change_b.result in
    let ta : Vertices = c.in_ok-next_a.next_a in
    let tb : Vertices = c.in_ok-next_b.next_b in
    let near_a : Vertices = c.in_ok-near_a.near_a in
    let near_b : Vertices = c.in_ok-near_b.near_b in
    let gain_a : Vertices = c.in_ok-gain_a.gain_a in
    let gain_b : Vertices = c.in_ok-gain_b.gain_b in
    let n_l : c.loop-height.left.dim ≡ n = omega (arith, inv.left_dim) in
    let n_r : c.loop-height.right.dim ≡ n = omega (arith, inv.right_dim) in
    let n_a : c.loop-height.below_a.dim ≡ n = omega (arith, inv.a_dim) in
    let n_b : c.loop-height.below_b.dim ≡ n = omega (arith, inv.b_dim) in
    let d_a : da.dim ≡ n = c.couplet_at-change_a.ensures.dim ∙ n_l in
    let d_b : db.dim ≡ n = c.couplet_at-change_b.ensures.dim ∙ n_r in
    let ca : da.rows ≡ couplet_here c.in-Some.height c.loop-height.left.left = rw (sym (same32 c.in-Some.height fits)) c.couplet_at-change_a.ensures.rows in
    let cb : db.rows ≡ couplet_here c.in-Some.height c.loop-height.right.left = rw (sym (same32 c.in-Some.height fits)) c.couplet_at-change_b.ensures.rows in
    let t_a : ta.dim ≡ n = c.in_ok-next_a.ensures.dim ∙ n_a in
    let t_b : tb.dim ≡ n = c.in_ok-next_b.ensures.dim ∙ n_b in
    let ra : ta.rows ≡ xor_rows n sa.rows da.rows = c.in_ok-next_a.ensures.rows ∙ ap (λ (m : ℕ). xor_rows m sa.rows da.rows) n_a in
    let rb : tb.rows ≡ xor_rows n sb.rows db.rows = c.in_ok-next_b.ensures.rows ∙ ap (λ (m : ℕ). xor_rows m sb.rows db.rows) n_b in
    let m_a : near_a.dim ≡ n = c.in_ok-near_a.ensures.dim ∙ ap (λ (v : Vertices). v.dim) c.rows.ensures ∙ n_a in
    let m_b : near_b.dim ≡ n = c.in_ok-near_b.ensures.dim ∙ ap (λ (v : Vertices). v.dim) c.rows-in-Some-2.ensures ∙ t_b in
    let ha : AgreesOn db sa near_a = subst (λ (v : Vertices). AgreesOn db v near_a) c.rows.ensures c.in_ok-near_a.ensures.agrees in
    let hb : AgreesOn da tb near_b = subst (λ (v : Vertices). AgreesOn da v near_b) c.rows-in-Some-2.ensures c.in_ok-near_b.ensures.agrees in
    let gb : gain_b.rows ≡ combined_rows (fills (right_part op)) n db.rows near_a.rows =
    c.in_ok-gain_b.ensures.rows
    ∙ ap (λ (o : Op2). combined_rows (fills o) db.dim db.rows (vertices_of c.rows-in-Some.result).rows) c.right_part.ensures
    ∙ ap (λ (v : Vertices). combined_rows (fills (right_part op)) db.dim db.rows v.rows) c.rows-in-Some.ensures
    ∙ ap (λ (m : ℕ). combined_rows (fills (right_part op)) m db.rows near_a.rows) d_b in
    let ga : gain_a.rows ≡ combined_rows (fills (left_part op)) n da.rows near_b.rows =
    c.in_ok-gain_a.ensures.rows
    ∙ ap (λ (o : Op2). combined_rows (fills o) da.dim da.rows (vertices_of c.rows-in-Some-3.result).rows) c.left_part.ensures
    ∙ ap (λ (v : Vertices). combined_rows (fills (left_part op)) da.dim da.rows v.rows) c.rows-in-Some-3.ensures
    ∙ ap (λ (m : ℕ). combined_rows (fills (left_part op)) m da.rows near_b.rows) d_a in
    let g_a : gain_a.dim ≡ n = c.in_ok-gain_a.ensures.dim ∙ d_a in
    let grown : c.in_ok-out.out.items ≡ c.loop-height.out.items ++ flat_of (raised (Some c.in-Some.height) (xor_rows n (combined_rows (fills op) n sa.rows sb.rows) (combined_rows (fills op) n ta.rows tb.rows))) =
    (rw (same32 c.in-Some.height fits) at c.in_ok-out.ensures)
    ∙ ap₂ (λ (p q : Vertices). c.loop-height.out.items ++ flat_of (raised (Some c.in-Some.height) (xor_rows p.dim p.rows q.rows))) c.rows-in-Some-4.ensures c.rows-in-Some-5.ensures
    ∙ ap (λ (m : ℕ). c.loop-height.out.items ++ flat_of (raised (Some c.in-Some.height) (xor_rows m gain_a.rows gain_b.rows))) g_a
    ∙ ap (λ (X : List (List ℤ)). c.loop-height.out.items ++ flat_of (raised (Some c.in-Some.height) X))
    (gains_are op n sa da sb db tb near_a near_b gain_a gain_b inv.differs n_a d_a d_b t_b m_a m_b ha hb rb ga gb
    ∙ ap (λ (V : List (List ℤ)). xor_rows n (combined_rows (fills op) n sa.rows sb.rows) (combined_rows (fills op) n V tb.rows)) (sym ra)) in
    record {
      deep = inv.deep;
      differs = inv.differs;
      dim_is = inv.dim_is;
      left_dim = omega (arith, c.couplet_at-change_a.ensures.walk_dim, inv.left_dim);
      right_dim = omega (arith, c.couplet_at-change_b.ensures.walk_dim, inv.right_dim);
      a_dim = omega (arith, c.in_ok-next_a.ensures.dim, inv.a_dim);
      b_dim = omega (arith, c.in_ok-next_b.ensures.dim, inv.b_dim);
      a_list = subst (λ (V : List (List ℤ)). IsVertexList n V) (sym ra) (xor_list n sa.rows da.rows);
      b_list = subst (λ (V : List (List ℤ)). IsVertexList n V) (sym rb) (xor_list n sb.rows db.rows);
      so_far = tower_more n (combined_rows (fills op) n) c.in-Some.height _ _ _ _ _ _ _ _ _ _ _ _ _ low left right
          (ra ∙ ap (xor_rows n sa.rows) ca ∙ section-here n c.in-Some.height sa.rows c.loop-height.left.left inv.a_list)
          (rb ∙ ap (xor_rows n sb.rows) cb ∙ section-here n c.in-Some.height sb.rows c.loop-height.right.left inv.b_list)
          refl grown inv.so_far;
    }

pub from_rows-requires : goal.from_rows-requires
from_rows-requires t c =
    let low : None ≡ lower (first_height c.loop-height.left.left) (first_height c.loop-height.right.left) = c.in_default.ensures in
    answer_rows (fills c.args.op) c.dim-dim.result (c.args.a.width - c.args.a.skip) _ _ c.loop-height.out.items c.loop-height.invariant.dim_is (omega (arith, c.args.a.left)) (omega (arith, c.args.a.narrow))
    (tower_done (c.dim-dim.result - 1) (combined_rows (fills c.args.op) (c.dim-dim.result - 1)) c.loop-height.left.left c.loop-height.right.left _ _ _ c.loop-height.out.items _ low c.loop-height.invariant.so_far)

pub returns-clause-rows : goal.returns-clause-rows
returns-clause-rows t c =
    let low : None ≡ lower (first_height c.loop-height.left.left) (first_height c.loop-height.right.left) = c.in_default.ensures in
    let some : 0 < c.dim-dim.result = omega (arith, c.loop-height.invariant.deep) in
    c.from_rows.ensures.rows
    ∙ answer_is (fills c.args.op) c.dim-dim.result _ _ c.loop-height.out.items some
    (tower_done (c.dim-dim.result - 1) (combined_rows (fills c.args.op) (c.dim-dim.result - 1)) c.loop-height.left.left c.loop-height.right.left _ _ _ c.loop-height.out.items _ low c.loop-height.invariant.so_far)
    ∙ ap (λ (m : ℕ). combined_rows (fills c.args.op) m (rows_of c.args.a.flat.now c.args.a.width c.args.a.skip) (rows_of c.args.b.flat.now c.args.b.width c.args.b.skip)) c.loop-height.invariant.dim_is

pub returns-clause-cells : goal.returns-clause-cells
returns-clause-cells t c =
    let v : Vertices = vertices_of c.args.a in
    let w : Vertices = vertices_of c.args.b in
    cells_are (fills c.args.op) c.from_rows.result.dim v.rows w.rows c.from_rows.result.rows
    (returns-clause-rows t c ∙ ap (λ (m : ℕ). combined_rows (fills c.args.op) m v.rows w.rows) (sym (c.from_rows.ensures.dim ∙ c.loop-height.invariant.dim_is)))
