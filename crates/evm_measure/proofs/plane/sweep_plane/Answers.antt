use Rattle.std.proofs.Common.{◌≡◌, ◌-◌, rules, sym, ap, ◌∙◌, arith, length, List, ℤ, zero-add, refl, []}
use Rattle.evm_cells.specs.Vertices.{IsVertexList, cells}
use Rattle.evm_cells.proofs.Layers.{cells-empty}
use Rattle.evm_rows.specs.Rows.{rows_of}
use Rattle.evm_rows.proofs.RowsLaws.{rows_of-none}
use Rattle.evm_sections.proofs.LineSteps.{none_rows}
use Rattle.evm_measure.proofs.Sums.{content_is_at, content-fits, boundary_is_at, boundary-fits}
use Rattle.evm_measure.proofs.Steps.{long_after}
use Rattle.evm_measure.proofs.plane.sweep_plane.Goals as goal

pub loop-high-init : goal.loop-high-init
loop-high-init c =
    let a = c.args.a in
    let two : a.width - a.skip ≡ 2 = c.requires in
    let v : IsVertexList 2 (rows_of a.flat.now a.width a.skip) = rw two at a.vertices in
    let nothing : length c.take_line-line.result.items ≡ 0 = ap length c.take_line-line.ensures in
    let none : rows_of c.take_line-line.result.items 1 0 ≡ [] = rows_of-none c.take_line-line.result.items 1 0 nothing in
    record {
      dims = omega (arith, c.of-walk.ensures.dim, two);
      line_is = none_rows c.take_line-line.result.items nothing;
      long = sym (ap (λ (V : List (List ℤ)). length (cells 1 V)) none ∙ ap length (cells-empty 1));
      fits = content-fits 2 (rows_of a.flat.now a.width a.skip) (omega arith);
      faces_fit = boundary-fits 2 (rows_of a.flat.now a.width a.skip) (omega arith);
      so_far = zero-add _ ∙ rw none (content_is_at 2 1 (rows_of a.flat.now a.width a.skip) _ c.of-walk.result.left refl v c.of-walk.ensures.left);
      faces_so_far = zero-add _ ∙ rw none (boundary_is_at 2 1 (rows_of a.flat.now a.width a.skip) _ c.of-walk.result.left refl v c.of-walk.ensures.left);
    }

pub overflow_add-length : goal.overflow_add-length
overflow_add-length c =
    let w = long_after c.loop-high.line.items c.deref-in-Some.result.now _ _ c.loop-high.length c.in_ok-next.next.across c.in_ok-next.next.shared
    c.deref-in-Some.ensures.value c.loop-high.invariant.line_is (c.in-Some.ensures.same ∙ c.loop-high.invariant.dims) c.in-Some.couplet.vertices
    c.loop-high.invariant.long c.in_ok-next.ensures.across c.in_ok-next.ensures.shared in
    omega (arith, w.long_small, w.across_small)

pub overflow_mul-length : goal.overflow_mul-length
overflow_mul-length c =
    let w = long_after c.loop-high.line.items c.deref-in-Some.result.now _ _ c.loop-high.length c.in_ok-next.next.across c.in_ok-next.next.shared
    c.deref-in-Some.ensures.value c.loop-high.invariant.line_is (c.in-Some.ensures.same ∙ c.loop-high.invariant.dims) c.in-Some.couplet.vertices
    c.loop-high.invariant.long c.in_ok-next.ensures.across c.in_ok-next.ensures.shared in
    omega (arith, w.law, w.long_small, w.across_small)

pub overflow_sub-length : goal.overflow_sub-length
overflow_sub-length c =
    let w = long_after c.loop-high.line.items c.deref-in-Some.result.now _ _ c.loop-high.length c.in_ok-next.next.across c.in_ok-next.next.shared
    c.deref-in-Some.ensures.value c.loop-high.invariant.line_is (c.in-Some.ensures.same ∙ c.loop-high.invariant.dims) c.in-Some.couplet.vertices
    c.loop-high.invariant.long c.in_ok-next.ensures.across c.in_ok-next.ensures.shared in
    omega (arith, w.law)

pub loop-high-preserved : goal.loop-high-preserved
loop-high-preserved c =
    let w = long_after c.loop-high.line.items c.deref-in-Some.result.now _ _ c.loop-high.length c.in_ok-next.next.across c.in_ok-next.next.shared
    c.deref-in-Some.ensures.value c.loop-high.invariant.line_is (c.in-Some.ensures.same ∙ c.loop-high.invariant.dims) c.in-Some.couplet.vertices
    c.loop-high.invariant.long c.in_ok-next.ensures.across c.in_ok-next.ensures.shared in
    let after = ap (λ (R : List (List ℤ)). length (cells 1 R)) c.in_ok-next.ensures.rows in
    record {
      dims = search rules;
      line_is = c.in_ok-next.ensures.are_rows;
      long = omega (arith, w.law, after);
      fits = c.loop-high.invariant.fits;
      faces_fit = c.loop-high.invariant.faces_fit;
      so_far = search rules;
      faces_so_far = search rules;
    }
