use Rattle.std.proofs.Common.{◌≡◌, ◌-◌, ◌+◌, ◌++◌, ◌<◌, ℕ, suc, ℤ, List, All, ap, ap₂, subst, sym, ◌∙◌, arith, append-nil}
use Rattle.evm_cells.specs.Limits.{IsCellSet}
use Rattle.evm_cells.specs.Shapes.{swap_axes}
use Rattle.evm_cells.specs.Vertices.{cells}
use Rattle.evm_cells.proofs.Universe.{cell_set-cells}
use Rattle.evm_rows.specs.Rows.{Vertices, cells_of, rows_of}
use Rattle.evm_formats.specs.FaceText.{faces_along}
use Rattle.evm_mesh.specs.Sheets.{IsSheet, faces_in, first_faces}
use Rattle.evm_mesh.proofs.SheetSteps.{axes_more}
use Rattle.evm_mesh.proofs.TurnedAxes.{Turned, turned_first, turned_next, turned_faces}
use Rattle.evm_mesh.proofs.sheets.sheets.Goals as goal

pub loop-axis-init : goal.loop-axis-init
loop-axis-init c =
    let m : ℕ = c.args.a.width - c.args.a.skip in
    let V : List (List ℤ) = rows_of c.args.a.flat.now c.args.a.width c.args.a.skip in
    let S : List (List ℤ) = cells m V in
    let set : IsCellSet m S = cell_set-cells m V in
    let one : m - 1 + 1 ≡ m = omega (arith, c.requires) in
    record {
      dim = c.in_ok-turned.ensures.dim;
      turned = subst (λ (R : List (List ℤ)). Turned 0 S R) (sym (ap₂ cells c.in_ok-turned.ensures.dim c.in_ok-turned.ensures.rows)) (turned_first S);
      sheets = c.in_ok-append_axis.ensures.sheets;
      faces = c.in_ok-append_axis.ensures.faces ∙ ap (λ xs. faces_in xs ++ first_faces (m - 1) S 0) c.new-sheets.ensures.items
          ∙ turned_faces m (m - 1) 0 S S one set set (turned_first S) ∙ sym (append-nil (faces_along (m - 1) S 0));
    }

pub loop-axis-preserved : goal.loop-axis-preserved
loop-axis-preserved c =
    let m : ℕ = c.args.a.width - c.args.a.skip in
    let V : List (List ℤ) = rows_of c.args.a.flat.now c.args.a.width c.args.a.skip in
    let S : List (List ℤ) = cells m V in
    let set : IsCellSet m S = cell_set-cells m V in
    let one : m - 1 + 1 ≡ m = omega (arith, c.requires) in
    let i : ℕ = c.loop-axis.axis in
    let before : suc (i - 1) ≡ i = omega (arith, c.loop-axis.auto.axis) in
    let back : i + 1 - 1 ≡ i = omega arith in
    let within : i < m = omega (arith, c.loop-axis-test.true, c.dim-axis-end.ensures) in
    let old : Vertices = c.loop-axis.turned in
    let new : Vertices = c.in_ok-turned-2.turned in
    let same : new.dim ≡ m = c.in_ok-turned-2.ensures.dim ∙ ap (λ (v : Vertices). v.dim) c.rows.ensures ∙ c.loop-axis.invariant.dim in
    let cells_are : cells_of new ≡ swap_axes m 0 i (cells_of old) =
    c.in_ok-turned-2.ensures.cells ∙ ap (λ (v : Vertices). swap_axes v.dim 0 (i + 1 - 1) (cells_of v)) c.rows.ensures ∙ ap₂ (λ (j k : ℕ). swap_axes j 0 k (cells_of old)) c.loop-axis.invariant.dim back in
    let turned : Turned i S (cells_of new) = subst (λ (R : List (List ℤ)). Turned i S R) (sym cells_are) (turned_next m (i - 1) i S (cells_of old) before within set c.loop-axis.invariant.turned) in
    let new_set : IsCellSet m (cells_of new) = subst (λ (j : ℕ). IsCellSet j (cells_of new)) same (cell_set-cells new.dim new.rows) in
    let done = faces_in c.loop-axis.sheets.items in
    record {
      dim = same;
      turned = subst (λ (j : ℕ). Turned j S (cells_of new)) (sym back) turned;
      sheets = subst (λ (j : ℕ). All (IsSheet j) c.append_axis-in-loop-axis.new.sheets.items) (ap (λ (v : Vertices). v.dim) c.rows-in-loop-axis.ensures ∙ same) c.in_ok-append_axis-2.ensures.sheets;
      faces = c.in_ok-append_axis-2.ensures.faces ∙ ap (λ (v : Vertices). done ++ first_faces (v.dim - 1) (cells_of v) i) c.rows-in-loop-axis.ensures
          ∙ ap (λ (j : ℕ). done ++ first_faces (j - 1) (cells_of new) i) same
          ∙ ap₂ (λ t u. t ++ u) c.loop-axis.invariant.faces (turned_faces m (m - 1) i S (cells_of new) one set new_set turned)
          ∙ sym (axes_more (faces_along (m - 1) S) i);
    }
