use Rattle.std.proofs.Common.{◌-◌, ◌≤◌, ◌<◌, ◌-ℤ◌, ℕ, ℤ, List, length, pos, refl, ap, ◌∙◌, arith, w32, to_z, of_z}
use Rattle.std.proofs.lemmas.List.{get_or-set_same, get_or-set_other, length-set}
use Rattle.evm_cells.specs.Heights.{is_cut}
use Rattle.evm_cells.specs.Limits.{limit}
use Rattle.evm_rows.specs.Rows.{Vertices, cells_of}
use Rattle.evm_rows.specs.View.{vertices_of}
use Rattle.evm_cutting.proofs.Planes.{ends_of}
use Rattle.evm_delta.proofs.Columns.{opened}
use Rattle.evm_delta.proofs.hulls.open_box.Goals as goal

pub returns : goal.returns
returns c =
    let d = c.args.d in
    let n : ℕ = d.width - d.skip in
    let i : ℕ = c.args.axis - 1 in
    let v : Vertices = vertices_of d in
    let y : ℤ = to_z w32 (of_z w32 c.limit-limit.result) in
    let x : ℤ = to_z w32 (of_z w32 (pos 0 -ℤ y)) in
    let lo : List ℤ = c.least_box-ends.result.lo in
    let hi : List ℤ = c.least_box-ends.result.hi in
    let (ey, ex) = ends_of n c.limit-limit.result (c.limit-limit.ensures ∙ ap (λ (m : ℕ). pos (limit m)) c.dim.ensures) in
    let narrow = d.narrow in
    let first = c.requires.low in
    let last = c.requires.high in
    let inside : i < n = omega (arith, first, last) in
    let low : n ≤ length lo = let e = c.least_box-ends.ensures.low in omega (arith, narrow, e) in
    let high : n ≤ length hi = let e = c.least_box-ends.ensures.high in omega (arith, narrow, e) in
    record {
      long_low = length-set lo i x ∙ c.least_box-ends.ensures.low;
      long_high = length-set hi i y ∙ c.least_box-ends.ensures.high;
      around = opened n i x y lo hi v refl inside low high ex ey d.vertices c.least_box-ends.ensures.around;
      low = get_or-set_same lo i x (pos 0) (omega (arith, inside, low)) ∙ ex;
      high = get_or-set_same hi i y (pos 0) (omega (arith, inside, high)) ∙ ey;
      first = λ z. ap (is_cut n (cells_of v)) (get_or-set_other lo i 0 x (pos 0) (λ e. omega (arith, z, e))) ∙ c.least_box-ends.ensures.first;
      last = λ z. ap (is_cut n (cells_of v)) (get_or-set_other hi i 0 y (pos 0) (λ e. omega (arith, z, e))) ∙ c.least_box-ends.ensures.last;
    }
