-- Sections past the limits of cells, differences of sections, and the height below.
use Rattle.std.proofs.Common.{◌≡◌, ◌+◌, ℕ, suc, true, false, List, [], ℤ, pos, ◌-ℤ◌, sym, ap, ap₂, ◌∙◌, subst, arith, w32, to_z, of_z, FitsSigned}
use Rattle.std.proofs.lemmas.Int.{ints as int_facts}
use mir.Val.{SFits}
use Rattle.evm_cells.specs.Limits.{is_cell_coord, is_point_coord, IsCellSet}
use Rattle.evm_cells.specs.Booleans.{sub_cells}
use Rattle.evm_cells.specs.Vertices.{evm, cells}
use Rattle.evm_cells.specs.Sections.{slice}
use Rattle.evm_cells.proofs.Layers.{slice_outside}
use Rattle.evm_cells.proofs.Universe.{cell_set-cells}
use Rattle.evm_cells.proofs.Coords.{point_is, limit-small}
use Rattle.evm_rows.specs.Rows.{Vertices}
use Rattle.evm_rows.proofs.BoxTests.{same32}
use Rattle.evm_boolean.specs.Tower.{sub_vertices}

-- a section past the limits of cells has no cells
pub slice-beyond_at : (m n i : ℕ) (k : ℤ) (V : List (List ℤ)) → n + 1 ≡ m → is_cell_coord m k ≡ false → slice n i k (cells m V) ≡ []
slice-beyond_at m n i k V one out =
    let q : m ≡ suc n = omega arith in
    slice_outside n i k (cells m V) (subst (λ j. IsCellSet j (cells m V)) q (cell_set-cells m V)) (subst (λ j. is_cell_coord j k ≡ false) q out)

-- the vertices of the difference of two sections
pub only_rows : (k t s : Vertices) (n : ℕ) (A B : List (List ℤ)) → s ≡ sub_vertices k t → k.dim ≡ n → t.dim ≡ n → cells k.dim k.rows ≡ A → cells t.dim t.rows ≡ B → s.rows ≡ evm n (sub_cells n A B)
unfolding sub_vertices
only_rows k t s n A B e dk dt ak at =
    ap (λ (v : Vertices). v.rows) e
    ∙ ap₂ (λ (X Y : List (List ℤ)). evm k.dim (sub_cells k.dim X Y)) ak (ap (λ (j : ℕ). cells j t.rows) (dk ∙ sym dt) ∙ at)
    ∙ ap (λ (j : ℕ). evm j (sub_cells j A B)) dk

-- the number below a point's coordinate has 32 bits
pub fits_below : (n : ℕ) (k : ℤ) → is_point_coord n k ≡ true → SFits w32 k → SFits w32 (k -ℤ pos 1)
fits_below n k h f = let (a, b) = point_is n k h in let m = limit-small n in grind (arith, int_facts)

pub same_below : (n : ℕ) (k : ℤ) → is_point_coord n k ≡ true → SFits w32 k → to_z w32 (of_z w32 (to_z w32 (of_z w32 k) -ℤ pos 1)) ≡ k -ℤ pos 1
same_below n k h f = ap (λ (x : ℤ). to_z w32 (of_z w32 (x -ℤ pos 1))) (same32 k f) ∙ same32 (k -ℤ pos 1) (fits_below n k h f)

pub below_fits : (n : ℕ) (k : ℤ) → is_point_coord n k ≡ true → SFits w32 k → FitsSigned w32 (to_z w32 (of_z w32 k) -ℤ pos 1)
below_fits n k h f = rw (same32 k f) (let (a, b) = point_is n k h in let m = limit-small n in grind (arith, int_facts))
