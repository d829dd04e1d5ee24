-- The rows that are appended are the extreme vertices of the filled places.
use Rattle.std.proofs.Common.{◌≡◌, ℕ, suc, ◌+◌, ◌≤◌, Bool, true, cond, ◌&&◌, List, [], ◌∷◌, ◌++◌, map, flat_map, get_or, ℤ, pos, ◌-ℤ◌, refl, sym, ap, ap₂, ◌∙◌, arith, int_le, int_lt}
use Rattle.std.proofs.lemmas.Int.{ints as int_facts}
use Rattle.evm_cells.specs.Booleans.{xor}
use Rattle.evm_cells.specs.Limits.{ints, limit, cells_where}
use Rattle.evm_cells.specs.Vertices.{evm}
use Rattle.evm_cells.proofs.Xor.{and_first, and_both}
use Rattle.evm_cells.proofs.Coords.{le_yes}
use Rattle.evm_rows.specs.Rows.{flat_of}
use Rattle.evm_voxels.specs.declared.grid.Grid.{Grid}
use Rattle.evm_formats.specs.Images.{nat_of, in_sizes, within, of_three}
use Rattle.evm_formats.specs.VoxelLaws.{listed}
use Rattle.evm_voxels.specs.Parity.{turns, grid, seam, edge}
use Rattle.evm_voxels.specs.Marks.{marked_at}
use Rattle.evm_voxels.specs.Grids.{filled_in, filled_flat}
use Rattle.evm_voxels.proofs.GridLaw.{vertices-grid, IsInside}
use Rattle.evm_voxels.proofs.Layers.{layers, layers_step}
use Rattle.evm_voxels.proofs.GridLines.{off_y, turns_three, turns-seam}

-- a size within the limit
size_fits : (n w : ℕ) → w ≤ limit n → int_le (pos w) (pos (limit n)) ≡ true
size_fits n w l = le_yes (pos w) (pos (limit n)) (omega (arith, int_facts))

pub inside : (ms : List ℕ) (test : List ℕ → Bool) → IsInside ms (within ms test)
unfolding within
inside ms test c h = and_first (in_sizes ms c) (test (map nat_of c)) h

pub no_heads : (V : List (List ℤ)) → map (λ t. [] ++ t) V ≡ V
no_heads [] = refl
no_heads (r ∷ V) = ap (λ (rs : List (List ℤ)). r ∷ rs) (no_heads V)

pub no_base : (out : List ℤ) (V : List (List ℤ)) → out ≡ [] ++ flat_of (map (λ t. [] ++ t) V) → out ≡ flat_of V
no_base out V e = e ∙ ap flat_of (no_heads V)

pub stack_done : (g : Grid) (out : List ℤ) → g.width ≤ limit 3 → g.height ≤ limit 3 → g.depth ≤ limit 3
    → out ≡ [] ++ flat_of (map (λ t. [] ++ t) (grid (g.width ∷ g.height ∷ g.depth ∷ []) (turns (filled_in g)))) → out ≡ flat_of (evm 3 (cells_where 3 (filled_in g)))
unfolding filled_in
stack_done g out a b d e =
    let ms : List ℕ = g.width ∷ g.height ∷ g.depth ∷ [] in
    no_base out (grid ms (turns (filled_in g))) e
    ∙ ap flat_of (vertices-grid 3 ms (filled_in g) refl
    (and_both (int_le (pos g.width) (pos (limit 3))) (int_le (pos g.height) (pos (limit 3)) && (int_le (pos g.depth) (pos (limit 3)) && true)) (size_fits 3 g.width a)
    (and_both (int_le (pos g.height) (pos (limit 3))) (int_le (pos g.depth) (pos (limit 3)) && true) (size_fits 3 g.height b) (and_both (int_le (pos g.depth) (pos (limit 3))) true (size_fits 3 g.depth d) refl)))
    (inside ms (of_three (marked_at g.marks.now g.pitch g.width))))

-- ---- one image, whose rows are the images of a grid of height 1

and_one : (a b t : Bool) → ((a && (true && b)) && t) ≡ ((a && b) && t)
and_one a b t = refl

flat_place : (g : Grid) (x z : ℤ) → g.height ≡ 1 → filled_in g (x ∷ pos 0 ∷ z ∷ []) ≡ filled_flat g (x ∷ z ∷ [])
unfolding filled_in filled_flat within in_sizes
flat_place g x z e =
    ap (λ (h : ℕ). ((int_le (pos 0) x && int_lt x (pos g.width)) && ((int_le (pos 0) (pos 0) && int_lt (pos 0) (pos h)) && ((int_le (pos 0) z && int_lt z (pos g.depth)) && true))) && marked_at g.marks.now g.pitch g.width (nat_of x) 0 (nat_of z)) e

flat_seam : (g : Grid) (x z : ℤ) → g.height ≡ 1 → edge (filled_in g) x (pos 0) (z ∷ []) ≡ seam (filled_flat g) x (z ∷ [])
unfolding edge seam xor
flat_seam g x z e =
    ap₂ xor (ap₂ xor (off_y g (x -ℤ pos 1) (pos 0 -ℤ pos 1) (z ∷ []) refl) (off_y g x (pos 0 -ℤ pos 1) (z ∷ []) refl)) (ap₂ xor (flat_place g (x -ℤ pos 1) z e) (flat_place g x z e))

turns_one : (f : List ℤ → Bool) (z : ℤ) → turns f (z ∷ []) ≡ xor (f ((z -ℤ pos 1) ∷ [])) (f (z ∷ []))
unfolding turns
turns_one f z = refl

flat_turns : (g : Grid) (x z : ℤ) → g.height ≡ 1 → turns (filled_in g) (x ∷ pos 0 ∷ z ∷ []) ≡ turns (filled_flat g) (x ∷ z ∷ [])
flat_turns g x z e =
    sym (turns_three (filled_in g) x (pos 0) z)
    ∙ ap₂ xor (flat_seam g x (z -ℤ pos 1) e) (flat_seam g x z e)
    ∙ sym (turns-seam (filled_flat g) x (z ∷ []) ∙ turns_one (seam (filled_flat g) x) z)

line_same : (d : ℕ) (f h : List ℤ → Bool) → ((z : ℤ) → f (z ∷ []) ≡ h (z ∷ [])) → grid (d ∷ []) f ≡ grid (d ∷ []) h
unfolding listed
line_same d f h e = ap (λ (t : ℤ → Bool). flat_map (λ z. map (λ r. z ∷ r) (cond (t z) ([] ∷ []) [])) (ints (pos 0) (suc d))) (λ i z. e z i)

-- the points of a line of one image
pub flat_line : (g : Grid) (x : ℤ) → g.height ≡ 1 → grid (g.depth ∷ []) (λ c. turns (filled_in g) (x ∷ pos 0 ∷ c)) ≡ grid (g.depth ∷ []) (λ c. turns (filled_flat g) (x ∷ c))
flat_line g x e = line_same g.depth (λ c. turns (filled_in g) (x ∷ pos 0 ∷ c)) (λ c. turns (filled_flat g) (x ∷ c)) (λ z. flat_turns g x z e)

pub flat_step : (g : Grid) (n : ℕ) (longer out new : List ℤ) → g.height ≡ 1 → out ≡ [] ++ flat_of (map (λ t. [] ++ t) (layers (g.depth ∷ []) (turns (filled_flat g)) n)) → longer ≡ [] ++ pos n ∷ []
    → new ≡ out ++ flat_of (map (λ t. longer ++ t) (grid (g.depth ∷ []) (λ c. turns (filled_in g) (pos n ∷ pos 0 ∷ c))))
    → new ≡ [] ++ flat_of (map (λ t. [] ++ t) (layers (g.depth ∷ []) (turns (filled_flat g)) (n + 1)))
flat_step g n longer out new one h l e =
    layers_step (g.depth ∷ []) (turns (filled_flat g)) n [] longer [] out new h l
    (e ∙ ap (λ (rs : List (List ℤ)). out ++ flat_of (map (λ t. longer ++ t) rs)) (flat_line g (pos n) one))

pub image_done : (g : Grid) (out : List ℤ) → g.width ≤ limit 2 → g.depth ≤ limit 2
    → out ≡ [] ++ flat_of (map (λ t. [] ++ t) (grid (g.width ∷ g.depth ∷ []) (turns (filled_flat g)))) → out ≡ flat_of (evm 2 (cells_where 2 (filled_flat g)))
unfolding filled_flat
image_done g out a d e =
    let ms : List ℕ = g.width ∷ g.depth ∷ [] in
    no_base out (grid ms (turns (filled_flat g))) e
    ∙ ap flat_of (vertices-grid 2 ms (filled_flat g) refl
    (and_both (int_le (pos g.width) (pos (limit 2))) (int_le (pos g.depth) (pos (limit 2)) && true) (size_fits 2 g.width a) (and_both (int_le (pos g.depth) (pos (limit 2))) true (size_fits 2 g.depth d) refl))
    (inside ms (λ c. marked_at g.marks.now g.pitch g.width (get_or c 0 0) 0 (get_or c 1 0))))
