-- The cells that images fill are a cell set.
use Rattle.std.proofs.Common.{◌≡◌, ℕ, ◌⊎◌, Bool, true, false, cond, ◌&&◌, List, [], ◌∷◌, map, filter, ℤ, pos, int_le, int_lt, ◌≤ℤ◌, ◌<ℤ◌, Ok, Err, refl, sym, ap, ◌∙◌, subst, ⊎_elim, arith}
use Rattle.std.specs.Prelude.{Result, IfOk}
use Rattle.evm_cells.specs.Limits.{IsCellSet, every_cell}
use Rattle.std.proofs.lemmas.Int.{ints as int_facts}
use Rattle.evm_cells.proofs.Xor.{and_first, and_second}
use Rattle.evm_cells.proofs.Order.{refuted}
use Rattle.evm_cells.proofs.Coords.{le_is, lt_is}
use Rattle.evm_cells.proofs.Combine.{cell_set-filter}
use Rattle.evm_formats.specs.Images.{Picture, at_least, nat_of, in_sizes, within, of_three, in_image, in_stack, cells_of_images, map_ok, then_ok}
use Rattle.evm_formats.specs.Pgm.{image_at, images_from, shot_cells, pgm_cells}
use Rattle.evm_formats.specs.Y4m.{stream, frames_of, stream_cells, y4m_cells}

pub cell_set-images : (n threshold w h : ℕ) (images : List Picture) → (n ≡ 2) ⊎ (n ≡ 3) → IsCellSet n (cells_of_images n threshold w h images)
cell_set-images n threshold w h images d =
    ⊎_elim
    (λ (e : n ≡ 2). subst (λ (m : ℕ). IsCellSet m (cells_of_images m threshold w h images)) (sym e) (cell_set-filter 2 (in_image threshold w h images)))
    (λ (e : n ≡ 3). subst (λ (m : ℕ). IsCellSet m (cells_of_images m threshold w h images)) (sym e) (cell_set-filter 3 (in_stack threshold w h images))) d

and_none : (b : Bool) → (b && false) ≡ false
and_none true = refl
and_none false = refl

below_none : (z : ℤ) → (int_le (pos 0) z && int_lt z (pos 0)) ≡ false
below_none z =
    refuted (int_le (pos 0) z && int_lt z (pos 0))
    (λ h. let a : pos 0 ≤ℤ z = le_is (pos 0) z (and_first (int_le (pos 0) z) (int_lt z (pos 0)) h) in
    let b : z <ℤ pos 0 = lt_is z (pos 0) (and_second (int_le (pos 0) z) (int_lt z (pos 0)) h) in
    omega (arith, int_facts))

none_pass : (f : List ℤ → Bool) → ((c : List ℤ) → f c ≡ false) → (S : List (List ℤ)) → filter f S ≡ []
none_pass f h [] = refl
none_pass f h (c ∷ S) = ap (λ b. cond b (c ∷ filter f S) (filter f S)) (h c) ∙ none_pass f h S

no_depth : (w h : ℕ) (c : List ℤ) → in_sizes (w ∷ h ∷ 0 ∷ []) c ≡ false
unfolding in_sizes
no_depth w h [] = refl
no_depth w h (x ∷ []) = and_none (int_le (pos 0) x && int_lt x (pos w))
no_depth w h (x ∷ y ∷ []) = ap (λ b. (int_le (pos 0) x && int_lt x (pos w)) && b) (and_none (int_le (pos 0) y && int_lt y (pos h))) ∙ and_none (int_le (pos 0) x && int_lt x (pos w))
no_depth w h (x ∷ y ∷ z ∷ c) =
    ap (λ b. (int_le (pos 0) x && int_lt x (pos w)) && ((int_le (pos 0) y && int_lt y (pos h)) && (b && in_sizes [] c))) (below_none z)
    ∙ ap (λ b. (int_le (pos 0) x && int_lt x (pos w)) && b) (and_none (int_le (pos 0) y && int_lt y (pos h))) ∙ and_none (int_le (pos 0) x && int_lt x (pos w))

-- no images fill no cells
pub no_images : (threshold w h : ℕ) → cells_of_images 3 threshold w h [] ≡ []
unfolding in_stack within
no_images threshold w h =
    none_pass (in_stack threshold w h []) (λ c. ap (λ b. b && of_three (at_least threshold w []) (map nat_of c)) (no_depth w h c)) (every_cell 3)

mapped : {A E : Type 0} (n : ℕ) (f : A → List (List ℤ)) (r : Result A E) → ((a : A) → IsCellSet n (f a)) → IfOk (map_ok f r) (λ S. IsCellSet n S)
mapped n f (Ok a) h = h a
mapped n f (Err e) h = tt

then : {A E : Type 0} (n : ℕ) (f : A → Result (List (List ℤ)) E) (r : Result A E) → ((a : A) → IfOk (f a) (λ S. IsCellSet n S)) → IfOk (then_ok r f) (λ S. IsCellSet n S)
then n f (Ok a) h = h a
then n f (Err e) h = tt

-- the cells that a PGM file states are a cell set
pub cell_set-pgm : (n threshold : ℕ) (bs : List ℕ) → (n ≡ 2) ⊎ (n ≡ 3) → IfOk (pgm_cells n threshold bs) (λ S. IsCellSet n S)
unfolding pgm_cells
cell_set-pgm n threshold bs d =
    then n (shot_cells n threshold) (image_at n 0 _ bs) (λ s. mapped n (cells_of_images n threshold s.width s.height) (images_from n s) (λ ps. cell_set-images n threshold s.width s.height ps d))

-- and those that a Y4M stream states
pub cell_set-y4m : (n threshold : ℕ) (bs : List ℕ) → (n ≡ 2) ⊎ (n ≡ 3) → IfOk (y4m_cells n threshold bs) (λ S. IsCellSet n S)
unfolding y4m_cells
cell_set-y4m n threshold bs d =
    then n (stream_cells n threshold) (stream n bs) (λ s. mapped n (cells_of_images n threshold s.width s.height) (frames_of n s) (λ ps. cell_set-images n threshold s.width s.height ps d))
