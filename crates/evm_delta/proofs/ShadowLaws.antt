-- A projection changes only where some cell of the change stands over it.
use Rattle.std.proofs.Common.{◌≡◌, ℕ, suc, ◌<◌, Bool, true, false, ◌&&◌, List, [], ◌∷◌, ℤ, int_eq, refl, sym, ap, ap₂, ◌∙◌, ⊎_elim}
use Rattle.std.specs.List.{list_any}
use Rattle.std.proofs.lemmas.Bool.{true≢false, false≢true, or_cases, or_left, or_right}
use Rattle.evm_cells.specs.Places.{has, with_at}
use Rattle.evm_cells.specs.Limits.{cell_coords, is_cell, IsCellSet}
use Rattle.evm_cells.specs.Booleans.{xor, xor_cells}
use Rattle.evm_cells.specs.Sections.{slice}
use Rattle.evm_cells.specs.Shapes.{proj}
use Rattle.evm_cells.proofs.Xor.{and_both, xor-false, xor_self}
use Rattle.evm_cells.proofs.Order.{refuted}
use Rattle.evm_cells.proofs.Coords.{eq_is, any-cell_coords}
use Rattle.evm_cells.proofs.Universe.{same_sets, has-cells, member_passes}
use Rattle.evm_cells.proofs.Combine.{cell_set-xor, has-xor_cells}
use Rattle.evm_cells.proofs.Slices.{has-slice_of, cell_of_with_at}
use Rattle.evm_cells.proofs.Lifts.{proj_of_sections, cell_set-proj}

-- a number of a list that passes
any_found : (f : ℤ → Bool) (xs : List ℤ) (k : ℤ) → f k ≡ true → list_any (int_eq k) xs ≡ true → list_any f xs ≡ true
any_found f [] k h m = absurd (false≢true m)
any_found f (x ∷ xs) k h m = ⊎_elim
    (λ e. or_left (f x) (list_any f xs) (ap f (sym (eq_is k x e)) ∙ h))
    (λ e. or_right (f x) (list_any f xs) (any_found f xs k h e))
    (or_cases (int_eq k x) (list_any (int_eq k) xs) m)

-- a cell of a projection has a height at which a cell stands over it
pub has-proj : (n i : ℕ) (S : List (List ℤ)) (c : List ℤ) → i < suc n → IsCellSet (suc n) S → has (proj n i S) c ≡ (is_cell n c && list_any (λ k. has S (with_at i k c)) (cell_coords (suc n)))
has-proj n i S c l s =
    ap (λ X. has X c) (proj_of_sections n i S l s)
    ∙ has-cells n (λ d. list_any (λ k. has (slice n i k S) d) (cell_coords (suc n))) c
    ∙ ap (λ f. is_cell n c && list_any f (cell_coords (suc n))) (λ j k. has-slice_of n i k S c s j)

-- two cell sets with the same cells over a place
same_over : (n i : ℕ) (S T : List (List ℤ)) (c : List ℤ) → i < suc n → IsCellSet (suc n) S → IsCellSet (suc n) T
    → (is_cell n c ≡ true → (k : ℤ) → has S (with_at i k c) ≡ has T (with_at i k c)) → has (proj n i S) c ≡ has (proj n i T) c
same_over n i S T c l s t e =
    has-proj n i S c l s
    ∙ both (is_cell n c) (list_any (λ k. has S (with_at i k c)) (cell_coords (suc n))) (list_any (λ k. has T (with_at i k c)) (cell_coords (suc n)))
    (λ h. ap (λ f. list_any f (cell_coords (suc n))) (λ j k. e h k j))
    ∙ sym (has-proj n i T c l t)
  where
    both : (p x y : Bool) → (p ≡ true → x ≡ y) → (p && x) ≡ (p && y)
    both true x y f = f refl
    both false x y f = refl

-- a cell stands over its projection
over : (n i : ℕ) (S : List (List ℤ)) (c : List ℤ) (k : ℤ) → i < suc n → IsCellSet (suc n) S → is_cell n c ≡ true → has S (with_at i k c) ≡ true → has (proj n i S) c ≡ true
over n i S c k l s h m =
    let (a, b) = cell_of_with_at n i k c (member_passes (is_cell (suc n)) S (with_at i k c) s.cells m) in
    has-proj n i S c l s
    ∙ and_both (is_cell n c) (list_any (λ z. has S (with_at i z c)) (cell_coords (suc n))) h
    (any_found (λ z. has S (with_at i z c)) (cell_coords (suc n)) k m (any-cell_coords (suc n) k ∙ a))

-- a solid R that has what A has over the projection of the change: the projection of A changes as that of R does
pub shadow_change : (n i : ℕ) (A R D : List (List ℤ)) → i < suc n → IsCellSet (suc n) A → IsCellSet (suc n) R → IsCellSet (suc n) D
    → ((c : List ℤ) (k : ℤ) → has (proj n i D) c ≡ true → has R (with_at i k c) ≡ has A (with_at i k c))
    → xor_cells n (proj n i R) (proj n i (xor_cells (suc n) R D)) ≡ xor_cells n (proj n i A) (proj n i (xor_cells (suc n) A D))
shadow_change n i A R D l s r d kept =
    let x : IsCellSet n (xor_cells n (proj n i R) (proj n i RD)) = cell_set-xor n (proj n i R) (proj n i RD) in
    let y : IsCellSet n (xor_cells n (proj n i A) (proj n i AD)) = cell_set-xor n (proj n i A) (proj n i AD) in
    same_sets (xor_cells n (proj n i R) (proj n i RD)) (xor_cells n (proj n i A) (proj n i AD)) x.ascends y.ascends
    (λ c. has-xor_cells n (proj n i R) (proj n i RD) c (cell_set-proj n i R) (cell_set-proj n i RD)
    ∙ at c (has (proj n i D) c) refl
    ∙ sym (has-xor_cells n (proj n i A) (proj n i AD) c (cell_set-proj n i A) (cell_set-proj n i AD)))
  where
    RD : List (List ℤ)
    RD = xor_cells (suc n) R D

    AD : List (List ℤ)
    AD = xor_cells (suc n) A D

    -- nothing of the change stands over the place
    untouched : (X : List (List ℤ)) (c : List ℤ) → IsCellSet (suc n) X → has (proj n i D) c ≡ false → has (proj n i (xor_cells (suc n) X D)) c ≡ has (proj n i X) c
    untouched X c x e =
        same_over n i (xor_cells (suc n) X D) X c l (cell_set-xor (suc n) X D) x
        (λ h k. has-xor_cells (suc n) X D (with_at i k c) x d
        ∙ ap (xor (has X (with_at i k c))) (refuted (has D (with_at i k c)) (λ m. true≢false (sym (over n i D c k l d h m) ∙ e)))
        ∙ xor-false (has X (with_at i k c)))

    at : (c : List ℤ) (t : Bool) → has (proj n i D) c ≡ t → xor (has (proj n i R) c) (has (proj n i RD) c) ≡ xor (has (proj n i A) c) (has (proj n i AD) c)
    at c true e =
        ap₂ xor
        (same_over n i R A c l r s (λ h k. kept c k e))
        (same_over n i RD AD c l (cell_set-xor (suc n) R D) (cell_set-xor (suc n) A D)
        (λ h k. has-xor_cells (suc n) R D (with_at i k c) r d
        ∙ ap (λ z. xor z (has D (with_at i k c))) (kept c k e)
        ∙ sym (has-xor_cells (suc n) A D (with_at i k c) s d)))
    at c false e =
        ap (xor (has (proj n i R) c)) (untouched R c r e) ∙ xor_self (has (proj n i R) c)
        ∙ sym (ap (xor (has (proj n i A) c)) (untouched A c s e) ∙ xor_self (has (proj n i A) c))
