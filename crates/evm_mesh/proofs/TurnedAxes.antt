-- Cell sets turned so that an axis is the first.
use Rattle.std.proofs.Common.{◌≡◌, ℕ, zero, suc, ◌+◌, ◌<◌, not, List, [], ◌∷◌, length, get_or, set, filter, flat_map, ℤ, pos, ◌-ℤ◌, refl, sym, ap, subst, ◌∙◌, arith}
use Rattle.std.specs.Prelude.{swap}
use Rattle.std.proofs.lemmas.List.Edits.{swap_is}
use Rattle.evm_cells.specs.Places.{has, with_at, is_empty}
use Rattle.evm_cells.specs.Limits.{is_cell, is_cell_coord, point_coords, IsCellSet}
use Rattle.evm_cells.specs.Booleans.{xor_cells}
use Rattle.evm_cells.specs.Sections.{cuts, couplet, slice}
use Rattle.evm_cells.specs.Shapes.{swap_axes}
use Rattle.evm_cells.proofs.Universe.{cell_parts, cell_from, has-cells, guarded, member_passes, same_sets}
use Rattle.evm_cells.proofs.Slices.{has-slice_of, cell_set-slice, length-with_at, all-with_at}
use Rattle.evm_formats.specs.FaceText.{Face, faces_along}
use Rattle.evm_mesh.specs.Sheets.{faces_between, first_faces}

-- R is S with axis i put first
pub record Turned (i : ℕ) (S R : List (List ℤ)) : Type 0 where
  pub places : (k : ℤ) (c : List ℤ) → has R (k ∷ c) ≡ has S (with_at i k c)

pub turned_first : (S : List (List ℤ)) → Turned 0 S S
unfolding with_at
turned_first S = record { places = λ k c. refl }

-- the coordinate before goes behind
shifted : (i : ℕ) (k : ℤ) (c : List ℤ) → i < length c → with_at i (get_or c i (pos 0)) (set c i k) ≡ with_at (suc i) k c
unfolding with_at
shifted i k [] l = absurd (omega arith)
shifted zero k (x ∷ c) l = refl
shifted (suc i) k (x ∷ c) l = ap (λ t. x ∷ t) (shifted i k c (omega arith))

-- the first axis and the next that was not first change places
pub turned_next : (m i a : ℕ) (S R : List (List ℤ)) → suc i ≡ a → a < m → IsCellSet m S → Turned i S R → Turned a S (swap_axes m 0 a R)
unfolding swap_axes
turned_next m i a S R e l h t = subst (λ (j : ℕ). Turned j S (swap_axes m 0 j R)) e (record { places = λ k c. next k c })
  where
    next : (k : ℤ) (c : List ℤ) → has (swap_axes m 0 (suc i) R) (k ∷ c) ≡ has S (with_at (suc i) k c)
    next k c =
        has-cells m (λ d. has R (swap d 0 (suc i))) (k ∷ c)
        ∙ guarded (is_cell m (k ∷ c)) (has R (swap (k ∷ c) 0 (suc i))) (has S (with_at (suc i) k c))
        (λ p. let (n, q) = cell_parts m (k ∷ c) p in
        let inside : i < length c = omega arith in
        ap (has R) (sym (swap_is (k ∷ c) 0 (suc i) (pos 0) (omega arith) (omega arith)))
        ∙ t.places (get_or c i (pos 0)) (set c i k) ∙ ap (has S) (shifted i k c inside))
        (λ p. let (n, q) = cell_parts m (with_at (suc i) k c) (member_passes (is_cell m) S (with_at (suc i) k c) h.cells p) in
        cell_from m (k ∷ c) (sym (length-with_at (suc i) k c) ∙ n) (sym (all-with_at (is_cell_coord m) (suc i) k c) ∙ q))

turned_slice : (n i : ℕ) (S R : List (List ℤ)) (h : ℤ) → IsCellSet (suc n) S → IsCellSet (suc n) R → Turned i S R → slice n 0 h R ≡ slice n i h S
unfolding with_at
turned_slice n i S R h s r t =
    let a : IsCellSet n (slice n 0 h R) = cell_set-slice n 0 h R in
    let b : IsCellSet n (slice n i h S) = cell_set-slice n i h S in
    same_sets (slice n 0 h R) (slice n i h S) a.ascends b.ascends
    (λ c. has-slice_of n 0 h R c r ∙ at c ∙ sym (has-slice_of n i h S c s))
  where
    at : (c : List ℤ) → has R (with_at 0 h c) ≡ has S (with_at i h c)
    at c = t.places h c

-- the faces between the sections at heights, by the sections
faces_by : ℕ → ℕ → (ℤ → List (List ℤ)) → List Face
faces_by n i at = flat_map (λ h. faces_between n i h (at (h -ℤ pos 1)) (at h)) (filter (λ h. not (is_empty (xor_cells n (at (h -ℤ pos 1)) (at h)))) (point_coords (suc n)))

along_by : (n i : ℕ) (S : List (List ℤ)) → faces_along n S i ≡ faces_by n i (λ h. slice n i h S)
unfolding faces_by cuts couplet
along_by n i S = refl

first_by : (n i : ℕ) (R : List (List ℤ)) → first_faces n R i ≡ faces_by n i (λ h. slice n 0 h R)
unfolding faces_by cuts couplet
first_by n i R = refl

-- the faces across the first axis are those across the axis that was put first
pub turned_faces : (m n i : ℕ) (S R : List (List ℤ)) → n + 1 ≡ m → IsCellSet m S → IsCellSet m R → Turned i S R → first_faces n R i ≡ faces_along n S i
turned_faces m n i S R e s r t =
    let q : m ≡ suc n = omega arith in
    let a : IsCellSet (suc n) S = subst (λ (j : ℕ). IsCellSet j S) q s in
    let b : IsCellSet (suc n) R = subst (λ (j : ℕ). IsCellSet j R) q r in
    let same : (h : ℤ) → slice n 0 h R ≡ slice n i h S = λ h. turned_slice n i S R h a b t in
    first_by n i R ∙ ap (faces_by n i) (λ j h. same h j) ∙ sym (along_by n i S)
