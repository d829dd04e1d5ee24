-- Sections and couplets of what is inside a box.
use Rattle.std.proofs.Common.{◌≡◌, suc, ◌<ℤ◌, Bool, true, false, ◌&&◌, ◌∷◌, pos, ◌-ℤ◌, int_le, int_lt, refl, sym, ap, ap₂, ◌∙◌, arith}
use Rattle.std.proofs.lemmas.Int.{ints as int_facts}
use Rattle.evm_cells.specs.Places.{each, has, with_at}
use Rattle.evm_cells.specs.Limits.{is_cell, IsCellSet}
use Rattle.evm_cells.specs.Booleans.{xor_cells}
use Rattle.evm_cells.specs.Sections.{slice, couplet}
use Rattle.evm_cells.specs.Shapes.{clip}
use Rattle.evm_cells.proofs.Coords.{le_yes, lt_yes, lt_is}
use Rattle.evm_cells.proofs.Universe.{same_sets, member_passes}
use Rattle.evm_cells.proofs.Slices.{has-slice_of, cell_of_with_at, cell_set-slice}
use Rattle.evm_cells.specs.Windows.{SliceOfClip, CoupletOfClip}
use Rattle.evm_cells.proofs.Insides.{cell_set-clip, has-clip_of, clip_of_xor}

-- one place: s tells whether the whole has it
place_of : (s w u a b p q : Bool) → (s ≡ true → w ≡ true) → (s ≡ true → u ≡ true) → p ≡ true → q ≡ true → (s && (w && ((p && a) && (q && b)))) ≡ (s && (u && (a && b)))
place_of false w u a b p q f g h k = refl
place_of true w u a b p q f g h k = ap₂ (λ x y. x && y) (f refl) (ap₂ (λ x y. (x && a) && (y && b)) h k) ∙ sym (ap (λ x. x && (a && b)) (g refl))

pub slice_of_clip : SliceOfClip
unfolding each with_at
slice_of_clip n l h k lo hi S s below above =
    let p : IsCellSet n (slice n 0 k (clip (suc n) (l ∷ lo) (h ∷ hi) S)) = cell_set-slice n 0 k (clip (suc n) (l ∷ lo) (h ∷ hi) S) in
    let q : IsCellSet n (clip n lo hi (slice n 0 k S)) = cell_set-clip n lo hi (slice n 0 k S) in
    same_sets (slice n 0 k (clip (suc n) (l ∷ lo) (h ∷ hi) S)) (clip n lo hi (slice n 0 k S)) p.ascends q.ascends
    (λ c. has-slice_of n 0 k (clip (suc n) (l ∷ lo) (h ∷ hi) S) c (cell_set-clip (suc n) (l ∷ lo) (h ∷ hi) S)
    ∙ has-clip_of (suc n) (l ∷ lo) (h ∷ hi) S (k ∷ c) s
    ∙ place_of (has S (k ∷ c)) (is_cell (suc n) (k ∷ c)) (is_cell n c) (each int_le lo c) (each int_lt c hi) (int_le l k) (int_lt k h)
    (λ m. member_passes (is_cell (suc n)) S (k ∷ c) s.cells m)
    (λ m. let (a, b) = cell_of_with_at n 0 k c (member_passes (is_cell (suc n)) S (k ∷ c) s.cells m) in b) below above
    ∙ sym (has-clip_of n lo hi (slice n 0 k S) c (cell_set-slice n 0 k S) ∙ ap (λ t. t && (is_cell n c && (each int_le lo c && each int_lt c hi))) (has-slice_of n 0 k S c s)))

pub couplet_of_clip : CoupletOfClip
unfolding couplet
couplet_of_clip n l h k lo hi S s below above =
    let b : l <ℤ k = lt_is l k below in
    let a : k <ℤ h = lt_is k h above in
    ap₂ (λ X Y. xor_cells n X Y)
    (slice_of_clip n l h (k -ℤ pos 1) lo hi S s (le_yes l (k -ℤ pos 1) (omega (arith, int_facts, b))) (lt_yes (k -ℤ pos 1) h (omega (arith, int_facts, a))))
    (slice_of_clip n l h k lo hi S s (le_yes l k (omega (arith, int_facts, b))) above)
    ∙ sym (clip_of_xor n lo hi (slice n 0 (k -ℤ pos 1) S) (slice n 0 k S) (cell_set-slice n 0 (k -ℤ pos 1) S) (cell_set-slice n 0 k S))
