-- The body of a cell set is that of its extreme vertices, and its counts fit 32 bits.
use Rattle.std.proofs.Common.{◌≡◌, ℕ, zero, suc, ◌+◌, ◌*◌, ◌^◌, ◌<◌, ◌≤◌, Bool, true, false, not, List, [], ◌∷◌, ◌++◌, map, filter, flat_map, length, ℤ, pos, ⊎_elim, refl, ap, ap₂, ◌∙◌, arith}
use Rattle.std.specs.List.{AllByRecursion}
use Rattle.std.specs.Ordering.{int_eq}
use Rattle.std.proofs.lemmas.Bool.{cases_Bool}
use Rattle.std.proofs.lemmas.List.{length-map}
use Rattle.byteorder.specs.Endian.{big_bytes}
use Rattle.evm_cells.specs.Limits.{IsCellSet, limit, point_coords}
use Rattle.evm_cells.specs.Vertices.{evm, cells, IsVertexList}
use Rattle.evm_cells.specs.Places.{is_empty}
use Rattle.evm_cells.specs.Sections.{couplet, cuts}
use Rattle.std.specs.Prelude.{neg_ℤ}
use Rattle.evm_cells.proofs.Bounds.{length-ints}
use Rattle.evm_cells.proofs.Core.{vertices-evm, cells-evm}
use Rattle.evm_cells.proofs.Slices.{cell_set-couplet}
use Rattle.evm_sections.specs.Couplets.{couplets_of, couplets_in, put_row}
use Rattle.evm_sections.proofs.Heights.{heights, couplets_are, cuts-heights}
use Rattle.evm_formats.specs.FirstFile.{field}
use Rattle.evm_formats.specs.Nested.{body}
use Rattle.evm_formats.specs.RowBodies.{items, row_body}
use Rattle.evm_formats.proofs.Limits.{limit_small}

-- ---- cell sets

over_cuts : (n : ℕ) (S : List (List ℤ)) → ((h : ℤ) → row_body n (evm n (couplet n 0 h S)) ≡ body n (couplet n 0 h S)) → (hs : List ℤ)
    → items (row_body n) (map (λ h. (h, evm n (couplet n 0 h S))) hs) ≡ flat_map (λ h. field h ++ body n (couplet n 0 h S)) hs
over_cuts n S e [] = refl
over_cuts n S e (h ∷ hs) = ap₂ (λ (a b : List ℕ). (field h ++ a) ++ b) (e h) (over_cuts n S e hs)

pub row_body-evm : (n : ℕ) (S : List (List ℤ)) → IsCellSet n S → row_body n (evm n S) ≡ body n S
unfolding row_body body couplets_in
row_body-evm zero S s = refl
row_body-evm (suc n) S s =
    let V = evm (suc n) S in
    let at : couplets_of V ≡ map (λ h. (h, evm n (couplet n 0 h S))) (cuts n 0 S) = couplets_are n V (vertices-evm (suc n) S s) ∙ ap (couplets_in n) (cells-evm (suc n) S s) in
    ap (λ (cs : List (ℤ × List (List ℤ))). big_bytes 4 (length cs) ++ items (row_body n) cs) at
    ∙ ap₂ (λ (k : ℕ) (xs : List ℕ). big_bytes 4 k ++ xs) (length-map (cuts n 0 S) (λ h. (h, evm n (couplet n 0 h S))))
    (over_cuts n S (λ h. row_body-evm n (couplet n 0 h S) (cell_set-couplet n 0 h S)) (cuts n 0 S))

-- ---- counts

length-heights : (cs : List (ℤ × List (List ℤ))) → length (heights cs) ≡ length cs
length-heights [] = refl
length-heights ((h, c) ∷ cs) = ap suc (length-heights cs)

length-filter-le : {X : Type 0} (p : X → Bool) (xs : List X) → length (filter p xs) ≤ length xs
length-filter-le p [] = omega arith
length-filter-le p (x ∷ xs) =
    let h = length-filter-le p xs in
    ⊎_elim (λ (t : p x ≡ true). rw t (omega (arith, h))) (λ (t : p x ≡ false). rw t (omega (arith, h))) (cases_Bool (p x))

few_cuts : (n : ℕ) (S : List (List ℤ)) → length (cuts n 0 S) < 256 ^ 4
unfolding cuts point_coords
few_cuts n S =
    let l = limit_small (suc n) in
    omega (arith, l, length-filter-le (λ h. not (is_empty (couplet n 0 h S))) (point_coords (suc n)), length-ints (neg_ℤ (pos (limit (suc n)))) (2 * limit (suc n) + 1))

pub few_couplets : (n : ℕ) (V : List (List ℤ)) → IsVertexList (suc n) V → length (couplets_of V) < 256 ^ 4
few_couplets n V v = omega (arith, few_cuts n (cells (suc n) V), ap length (cuts-heights n V v) ∙ length-heights (couplets_of V))

-- ---- no couplet is empty

-- there is a row
pub record HasRow (V : List (List ℤ)) : Type 0 where
  pub first : List ℤ
  pub others : List (List ℤ)
  pub are : V ≡ first ∷ others

abbrev pub AllHaveRows : List (ℤ × List (List ℤ)) → Type 0
AllHaveRows = AllByRecursion (λ p. HasRow p.1)

row_put : (h : ℤ) (r : List ℤ) (cs : List (ℤ × List (List ℤ))) → AllHaveRows cs → AllHaveRows (put_row h r cs)
row_put h r [] a = (record { first = r; others = []; are = refl }, tt)
row_put h r ((k, c) ∷ cs) a = ⊎_elim
    (λ (t : int_eq h k ≡ true). rw t (record { first = r; others = c; are = refl }, a.1))
    (λ (t : int_eq h k ≡ false). rw t (record { first = r; others = []; are = refl }, a))
    (cases_Bool (int_eq h k))

pub couplets_have_rows : (V : List (List ℤ)) → AllHaveRows (couplets_of V)
unfolding couplets_of
couplets_have_rows [] = tt
couplets_have_rows ([] ∷ V) = couplets_have_rows V
couplets_have_rows ((h ∷ r) ∷ V) = row_put h r (couplets_of V) (couplets_have_rows V)
