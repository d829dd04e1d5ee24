-- What the union of many cell sets has.
use Rattle.std.proofs.Common.{◌≡◌, ℕ, Bool, true, false, ◌&&◌, ◌||◌, List, [], ◌∷◌, ◌++◌, map, ℤ, refl, sym, ap, ap₂, ◌∙◌}
use Rattle.std.specs.List.{list_any}
use Rattle.std.specs.List.Sorted.{IsPermutation}
use Rattle.std.proofs.lemmas.List.Folds.{list_any-append}
use Rattle.std.proofs.lemmas.List.{map-append}
use Rattle.std.proofs.lemmas.List.Sorted.{list_any-IsPermutation, IsPermutation-map}
use Rattle.evm_cells.specs.Places.{has}
use Rattle.evm_cells.specs.Limits.{is_cell, IsCellSet}
use Rattle.evm_cells.specs.Booleans.{or_cells}
use Rattle.evm_cells.specs.Boxes.{box_cells}
use Rattle.evm_cells.specs.Vertices.{odd, evm, cells}
use Rattle.evm_cells.specs.Unions.{or_all, Ends, union_of, UnionIsCellSet, UnionByCells, UnionInAnyOrder, UnionOfUnions}
use Rattle.evm_cells.proofs.Combine.{has-combine, cell_set-combine, cell_set-filter}
use Rattle.evm_cells.proofs.Core.{cells-evm}
use Rattle.evm_cells.proofs.Corners.{cell_set-box}
use Rattle.evm_cells.proofs.Layers.{cells-empty}
use Rattle.evm_cells.proofs.Universe.{has-cells, same_sets, member_passes}

cell_set-or : (n : ℕ) (A B : List (List ℤ)) → IsCellSet n (or_cells n A B)
unfolding or_cells
cell_set-or n A B = cell_set-combine (λ a b. a || b) n A B

has-or : (n : ℕ) (A B : List (List ℤ)) (c : List ℤ) → has (or_cells n A B) c ≡ (is_cell n c && (has A c || has B c))
unfolding or_cells
has-or n A B c = has-combine (λ a b. a || b) n A B c

pub cell_set-or_all : UnionIsCellSet
unfolding or_all
cell_set-or_all n As = cell_set-filter n (λ c. list_any (λ A. has A c) As)

pub has-or_all : UnionByCells
unfolding or_all
has-or_all n As c = has-cells n (λ d. list_any (λ A. has A d) As) c

-- cell sets that have the same cells are equal
same_unions : (n : ℕ) (S T : List (List ℤ)) → IsCellSet n S → IsCellSet n T → ((c : List ℤ) → has S c ≡ has T c) → S ≡ T
same_unions n S T s t e = same_sets S T s.ascends t.ascends e

pub or_all-permuted : UnionInAnyOrder
or_all-permuted n As Bs h =
    same_unions n (or_all n Bs) (or_all n As) (cell_set-or_all n Bs) (cell_set-or_all n As)
    (λ c. has-or_all n Bs c ∙ ap (λ b. is_cell n c && b) (sym (list_any-IsPermutation (λ A. has A c) As Bs h)) ∙ sym (has-or_all n As c))

both_parts : (k a b : Bool) → (k && ((k && a) || (k && b))) ≡ (k && (a || b))
both_parts true a b = refl
both_parts false a b = refl

pub or_all-append : UnionOfUnions
or_all-append n As Bs =
    same_unions n (or_cells n (or_all n As) (or_all n Bs)) (or_all n (As ++ Bs)) (cell_set-or n (or_all n As) (or_all n Bs)) (cell_set-or_all n (As ++ Bs))
    (λ c. has-or n (or_all n As) (or_all n Bs) c
    ∙ ap₂ (λ a b. is_cell n c && (a || b)) (has-or_all n As c) (has-or_all n Bs c)
    ∙ both_parts (is_cell n c) (list_any (λ A. has A c) As) (list_any (λ A. has A c) Bs)
    ∙ ap (λ b. is_cell n c && b) (sym (list_any-append (λ A. has A c) As Bs))
    ∙ sym (has-or_all n (As ++ Bs) c))

-- ---- boxes

-- the cells of each box
abbrev boxes_cells : ℕ → List Ends → List (List (List ℤ))
boxes_cells n boxes = map (λ ends. box_cells n ends.lo ends.hi) boxes

pub cell_set-union : (n : ℕ) (boxes : List Ends) → IsCellSet n (union_of n boxes)
unfolding union_of
cell_set-union n boxes = cell_set-or_all n (boxes_cells n boxes)

-- the union of no boxes
pub no_boxes : (n : ℕ) → union_of n [] ≡ []
unfolding union_of or_all cells odd
no_boxes n = cells-empty n

or_none : (k a : Bool) → (a ≡ true → k ≡ true) → (k && (a || false)) ≡ a
or_none true true h = refl
or_none true false h = refl
or_none false true h = h refl
or_none false false h = refl

-- one box is its own union
pub one_box : (n : ℕ) (ends : Ends) → union_of n (ends ∷ []) ≡ box_cells n ends.lo ends.hi
unfolding union_of
one_box n ends =
    let A = box_cells n ends.lo ends.hi in
    let a = cell_set-box n ends.lo ends.hi in
    same_unions n (or_all n (A ∷ [])) A (cell_set-or_all n (A ∷ [])) a
    (λ c. has-or_all n (A ∷ []) c ∙ or_none (is_cell n c) (has A c) (λ m. member_passes (is_cell n) A c a.cells m))

-- the union of two lists of boxes
pub two_unions : (n : ℕ) (front back : List Ends) → or_cells n (union_of n front) (union_of n back) ≡ union_of n (front ++ back)
unfolding union_of
two_unions n front back =
    or_all-append n (boxes_cells n front) (boxes_cells n back)
    ∙ ap (or_all n) (sym (map-append (λ ends. box_cells n ends.lo ends.hi) front back))

-- the union of boxes in another order
pub union-permuted : (n : ℕ) (xs ys : List Ends) → IsPermutation xs ys → union_of n ys ≡ union_of n xs
unfolding union_of
union-permuted n xs ys h =
    or_all-permuted n (boxes_cells n xs) (boxes_cells n ys) (IsPermutation-map (λ ends. box_cells n ends.lo ends.hi) xs ys h)

-- the cells of the vertices of a union
pub union_cells : (n m : ℕ) (V : List (List ℤ)) (boxes : List Ends) → m ≡ n → V ≡ evm n (union_of n boxes) → cells m V ≡ union_of n boxes
union_cells n m V boxes d e = ap₂ cells d e ∙ cells-evm n (union_of n boxes) (cell_set-union n boxes)
