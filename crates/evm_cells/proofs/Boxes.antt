-- Boxes: their test, and that they are not empty.
use Rattle.std.proofs.Common.{◌≡◌, ◌≢◌, ℕ, Bool, true, false, ◌&&◌, List, [], ◌∷◌, ℤ, refl, sym, ap, ◌∙◌, ◌↔◌, arith, int_le, int_lt}
use Rattle.std.specs.List.{list_all}
use Rattle.std.proofs.lemmas.Bool.{true≢false, false≢true}
use Rattle.std.proofs.lemmas.Int.{ints as int_facts}
use Rattle.evm_cells.specs.Places.{has, each}
use Rattle.evm_cells.specs.Limits.{is_cell, is_point, is_cell_coord, is_point_coord, IsCellSet}
use Rattle.evm_cells.specs.Booleans.{xor, xor_cells}
use Rattle.evm_cells.specs.Boxes.{IsBox, is_box, box_cells}
use Rattle.evm_cells.proofs.Xor.{and_first, and_second, and_both}
use Rattle.evm_cells.proofs.Coords.{le_yes, lt_is, point_is, cell_yes}
use Rattle.evm_cells.proofs.Places.{has-any}
use Rattle.evm_cells.proofs.Universe.{point_parts, cell_from}
use Rattle.evm_cells.proofs.Combine.{has-xor_cells}
use Rattle.evm_cells.proofs.Corners.{cell_set-box, has-box_cells}

pub box_test : (n : ℕ) (lo hi : List ℤ) → (is_box n lo hi ≡ true) ↔ IsBox n lo hi
box_test n lo hi = (from, to)
  where
    from : is_box n lo hi ≡ true → IsBox n lo hi
    from h = record {
      low = and_first (is_point n lo) (is_point n hi) (and_first (is_point n lo && is_point n hi) (each int_lt lo hi) h);
      high = and_second (is_point n lo) (is_point n hi) (and_first (is_point n lo && is_point n hi) (each int_lt lo hi) h);
      room = and_second (is_point n lo && is_point n hi) (each int_lt lo hi) h;
    }

    to : IsBox n lo hi → is_box n lo hi ≡ true
    to b = and_both (is_point n lo && is_point n hi) (each int_lt lo hi) (and_both (is_point n lo) (is_point n hi) b.low b.high) b.room

cells_below : (n : ℕ) (lo hi : List ℤ) → list_all (is_point_coord n) lo ≡ true → list_all (is_point_coord n) hi ≡ true → each int_lt lo hi ≡ true → list_all (is_cell_coord n) lo ≡ true
unfolding each
cells_below n [] hi a b r = refl
cells_below n (x ∷ lo) [] a b r = absurd (false≢true r)
cells_below n (x ∷ lo) (y ∷ hi) a b r =
    let (p, q) = point_is n x (and_first (is_point_coord n x) (list_all (is_point_coord n) lo) a) in
    let (u, v) = point_is n y (and_first (is_point_coord n y) (list_all (is_point_coord n) hi) b) in
    let l = lt_is x y (and_first (int_lt x y) (each int_lt lo hi) r) in
    and_both (is_cell_coord n x) (list_all (is_cell_coord n) lo) (cell_yes n x p (omega (arith, int_facts)))
    (cells_below n lo hi (and_second (is_point_coord n x) (list_all (is_point_coord n) lo) a) (and_second (is_point_coord n y) (list_all (is_point_coord n) hi) b) (and_second (int_lt x y) (each int_lt lo hi) r))

not_below_itself : (lo : List ℤ) → each int_le lo lo ≡ true
unfolding each
not_below_itself [] = refl
not_below_itself (x ∷ lo) = and_both (int_le x x) (each int_le lo lo) (le_yes x x (omega (arith, int_facts))) (not_below_itself lo)

-- the low corner is a cell of the box
pub box_has_low : (n : ℕ) (lo hi : List ℤ) → IsBox n lo hi → has (box_cells n lo hi) lo ≡ true
box_has_low n lo hi b =
    let (e, p) = point_parts n lo b.low in
    let (f, q) = point_parts n hi b.high in
    has-box_cells n lo hi lo
    ∙ and_both (is_cell n lo) (each int_le lo lo && each int_lt lo hi) (cell_from n lo e (cells_below n lo hi p q b.room))
    (and_both (each int_le lo lo) (each int_lt lo hi) (not_below_itself lo) b.room)

pub box_not_empty : (n : ℕ) (lo hi : List ℤ) → IsBox n lo hi → (has (box_cells n lo hi) lo ≡ true) × (box_cells n lo hi ≢ [])
box_not_empty n lo hi b = (
  box_has_low n lo hi b,
  λ e. true≢false (sym (box_has_low n lo hi b) ∙ ap (λ T. has T lo) e ∙ has-any [] lo),
)

clash : (a : Bool) → a ≡ xor a true → ⊥
unfolding xor
clash true h = true≢false h
clash false h = false≢true h

-- to toggle a box changes what its low corner is
pub toggle_changes : (n : ℕ) (lo hi : List ℤ) (S : List (List ℤ)) → IsBox n lo hi → IsCellSet n S → xor_cells n S (box_cells n lo hi) ≢ S
toggle_changes n lo hi S b s e =
    clash (has S lo)
    (sym (ap (λ T. has T lo) e) ∙ has-xor_cells n S (box_cells n lo hi) lo s (cell_set-box n lo hi) ∙ ap (xor (has S lo)) (box_has_low n lo hi b))
