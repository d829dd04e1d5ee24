-- Cells and points as lists of numbers between two ends.
use Rattle.std.proofs.Common.{◌≡◌, ℕ, Bool, ◌&&◌, ◌==◌, List, length, ℤ, pos, neg_ℤ, ◌-ℤ◌, ◌≤ℤ◌, ◌<ℤ◌, sym, ap, ap₂, ◌∙◌, arith, int_le, int_lt, eq-eqb, eqb-true}
use Rattle.std.specs.List.{list_all}
use Rattle.std.proofs.lemmas.Int.{ints as int_facts}
use Rattle.evm_cells.specs.Limits.{limit, is_cell, is_point, is_cell_coord, is_point_coord}
use Rattle.evm_cells.proofs.Order.{same_tests, refuted}
use Rattle.evm_cells.proofs.Coords.{le_yes, lt_yes, le_is, lt_is}

below_limit : (x m : ℤ) → int_le x (m -ℤ pos 1) ≡ int_lt x m
below_limit x m = same_tests (int_le x (m -ℤ pos 1)) (int_lt x m)
    (λ e. lt_yes x m (let l : x ≤ℤ (m -ℤ pos 1) = le_is x (m -ℤ pos 1) e in omega (arith, int_facts)))
    (λ e. le_yes x (m -ℤ pos 1) (let l : x <ℤ m = lt_is x m e in omega (arith, int_facts)))

pub cell-between : (n : ℕ) (c : List ℤ) (low high : ℤ) (b : Bool) → length c ≡ n → low ≡ neg_ℤ (pos (limit n)) → high ≡ pos (limit n) -ℤ pos 1
    → b ≡ list_all (λ x. int_le low x && int_le x high) c → b ≡ is_cell n c
unfolding is_cell is_cell_coord
cell-between n c low high b e f g h =
    h ∙ ap₂ (λ l m. list_all (λ x. int_le l x && int_le x m) c) f g
    ∙ ap (λ t. list_all t c) (λ i x. int_le (neg_ℤ (pos (limit n))) x && below_limit x (pos (limit n)) i)
    ∙ ap (λ t. t && list_all (λ x. int_le (neg_ℤ (pos (limit n))) x && int_lt x (pos (limit n))) c) (sym (eq-eqb (length c) n e))

pub point-between : (n : ℕ) (p : List ℤ) (low high : ℤ) (b : Bool) → length p ≡ n → low ≡ neg_ℤ (pos (limit n)) → high ≡ pos (limit n)
    → b ≡ list_all (λ x. int_le low x && int_le x high) p → b ≡ is_point n p
unfolding is_point is_point_coord
point-between n p low high b e f g h =
    h ∙ ap₂ (λ l m. list_all (λ x. int_le l x && int_le x m) p) f g
    ∙ ap (λ t. t && list_all (λ x. int_le (neg_ℤ (pos (limit n))) x && int_le x (pos (limit n))) p) (sym (eq-eqb (length p) n e))

-- a list of another length is neither
pub cell_other : (n : ℕ) (c : List ℤ) → (length c ≡ n → ⊥) → (length c == n) ≡ is_cell n c
unfolding is_cell
cell_other n c h = let e = refuted (length c == n) (λ q. h (eqb-true (length c) n q)) in e ∙ ap (λ t. t && list_all (is_cell_coord n) c) (sym e)

pub point_other : (n : ℕ) (p : List ℤ) → (length p ≡ n → ⊥) → (length p == n) ≡ is_point n p
unfolding is_point
point_other n p h = let e = refuted (length p == n) (λ q. h (eqb-true (length p) n q)) in e ∙ ap (λ t. t && list_all (is_point_coord n) p) (sym e)
