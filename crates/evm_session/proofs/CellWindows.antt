-- What a solid has in a box that begins at a cell tells whether it has the cell.
use Rattle.std.proofs.Common.{◌≡◌, ℕ, Bool, true, false, ◌&&◌, List, [], ◌∷◌, length, ℤ, int_le, int_lt, refl, sym, ap, ◌∙◌, ◌↔◌, ◌≤◌, take, arith}
use Rattle.std.proofs.lemmas.List.{length-take-le}
use Rattle.evm_formulas.proofs.Corners.{must_fit}
use Rattle.std.proofs.lemmas.Int.{ints}
use Rattle.evm_cells.specs.Places.{each, has}
use Rattle.evm_cells.specs.Limits.{is_cell, is_point}
use Rattle.evm_cells.specs.Boxes.{is_box}
use Rattle.evm_cells.specs.Shapes.{clip}
use Rattle.evm_cells.proofs.Coords.{le_yes}
use Rattle.evm_cells.proofs.Insides.{has-clip_of}
use Rattle.evm_cells.proofs.Universe.{cell_set-cells, cell_parts}
use Rattle.evm_cells.proofs.Xor.{and_second, and_both}
use Rattle.evm_rows.specs.Rows.{Vertices, cells_of}

pub cell_length : (n : ℕ) (c : List ℤ) → is_cell n c ≡ true → length c ≡ n
cell_length n c h = (cell_parts n c h).0

-- the box of a cell that was made is a box
pub box_there : (n : ℕ) (c end : List ℤ) (P : Type 0) → is_cell n c ≡ true → P ↔ (is_box (length c) c end ≡ false) → (P → ⊥) → is_box n c end ≡ true
box_there n c end P m h f = ap (λ (k : ℕ). is_box k c end) (sym (cell_length n c m)) ∙ must_fit (is_box (length c) c end) (λ e. f (h.1 e))

pub long_enough : (n m : ℕ) (c xs : List ℤ) → is_cell n c ≡ true → m ≡ n → n ≤ length xs → length (take m xs) ≡ length c
long_enough n m c xs h e l = ap (λ (k : ℕ). length (take k xs)) e ∙ length-take-le n xs l ∙ sym (cell_length n c h)

below_itself : (c : List ℤ) → each int_le c c ≡ true
unfolding each
below_itself [] = refl
below_itself (x ∷ c) = and_both (int_le x x) (each int_le c c) (le_yes x x (omega (arith, ints))) (below_itself c)

true_and : (b t : Bool) → t ≡ true → (b && t) ≡ b
true_and b t e = ap (λ u. b && u) e ∙ and_true b
  where
    and_true : (b : Bool) → (b && true) ≡ b
    and_true true = refl
    and_true false = refl

pub kept_inside : (v : Vertices) (c end : List ℤ) → is_cell v.dim c ≡ true → is_box v.dim c end ≡ true → has (clip v.dim c end (cells_of v)) c ≡ has (cells_of v) c
kept_inside v c end m b =
    has-clip_of v.dim c end (cells_of v) c (cell_set-cells v.dim v.rows)
    ∙ true_and (has (cells_of v) c) (is_cell v.dim c && (each int_le c c && each int_lt c end))
    (and_both (is_cell v.dim c) (each int_le c c && each int_lt c end) m
    (and_both (each int_le c c) (each int_lt c end) (below_itself c) (and_second (is_point v.dim c && is_point v.dim end) (each int_lt c end) b)))
