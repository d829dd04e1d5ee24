-- Answers to questions, as the model states them.
use Rattle.std.proofs.Common.{◌≡◌, ℕ, ◌==◌, Bool, true, false, ◌&&◌, cond, List, length, ℤ, pos, neg_ℤ, ◌-ℤ◌, int_le, int_lt, codes, decimal, ◌++◌, refl, ap, ◌∙◌, arith}
use Rattle.std.specs.List.{list_all}
use Rattle.std.proofs.lemmas.Bool.Decides.{Decides-eqb}
use Rattle.std.proofs.lemmas.Int.{ints}
use Rattle.evm_cells.specs.Places.{has}
use Rattle.evm_cells.specs.Limits.{limit, is_cell_coord, is_point_coord, is_cell, is_point}
use Rattle.evm_cells.specs.Vertices.{cells}
use Rattle.evm_cells.specs.Measures.{content, boundary, is_inside, is_outside}
use Rattle.evm_cells.proofs.Coords.{lt_yes, lt_is, le_yes, le_is}
use Rattle.evm_cells.proofs.Order.{same_tests}
use Rattle.evm_cells.proofs.Xor.{and_both}
use Rattle.evm_rows.specs.Rows.{Vertices}
use Rattle.evm_member.specs.Place.{place_of}
use Rattle.evm_member.specs.declared.outcome.Place.TheVariants as places
use Rattle.evm_model.specs.Figures as figures
use Rattle.evm_model.specs.Replies.{Measured, line_of, reply_text}
use Rattle.evm_formulas.specs.Stated.{figure_of}
use Rattle.evm_script.specs.Coordinates.{is_between}
use Rattle.evm_session.specs.Questions.{place_view}

pub measured_text : (n : ℕ) → line_of (codes "ok " ++ decimal n) ≡ reply_text (Measured n)
unfolding reply_text
measured_text n = refl

pub content_found : (v : Vertices) (n : ℕ) → n ≡ content (cells v.dim v.rows) → n ≡ figures.content_of (figure_of v)
unfolding figures.content_of
content_found v n e = e

pub boundary_found : (v : Vertices) (n : ℕ) → n ≡ boundary v.dim (cells v.dim v.rows) → n ≡ figures.boundary_of (figure_of v)
unfolding figures.boundary_of
boundary_found v n e = e

pub filled_found : (v : Vertices) (cell : List ℤ) (b : Bool) → b ≡ has (cells v.dim v.rows) cell → b ≡ figures.fills (figure_of v) cell
unfolding figures.fills
filled_found v cell b e = e

-- the places of a point in the two wordings
pub place_found : (v : Vertices) (point : List ℤ) → place_view (place_of v.dim (cells v.dim v.rows) point) ≡ figures.place_of (figure_of v) point
unfolding place_of figures.place_of
place_found v point =
    by_tests (is_inside v.dim (cells v.dim v.rows) point) (is_outside (cells v.dim v.rows) point)
  where
    by_tests : (inside outside : Bool) → place_view (cond inside places.Inside (cond outside places.Outside places.Boundary)) ≡ cond inside figures.Inside (cond outside figures.Outside figures.Boundary)
    by_tests true outside = refl
    by_tests false true = refl
    by_tests false false = refl

-- numbers in the limits of cells
pub below_next : (x m : ℤ) → int_le x (m -ℤ pos 1) ≡ int_lt x m
below_next x m =
    same_tests (int_le x (m -ℤ pos 1)) (int_lt x m)
    (λ h. lt_yes x m (omega (arith, ints, le_is x (m -ℤ pos 1) h)))
    (λ h. le_yes x (m -ℤ pos 1) (omega (arith, ints, lt_is x m h)))

pub between_cells : (n : ℕ) (numbers : List ℤ) (low high : ℤ) → low ≡ neg_ℤ (pos (limit n)) → high ≡ pos (limit n) -ℤ pos 1 → list_all (is_between low high) numbers ≡ list_all (is_cell_coord n) numbers
unfolding is_cell_coord
between_cells n numbers low high l h =
    ap (λ (x : ℤ). list_all (is_between x high) numbers) l
    ∙ ap (λ (x : ℤ). list_all (is_between (neg_ℤ (pos (limit n))) x) numbers) h
    ∙ ap (λ (t : ℤ → Bool). list_all t numbers) (λ i x. int_le (neg_ℤ (pos (limit n))) x && below_next x (pos (limit n)) i)

-- numbers in the limits of points
pub between_points : (n : ℕ) (numbers : List ℤ) (low high : ℤ) → low ≡ neg_ℤ (pos (limit n)) → high ≡ pos (limit n) → list_all (is_between low high) numbers ≡ list_all (is_point_coord n) numbers
unfolding is_point_coord
between_points n numbers low high l h =
    ap (λ (x : ℤ). list_all (is_between x high) numbers) l ∙ ap (λ (x : ℤ). list_all (is_between (neg_ℤ (pos (limit n))) x) numbers) h

-- coordinates that are as many as the dimension, and in the limits
pub is_a_cell : (n m : ℕ) (numbers place : List ℤ) → place ≡ numbers → length numbers ≡ n → m ≡ n → list_all (is_cell_coord n) numbers ≡ true → is_cell m place ≡ true
unfolding is_cell
is_a_cell n m numbers place p k e h =
    ap (λ (x : ℕ). is_cell x place) e ∙ ap (is_cell n) p
    ∙ and_both (length numbers == n) (list_all (is_cell_coord n) numbers) ((Decides-eqb (length numbers) n).1 k) h

pub is_a_point : (n m : ℕ) (numbers place : List ℤ) → place ≡ numbers → length numbers ≡ n → m ≡ n → list_all (is_point_coord n) numbers ≡ true → is_point m place ≡ true
unfolding is_point
is_a_point n m numbers place p k e h =
    ap (λ (x : ℕ). is_point x place) e ∙ ap (is_point n) p
    ∙ and_both (length numbers == n) (list_all (is_point_coord n) numbers) ((Decides-eqb (length numbers) n).1 k) h
