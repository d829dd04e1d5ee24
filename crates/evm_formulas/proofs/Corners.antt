-- The box that numbers state.
use Rattle.std.proofs.Common.{◌≡◌, ℕ, ◌*◌, ◌==◌, Bool, true, false, ◌&&◌, List, take, drop, length, ℤ, pos, neg_ℤ, int_lt, refl, sym, ap, ◌∙◌, subst, arith}
use Rattle.std.specs.List.{list_all}
use Rattle.std.proofs.lemmas.Bool.{false≢true}
use Rattle.std.proofs.lemmas.List.{take-append-drop, length-take-le}
use Rattle.std.proofs.lemmas.List.Folds.{list_all-append}
use Rattle.evm_cells.specs.Places.{each}
use Rattle.evm_cells.specs.Limits.{limit, is_point_coord, is_point}
use Rattle.evm_cells.specs.Vertices.{cells}
use Rattle.evm_cells.specs.Boxes.{is_box, box_cells}
use Rattle.evm_cells.proofs.Xor.{and_first, and_second, and_both}
use Rattle.evm_cells.proofs.Order.{refuted}
use Rattle.evm_rows.specs.Rows.{Vertices}
use Rattle.evm_model.specs.Figures.{Figure, box_of, box_fits}
use Rattle.evm_formulas.specs.Stated.{figure_of}
use Rattle.evm_script.specs.Coordinates.{is_between}
use Rattle.evm_formulas.proofs.Figures.{figure_with}

-- a box as a figure
box_figure : (s : Vertices) (lo hi : List ℤ) → s.dim ≡ length lo → cells s.dim s.rows ≡ box_cells (length lo) lo hi → figure_of s ≡ box_of lo hi
unfolding box_of
box_figure s lo hi d c = figure_with s (box_of lo hi) d c

-- numbers in the limits of points
pub between_points : (n : ℕ) (numbers : List ℤ) (low high : ℤ) → low ≡ neg_ℤ (pos (limit n)) → high ≡ pos (limit n) → list_all (is_between low high) numbers ≡ list_all (is_point_coord n) numbers
unfolding is_point_coord
between_points n numbers low high l h =
    ap (λ (x : ℤ). list_all (is_between x high) numbers) l ∙ ap (λ (x : ℤ). list_all (is_between (neg_ℤ (pos (limit n))) x) numbers) h

-- numbers past the limits are no corners of a box
pub no_box : (n : ℕ) (numbers : List ℤ) → length numbers ≡ 2 * n → list_all (is_point_coord n) numbers ≡ false → box_fits (take n numbers) (drop n numbers) ≡ false
unfolding box_fits is_point
no_box n numbers both out = refuted (box_fits lo hi) (λ h. false≢true (sym out ∙ within h))
  where
    lo : List ℤ
    lo = take n numbers

    hi : List ℤ
    hi = drop n numbers

    half : length lo ≡ n
    half = length-take-le n numbers (omega arith)

    front : is_box (length lo) lo hi ≡ true → is_point (length lo) lo && is_point (length lo) hi ≡ true
    front h = and_first (is_point (length lo) lo && is_point (length lo) hi) (each int_lt lo hi) h

    low : is_box (length lo) lo hi ≡ true → list_all (is_point_coord (length lo)) lo ≡ true
    low h = and_second (length lo == length lo) (list_all (is_point_coord (length lo)) lo) (and_first (is_point (length lo) lo) (is_point (length lo) hi) (front h))

    high : is_box (length lo) lo hi ≡ true → list_all (is_point_coord (length lo)) hi ≡ true
    high h = and_second (length hi == length lo) (list_all (is_point_coord (length lo)) hi) (and_second (is_point (length lo) lo) (is_point (length lo) hi) (front h))

    within : is_box (length lo) lo hi ≡ true → list_all (is_point_coord n) numbers ≡ true
    within h =
        ap (list_all (is_point_coord n)) (sym (take-append-drop n numbers))
        ∙ list_all-append (is_point_coord n) lo hi
        ∙ subst (λ (m : ℕ). list_all (is_point_coord m) lo && list_all (is_point_coord m) hi ≡ true) half (and_both (list_all (is_point_coord (length lo)) lo) (list_all (is_point_coord (length lo)) hi) (low h) (high h))

-- two corners, as the code cuts them
pub fits_by : (n : ℕ) (numbers lo hi : List ℤ) (b : Bool) → lo ≡ take n numbers → hi ≡ drop n numbers → is_box (length lo) lo hi ≡ b → box_fits (take n numbers) (drop n numbers) ≡ b
unfolding box_fits
fits_by n numbers lo hi b l h e =
    sym (ap (λ (x : List ℤ). is_box (length x) x hi) l ∙ ap (λ (y : List ℤ). is_box (length (take n numbers)) (take n numbers) y) h) ∙ e

pub box_by : (n : ℕ) (numbers lo hi : List ℤ) (s : Vertices) → lo ≡ take n numbers → hi ≡ drop n numbers → s.dim ≡ length lo → cells s.dim s.rows ≡ box_cells (length lo) lo hi → figure_of s ≡ box_of (take n numbers) (drop n numbers)
box_by n numbers lo hi s l h d c =
    box_figure s lo hi d c ∙ ap (λ (x : List ℤ). box_of x hi) l ∙ ap (λ (y : List ℤ). box_of (take n numbers) y) h

pub must_fit : (b : Bool) → (b ≡ false → ⊥) → b ≡ true
must_fit true h = refl
must_fit false h = absurd (h refl)

pub box_dim : (n : ℕ) (numbers : List ℤ) (s : Vertices) → length numbers ≡ 2 * n → figure_of s ≡ box_of (take n numbers) (drop n numbers) → s.dim ≡ n
unfolding box_of
box_dim n numbers s both e = ap (λ (f : Figure). f.dim) e ∙ length-take-le n numbers (omega arith)
