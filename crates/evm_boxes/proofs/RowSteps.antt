-- A box row that is filled axis by axis.
use Rattle.std.proofs.Common.{◌≡◌, ℕ, ◌+◌, ◌*◌, ◌<◌, ◌≤◌, Bool, true, false, ◌&&◌, List, [], ◌∷◌, ◌++◌, ℤ, pos, length, take, drop, set, get_or, sym, ap, ap₂, ◌∙◌, arith}
use Rattle.std.proofs.lemmas.List.{take_more, take_more_set, take_all, length-take, length-drop}
use Rattle.evm_cells.specs.Boxes.{is_box}
use Rattle.evm_rows.proofs.BoxTests.{sides_pass, side_passes, sides_start, sides-drop, sides_end}
use Rattle.evm_boxes.specs.BoxRows.{ends_of, IsBoxOf}
use Rattle.evm_boxes.specs.declared.BoxRow.{BoxRow}

-- one coordinate more is copied
pub copied_more : (to from : List ℤ) (i : ℕ) (x : ℤ) → i < length to → i < length from → x ≡ get_or from i (pos 0)
    → take i to ≡ take i from → take (i + 1) (set to i x) ≡ take (i + 1) from
copied_more to from i x t f v e =
    take_more_set to i x t ∙ ap₂ (λ (xs : List ℤ) (y : ℤ). xs ++ y ∷ []) e v ∙ sym (take_more from i (pos 0) f)

-- how long the two halves are
pub half_lengths : (n : ℕ) (from lows highs : List ℤ) → length from ≡ 2 * n → lows ≡ take n from → highs ≡ drop n from → (length lows ≡ n) × (length highs ≡ n)
half_lengths n from lows highs size l h =
    (ap length l ∙ omega (arith, length-take n from), ap length h ∙ omega (arith, length-drop n from))

pub halves_start : (n : ℕ) (from lows highs : List ℤ) → length from ≡ 2 * n → lows ≡ take n from → highs ≡ drop n from → is_box n lows highs ≡ sides_pass n lows highs
halves_start n from lows highs size l h =
    let lengths = half_lengths n from lows highs size l h in
    sides_start n lows highs lengths.0 lengths.1

-- one side more has passed
pub side_passed : (n i : ℕ) (lows highs : List ℤ) → i < length lows → i < length highs → side_passes n (get_or lows i (pos 0)) (get_or highs i (pos 0)) ≡ true
    → is_box n lows highs ≡ sides_pass n (drop i lows) (drop i highs) → is_box n lows highs ≡ sides_pass n (drop (i + 1) lows) (drop (i + 1) highs)
side_passed n i lows highs l h good e =
    e ∙ sides-drop n i lows highs (pos 0) l h ∙ ap (λ (b : Bool). b && sides_pass n (drop (i + 1) lows) (drop (i + 1) highs)) good

-- a side has not
pub side_failed : (n i : ℕ) (from lows highs : List ℤ) → i < length lows → i < length highs → lows ≡ take n from → highs ≡ drop n from
    → side_passes n (get_or lows i (pos 0)) (get_or highs i (pos 0)) ≡ false
    → is_box n lows highs ≡ sides_pass n (drop i lows) (drop i highs) → is_box n (take n from) (drop n from) ≡ false
side_failed n i from lows highs l h f g bad e =
    ap₂ (is_box n) (sym f) (sym g)
    ∙ e ∙ sides-drop n i lows highs (pos 0) l h ∙ ap (λ (b : Bool). b && sides_pass n (drop (i + 1) lows) (drop (i + 1) highs)) bad

-- all sides have passed, and are copied
pub row_done : (n i : ℕ) (row : BoxRow) (from lows highs : List ℤ) → i ≡ n → length from ≡ 2 * n → lows ≡ take n from → highs ≡ drop n from
    → is_box n lows highs ≡ sides_pass n (drop i lows) (drop i highs) → row.dim ≡ n → take i row.lo ≡ take i lows → take i row.hi ≡ take i highs
    → IsBoxOf n from row
row_done n i row from lows highs all size l h box d lo hi =
    let lengths = half_lengths n from lows highs size l h in
    let few : length lows ≤ i = omega arith in
    let few_high : length highs ≤ i = omega arith in
    let low : take row.dim row.lo ≡ lows = ap (λ (m : ℕ). take m row.lo) (d ∙ sym all) ∙ lo ∙ take_all i lows few in
    let high : take row.dim row.hi ≡ highs = ap (λ (m : ℕ). take m row.hi) (d ∙ sym all) ∙ hi ∙ take_all i highs few_high in
    let is : is_box n (ends_of row).lo (ends_of row).hi ≡ true = ap₂ (is_box n) low high ∙ box ∙ sides_end n i lows highs few few_high in
    record { box = record { dim = d; box = is }; ends = λ k. record { lo = (low ∙ l) k; hi = (high ∙ h) k } }
