-- The numbers of the two corners of a box.
use Rattle.std.proofs.Common.{◌≡◌, ℕ, zero, suc, Bool, true, false, ◌&&◌, List, [], ◌∷◌, take, drop, ℤ, pos, neg_ℤ, int_lt, refl, sym, ap₂, ◌∙◌}
use Rattle.std.specs.List.{list_all}
use Rattle.evm_cells.specs.Places.{each}
use Rattle.evm_cells.specs.Limits.{is_point, is_point_coord, limit}
use Rattle.evm_cells.specs.Boxes.{is_box}
use Rattle.evm_script.specs.Coordinates.{is_between}
use Rattle.std.proofs.lemmas.Bool.{true≢false}
use Rattle.evm_cells.proofs.Xor.{and_first, and_second, and_both}
use Rattle.evm_cells.proofs.Universe.{point_parts}

all_parts : (p : ℤ → Bool) (n : ℕ) (xs : List ℤ) → list_all p (take n xs) ≡ true → list_all p (drop n xs) ≡ true → list_all p xs ≡ true
all_parts p n [] a b = refl
all_parts p zero (x ∷ xs) a b = b
all_parts p (suc n) (x ∷ xs) a b =
    and_both (p x) (list_all p xs) (and_first (p x) (list_all p (take n xs)) a) (all_parts p n xs (and_second (p x) (list_all p (take n xs)) a) b)

-- each number of the corners of a box is a coordinate of points
pub corner_points : (n : ℕ) (nums : List ℤ) → is_box n (take n nums) (drop n nums) ≡ true → list_all (is_point_coord n) nums ≡ true
corner_points n nums h =
    let both : (is_point n (take n nums) && is_point n (drop n nums)) ≡ true = and_first (is_point n (take n nums) && is_point n (drop n nums)) (each int_lt (take n nums) (drop n nums)) h in
    let low = point_parts n (take n nums) (and_first (is_point n (take n nums)) (is_point n (drop n nums)) both) in
    let high = point_parts n (drop n nums) (and_second (is_point n (take n nums)) (is_point n (drop n nums)) both) in
    all_parts (is_point_coord n) n nums low.1 high.1

-- so none is past the limits
pub none_outside : (n : ℕ) (nums : List ℤ) (lo hi : ℤ) → lo ≡ neg_ℤ (pos (limit n)) → hi ≡ pos (limit n) → is_box n (take n nums) (drop n nums) ≡ true → list_all (is_between lo hi) nums ≡ false → ⊥
unfolding is_point_coord
none_outside n nums lo hi a b h f =
    true≢false (sym (corner_points n nums h) ∙ sym (ap₂ (λ l u. list_all (is_between l u) nums) a b) ∙ f)
