-- The cells within sizes, listed.
use Rattle.std.proofs.Common.{◌≡◌, ℕ, suc, Bool, true, false, cond, ◌&&◌, List, [], ◌∷◌, map, length, ℤ, pos, ◌+ℤ◌, ◌≤ℤ◌, ◌<ℤ◌, int_le, int_lt, refl, sym, ap, ap₂, ◌∙◌, arith}
use Rattle.std.specs.List.{list_any, list_all}
use Rattle.std.proofs.lemmas.Int.{ints as int_facts}
use Rattle.evm_cells.specs.Places.{same, each, has, before, ascending}
use Rattle.evm_cells.specs.Limits.{ints, limit, every_cell, cells_where, is_cell, is_cell_coord}
use Rattle.evm_cells.proofs.Xor.{and_first, and_second, and_both}
use Rattle.evm_cells.proofs.Order.{rising}
use Rattle.evm_cells.proofs.Coords.{any-ints, rising-ints, le_is, lt_is, cell_yes}
use Rattle.evm_cells.proofs.Places.{ascending-rising, has-any}
use Rattle.evm_cells.proofs.Layers.{rising_layers, any_layers, any_layers_none}
use Rattle.evm_cells.proofs.Universe.{same_sets, has-cells, ascending-filter, ascending-every_cell, absorb, cell_from}
use Rattle.evm_formats.specs.Images.{in_sizes, within, nat_of}
use Rattle.evm_formats.specs.VoxelLaws.{listed, CellsListed}

one_or_none : (b : Bool) → rising before (cond b ([] ∷ []) []) ≡ true
unfolding rising
one_or_none true = refl
one_or_none false = refl

pub rising-listed : (ms : List ℕ) (f : List ℤ → Bool) → rising before (listed ms f) ≡ true
unfolding listed
rising-listed [] f = one_or_none (f [])
rising-listed (m ∷ ms) f = rising_layers (λ x. listed ms (λ c. f (x ∷ c))) (ints (pos 0) m) (rising-ints (pos 0) m) (λ x. rising-listed ms (λ c. f (x ∷ c)))

any_one : (b : Bool) → list_any (same []) (cond b ([] ∷ []) []) ≡ b
unfolding same each
any_one true = refl
any_one false = refl

any_one_not : (b : Bool) (x : ℤ) (p : List ℤ) → list_any (same (x ∷ p)) (cond b ([] ∷ []) []) ≡ false
unfolding same each
any_one_not true x p = refl
any_one_not false x p = refl

and_assoc3 : (a b c : Bool) → (a && (b && c)) ≡ ((a && b) && c)
and_assoc3 true b c = refl
and_assoc3 false b c = refl

any-listed : (ms : List ℕ) (f : List ℤ → Bool) (p : List ℤ) → list_any (same p) (listed ms f) ≡ (in_sizes ms p && f p)
unfolding listed in_sizes
any-listed [] f [] = any_one (f [])
any-listed [] f (x ∷ p) = any_one_not (f []) x p
any-listed (m ∷ ms) f [] = any_layers_none (λ x. listed ms (λ c. f (x ∷ c))) (ints (pos 0) m)
any-listed (m ∷ ms) f (x ∷ p) =
    any_layers (λ x'. listed ms (λ c. f (x' ∷ c))) (ints (pos 0) m) x p
    ∙ ap₂ (λ a b. a && b) (any-ints x (pos 0) m ∙ ap (λ (z : ℤ). int_le (pos 0) x && int_lt x z) (let e : pos 0 +ℤ pos m ≡ pos m = omega (arith, int_facts) in e)) (any-listed ms (λ c. f (x ∷ c)) p)
    ∙ and_assoc3 (int_le (pos 0) x && int_lt x (pos m)) (in_sizes ms p) (f (x ∷ p))

pub has-listed : (ms : List ℕ) (f : List ℤ → Bool) (p : List ℤ) → has (listed ms f) p ≡ (in_sizes ms p && f p)
has-listed ms f p = has-any (listed ms f) p ∙ any-listed ms f p

pub ascending-listed : (ms : List ℕ) (f : List ℤ → Bool) → ascending (listed ms f) ≡ true
ascending-listed ms f = ascending-rising (listed ms f) ∙ rising-listed ms f

-- places within sizes that fit are cells
pub coords_in : (n : ℕ) (ms : List ℕ) (c : List ℤ) → list_all (λ m. int_le (pos m) (pos (limit n))) ms ≡ true → in_sizes ms c ≡ true → (length c ≡ length ms) × (list_all (is_cell_coord n) c ≡ true)
unfolding in_sizes
coords_in n [] [] a h = (refl, refl)
coords_in n [] (x ∷ c) a h = absurd (cc h)
coords_in n (m ∷ ms) [] a h = absurd (cc h)
coords_in n (m ∷ ms) (x ∷ c) a h =
    let k = and_first (int_le (pos 0) x && int_lt x (pos m)) (in_sizes ms c) h in
    let (l, b) = coords_in n ms c (and_second (int_le (pos m) (pos (limit n))) (list_all (λ m. int_le (pos m) (pos (limit n))) ms) a) (and_second (int_le (pos 0) x && int_lt x (pos m)) (in_sizes ms c) h) in
    let u : pos 0 ≤ℤ x = le_is (pos 0) x (and_first (int_le (pos 0) x) (int_lt x (pos m)) k) in
    let v : x <ℤ pos m = lt_is x (pos m) (and_second (int_le (pos 0) x) (int_lt x (pos m)) k) in
    let w : pos m ≤ℤ pos (limit n) = le_is (pos m) (pos (limit n)) (and_first (int_le (pos m) (pos (limit n))) (list_all (λ m. int_le (pos m) (pos (limit n))) ms) a) in
    (ap suc l, and_both (is_cell_coord n x) (list_all (is_cell_coord n) c) (cell_yes n x (omega (arith, int_facts)) (omega (arith, int_facts))) b)

and_twice : (a b : Bool) → (a && b) ≡ (a && (a && b))
and_twice true b = refl
and_twice false b = refl

pub cells_listed : CellsListed
unfolding within
cells_listed n ms test l a =
    same_sets (cells_where n (within ms test)) (listed ms (within ms test)) (ascending-filter (within ms test) (every_cell n) (ascending-every_cell n)) (ascending-listed ms (within ms test))
    (λ c. has-cells n (within ms test) c
    ∙ absorb (is_cell n c) (in_sizes ms c && test (map nat_of c))
    (λ k. let (e, b) = coords_in n ms c a (and_first (in_sizes ms c) (test (map nat_of c)) k) in cell_from n c (e ∙ l) b)
    ∙ and_twice (in_sizes ms c) (test (map nat_of c))
    ∙ sym (has-listed ms (within ms test) c))
