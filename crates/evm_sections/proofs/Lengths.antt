-- The length of a line as the number of its filled places, and what a change does to it
use Rattle.std.proofs.Common.{◌≡◌, ℕ, zero, suc, ◌+◌, ◌*◌, Bool, true, false, cond, ◌&&◌, List, [], ◌∷◌, length, sum_by, ℤ, pos, negsuc, neg_ℤ, ◌-ℤ◌, ◌+ℤ◌, ◌<ℤ◌, ◌≤ℤ◌, refl, sym, ap, ap₂, ◌∙◌, arith, zero-add, suc-add, mul-suc}
use Rattle.std.specs.Prelude.{unsigned_abs, if◌then◌else◌}
use Rattle.std.proofs.lemmas.Int.{ints as int_facts}
use Rattle.std.proofs.lemmas.List.Sums.{sum_by-cons}
use Rattle.evm_cells.specs.Places.{has, with_at}
use Rattle.evm_cells.specs.Limits.{limit, ints, tuples, cell_coords, every_cell}
use Rattle.evm_cells.specs.Sections.{slice}
use Rattle.evm_cells.specs.Booleans.{xor, combine, and_cells}
use Rattle.evm_cells.specs.Vertices.{cells, IsVertexList}
use Rattle.evm_cells.proofs.Universe.{cell_set-cells}
use Rattle.evm_cells.proofs.Layers.{content_by_sections}
use Rattle.evm_cells.proofs.Combine.{cell_set-combine}
use Rattle.evm_rows.specs.Rows.{xor_rows}
use Rattle.evm_rows.proofs.Bridge.{vertices-xor}
use Rattle.evm_sections.proofs.Sections.{bottom, bottom_is}
use Rattle.evm_sections.specs.Lines.{firsts}
use Rattle.evm_sections.proofs.Lines.{par, par-cells, par-xor, has-op}

-- 1 where it holds, else 0
abbrev pub bit : Bool → ℕ
bit true = 1
bit false = 0

-- how many places from `level` on are filled, of the next `high`
abbrev pub filled : (ℤ → Bool) → ℤ → ℕ → ℕ
filled G level high = sum_by (λ k. bit (G k)) (ints level high)

-- how many places of a line are filled
abbrev pub all_filled : (ℤ → Bool) → ℕ
all_filled G = sum_by (λ k. bit (G k)) (cell_coords 1)

-- ---- the length is the number of filled places

every_cell-zero : every_cell 0 ≡ [] ∷ []
unfolding every_cell tuples
every_cell-zero = refl

one_place : (S : List (List ℤ)) (k : ℤ) → length (slice 0 0 k S) ≡ bit (has S (k ∷ []))
unfolding slice with_at
one_place S k = rw every_cell-zero (at (has S (k ∷ [])))
  where
    at : (b : Bool) → length {A = List ℤ} (cond b ([] ∷ []) []) ≡ bit b
    at true = refl
    at false = refl

pub line_content : (V : List (List ℤ)) → IsVertexList 1 V → length (cells 1 V) ≡ all_filled (par (firsts V))
line_content V v =
    content_by_sections 0 (cells 1 V) (cell_set-cells 1 V)
    ∙ ap (λ f. sum_by f (cell_coords 1)) (λ i k. (one_place (cells 1 V) k ∙ ap bit (sym (par-cells V k v))) i)

bits : (p q : Bool) → bit (xor p q) + 2 * bit (p && q) ≡ bit p + bit q
unfolding xor
bits true true = refl
bits true false = refl
bits false true = refl
bits false false = refl

sum_both : (a b : ℤ → Bool) (xs : List ℤ) → sum_by (λ k. bit (xor (a k) (b k))) xs + 2 * sum_by (λ k. bit (a k && b k)) xs ≡ sum_by (λ k. bit (a k)) xs + sum_by (λ k. bit (b k)) xs
sum_both a b [] = refl
sum_both a b (x ∷ xs) =
    let c = sum_by-cons (λ k. bit (xor (a k) (b k))) x xs in
    let d = sum_by-cons (λ k. bit (a k && b k)) x xs in
    let e = sum_by-cons (λ k. bit (a k)) x xs in
    let f = sum_by-cons (λ k. bit (b k)) x xs in
    let r = sum_both a b xs in
    let h = bits (a x) (b x) in
    omega (arith, c, d, e, f, r, h)

-- the length of what two lines share
abbrev pub share_of : List (List ℤ) → List (List ℤ) → ℕ
share_of V C = length (and_cells 1 (cells 1 V) (cells 1 C))

-- what two lines share are the places that both fill
pub shared_places : (V C : List (List ℤ)) → IsVertexList 1 V → IsVertexList 1 C → share_of V C ≡ all_filled (λ k. par (firsts V) k && par (firsts C) k)
unfolding and_cells
shared_places V C v c =
    let S : List (List ℤ) = combine (λ a b. a && b) 1 (cells 1 V) (cells 1 C) in
    content_by_sections 0 S (cell_set-combine (λ a b. a && b) 1 (cells 1 V) (cells 1 C))
    ∙ ap (λ f. sum_by f (cell_coords 1)) (λ i k. (one_place S k ∙ ap bit (has-op (λ a b. a && b) V C k refl v c)) i)

-- the length after a change, and twice what the line and the change share, are both lengths
pub length_after : (V C : List (List ℤ)) → IsVertexList 1 V → IsVertexList 1 C
    → length (cells 1 (xor_rows 1 V C)) + 2 * share_of V C ≡ length (cells 1 V) + length (cells 1 C)
length_after V C v c =
    ap₂ (λ y z. y + 2 * z)
    (line_content (xor_rows 1 V C) (vertices-xor 1 V C) ∙ ap (λ f. sum_by f (cell_coords 1)) (λ i k. ap bit (par-xor V C k v c) i))
    (shared_places V C v c)
    ∙ sum_both (par (firsts V)) (par (firsts C)) (cell_coords 1)
    ∙ sym (ap₂ (λ x y. x + y) (line_content V v) (line_content C c))

-- ---- filled places from a place on

-- of the numbers from a on, the first d are alike
pub sum_run : (g : ℤ → ℕ) (a : ℤ) (d m v : ℕ) → ((k : ℤ) → a ≤ℤ k → k <ℤ (a +ℤ pos d) → g k ≡ v) → sum_by g (ints a (d + m)) ≡ v * d + sum_by g (ints (a +ℤ pos d) m)
unfolding ints
sum_run g a zero m v e =
    ap₂ (λ (j : ℕ) (z : ℤ). sum_by g (ints z j)) (zero-add m) (let q : a ≡ a +ℤ pos 0 = omega (arith, int_facts) in q) ∙ omega arith
sum_run g a (suc d) m v e =
    let h = sum_run g (a +ℤ pos 1) d m v (λ k x y. e k (omega (arith, int_facts)) (omega (arith, int_facts))) in
    let here : g a ≡ v = e a (omega (arith, int_facts)) (omega (arith, int_facts)) in
    ap (λ j. sum_by g (ints a j)) (suc-add d m)
    ∙ sum_by-cons g a (ints (a +ℤ pos 1) (d + m))
    ∙ ap₂ (λ x y. x + y) here h
    ∙ ap (λ z. v + (v * d + sum_by g (ints z m))) (let q : a +ℤ pos 1 +ℤ pos d ≡ a +ℤ pos (suc d) = omega (arith, int_facts) in q)
    ∙ omega (arith, mul-suc v d)

-- where none is filled up to `level`
pub from_low : (f : ℤ → ℕ) (level : ℤ) (high : ℕ) → ((k : ℤ) → k ≤ℤ level → f k ≡ 0) → bottom 1 ≤ℤ level → level +ℤ pos high ≡ pos (limit 1) → sum_by f (ints level high) ≡ sum_by f (cell_coords 1)
unfolding cell_coords ints
from_low f level high z low e = at (level -ℤ bottom 1) refl
  where
    under : bottom 1 ≡ neg_ℤ (pos (limit 1)) -ℤ pos 1
    under = bottom_is 1

    at : (d : ℤ) → level -ℤ bottom 1 ≡ d → sum_by f (ints level high) ≡ sum_by f (cell_coords 1)
    at (pos d) q =
        let u = under in
        let reach : bottom 1 +ℤ pos d ≡ level = omega (arith, int_facts) in
        let size : d + high ≡ suc (2 * limit 1) = omega (arith, int_facts) in
        let first : bottom 1 +ℤ pos 1 ≡ neg_ℤ (pos (limit 1)) = omega (arith, int_facts) in
        let long : sum_by f (ints (bottom 1) (d + high)) ≡ 0 * d + sum_by f (ints (bottom 1 +ℤ pos d) high) =
        sum_run f (bottom 1) d high 0 (λ k x y. z k (omega (arith, int_facts))) in
        let short : sum_by f (ints (bottom 1) (suc (2 * limit 1))) ≡ f (bottom 1) + sum_by f (ints (bottom 1 +ℤ pos 1) (2 * limit 1)) =
        sum_by-cons f (bottom 1) (ints (bottom 1 +ℤ pos 1) (2 * limit 1)) in
        let same : sum_by f (ints (bottom 1) (d + high)) ≡ sum_by f (ints (bottom 1) (suc (2 * limit 1))) = ap (λ j. sum_by f (ints (bottom 1) j)) size in
        let none : f (bottom 1) ≡ 0 = z (bottom 1) low in
        let left : sum_by f (ints (bottom 1 +ℤ pos d) high) ≡ sum_by f (ints level high) = ap (λ j. sum_by f (ints j high)) reach in
        let right : sum_by f (ints (bottom 1 +ℤ pos 1) (2 * limit 1)) ≡ sum_by f (ints (neg_ℤ (pos (limit 1))) (2 * limit 1)) = ap (λ j. sum_by f (ints j (2 * limit 1))) first in
        omega (arith, long, short, same, none, left, right)
    at (negsuc d) q = let u = under in absurd (omega (arith, int_facts))

-- where none is filled from `level` on
pub none_from : (f : ℤ → ℕ) (level : ℤ) (high : ℕ) → ((k : ℤ) → level ≤ℤ k → f k ≡ 0) → sum_by f (ints level high) ≡ 0
unfolding ints
none_from f level high z =
    let size : high ≡ high + 0 = omega arith in
    ap (λ j. sum_by f (ints level j)) size ∙ sum_run f level high 0 0 (λ k x y. z k x) ∙ omega arith

-- the places from `at` to the limit
abbrev pub room : ℤ → ℕ
room at = unsigned_abs (pos (limit 1) -ℤ at)

pub room_is : (at : ℤ) → at ≤ℤ pos (limit 1) → at +ℤ pos (room at) ≡ pos (limit 1)
room_is at l = by (pos (limit 1) -ℤ at) refl
  where
    by : (d : ℤ) → pos (limit 1) -ℤ at ≡ d → at +ℤ pos (unsigned_abs (pos (limit 1) -ℤ at)) ≡ pos (limit 1)
    by (pos d) e = rw e (omega (arith, int_facts))
    by (negsuc d) e = absurd (omega (arith, int_facts))

-- one stretch of places that are alike
pub stretch : (G : ℤ → Bool) (v : Bool) (level at : ℤ) (high total part all : ℕ) → level <ℤ at → at ≤ℤ pos (limit 1) → level +ℤ pos high ≡ pos (limit 1)
    → ((k : ℤ) → level ≤ℤ k → k <ℤ at → G k ≡ v) → part ≡ (if v then unsigned_abs (at -ℤ level) else 0)
    → total + filled G level high ≡ all → (total + part) + filled G at (room at) ≡ all
stretch G v level at high total part all up top reach alike is so_far = by (at -ℤ level) refl
  where
    far : at +ℤ pos (room at) ≡ pos (limit 1)
    far = room_is at top

    by : (d : ℤ) → at -ℤ level ≡ d → (total + part) + filled G at (room at) ≡ all
    by (pos d) e =
        let w = far in
        let t : level +ℤ pos d ≡ at = omega (arith, int_facts) in
        let size : d + room at ≡ high = omega (arith, int_facts) in
        let run : filled G level (d + room at) ≡ bit v * d + filled G (level +ℤ pos d) (room at) = sum_run (λ k. bit (G k)) level d (room at) (bit v) (λ k x y. ap bit (alike k x (omega (arith, int_facts)))) in
        let p : part ≡ bit v * d = is ∙ ap (λ z. if v then unsigned_abs z else 0) e ∙ worth v d in
        let a : filled G level (d + room at) ≡ filled G level high = ap (filled G level) size in
        let b : filled G (level +ℤ pos d) (room at) ≡ filled G at (room at) = ap (λ z. filled G z (room at)) t in
        omega (arith, run, p, a, b, so_far)
      where
        worth : (v : Bool) (d : ℕ) → (if v then d else 0) ≡ bit v * d
        worth true d = omega arith
        worth false d = omega arith
    by (negsuc d) e = absurd (omega (arith, int_facts))
