-- What a walk along a line and its change counts
use Rattle.std.proofs.Common.{◌≡◌, ℕ, suc, ◌+◌, ◌*◌, ◌^◌, ◌≤◌, Bool, true, false, ◌&&◌, Some, None, List, [], ◌∷◌, length, sum_by, ℤ, pos, ◌-ℤ◌, ◌+ℤ◌, ◌≤ℤ◌, refl, sym, ap, ap₂, ◌∙◌, arith, int_le, neg_ℤ, zero-add, ⊎_elim}
use Rattle.std.specs.Prelude.{unsigned_abs, unwrap_or, if◌then◌else◌}
use Rattle.std.specs.Ordering.{int_eq}
use Rattle.std.specs.List.{list_all}
use Rattle.std.proofs.lemmas.Bool.{cases_Bool}
use Rattle.std.proofs.lemmas.Int.{ints as int_facts}
use Rattle.std.proofs.lemmas.List.Sums.{sum_by-cons}
use Rattle.evm_cells.specs.Limits.{limit, cell_coords, is_point, is_point_coord}
use Rattle.evm_cells.specs.Vertices.{cells, IsVertexList}
use Rattle.evm_cells.proofs.Xor.{xor-false, and-false, and_first, and_second, and_both}
use Rattle.evm_cells.specs.Booleans.{xor}
use Rattle.evm_cells.proofs.Coords.{point_is}
use Rattle.evm_cells.proofs.Universe.{point_parts}
use Rattle.evm_rows.specs.Rows.{rows_of}
use Rattle.evm_rows.proofs.Bridge.{wide-points}
use Rattle.evm_sections.proofs.Sections.{bottom, bottom_is}
use Rattle.evm_sections.specs.Lines.{firsts, ones, head_of, past, least, LineRest, passed}
use Rattle.evm_sections.proofs.Lines.{par, par-nil, par-above, ones-firsts, rows_of-ones, all_lt, Ahead}
use Rattle.evm_sections.proofs.LineSteps.{firsts-numbers}
use Rattle.evm_sections.proofs.LineChanges.{least-le, even_end, no_head, Stepped, stepped}
use Rattle.evm_cells.proofs.Bounds.{length-ints}
use Rattle.evm_cells.proofs.Coords.{limit-small}
use Rattle.evm_sections.proofs.Lengths.{bit, filled, all_filled, room, room_is, stretch, from_low, none_from, line_content, share_of, shared_places}

-- low is the place that the program keeps; across and shared are the filled places of the change, and of both, that were passed
pub record Counting (A C : List ℤ) (low : ℤ) (a c : LineRest) (across shared : ℕ) : Type 0 where
  pub level : ℤ
  pub high : ℕ
  pub reach : level +ℤ pos high ≡ pos (limit 1)
  pub within : list_all (is_point_coord 1) c.left ≡ true
  pub at_a : Ahead (par A) level a.on a.left
  pub at_c : Ahead (par C) level c.on c.left
  pub placed : c.on ≡ true → low ≡ level
  pub crossed : across + filled (par C) level high ≡ all_filled (par C)
  pub met : shared + filled (λ k. par A k && par C k) level high ≡ all_filled (λ k. par A k && par C k)

-- the numbers of a vertex list are coordinates of points
pub points-firsts : (V : List (List ℤ)) → IsVertexList 1 V → list_all (is_point_coord 1) (firsts V) ≡ true
points-firsts V v = by (firsts V) (ap (list_all (is_point 1)) (ones-firsts V (wide-points 1 V v.points)) ∙ v.points)
  where
    by : (w : List ℤ) → list_all (is_point 1) (ones w) ≡ true → list_all (is_point_coord 1) w ≡ true
    by [] e = refl
    by (x ∷ w) e =
        let (l, p) = point_parts 1 (x ∷ []) (and_first (is_point 1 (x ∷ [])) (list_all (is_point 1) (ones w)) e) in
        and_both (is_point_coord 1 x) (list_all (is_point_coord 1) w) (and_first (is_point_coord 1 x) true p)
        (by w (and_second (is_point 1 (x ∷ [])) (list_all (is_point 1) (ones w)) e))

-- ---- the start

low_is : (low : ℤ) (C : List ℤ) → list_all (is_point_coord 1) C ≡ true → low ≡ unwrap_or (head_of C) (pos 0) → (neg_ℤ (pos (limit 1)) ≤ℤ low) × (low ≤ℤ pos (limit 1))
low_is low [] p e = (omega (arith, int_facts), omega (arith, int_facts))
low_is low (x ∷ C) p e =
    let (y, z) = point_is 1 x (and_first (is_point_coord 1 x) (list_all (is_point_coord 1) C) p) in
    (omega (arith, int_facts), omega (arith, int_facts))

pub counting_start : (A C : List ℤ) (low : ℤ) (a c : LineRest) → list_all (is_point_coord 1) C ≡ true → list_all (int_le low) C ≡ true → low ≡ unwrap_or (head_of C) (pos 0)
    → Ahead (par A) (low -ℤ pos 1) a.on a.left → Ahead (par C) (low -ℤ pos 1) c.on c.left → c.on ≡ false → c.left ≡ C
    → Counting A C low a c 0 0
counting_start A C low a c p f e sa sc off left =
    let (l, h) = low_is low C p e in
    let b = bottom_is 1 in
    let none : (k : ℤ) → k ≤ℤ (low -ℤ pos 1) → par C k ≡ false = λ k m. par-above C k (all_lt k low C (omega (arith, int_facts)) f) in
    let top : (low -ℤ pos 1) ≤ℤ pos (limit 1) = omega (arith, int_facts) in
    let bot : bottom 1 ≤ℤ (low -ℤ pos 1) = omega (arith, int_facts) in
    record {
      level = low -ℤ pos 1;
      high = room (low -ℤ pos 1);
      reach = room_is (low -ℤ pos 1) top;
      within = ap (list_all (is_point_coord 1)) left ∙ p;
      at_a = sa;
      at_c = sc;
      placed = λ t. let bad : false ≡ true = sym off ∙ t in cc;
      crossed = zero-add _ ∙ from_low (λ k. bit (par C k)) (low -ℤ pos 1) (room (low -ℤ pos 1)) (λ k m. ap bit (none k m)) bot (room_is (low -ℤ pos 1) top);
      met = zero-add _ ∙ from_low (λ k. bit (par A k && par C k)) (low -ℤ pos 1) (room (low -ℤ pos 1)) (λ k m. ap bit (ap (λ t. par A k && t) (none k m) ∙ and-false (par A k))) bot (room_is (low -ℤ pos 1) top);
    }

-- ---- a step

past-within : (h : ℤ) (w : List ℤ) → list_all (is_point_coord 1) w ≡ true → list_all (is_point_coord 1) (past h w) ≡ true
past-within h [] e = e
past-within h (x ∷ w) e = ⊎_elim
    (λ (t : int_eq x h ≡ true). rw t (and_second (is_point_coord 1 x) (list_all (is_point_coord 1) w) e))
    (λ (t : int_eq x h ≡ false). rw t e)
    (cases_Bool (int_eq x h))

head-within : (n : ℤ) (w : List ℤ) → list_all (is_point_coord 1) w ≡ true → Some n ≡ head_of w → n ≤ℤ pos (limit 1)
head-within n [] p e = cc
head-within n (x ∷ w) p e =
    let q : n ≡ x = cc in
    let (y, z) = point_is 1 x (and_first (is_point_coord 1 x) (list_all (is_point_coord 1) w) p) in
    omega (arith, int_facts)

-- the distance is the same from the place that the program keeps, where it counts
moved : (v : Bool) (low level at : ℤ) (p : ℕ) → (v ≡ true → low ≡ level) → p ≡ (if v then unsigned_abs (at -ℤ low) else 0) → p ≡ (if v then unsigned_abs (at -ℤ level) else 0)
moved true low level at p f e = e ∙ ap (λ z. unsigned_abs (at -ℤ z)) (f refl)
moved false low level at p f e = e

pub counting_more : (A C : List ℤ) (low n at : ℤ) (a c a' c' : LineRest) (across shared p q : ℕ)
    → Some n ≡ head_of c.left → at ≡ least n (head_of a.left) → a' ≡ passed at a → c' ≡ passed at c
    → p ≡ (if c.on then unsigned_abs (at -ℤ low) else 0) → q ≡ (if (a.on && c.on) then unsigned_abs (at -ℤ low) else 0)
    → Counting A C low a c across shared → Counting A C at a' c' (across + p) (shared + q)
counting_more A C low n at a c a' c' across shared p q first pick pa pc ep eq s =
    let l : ℤ = s.level in
    let t : Stepped A C l at a c a' c' = stepped A C l n at a c a' c' s.at_a s.at_c first pick pa pc in
    let at_n : at ≤ℤ n = rw pick (least-le n (head_of a.left)) in
    let n_top : n ≤ℤ pos (limit 1) = head-within n c.left s.within first in
    let top : at ≤ℤ pos (limit 1) = omega (arith, int_facts) in
    record {
      level = at;
      high = room at;
      reach = room_is at top;
      within = ap (λ (w : LineRest). list_all (is_point_coord 1) w.left) pc ∙ past-within at c.left s.within;
      at_a = t.at_a;
      at_c = t.at_c;
      placed = λ _. refl;
      crossed = stretch (par C) c.on l at s.high across p (all_filled (par C)) t.up top s.reach t.on_c (moved c.on low l at p s.placed ep) s.crossed;
      met = stretch (λ k. par A k && par C k) (a.on && c.on) l at s.high shared q (all_filled (λ k. par A k && par C k)) t.up top s.reach
          (λ k u v. ap₂ (λ x y. x && y) (t.on_a k u v) (t.on_c k u v)) (moved (a.on && c.on) low l at q (λ b. s.placed (and_second a.on c.on b)) eq) s.met;
    }

-- ---- the end

pub counting_done : (V C : List (List ℤ)) (low : ℤ) (a c : LineRest) (across shared : ℕ) → IsVertexList 1 V → IsVertexList 1 C → None ≡ head_of c.left
    → Counting (firsts V) (firsts C) low a c across shared
    → (across ≡ length (cells 1 C)) × (shared ≡ share_of V C)
counting_done V C low a c across shared v vc last s =
    let l : ℤ = s.level in
    let A : List ℤ = firsts V in
    let D : List ℤ = firsts C in
    let none : c.left ≡ [] = no_head c.left last in
    let off : c.on ≡ false = even_end C l c.on c.left vc s.at_c none in
    let still : (k : ℤ) → l ≤ℤ k → par D k ≡ false = λ k m. s.at_c.ahead k m ∙ ap₂ xor off (ap (λ r. par r k) none ∙ par-nil k) ∙ xor-false false in
    let no_more : filled (par D) l s.high ≡ 0 = none_from (λ k. bit (par D k)) l s.high (λ k m. ap bit (still k m)) in
    let no_both : filled (λ k. par A k && par D k) l s.high ≡ 0 = none_from (λ k. bit (par A k && par D k)) l s.high (λ k m. ap bit (ap (λ t. par A k && t) (still k m) ∙ and-false (par A k))) in
    let all : length (cells 1 C) ≡ all_filled (par D) = line_content C vc in
    let both : share_of V C ≡ all_filled (λ k. par A k && par D k) = shared_places V C v vc in
    let x = s.crossed in
    let y = s.met in
    (omega (arith, no_more, all, x), omega (arith, no_both, both, y))

-- ---- the counts are small

filled-small : (G : ℤ → Bool) (xs : List ℤ) → sum_by (λ k. bit (G k)) xs ≤ length xs
filled-small G [] = omega arith
filled-small G (x ∷ xs) =
    let a = sum_by-cons (λ k. bit (G k)) x xs in
    let b = filled-small G xs in
    let c : bit (G x) ≤ 1 = one (G x) in
    omega (arith, a, b, c)
  where
    one : (b : Bool) → bit b ≤ 1
    one true = omega arith
    one false = omega arith

all-small : (G : ℤ → Bool) → all_filled G ≤ 2 ^ 31
unfolding cell_coords
all-small G =
    let a : all_filled G ≤ length (cell_coords 1) = filled-small G (cell_coords 1) in
    let b : length (cell_coords 1) ≡ 2 * limit 1 = length-ints (neg_ℤ (pos (limit 1))) (2 * limit 1) in
    let m = limit-small 1 in
    omega (arith, a, b, m)

-- a line is no longer than all places
pub line-small : (V : List (List ℤ)) → IsVertexList 1 V → length (cells 1 V) ≤ 2 ^ 31
line-small V v = let a = line_content V v in let b = all-small (par (firsts V)) in omega (arith, a, b)

pub counting_small : (A C : List ℤ) (low : ℤ) (a c : LineRest) (across shared : ℕ) → Counting A C low a c across shared → (across ≤ 2 ^ 31) × (shared ≤ 2 ^ 31)
counting_small A C low a c across shared s =
    let x = s.crossed in
    let y = s.met in
    let u = all-small (par C) in
    let v = all-small (λ k. par A k && par C k) in
    (omega (arith, x, u), omega (arith, y, v))

-- a line has a row for each number
pub rows-many : (w : List ℤ) → length (rows_of w 1 0) ≡ length w
rows-many w = ap length (rows_of-ones w) ∙ by w
  where
    by : (w : List ℤ) → length (ones w) ≡ length w
    by [] = refl
    by (x ∷ w) = ap suc (by w)

-- and after a step, too
pub step_small : (A C : List ℤ) (low n at : ℤ) (a c : LineRest) (across shared p q : ℕ)
    → Some n ≡ head_of c.left → at ≡ least n (head_of a.left)
    → p ≡ (if c.on then unsigned_abs (at -ℤ low) else 0) → q ≡ (if (a.on && c.on) then unsigned_abs (at -ℤ low) else 0)
    → Counting A C low a c across shared → (across + p ≤ 2 ^ 31) × (shared + q ≤ 2 ^ 31)
step_small A C low n at a c across shared p q first pick ep eq s =
    counting_small A C at (passed at a) (passed at c) (across + p) (shared + q)
    (counting_more A C low n at a c (passed at a) (passed at c) across shared p q first pick refl refl ep eq s)

-- the same at the numbers of a line
pub counted_all : (w : List ℤ) (C : List (List ℤ)) (low : ℤ) (a c : LineRest) (across shared : ℕ) → IsVertexList 1 (rows_of w 1 0) → IsVertexList 1 C → None ≡ head_of c.left
    → Counting w (firsts C) low a c across shared
    → (across ≡ length (cells 1 C)) × (shared ≡ share_of (rows_of w 1 0) C)
counted_all w C low a c across shared v vc last s = counting_done (rows_of w 1 0) C low a c across shared v vc last (rw (firsts-numbers w) s)
