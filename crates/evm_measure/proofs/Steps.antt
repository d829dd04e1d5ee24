-- The steps of the loops
use Rattle.std.proofs.Common.{◌≡◌, ℕ, ◌+◌, ◌-◌, ◌*◌, ◌^◌, ◌<◌, ◌≤◌, Bool, true, false, not, List, [], ◌∷◌, length, ℤ, ◌-ℤ◌, refl, sym, ap, ◌∙◌, arith, Some}
use Rattle.std.specs.Prelude.{unsigned_abs}
use Rattle.evm_cells.specs.Vertices.{cells, IsVertexList}
use Rattle.evm_cells.specs.Measures.{content}
use Rattle.evm_rows.specs.Rows.{AreRows, rows_of, xor_rows}
use Rattle.std.specs.Prelude.{if◌then◌else◌}
use Rattle.evm_cells.specs.Booleans.{xor}
use Rattle.evm_sections.proofs.Lengths.{share_of, length_after}
use Rattle.evm_sections.proofs.Counting.{line-small}
use Rattle.evm_sections.specs.Couplets.{first_height, rest_of, AreSingle, mark}
use Rattle.evm_sections.proofs.Zero.{xor_rows-mark, cells-mark}
use Rattle.evm_measure.proofs.Sums.{slab_sum}

-- what the loops over couplets keep of the dimensions: those of the section, of the walk and of the view
pub record IsLevel (section walk n : ℕ) : Type 0 where
  pub some : 0 < section
  pub dims : walk ≡ section
  pub deep : section + 1 ≡ n

-- they begin so for a view of dimension 2 or more
pub level_start : (n section walk : ℕ) → 1 < n → section ≡ n - 1 → walk + 1 ≡ n → IsLevel section walk n
level_start n section walk deep s w = record { some = omega arith; dims = omega arith; deep = omega arith }

pub slab_more : (n : ℕ) (low h : ℤ) (s c t : List (List ℤ)) (left later : List (ℤ × List (List ℤ))) (total part all : ℕ) → left ≡ (h, c) ∷ later → part ≡ length (cells n s) → t ≡ xor_rows n s c
    → total + slab_sum content n low s left ≡ all → (total + part * unsigned_abs (h -ℤ low)) + slab_sum content n h t later ≡ all
slab_more n low h s c t left later total part all e p g so_far =
    let f : total + (length (cells n s) * unsigned_abs (h -ℤ low) + slab_sum content n h (xor_rows n s c) later) ≡ all = rw e at so_far in
    rw (g, p) (sym (add_assoc total (length (cells n s) * unsigned_abs (h -ℤ low)) (slab_sum content n h (xor_rows n s c) later)) ∙ f)
  where
    add_assoc : (a b c : ℕ) → a + (b + c) ≡ (a + b) + c
    add_assoc a b c = omega arith

pub slab_done : (n : ℕ) (low : ℤ) (s : List (List ℤ)) (left : List (ℤ × List (List ℤ))) (total all : ℕ) → left ≡ [] → total + slab_sum content n low s left ≡ all → total ≡ all
slab_done n low s left total all e so_far =
    let f : total + 0 ≡ all = rw e at so_far in omega arith

-- the length of a line after a change, by the one before it, that of the change, and that of what both share
pub record LongAfter (now : List ℤ) (C : List (List ℤ)) (long across shared : ℕ) : Type 0 where
  pub law : length (cells 1 (xor_rows 1 (rows_of now 1 0) C)) + 2 * shared ≡ long + across
  pub long_small : long ≤ 2 ^ 31
  pub across_small : across ≤ 2 ^ 31

pub long_after : (line now : List ℤ) (n : ℕ) (C : List (List ℤ)) (long across shared : ℕ) → now ≡ line → AreRows line 1 0 → n ≡ 1 → IsVertexList n C
    → long ≡ length (cells 1 (rows_of line 1 0)) → across ≡ length (cells 1 C) → shared ≡ share_of (rows_of now 1 0) C
    → LongAfter now C long across shared
long_after line now n C long across shared same rows one vn e f g =
    let V : List (List ℤ) = rows_of line 1 0 in
    let v : IsVertexList 1 V = rows.vertices in
    let vc : IsVertexList 1 C = rw one at vn in
    let law : length (cells 1 (xor_rows 1 V C)) + 2 * share_of V C ≡ length (cells 1 V) + length (cells 1 C) = length_after V C v vc in
    record {
      law = rw (same, e, f) (ap (λ s. length (cells 1 (xor_rows 1 V C)) + 2 * s) (g ∙ ap (λ w. share_of (rows_of w 1 0) C) same) ∙ law);
      long_small = rw e (line-small V v);
      across_small = rw f (line-small C vc);
    }

-- ---- runs of dimension 1

pub single_rest : (left : List (ℤ × List (List ℤ))) → AreSingle left → AreSingle (rest_of left)
single_rest [] a = tt
single_rest ((h, c) ∷ cs) a = a.1

flipped : (on : Bool) → mark (xor on true) ≡ mark (not on)
unfolding xor
flipped true = refl
flipped false = refl

held-mark : (on : Bool) (far : ℕ) → (if on then far else 0) ≡ length (cells 0 (mark on)) * far
held-mark on far = at on ∙ ap (λ X. length X * far) (sym (cells-mark on))
  where
    at : (b : Bool) → (if b then far else 0) ≡ length (mark b) * far
    at true = omega arith
    at false = omega arith

pub run_more : (low high : ℤ) (on : Bool) (left : List (ℤ × List (List ℤ))) (total part all : ℕ) → AreSingle left → Some high ≡ first_height left
    → part ≡ (if on then unsigned_abs (high -ℤ low) else 0)
    → total + slab_sum content 0 low (mark on) left ≡ all → (total + part) + slab_sum content 0 high (mark (not on)) (rest_of left) ≡ all
run_more low high on [] total part all a e p so_far = cc
run_more low high on ((k, c) ∷ cs) total part all a e p so_far =
    let q : high ≡ k = cc in
    let one : c ≡ [] ∷ [] = a.0 in
    let far : ℕ = unsigned_abs (k -ℤ low) in
    let f : part ≡ length (cells 0 (mark on)) * far = p ∙ ap (λ z. if on then unsigned_abs (z -ℤ low) else 0) q ∙ held-mark on far in
    let t : xor_rows 0 (mark on) c ≡ mark (not on) = ap (xor_rows 0 (mark on)) one ∙ xor_rows-mark on true ∙ flipped on in
    let g : total + (length (cells 0 (mark on)) * far + slab_sum content 0 k (mark (not on)) cs) ≡ all = ap (λ X. total + (length (cells 0 (mark on)) * far + slab_sum content 0 k X cs)) (sym t) ∙ so_far in
    rw (q, f) (sums total (length (cells 0 (mark on)) * far) (slab_sum content 0 k (mark (not on)) cs) ∙ g)
  where
    sums : (a b c : ℕ) → (a + b) + c ≡ a + (b + c)
    sums a b c = omega arith
