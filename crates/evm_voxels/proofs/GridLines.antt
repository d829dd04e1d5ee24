-- Places of a grid of marks, and the parities round its points by differences.
use Rattle.std.proofs.Common.{◌≡◌, ℕ, ◌+◌, ◌*◌, ◌/◌, ◌%◌, ◌^◌, ◌<◌, ◌≤◌, ◌==◌, nat_lt, Bool, true, false, not, ◌&&◌, List, [], ◌∷◌, map, slice_index, ℤ, pos, ◌-ℤ◌, refl, sym, ap, ap₂, ◌∙◌, arith, int_le, int_lt}
use Rattle.std.specs.Prelude.{bit_and}
use Rattle.std.specs.Bool.{beq}
use Rattle.std.proofs.lemmas.Bool.Decides.{nat_tests}
use Rattle.std.proofs.lemmas.Int.{ints as int_facts}
use Rattle.std.proofs.lemmas.Nat.Bits.{shr_and_one}
use Rattle.evm_cells.specs.Booleans.{xor}
use Rattle.evm_cells.proofs.Xor.{xor_swap}
use Rattle.evm_cells.proofs.Coords.{le_yes, lt_yes, lt_no}
use Rattle.evm_voxels.specs.declared.grid.Grid.{Grid}
use Rattle.evm_formats.specs.Images.{nat_of, in_sizes, within, of_three}
use Rattle.evm_voxels.specs.Parity.{turns, seam, edge}
use Rattle.evm_voxels.specs.Marks.{bit_on, is_marked, marked_at}
use Rattle.evm_voxels.specs.Grids.{filled_in}

-- ---- one coordinate

pub size_yes : (y m : ℕ) → y < m → (int_le (pos 0) (pos y) && int_lt (pos y) (pos m)) ≡ true
size_yes y m h = ap₂ (λ a b. a && b) (le_yes (pos 0) (pos y) (omega (arith, int_facts))) (lt_yes (pos y) (pos m) (omega (arith, int_facts)))

pub size_no : (y m : ℕ) → m ≤ y → (int_le (pos 0) (pos y) && int_lt (pos y) (pos m)) ≡ false
size_no y m h = ap₂ (λ a b. a && b) (le_yes (pos 0) (pos y) (omega (arith, int_facts))) (lt_no (pos y) (pos m) (omega (arith, int_facts)))

pub xor_is : (a b : Bool) → not (beq a b) ≡ xor a b
unfolding xor
xor_is true true = refl
xor_is true false = refl
xor_is false true = refl
xor_is false false = refl

-- ---- places

pub bit_one : (word k : ℕ) → (bit_and (word / 2 ^ k) 1 == 1) ≡ bit_on k word
bit_one word k = ap (λ (n : ℕ). n == 1) (shr_and_one word k)

-- the mark that the code reads
pub mark_read : (g : Grid) (x y z i : ℕ) → x < g.width → y < g.height → z < g.depth → i ≡ z * g.pitch + (y * g.width + x)
    → (bit_and (slice_index g.marks.now (i / 32) / 2 ^ (i % 32)) 1 == 1) ≡ filled_in g (pos x ∷ pos y ∷ pos z ∷ [])
unfolding filled_in within in_sizes marked_at is_marked
mark_read g x y z i a b c e =
    bit_one (slice_index g.marks.now (i / 32)) (i % 32)
    ∙ ap (λ (j : ℕ). bit_on (j % 32) (slice_index g.marks.now (j / 32))) e
    ∙ ap₂ (λ s t. s && t)
    (sym (ap₂ (λ s t. s && t) (size_yes x g.width a) (ap₂ (λ s t. s && t) (size_yes y g.height b) (ap (λ s. s && true) (size_yes z g.depth c)))))
    refl

off_first : (s : Bool) (t u : Bool) → s ≡ false → ((s && t) && u) ≡ false
off_first s t u e = ap (λ v. (v && t) && u) e

off_second : (r s t u : Bool) → s ≡ false → ((r && (s && t)) && u) ≡ false
off_second true s t u e = ap (λ v. (v && t) && u) e
off_second false s t u e = refl

off_third : (q r s u : Bool) → s ≡ false → ((q && (r && (s && true))) && u) ≡ false
off_third true r s u e = off_second r s true u e
off_third false r s u e = refl

-- no place past a size is filled
pub off_x : (g : Grid) (x : ℤ) (c : List ℤ) → (int_le (pos 0) x && int_lt x (pos g.width)) ≡ false → filled_in g (x ∷ c) ≡ false
unfolding filled_in within in_sizes
off_x g x c e = off_first (int_le (pos 0) x && int_lt x (pos g.width)) (in_sizes (g.height ∷ g.depth ∷ []) c) (of_three (marked_at g.marks.now g.pitch g.width) (map nat_of (x ∷ c))) e

pub off_y : (g : Grid) (x y : ℤ) (c : List ℤ) → (int_le (pos 0) y && int_lt y (pos g.height)) ≡ false → filled_in g (x ∷ y ∷ c) ≡ false
unfolding filled_in within in_sizes
off_y g x y c e =
    off_second (int_le (pos 0) x && int_lt x (pos g.width)) (int_le (pos 0) y && int_lt y (pos g.height)) (in_sizes (g.depth ∷ []) c) (of_three (marked_at g.marks.now g.pitch g.width) (map nat_of (x ∷ y ∷ c))) e

pub off_z : (g : Grid) (x y z : ℤ) → (int_le (pos 0) z && int_lt z (pos g.depth)) ≡ false → filled_in g (x ∷ y ∷ z ∷ []) ≡ false
unfolding filled_in within in_sizes
off_z g x y z e =
    off_third (int_le (pos 0) x && int_lt x (pos g.width)) (int_le (pos 0) y && int_lt y (pos g.height)) (int_le (pos 0) z && int_lt z (pos g.depth)) (of_three (marked_at g.marks.now g.pitch g.width) (map nat_of (x ∷ y ∷ z ∷ []))) e

-- nor is one before the first
pub none_before_x : (g : Grid) (x : ℕ) (c : List ℤ) → x ≤ 0 → nat_lt 0 x ≡ filled_in g ((pos x -ℤ pos 1) ∷ c)
none_before_x g x c l =
    let e : 0 ≡ x = omega arith in
    let t : nat_lt 0 x ≡ false = grind (arith, nat_tests) in
    t ∙ sym (off_x g (pos 0 -ℤ pos 1) c refl) ∙ ap (λ (k : ℕ). filled_in g ((pos k -ℤ pos 1) ∷ c)) e

pub seam_off_y : (g : Grid) (x y : ℤ) (c : List ℤ) → (int_le (pos 0) y && int_lt y (pos g.height)) ≡ false → seam (filled_in g) x (y ∷ c) ≡ false
unfolding seam xor
seam_off_y g x y c e = ap₂ xor (off_y g (x -ℤ pos 1) y c e) (off_y g x y c e)

pub seam_off_z : (g : Grid) (x y z : ℤ) → (int_le (pos 0) z && int_lt z (pos g.depth)) ≡ false → seam (filled_in g) x (y ∷ z ∷ []) ≡ false
unfolding seam xor
seam_off_z g x y z e = ap₂ xor (off_z g (x -ℤ pos 1) y z e) (off_z g x y z e)

pub none_before_y : (g : Grid) (x : ℤ) (y : ℕ) (c : List ℤ) → y ≤ 0 → nat_lt 0 y ≡ seam (filled_in g) x ((pos y -ℤ pos 1) ∷ c)
none_before_y g x y c l =
    let e : 0 ≡ y = omega arith in
    let t : nat_lt 0 y ≡ false = grind (arith, nat_tests) in
    t ∙ sym (seam_off_y g x (pos 0 -ℤ pos 1) c refl) ∙ ap (λ (k : ℕ). seam (filled_in g) x ((pos k -ℤ pos 1) ∷ c)) e

pub none_before_z : (g : Grid) (x y : ℤ) → false ≡ edge (filled_in g) x y ((pos 0 -ℤ pos 1) ∷ [])
unfolding edge xor
none_before_z g x y = sym (ap₂ xor (seam_off_z g x (y -ℤ pos 1) (pos 0 -ℤ pos 1) refl) (seam_off_z g x y (pos 0 -ℤ pos 1) refl))

-- the two differences that the code takes
pub seam_is : (f : List ℤ → Bool) (x : ℤ) (c : List ℤ) (a b : Bool) → a ≡ f ((x -ℤ pos 1) ∷ c) → b ≡ f (x ∷ c) → not (beq a b) ≡ seam f x c
unfolding seam
seam_is f x c a b p q = xor_is a b ∙ ap₂ xor p q

pub edge_is : (f : List ℤ → Bool) (x y : ℤ) (c : List ℤ) (a b : Bool) → a ≡ seam f x ((y -ℤ pos 1) ∷ c) → b ≡ seam f x (y ∷ c) → not (beq a b) ≡ edge f x y c
unfolding edge
edge_is f x y c a b p q = xor_is a b ∙ ap₂ xor p q

-- ---- the parity, difference by difference

turns-xor : (a b : List ℤ → Bool) (p : List ℤ) → turns (λ c. xor (a c) (b c)) p ≡ xor (turns a p) (turns b p)
unfolding turns
turns-xor a b [] = refl
turns-xor a b (x ∷ p) =
    ap₂ xor (turns-xor (λ c. a ((x -ℤ pos 1) ∷ c)) (λ c. b ((x -ℤ pos 1) ∷ c)) p) (turns-xor (λ c. a (x ∷ c)) (λ c. b (x ∷ c)) p)
    ∙ xor_swap (turns (λ c. a ((x -ℤ pos 1) ∷ c)) p) (turns (λ c. b ((x -ℤ pos 1) ∷ c)) p) (turns (λ c. a (x ∷ c)) p) (turns (λ c. b (x ∷ c)) p)

pub turns-seam : (f : List ℤ → Bool) (x : ℤ) (p : List ℤ) → turns f (x ∷ p) ≡ turns (seam f x) p
unfolding turns seam
turns-seam f x p = sym (turns-xor (λ c. f ((x -ℤ pos 1) ∷ c)) (λ c. f (x ∷ c)) p)

seam_twice : (f : List ℤ → Bool) (x y : ℤ) (c : List ℤ) → seam (seam f x) y c ≡ edge f x y c
unfolding seam edge
seam_twice f x y c = refl

-- the parity at a point: whether the four places there differ from those in the image before
pub turns_three : (f : List ℤ → Bool) (x y z : ℤ) → xor (edge f x y ((z -ℤ pos 1) ∷ [])) (edge f x y (z ∷ [])) ≡ turns f (x ∷ y ∷ z ∷ [])
unfolding turns
turns_three f x y z =
    sym (turns-seam f x (y ∷ z ∷ []) ∙ turns-seam (seam f x) y (z ∷ []) ∙ ap₂ xor (seam_twice f x y ((z -ℤ pos 1) ∷ [])) (seam_twice f x y (z ∷ [])))

pub parity_is : (f : List ℤ → Bool) (x y : ℤ) (z : ℕ) (before now : Bool) → before ≡ edge f x y ((pos z -ℤ pos 1) ∷ []) → now ≡ edge f x y (pos z ∷ [])
    → not (beq before now) ≡ turns f (x ∷ y ∷ pos z ∷ [])
parity_is f x y z before now p q = xor_is before now ∙ ap₂ xor p q ∙ turns_three f x y (pos z)

pub edge_next : (f : List ℤ → Bool) (x y : ℤ) (z : ℕ) (now : Bool) → now ≡ edge f x y (pos z ∷ []) → now ≡ edge f x y ((pos (z + 1) -ℤ pos 1) ∷ [])
edge_next f x y z now e = e ∙ ap (λ (w : ℤ). edge f x y (w ∷ [])) (let h : pos (z + 1) -ℤ pos 1 ≡ pos z = omega (arith, int_facts) in sym h)
