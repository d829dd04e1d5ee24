-- Bits of the words of a grid: 33 places of a row, and the differences of neighbouring ones.
use Rattle.std.proofs.Common.{◌≡◌, ℕ, zero, suc, ◌+◌, ◌-◌, ◌*◌, ◌/◌, ◌%◌, ◌^◌, ◌<◌, ◌≤◌, ◌==◌, nat_lt, min, Bool, true, false, ◌&&◌, List, [], ◌∷◌, slice_index, ℤ, pos, ◌-ℤ◌, int_le, int_lt, refl, sym, ap, ap₂, ◌∙◌, arith, ⊎_elim}
use Rattle.std.specs.Prelude.{bit_xor}
use Rattle.std.specs.Int.{bit_at}
use Rattle.std.proofs.lemmas.Bool.{cases_lt}
use Rattle.std.proofs.lemmas.Bool.Decides.{nat_tests}
use Rattle.std.proofs.lemmas.Int.{ints as int_facts}
use Rattle.std.proofs.lemmas.Nat.{pow-add, div-add-mod'}
use Rattle.std.proofs.lemmas.Nat.Bits.{bit_at-suc, bit_at_xor, bit_at-lt, bit_at_above, bit_at_cat_low, bit_at_cat_high}
use Rattle.std.proofs.Math.Nat.{div-div-eq-div-mul, mod-lt, mod-eq_of_lt, pow-le-pow_right, one-le-pow, one-mul}
use Rattle.evm_cells.specs.Booleans.{xor}
use Rattle.evm_voxels.specs.declared.grid.Grid.{Grid}
use Rattle.evm_formats.specs.Images.{in_sizes, within}
use Rattle.evm_voxels.specs.Parity.{seam}
use Rattle.evm_voxels.specs.Marks.{bit_on, is_marked, marked_at}
use Rattle.evm_voxels.specs.Grids.{filled_in}
use Rattle.evm_voxels.proofs.GridLines.{off_x, seam_off_y, seam_off_z, size_yes, size_no}
use Rattle.evm_voxels.proofs.Marking.{no_bit}

-- ---- bits of sums, shifts and remainders

one_shifted : (c : ℕ) → c ≤ 33 → 1 * 2 ^ c % 18446744073709551616 ≡ 2 ^ c
one_shifted c h =
    let p : 2 ^ c ≤ 2 ^ 33 = pow-le-pow_right {n = 2} (omega arith) h in
    ap (λ (n : ℕ). n % 18446744073709551616) (one-mul (2 ^ c)) ∙ mod-eq_of_lt (let q : 2 ^ c < 18446744073709551616 = omega (arith, p) in q)

bit_mod : (x c k : ℕ) → k < c → bit_at (x % 2 ^ c) k ≡ bit_at x k
bit_mod x c k l = sym (bit_at_cat_low (x / 2 ^ c) c (x % 2 ^ c) k l) ∙ ap (λ (y : ℕ). bit_at y k) (div-add-mod' x (2 ^ c))

bit_past : (x c k : ℕ) → c ≤ k → bit_at (x % 2 ^ c) k ≡ 0
bit_past x c k l = bit_at_above (x % 2 ^ c) c k (mod-lt x (one-le-pow c 2 (omega arith))) l

bit_shr : (x s k : ℕ) → bit_at (x / 2 ^ s) k ≡ bit_at x (s + k)
bit_shr x s k = ap (λ (y : ℕ). y % 2) (div-div-eq-div-mul x (2 ^ s) (2 ^ k) ∙ ap (λ (d : ℕ). x / d) (sym (pow-add 2 s k)))

-- ---- the marks from one on

pair_mark : (marks : List ℕ) (high low m k : ℕ) → high ≡ slice_index marks (m / 32 + 1) → low ≡ slice_index marks (m / 32) → low < 2 ^ 32 → k < 33 → bit_on (m % 32 + k) (high * 2 ^ 32 + low) ≡ is_marked marks (m + k)
unfolding is_marked
pair_mark marks high low m k p q small l =
    ⊎_elim
    (λ (below : m % 32 + k < 32).
    let word : (m + k) / 32 ≡ m / 32 = omega arith in
    let part : (m + k) % 32 ≡ m % 32 + k = omega arith in
    ap (λ (n : ℕ). n == 1) (bit_at_cat_low high 32 low (m % 32 + k) below)
    ∙ ap (bit_on (m % 32 + k)) q
    ∙ sym (ap₂ (λ (b w : ℕ). bit_on b (slice_index marks w)) part word))
    (λ (above : 32 ≤ m % 32 + k).
    let word : (m + k) / 32 ≡ m / 32 + 1 = omega arith in
    let part : (m + k) % 32 ≡ m % 32 + k - 32 = omega arith in
    ap (λ (n : ℕ). n == 1) (bit_at_cat_high high 32 low (m % 32 + k) small above)
    ∙ ap (bit_on (m % 32 + k - 32)) p
    ∙ sym (ap₂ (λ (b w : ℕ). bit_on b (slice_index marks w)) part word))
    (cases_lt (m % 32 + k) 32)

pub marks_from : (marks : List ℕ) (high low m c k : ℕ) → high ≡ slice_index marks (m / 32 + 1) → low ≡ slice_index marks (m / 32) → low < 2 ^ 32 → c ≤ 33
    → bit_on k ((high * 4294967296 + low) / 2 ^ (m % 32) % (1 * 2 ^ c % 18446744073709551616)) ≡ (nat_lt k c && is_marked marks (m + k))
marks_from marks high low m c k p q small l =
    ap (λ (d : ℕ). bit_on k ((high * 4294967296 + low) / 2 ^ (m % 32) % d)) (one_shifted c l)
    ∙ ⊎_elim
    (λ (below : k < c).
    ap (λ (n : ℕ). n == 1) (bit_mod ((high * 4294967296 + low) / 2 ^ (m % 32)) c k below ∙ bit_shr (high * 4294967296 + low) (m % 32) k)
    ∙ pair_mark marks high low m k p q small (omega arith)
    ∙ ap (λ t. t && is_marked marks (m + k)) (let e : nat_lt k c ≡ true = grind (arith, nat_tests) in sym e))
    (λ (above : c ≤ k).
    ap (λ (n : ℕ). n == 1) (bit_past ((high * 4294967296 + low) / 2 ^ (m % 32)) c k above)
    ∙ ap (λ t. t && is_marked marks (m + k)) (let e : nat_lt k c ≡ false = grind (arith, nat_tests) in sym e))
    (cases_lt k c)

pub marks_small : (x c : ℕ) → c ≤ 33 → x % (1 * 2 ^ c % 18446744073709551616) < 8589934592
marks_small x c l =
    let p : 2 ^ c ≤ 2 ^ 33 = pow-le-pow_right {n = 2} (omega arith) l in
    let q : x % 2 ^ c < 2 ^ c = mod-lt x (one-le-pow c 2 (omega arith)) in
    let e : x % (1 * 2 ^ c % 18446744073709551616) ≡ x % 2 ^ c = ap (λ (d : ℕ). x % d) (one_shifted c l) in
    omega (arith, p, q, e)

-- ---- places of a row

lt_same : (a b c d : ℕ) → (a < b → c < d) → (c < d → a < b) → nat_lt a b ≡ nat_lt c d
lt_same a b c d f g =
    ⊎_elim
    (λ (h : a < b). let k : c < d = f h in (let e : nat_lt a b ≡ true = grind (arith, nat_tests) in e) ∙ (let e : nat_lt c d ≡ true = grind (arith, nat_tests) in sym e))
    (λ (h : b ≤ a).
    (let e : nat_lt a b ≡ false = grind (arith, nat_tests) in e)
    ∙ ⊎_elim (λ (k : c < d). let n : a < b = g k in absurd (omega arith)) (λ (k : d ≤ c). let e : nat_lt c d ≡ false = grind (arith, nat_tests) in sym e) (cases_lt c d))
    (cases_lt a b)

in_size : ℕ → ℕ → Bool
in_size x m = int_le (pos 0) (pos x) && int_lt (pos x) (pos m)

-- the mark of a place of a row, past the width too
place_is : (g : Grid) (x y z i : ℕ) → y < g.height → z < g.depth → i ≡ z * g.pitch + (y * g.width + x) → (nat_lt x g.width && is_marked g.marks.now i) ≡ filled_in g (pos x ∷ pos y ∷ pos z ∷ [])
unfolding filled_in within in_sizes marked_at in_size
place_is g x y z i a b e =
    ⊎_elim
    (λ (l : x < g.width).
    ap (λ t. t && is_marked g.marks.now i) (let h : nat_lt x g.width ≡ true = grind (arith, nat_tests) in h)
    ∙ ap (is_marked g.marks.now) e
    ∙ ap (λ s. s && is_marked g.marks.now (z * g.pitch + (y * g.width + x)))
    (sym (ap₂ (λ s t. s && t) (size_yes x g.width l) (ap₂ (λ s t. s && t) (size_yes y g.height a) (ap (λ s. s && true) (size_yes z g.depth b))))))
    (λ (l : g.width ≤ x).
    ap (λ t. t && is_marked g.marks.now i) (let h : nat_lt x g.width ≡ false = grind (arith, nat_tests) in h)
    ∙ sym (ap (λ t. (t && ((in_size y g.height) && ((in_size z g.depth) && true))) && is_marked g.marks.now (z * g.pitch + (y * g.width + x))) (size_no x g.width l)))
    (cases_lt x g.width)

bit_double : (m k : ℕ) → bit_on (suc k) (2 * m) ≡ bit_on k m
bit_double m k = ap (λ (n : ℕ). n == 1) (bit_at-suc (2 * m) k ∙ ap (λ (n : ℕ). bit_at n k) (let e : 2 * m / 2 ≡ m = omega arith in e))

bit_lowest : (m : ℕ) → bit_on 0 (2 * m) ≡ false
bit_lowest m = ap (λ (n : ℕ). n == 1) (let e : 2 * m / 1 % 2 ≡ 0 = omega arith in e)

-- the row from the column before the first on
pub row_first : (g : Grid) (first y z m c : ℕ) → first ≡ 0 → y < g.height → z < g.depth → c ≡ min g.width 32 → ((k : ℕ) → bit_on k m ≡ (nat_lt k c && is_marked g.marks.now (z * g.pitch + y * g.width + k)))
    → (k : ℕ) → k < 33 → bit_on k (2 * m) ≡ filled_in g ((pos (first + k) -ℤ pos 1) ∷ pos y ∷ pos z ∷ [])
row_first g first y z m c f a b e h zero l =
    bit_lowest m ∙ sym (off_x g (pos 0 -ℤ pos 1) (pos y ∷ pos z ∷ []) refl)
    ∙ ap (λ (x : ℤ). filled_in g (x ∷ pos y ∷ pos z ∷ [])) (let q : pos 0 -ℤ pos 1 ≡ pos (first + 0) -ℤ pos 1 = omega (arith, int_facts) in q)
row_first g first y z m c f a b e h (suc k) l =
    bit_double m k ∙ h k
    ∙ ap (λ t. t && is_marked g.marks.now (z * g.pitch + y * g.width + k)) (lt_same k c k g.width (λ p. omega arith) (λ p. omega arith))
    ∙ place_is g k y z (z * g.pitch + y * g.width + k) a b (omega arith)
    ∙ ap (λ (x : ℤ). filled_in g (x ∷ pos y ∷ pos z ∷ [])) (let q : pos k ≡ pos (first + suc k) -ℤ pos 1 = omega (arith, int_facts) in q)

-- the row from a later column on
pub row_later : (g : Grid) (first y z m c i : ℕ) → 0 < first → first ≤ g.width → y < g.height → z < g.depth → c ≡ min (g.width + 1 - first) 33 → i ≡ z * g.pitch + y * g.width + first - 1
    → ((k : ℕ) → bit_on k m ≡ (nat_lt k c && is_marked g.marks.now (i + k))) → (k : ℕ) → k < 33 → bit_on k m ≡ filled_in g ((pos (first + k) -ℤ pos 1) ∷ pos y ∷ pos z ∷ [])
row_later g first y z m c i f n a b e s h k l =
    h k
    ∙ ap (λ t. t && is_marked g.marks.now (i + k)) (lt_same k c (first + k - 1) g.width (λ p. omega arith) (λ p. omega arith))
    ∙ place_is g (first + k - 1) y z (i + k) a b (omega arith)
    ∙ ap (λ (x : ℤ). filled_in g (x ∷ pos y ∷ pos z ∷ [])) (let q : pos (first + k - 1) ≡ pos (first + k) -ℤ pos 1 = omega (arith, int_facts) in q)

-- ---- differences

odd_sum : (a b : ℕ) → a < 2 → b < 2 → ((a + b) % 2 == 1) ≡ xor (a == 1) (b == 1)
unfolding xor
odd_sum zero zero h k = refl
odd_sum zero (suc zero) h k = refl
odd_sum zero (suc (suc b)) h k = absurd (omega arith)
odd_sum (suc zero) zero h k = refl
odd_sum (suc zero) (suc zero) h k = refl
odd_sum (suc zero) (suc (suc b)) h k = absurd (omega arith)
odd_sum (suc (suc a)) b h k = absurd (omega arith)

pub bit_on-xor : (a b k : ℕ) → bit_on k (bit_xor a b) ≡ xor (bit_on k a) (bit_on k b)
bit_on-xor a b k = ap (λ (n : ℕ). n == 1) (bit_at_xor a b k) ∙ odd_sum (bit_at a k) (bit_at b k) (bit_at-lt a k) (bit_at-lt b k)

pub seams_are : (g : Grid) (first y z row : ℕ) → ((k : ℕ) → k < 33 → bit_on k row ≡ filled_in g ((pos (first + k) -ℤ pos 1) ∷ pos y ∷ pos z ∷ []))
    → (k : ℕ) → k < 32 → bit_on k (bit_xor row (row / 2) % 4294967296) ≡ seam (filled_in g) (pos (first + k)) (pos y ∷ pos z ∷ [])
unfolding seam
seams_are g first y z row h k l =
    ap (λ (n : ℕ). n == 1) (bit_mod (bit_xor row (row / 2)) 32 k l)
    ∙ bit_on-xor row (row / 2) k
    ∙ ap₂ xor (h k (omega arith))
    (ap (λ (n : ℕ). n == 1) (sym (bit_at-suc row k)) ∙ h (suc k) (omega arith)
    ∙ ap (λ (x : ℤ). filled_in g (x ∷ pos y ∷ pos z ∷ [])) (let q : pos (first + suc k) -ℤ pos 1 ≡ pos (first + k) = omega (arith, int_facts) in q))

pub no_seam_y : (g : Grid) (first y z k : ℕ) → g.height ≤ y → bit_on k 0 ≡ seam (filled_in g) (pos (first + k)) (pos y ∷ pos z ∷ [])
no_seam_y g first y z k l = no_bit k ∙ sym (seam_off_y g (pos (first + k)) (pos y) (pos z ∷ []) (size_no y g.height l))

pub no_seam_z : (g : Grid) (first y z k : ℕ) → g.depth ≤ z → bit_on k 0 ≡ seam (filled_in g) (pos (first + k)) (pos y ∷ pos z ∷ [])
no_seam_z g first y z k l = no_bit k ∙ sym (seam_off_z g (pos (first + k)) (pos y) (pos z) (size_no z g.depth l))
