-- Samples as bits of words.
use Rattle.std.proofs.Common.{◌≡◌, ℕ, suc, ◌+◌, ◌-◌, ◌*◌, ◌/◌, ◌%◌, ◌^◌, ◌<◌, ◌≤◌, ◌==◌, nat_lt, nat_le, nat_eq, min, Bool, true, false, ◌&&◌, ◌||◌, List, [], ◌∷◌, ◌++◌, length, take, slice_index, get_or, suc-mul, add-one, mul_assoc, mul_comm, mul-le-mul_right, refl, sym, ap, ap₂, ◌∙◌, arith, length-append, ⊎_elim}
use Rattle.std.specs.Prelude.{bit_or}
use Rattle.std.specs.Int.{bit_at, div_ceil}
use Rattle.std.proofs.Math.Nat.{mul-le-mul_left, mul-add}
use Rattle.std.proofs.Common.{w32}
use Rattle.std.proofs.lemmas.Bool.{true≢false, cases_lt}
use Rattle.std.proofs.lemmas.Bool.Decides.{nat_tests}
use Rattle.std.proofs.lemmas.List.{take-append-le, get_or_append_left, get_or-append_right, get_or-take, take_all}
use Rattle.std.proofs.lemmas.Nat.Bits.{bit_at-zero, bit_at_set_same, bit_at_set_other}
use Rattle.evm_formats.specs.Images.{Picture, sample, no_picture}
use Rattle.evm_voxels.specs.Shots.{AreMarked, words_of}
use Rattle.evm_voxels.specs.Marks.{bit_on, is_marked, HasMarks}

-- ---- one bit more

more_bits : (f : ℕ → Bool) (i k : ℕ) (a b : Bool) → nat_lt i k ≡ a → nat_eq i k ≡ b → ((a && f i) || (f k && b)) ≡ (nat_lt i (k + 1) && f i)
more_bits f i k true true p q = absurd (let h : i < k = grind (arith, nat_tests) in let e : i ≡ k = grind (arith, nat_tests) in omega arith)
more_bits f i k true false p q = bits (f i) (f k) ∙ ap (λ b. b && f i) (let e : nat_lt i (k + 1) ≡ true = grind (arith, nat_tests) in sym e)
  where
    bits : (x y : Bool) → (x || (y && false)) ≡ x
    bits true y = refl
    bits false true = refl
    bits false false = refl
more_bits f i k false true p q =
    let e : i ≡ k = grind (arith, nat_tests) in
    bits (f k) ∙ ap f (sym e) ∙ ap (λ b. b && f i) (let e' : nat_lt i (k + 1) ≡ true = grind (arith, nat_tests) in sym e')
  where
    bits : (y : Bool) → (y && true) ≡ y
    bits true = refl
    bits false = refl
more_bits f i k false false p q = bits (f k) ∙ ap (λ b. b && f i) (let e : nat_lt i (k + 1) ≡ false = grind (arith, nat_tests) in sym e)
  where
    bits : (y : Bool) → (y && false) ≡ false
    bits true = refl
    bits false = refl

pub bit_step : (f : ℕ → Bool) (word new k : ℕ) (on : Bool) → ((i : ℕ) → i < 32 → bit_on i word ≡ (nat_lt i k && f i)) → on ≡ f k
    → ((i : ℕ) → i < 32 → bit_on i new ≡ (bit_on i word || (on && nat_eq i k))) → (i : ℕ) → i < 32 → bit_on i new ≡ (nat_lt i (k + 1) && f i)
bit_step f word new k on h e s i l =
    s i l ∙ ap₂ (λ a b. a || (b && nat_eq i k)) (h i l) e ∙ more_bits f i k (nat_lt i k) (nat_eq i k) refl refl

pub no_bit : (k : ℕ) → bit_on k 0 ≡ false
no_bit k = ap (λ n. n == 1) (bit_at-zero k)

pub no_bits : (f : ℕ → Bool) (i : ℕ) → bit_on i 0 ≡ (nat_lt i 0 && f i)
no_bits f i = no_bit i ∙ ap (λ b. b && f i) (let e : nat_lt i 0 ≡ false = grind (arith, nat_tests) in sym e)

pub all_bits : (f : ℕ → Bool) (word k i : ℕ) → bit_on i word ≡ (nat_lt i k && f i) → i < k → bit_on i word ≡ f i
all_bits f word k i h l = h ∙ ap (λ b. b && f i) (let e : nat_lt i k ≡ true = grind (arith, nat_tests) in e)

-- setting a bit
pub set_bit : (word k : ℕ) → k < 32 → (i : ℕ) → i < 32 → bit_on i (bit_or word (1 * 2 ^ k % 4294967296)) ≡ (bit_on i word || (true && nat_eq i k))
set_bit word k l i m = at_test (nat_eq i k) refl
  where
    or_true : (b : Bool) → true ≡ (b || true)
    or_true true = refl
    or_true false = refl

    or_false : (b : Bool) → b ≡ (b || false)
    or_false true = refl
    or_false false = refl

    at_test : (b : Bool) → nat_eq i k ≡ b → (bit_at (bit_or word (1 * 2 ^ k % 4294967296)) i == 1) ≡ ((bit_at word i == 1) || (true && nat_eq i k))
    at_test true e =
        let e' : i ≡ k = grind (arith, nat_tests) in
        ap (λ (j : ℕ). bit_at (bit_or word (1 * 2 ^ k % 4294967296)) j == 1) e' ∙ ap (λ (v : ℕ). v == 1) (bit_at_set_same w32 word k l) ∙ or_true (bit_at word i == 1) ∙ ap (λ b. (bit_at word i == 1) || b) (sym e)
    at_test false e =
        ap (λ (v : ℕ). v == 1) (bit_at_set_other w32 word k l i (λ e'. true≢false (sym (let t : nat_eq i k ≡ true = grind (arith, nat_tests) in t) ∙ e))) ∙ or_false (bit_at word i == 1) ∙ ap (λ b. (bit_at word i == 1) || b) (sym e)

-- ---- one word more

-- the words so far: the old ones, and then `done` words, of which the marks below `count` are the tests
pub record IsSoFar (old new : List ℕ) (done count : ℕ) (test : ℕ → Bool) : Type 0 where
  pub old_stay : take (length old) new ≡ old
  pub size : length new ≡ length old + done
  pub marks : (i : ℕ) → i < 32 * done → i < count → is_marked new (32 * length old + i) ≡ test i

pub so_far_none : (old : List ℕ) (count : ℕ) (test : ℕ → Bool) → IsSoFar old old 0 count test
so_far_none old count test = record {
  old_stay = take_all (length old) old (omega arith);
  size = omega arith;
  marks = λ i l m. absurd (omega arith);
}

-- the marks of one word more
marks_more : (old new newer : List ℕ) (done count word : ℕ) (test : ℕ → Bool) → IsSoFar old new done count test → newer ≡ new ++ word ∷ []
    → ((i : ℕ) → i < 32 → 32 * done + i < count → bit_on i word ≡ test (32 * done + i)) → (i : ℕ) → i < 32 * (done + 1) → i < count → is_marked newer (32 * length old + i) ≡ test i
unfolding is_marked
marks_more old new newer done count word test h e w i l m =
    let size : length new ≡ length old + done = h.size in
    let place : (32 * length old + i) / 32 ≡ length old + i / 32 = omega arith in
    let part : (32 * length old + i) % 32 ≡ i % 32 = omega arith in
    ⊎_elim
    (λ below.
    let at : (32 * length old + i) / 32 < length new = omega arith in
    ap (λ (xs : List ℕ). bit_on ((32 * length old + i) % 32) (slice_index xs ((32 * length old + i) / 32))) e
    ∙ ap (bit_on ((32 * length old + i) % 32)) (get_or_append_left new (word ∷ []) 0 ((32 * length old + i) / 32) at)
    ∙ h.marks i below m)
    (λ above.
    let last : (32 * length old + i) / 32 ≡ length new = omega arith in
    let there : 32 * done + i % 32 ≡ i = omega arith in
    ap (λ (xs : List ℕ). bit_on ((32 * length old + i) % 32) (slice_index xs ((32 * length old + i) / 32))) e
    ∙ ap₂ (λ (b k : ℕ). bit_on b (slice_index (new ++ word ∷ []) k)) part last
    ∙ ap (bit_on (i % 32)) (get_or-append_right new (word ∷ []) (length new) (length new) 0 refl (omega arith) ∙ ap (λ (k : ℕ). slice_index (word ∷ []) k) (let z : length new - length new ≡ 0 = omega arith in z))
    ∙ w (i % 32) (omega arith) (omega arith)
    ∙ ap test there)
    (cases_lt i (32 * done))

pub so_far_more : (old new newer : List ℕ) (done count word : ℕ) (test : ℕ → Bool) → IsSoFar old new done count test → newer ≡ new ++ word ∷ []
    → ((i : ℕ) → i < 32 → 32 * done + i < count → bit_on i word ≡ test (32 * done + i)) → IsSoFar old newer (done + 1) count test
so_far_more old new newer done count word test h e w =
    let size : length new ≡ length old + done = h.size in
    record {
      old_stay = ap (take (length old)) e ∙ take-append-le (length old) new (word ∷ []) (omega arith) ∙ h.old_stay;
      size = ap (λ (v : List ℕ). length v) e ∙ length-append new (word ∷ []) ∙ omega arith;
      marks = marks_more old new newer done count word test h e w;
    }

pub so_far_all : (old new : List ℕ) (done count : ℕ) (test : ℕ → Bool) → done ≡ count / 32 + min 1 (count % 32) → IsSoFar old new done count test → HasMarks old new count test
so_far_all old new done count test e h = record {
  old_stay = h.old_stay;
  size = h.size ∙ ap (λ (n : ℕ). length old + n) (let q : done ≡ (count + 31) / 32 = omega arith in q);
  marks = λ i l. h.marks i (omega arith) l;
}

-- ---- the marks of one image after another

-- what was marked stays
marked_stays : (old new : List ℕ) (k : ℕ) → take (length old) new ≡ old → k < 32 * length old → is_marked new k ≡ is_marked old k
unfolding is_marked
marked_stays old new k e l =
    let at : k / 32 < length old = omega arith in
    ap (bit_on (k % 32)) (sym (get_or-take (length old) new (k / 32) 0 at) ∙ ap (λ (xs : List ℕ). slice_index xs (k / 32)) e)

times_32 : (z words : ℕ) → z * (32 * words) ≡ 32 * (z * words)
times_32 z words = sym (mul_assoc z 32 words) ∙ ap (λ (n : ℕ). n * words) (mul_comm z 32) ∙ mul_assoc 32 z words

last_of : (images : List Picture) (p : Picture) (z : ℕ) → length images ≡ z → get_or (images ++ p ∷ []) z no_picture ≡ p
last_of images p z n = get_or-append_right images (p ∷ []) z z no_picture n (omega arith) ∙ ap (λ (k : ℕ). get_or (p ∷ []) k no_picture) (let e : z - z ≡ 0 = omega arith in e)

-- where the marks of an image begin
images_apart : (j z words i : ℕ) → j < z → i < 32 * words → j * (32 * words) + i < 32 * (z * words)
images_apart j z words i l m =
    let more : suc j * (32 * words) ≤ z * (32 * words) = mul-le-mul_right (32 * words) l in
    let one : suc j * (32 * words) ≡ j * (32 * words) + 32 * words = suc-mul j (32 * words) in
    let all : z * (32 * words) ≡ 32 * (z * words) = times_32 z words in
    omega (arith, more, one, all, m)

pub no_marks : (old : List ℕ) (count threshold : ℕ) → old ≡ [] → AreMarked old count 0 threshold []
no_marks old count threshold e = record { size = ap (λ (v : List ℕ). length v) e ∙ omega arith; marked = λ j i l m. absurd (omega arith) }

pub marked_more : (old new : List ℕ) (count z threshold : ℕ) (images : List Picture) (p : Picture) → AreMarked old count z threshold images → length images ≡ z
    → HasMarks old new count (λ i. nat_le threshold (sample p i)) → AreMarked new count (z + 1) threshold (images ++ p ∷ [])
marked_more old new count z threshold images p h n k =
    let words : ℕ = words_of count in
    let long : length old ≡ z * words = h.size in
    record {
      size = k.size ∙ omega (arith, long, suc-mul z words, add-one z);
      marked = λ j i l m.
          let room : i < 32 * words = omega (arith, m) in
          ⊎_elim
          (λ below.
          let at : j * (32 * words) + i < 32 * length old = omega (arith, images_apart j z words i below room, long) in
          let there : j < length images = omega (arith, n, below) in
          marked_stays old new (j * (32 * words) + i) k.old_stay at
          ∙ h.marked j i below m
          ∙ ap (λ (q : Picture). nat_le threshold (sample q i)) (sym (get_or_append_left images (p ∷ []) no_picture j there)))
          (λ above.
          let last : j ≡ z = omega (arith, l, above) in
          let all : z * (32 * words) ≡ 32 * (z * words) = times_32 z words in
          ap (λ (q : ℕ). is_marked new (q * (32 * words) + i)) last
          ∙ ap (is_marked new) (let e : z * (32 * words) + i ≡ 32 * length old + i = omega (arith, all, long) in e)
          ∙ k.marks i m
          ∙ ap (λ (q : Picture). nat_le threshold (sample q i)) (sym (ap (λ (q : ℕ). get_or (images ++ p ∷ []) q no_picture) last ∙ last_of images p z n)))
          (cases_lt j z);
    }

-- the words of all images can be counted where their samples can
pub words_fit : (d count r : ℕ) → d * count < 2 ^ 63 → r ≡ div_ceil count 32 → d * r < 2 ^ 64
words_fit d count r a e =
    let p : r ≤ count = omega (arith, e) in
    let q : d * r ≤ d * count = mul-le-mul_left d p in
    omega (arith, q, a)

-- and so can the places of their marks
pub pitch_fits : (d count r : ℕ) → d * count < 2 ^ 63 → d ≤ 2 ^ 30 → r ≡ div_ceil count 32 → d * (32 * r) < 2 ^ 64
pitch_fits d count r a b e =
    let p : 32 * r ≤ count + 31 = omega (arith, e) in
    let q : d * (32 * r) ≤ d * (count + 31) = mul-le-mul_left d p in
    omega (arith, q, mul-add d count 31, a, b)
