-- Bytes are the bytes of the number that they read as, and numbers are read back from their fields.
use Rattle.std.proofs.Common.{◌≡◌, ℕ, zero, suc, ◌+◌, ◌*◌, ◌/◌, ◌%◌, ◌^◌, ◌<◌, ◌≤◌, List, [], ◌∷◌, ◌++◌, flat_map, length, take, drop, slice_index, ℤ, SFits, w32, to_z-of_z, rules, true, refl, sym, ap, ap₂, ◌∙◌, arith, length-drop, length-append}
use Rattle.std.proofs.Math.Nat.{mul-add-div_right, mul-add-mod_self_right, mod-eq_of_lt, mul_assoc, add-zero, div-eq_of_lt, one-le-pow, pow-succ', div-one}
use Rattle.std.specs.Int.{byte_at, bytes_high_first, cast_unsigned, cast_signed}
use Rattle.std.specs.List.{list_all}
use Rattle.std.proofs.lemmas.Int.{of_z-to_z, ints as int_facts}
use Rattle.std.proofs.lemmas.List.{nil_from_length, get_or-drop, take-append-drop, drop_at}
use Rattle.byteorder.specs.Endian.{big_from, big_number, big_bytes}
use Rattle.byteorder.specs.Numbers.{big_from-cons, big_from-lt, big_number-reads_back, length-bytes_high_first}
use Rattle.evm_cells.specs.Limits.{is_point_coord, limit}
use Rattle.evm_cells.proofs.Coords.{point_is}
use Rattle.evm_cells.proofs.Xor.{and_first, and_second}
use Rattle.evm_formats.specs.FirstFile.{field, numbers}
use Rattle.evm_formats.proofs.Limits.{limit_small}

pow_pos : (n : ℕ) → 0 < 256 ^ n
pow_pos n = let h = one-le-pow n 256 (omega arith) in omega arith

byte_at-pow : (k x : ℕ) → byte_at k x ≡ x / 256 ^ k % 256
byte_at-pow zero x = ap (λ (y : ℕ). y % 256) (sym (div-one x))
byte_at-pow (suc k) x = refl

-- what stands above the byte k + 1 is not seen in byte k
byte_at-high : (k c r : ℕ) → byte_at k (c * 256 * 256 ^ k + r) ≡ byte_at k r
byte_at-high k c r =
    byte_at-pow k (c * 256 * 256 ^ k + r)
    ∙ ap (λ (y : ℕ). y % 256) (mul-add-div_right (pow_pos k) (c * 256) r)
    ∙ mul-add-mod_self_right c 256 (r / 256 ^ k)
    ∙ sym (byte_at-pow k r)

-- nor in the bytes below it
bytes-high : (k c r : ℕ) → bytes_high_first k (c * 256 ^ k + r) ≡ bytes_high_first k r
bytes-high zero c r = refl
bytes-high (suc k) c r =
    let e : c * 256 ^ suc k + r ≡ c * 256 * 256 ^ k + r = ap (λ (y : ℕ). y + r) (ap (λ (y : ℕ). c * y) (pow-succ' 256 k) ∙ sym (mul_assoc c 256 (256 ^ k))) in
    ap (bytes_high_first (suc k)) e
    ∙ ap₂ (λ (b : ℕ) (bs : List ℕ). b ∷ bs) (byte_at-high k c r) (bytes-high k (c * 256) r)

top_byte : (k x r : ℕ) → x < 256 → r < 256 ^ k → byte_at k (x * 256 ^ k + r) ≡ x
top_byte k x r a b =
    byte_at-pow k (x * 256 ^ k + r) ∙ ap (λ (y : ℕ). y % 256) (mul-add-div_right (pow_pos k) x r ∙ ap (λ (y : ℕ). x + y) (div-eq_of_lt b) ∙ add-zero x) ∙ mod-eq_of_lt a

-- n bytes are the bytes of the number that they read as
pub bytes_of_number : (n : ℕ) (xs : List ℕ) → n ≤ length xs → ((i : ℕ) → slice_index xs i < 256) → big_bytes n (big_number n xs) ≡ take n xs
bytes_of_number zero xs l h = refl
bytes_of_number (suc n) [] l h = absurd (omega arith)
bytes_of_number (suc n) (x ∷ xs) l h =
    let lower : (i : ℕ) → slice_index xs i < 256 = λ i. h (suc i) in
    let r = big_from 0 n xs in
    let e : big_from 0 (suc n) (x ∷ xs) ≡ x * 256 ^ n + r = ap (λ (y : ℕ). x * 256 ^ n + y) (big_from-cons 0 n x xs) in
    let small : r < 256 ^ n = big_from-lt 0 n xs lower in
    ap (bytes_high_first (suc n)) e
    ∙ ap₂ (λ (b : ℕ) (bs : List ℕ). b ∷ bs) (top_byte n x r (h 0) small) (bytes-high n x r ∙ bytes_of_number n xs (omega arith) lower)

-- four bytes are the field of the coordinate that they read as
pub field_of_number : (xs : List ℕ) → 4 ≤ length xs → ((i : ℕ) → slice_index xs i < 256) → field (cast_signed w32 (big_number 4 xs)) ≡ take 4 xs
field_of_number xs l h =
    ap (big_bytes 4) (of_z-to_z w32 (big_number 4 xs) (let s = big_from-lt 0 4 xs h in omega arith)) ∙ bytes_of_number 4 xs l h

-- a coordinate in the limits of a dimension fits 32 bits
limit-fits : (n : ℕ) → limit n < 2 ^ 31
limit-fits n = omega (arith, limit_small n)

pub fits_is : (n : ℕ) (z : ℤ) → is_point_coord n z ≡ true → SFits w32 z
fits_is n z h = let (a, b) = point_is n z h in let l = limit-fits n in search (rules, int_facts)

pub of_z-below : (z : ℤ) → SFits w32 z → cast_unsigned w32 z < 256 ^ 4
of_z-below z f = omega (arith, int_facts, f)

numbers-nil : numbers [] ≡ []
unfolding numbers
numbers-nil = refl

pub numbers-step : (xs : List ℕ) → 4 ≤ length xs → numbers xs ≡ cast_signed w32 (big_number 4 xs) ∷ numbers (drop 4 xs)
unfolding numbers
numbers-step [] l = absurd (omega arith)
numbers-step (a ∷ []) l = absurd (omega arith)
numbers-step (a ∷ b ∷ []) l = absurd (omega arith)
numbers-step (a ∷ b ∷ c ∷ []) l = absurd (omega arith)
numbers-step (a ∷ b ∷ c ∷ d ∷ xs) l = refl

pub numbers-short : (xs : List ℕ) → length xs < 4 → numbers xs ≡ []
unfolding numbers
numbers-short [] l = refl
numbers-short (a ∷ []) l = refl
numbers-short (a ∷ b ∷ []) l = refl
numbers-short (a ∷ b ∷ c ∷ []) l = refl
numbers-short (a ∷ b ∷ c ∷ d ∷ xs) l = absurd (omega arith)

-- the fields of the coordinates in bytes are the bytes
pub fields-numbers : (k : ℕ) (xs : List ℕ) → length xs ≡ 4 * k → ((i : ℕ) → slice_index xs i < 256) → flat_map field (numbers xs) ≡ xs
fields-numbers zero xs e h = ap (flat_map field) (numbers-short xs (omega arith)) ∙ sym (nil_from_length xs (omega arith))
fields-numbers (suc k) xs e h =
    let l : 4 ≤ length xs = omega arith in
    let rest : length (drop 4 xs) ≡ 4 * k = omega (arith, length-drop 4 xs) in
    ap (flat_map field) (numbers-step xs l)
    ∙ ap₂ (λ (a b : List ℕ). a ++ b) (field_of_number xs l h) (fields-numbers k (drop 4 xs) rest (λ i. let q = h (4 + i) in let e2 = get_or-drop 4 xs i 0 in rw e2 q))
    ∙ take-append-drop 4 xs

pub length-numbers : (k : ℕ) (xs : List ℕ) → length xs ≡ 4 * k → length (numbers xs) ≡ k
length-numbers zero xs e = ap length (numbers-short xs (omega arith))
length-numbers (suc k) xs e =
    let l : 4 ≤ length xs = omega arith in
    ap length (numbers-step xs l) ∙ ap suc (length-numbers k (drop 4 xs) (omega (arith, length-drop 4 xs)))

pub length-field : (z : ℤ) → length (field z) ≡ 4
length-field z = length-bytes_high_first 4 (cast_unsigned w32 z)

-- numbers are read back from their fields
pub numbers-fields : (n : ℕ) (zs : List ℤ) → list_all (is_point_coord n) zs ≡ true → numbers (flat_map field zs) ≡ zs
numbers-fields n [] a = numbers-nil
numbers-fields n (z ∷ zs) a =
    let f : SFits w32 z = fits_is n z (and_first (is_point_coord n z) (list_all (is_point_coord n) zs) a) in
    let low : cast_unsigned w32 z < 256 ^ 4 = of_z-below z f in
    let l : 4 ≤ length (field z ++ flat_map field zs) = omega (arith, length-append (field z) (flat_map field zs), length-field z) in
    numbers-step (field z ++ flat_map field zs) l
    ∙ ap₂ (λ (x : ℤ) (xs : List ℤ). x ∷ xs)
    (ap (cast_signed w32) (big_number-reads_back 4 (cast_unsigned w32 z) (flat_map field zs) low) ∙ to_z-of_z f)
    (ap numbers (drop_at (field z) (flat_map field zs) 4 (length-field z))
    ∙ numbers-fields n zs (and_second (is_point_coord n z) (list_all (is_point_coord n) zs) a))
