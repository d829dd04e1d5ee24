-- Version 1: the file of a solid states it, and bytes with a header and its length are the file of what they state.
use Rattle.std.proofs.Common.{◌≡◌, ℕ, ◌+◌, ◌*◌, ◌%◌, ◌^◌, ◌<◌, ◌≤◌, true, List, [], ◌∷◌, ◌++◌, flat_map, length, take, drop, slice_index, ℤ, refl, sym, ap, ap₂, ◌∙◌, arith, length-drop, length-append, mul-le-mul_right}
use Rattle.std.proofs.Math.Nat.{mul_assoc, mul_comm, mul-mod_left}
use Rattle.std.specs.List.{list_all}
use Rattle.std.proofs.lemmas.List.{take-append-drop, drop_at, drop-drop, get_or-drop}
use Rattle.byteorder.specs.Endian.{big_number, big_bytes}
use Rattle.byteorder.specs.Numbers.{big_number-reads_back, length-bytes_high_first}
use Rattle.evm_cells.specs.Limits.{is_point, is_point_coord}
use Rattle.evm_cells.proofs.Xor.{and_first, and_second, and_both}
use Rattle.evm_cells.proofs.Lists.{all-append}
use Rattle.evm_cells.proofs.Universe.{point_parts}
use Rattle.evm_rows.specs.Rows.{Vertices, IsSolid, rows_of, flat_of}
use Rattle.evm_rows.proofs.Bridge.{wide-points}
use Rattle.evm_rows.proofs.RowsOrder.{rows_of-flat_of, length-flat_of}
use Rattle.evm_rows.proofs.RowsPlaces.{length-rows_of, quotient}
use Rattle.evm_rows.proofs.Solids.{flat_of-rows_of}
use Rattle.evm_formats.specs.FirstFile.{field, first_head, first_file_bytes, numbers, IsFirst, HasLength, stated_dim, stated_count, listed_rows, Lists}
use Rattle.evm_formats.proofs.Fields.{bytes_of_number, fields-numbers, length-numbers, length-field, numbers-fields}

-- the vertices that bytes state
abbrev pub stated : List ℕ → Vertices
stated bytes = record { dim = stated_dim bytes; rows = listed_rows bytes }

-- ---- bytes with a header and its length are the file of what they state

head_is : (bytes : List ℕ) → IsFirst bytes → take 8 bytes ≡ first_head (stated_dim bytes)
head_is [] h = absurd (let l = h.long in omega arith)
head_is (a ∷ []) h = absurd (let l = h.long in omega arith)
head_is (a ∷ b ∷ []) h = absurd (let l = h.long in omega arith)
head_is (a ∷ b ∷ c ∷ []) h = absurd (let l = h.long in omega arith)
head_is (a ∷ b ∷ c ∷ d ∷ []) h = absurd (let l = h.long in omega arith)
head_is (a ∷ b ∷ c ∷ d ∷ e ∷ []) h = absurd (let l = h.long in omega arith)
head_is (a ∷ b ∷ c ∷ d ∷ e ∷ f ∷ []) h = absurd (let l = h.long in omega arith)
head_is (a ∷ b ∷ c ∷ d ∷ e ∷ f ∷ g ∷ []) h = absurd (let l = h.long in omega arith)
head_is (a ∷ b ∷ c ∷ d ∷ e ∷ f ∷ g ∷ i ∷ bytes) h =
    let m = h.magic in let v = h.version in let s = h.six in let t = h.seven in cc (m, v, s, t)

-- what is known of the numbers of bytes with a header and its length
record Counts (bytes : List ℕ) : Type 0 where
  pub size : length (numbers (drop 16 bytes)) ≡ stated_count bytes * stated_dim bytes
  pub body : length (drop 16 bytes) ≡ 4 * (stated_count bytes * stated_dim bytes)
  pub whole : length (numbers (drop 16 bytes)) % stated_dim bytes ≡ 0
  pub count : length (listed_rows bytes) ≡ stated_count bytes

counts : (bytes : List ℕ) → IsFirst bytes → HasLength bytes → Counts bytes
counts bytes h l =
    let n = stated_dim bytes in
    let k = stated_count bytes in
    let some : 0 < n = let s = h.some in omega arith in
    let body : length (drop 16 bytes) ≡ 4 * (k * n) = omega (arith, length-drop 16 bytes, l, mul_assoc 4 n k, mul_comm n k) in
    let size : length (numbers (drop 16 bytes)) ≡ k * n = length-numbers (k * n) (drop 16 bytes) body in
    let whole : length (numbers (drop 16 bytes)) % n ≡ 0 = ap (λ (m : ℕ). m % n) size ∙ mul-mod_left k n in
    record {
      size = size;
      body = body;
      whole = whole;
      count = sym (quotient (length (listed_rows bytes)) n (length (numbers (drop 16 bytes))) some (length-rows_of (numbers (drop 16 bytes)) n 0 some whole))
          ∙ quotient k n (length (numbers (drop 16 bytes))) some (sym size);
    }

pub whole_stated : (bytes : List ℕ) → IsFirst bytes → HasLength bytes → length (numbers (drop 16 bytes)) % stated_dim bytes ≡ 0
whole_stated bytes h l = let c = counts bytes h l in c.whole

pub file_is : (bytes : List ℕ) → IsFirst bytes → HasLength bytes → ((i : ℕ) → slice_index bytes i < 256) → bytes ≡ first_file_bytes (stated bytes)
unfolding first_file_bytes
file_is bytes h l small =
    let n = stated_dim bytes in
    let c = counts bytes h l in
    let some : 0 < n = let s = h.some in omega arith in
    let at : (k i : ℕ) → slice_index (drop k bytes) i < 256 = λ k i. let q = small (k + i) in let e = get_or-drop k bytes i 0 in rw e q in
    let long : 8 ≤ length (drop 8 bytes) = let m = h.long in omega (arith, length-drop 8 bytes) in
    sym (take-append-drop 8 bytes)
    ∙ ap (λ (ys : List ℕ). take 8 bytes ++ ys) (sym (take-append-drop 8 (drop 8 bytes)))
    ∙ ap₂ (λ (u v : List ℕ). u ++ v) (head_is bytes h)
    (ap₂ (λ (u v : List ℕ). u ++ v) (sym (bytes_of_number 8 (drop 8 bytes) long (at 8)) ∙ ap (big_bytes 8) (sym c.count))
    (drop-drop 8 8 bytes ∙ sym (fields-numbers (stated_count bytes * n) (drop 16 bytes) c.body (at 16)) ∙ ap (flat_map field) (sym (flat_of-rows_of (numbers (drop 16 bytes)) n some c.whole))))

-- ---- the file of a solid states it

pub length-fields : (zs : List ℤ) → length (flat_map field zs) ≡ 4 * length zs
length-fields [] = refl
length-fields (z ∷ zs) = length-append (field z) (flat_map field zs) ∙ omega (arith, length-field z, length-fields zs)

fits_flat : (n : ℕ) (rs : List (List ℤ)) → list_all (is_point n) rs ≡ true → list_all (is_point_coord n) (flat_of rs) ≡ true
fits_flat n [] a = refl
fits_flat n (r ∷ rs) a =
    all-append (is_point_coord n) r (flat_of rs)
    ∙ and_both (list_all (is_point_coord n) r) (list_all (is_point_coord n) (flat_of rs))
    (point_parts n r (and_first (is_point n r) (list_all (is_point n) rs) a)).1
    (fits_flat n rs (and_second (is_point n r) (list_all (is_point n) rs) a))

pub eight : (k : ℕ) → length (big_bytes 8 k) ≡ 8
eight k = length-bytes_high_first 8 k

-- a file tells its rows, however many
pub rows_of_first : (v : Vertices) → IsSolid v → listed_rows (first_file_bytes v) ≡ v.rows
unfolding first_file_bytes
rows_of_first v s =
    let n = v.dim in
    let points : list_all (is_point n) v.rows ≡ true = s.vertices.points in
    ap (λ (xs : List ℕ). rows_of (numbers xs) n 0) (drop_at (big_bytes 8 (length v.rows)) (flat_map field (flat_of v.rows)) 8 (eight (length v.rows)))
    ∙ ap (λ (zs : List ℤ). rows_of zs n 0) (numbers-fields n (flat_of v.rows) (fits_flat n v.rows points))
    ∙ rows_of-flat_of n v.rows s.low (wide-points n v.rows points)

pub dim_of_first : (v : Vertices) → stated_dim (first_file_bytes v) ≡ v.dim
unfolding first_file_bytes
dim_of_first v = refl

states_file : (v : Vertices) → IsSolid v → length (first_file_bytes v) < 2 ^ 64 → Lists (first_file_bytes v) v
unfolding first_file_bytes
states_file v s small =
    let n = v.dim in
    let k = length v.rows in
    let body = flat_map field (flat_of v.rows) in
    let size : length body ≡ 4 * (k * n) = length-fields (flat_of v.rows) ∙ ap (λ (m : ℕ). 4 * m) (length-flat_of n v.rows (wide-points n v.rows s.vertices.points)) in
    let whole : length (first_file_bytes v) ≡ 16 + 4 * (k * n) = omega (arith, length-append (big_bytes 8 k) body, eight k, size) in
    let some : 1 ≤ n = let p = s.low in omega arith in
    let more : 1 * k ≤ n * k = mul-le-mul_right k some in
    let few : k < 256 ^ 8 = omega (arith, more, whole, small, mul_comm k n) in
    let count : big_number 8 (big_bytes 8 k ++ body) ≡ k = big_number-reads_back 8 k body few in
    let exact : length (first_file_bytes v) ≡ 16 + 4 * n * k = omega (arith, whole, mul_assoc 4 n k, mul_comm k n) in
    record {
      framed = (record { long = omega (arith, whole); magic = refl; version = refl; some = some; few = s.high; six = refl; seven = refl }, exact ∙ ap (λ (m : ℕ). 16 + 4 * n * m) (sym count));
      dim = refl;
      rows = rows_of_first v s;
    }

pub states : (v : Vertices) (bytes : List ℕ) → IsSolid v → length bytes < 2 ^ 64 → bytes ≡ first_file_bytes v → Lists bytes v
states v bytes s small e = rw e (states_file v s (rw e at small))
