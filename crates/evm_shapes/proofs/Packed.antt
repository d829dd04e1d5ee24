-- Keys of rows: one for each row of whole numbers of 32 bits, and ordered as the rows are.
use Rattle.std.proofs.Common.{◌≡◌, ℕ, zero, suc, ◌+◌, ◌-◌, ◌*◌, ◌/◌, ◌%◌, ◌^◌, ◌<◌, ◌≤◌, Bool, true, false, not, ◌&&◌, ◌||◌, List, [], ◌∷◌, ◌++◌, length, map, drop, take, get_or, ℤ, pos, ◌<ℤ◌, int_eq, int_lt, refl, sym, ap, ap₂, ◌∙◌, subst, arith, length-append, ◌==◌, eq-eqb}
use Rattle.std.proofs.lemmas.Bool.{ne_eqb, true≢false}
use Rattle.std.proofs.lemmas.List.{take_more}
use Rattle.std.proofs.lemmas.List.Elements.{All-tail}
use Rattle.evm_cells.proofs.Places.{strict_places}
use Rattle.std.proofs.Math.Nat.{div-div-eq-div-mul}
use Rattle.std.specs.Ordering.{is_lt, nat_cmp}
use Rattle.std.specs.List.{All}
use Rattle.std.specs.List.Sorted.{IsSorted, IsPermutation}
use Rattle.std.proofs.lemmas.Int.{ints as int_facts}
use Rattle.std.proofs.lemmas.Nat.{div-mul-add, mod-mul-add, div_below}
use Rattle.evm_cells.specs.Places.{same, before, each}
use Rattle.evm_cells.proofs.Coords.{eq_is, lt_is}
use Rattle.evm_cells.proofs.Xor.{and_first, and_second, and_both}
use Rattle.evm_rows.specs.Groups.{steady}
use Rattle.evm_shapes.proofs.Lone.{Gathered, none_gathered, gathered_one, gathered_less, last_apart, lone_rows_are}
use Rattle.evm_rows.specs.Rows.{rows_of, flat_of}
use Rattle.evm_cells.specs.Windows.{IsReduced}
use Rattle.evm_shapes.specs.Order.{unpaired, AreLone}
use Rattle.std.proofs.lemmas.List.Sorted.{IsPermutation-map, All-permutation}
use Rattle.std.proofs.lemmas.List.{map-append}
use Rattle.evm_shapes.specs.Keys.{number_of, unpacked, room}

-- ---- one number more

pub length-unpacked : (n k : ℕ) → length (unpacked n k) ≡ n
unfolding unpacked
length-unpacked zero k = refl
length-unpacked (suc n) k =
    let e : length (unpacked n (k / 2 ^ 32)) ≡ n = length-unpacked n (k / 2 ^ 32) in
    length-append (unpacked n (k / 2 ^ 32)) (number_of (k % 2 ^ 32) ∷ []) ∙ omega arith

pub unpacked_more : (n k w : ℕ) → w < 2 ^ 32 → unpacked (suc n) (k * 2 ^ 32 + w) ≡ unpacked n k ++ number_of w ∷ []
unfolding unpacked
unpacked_more n k w l = ap₂ (λ (a b : ℕ). unpacked n a ++ number_of b ∷ []) (div-mul-add k (2 ^ 32) w l) (mod-mul-add k (2 ^ 32) w l)

pub room_more : (n k w : ℕ) → k < room n → w < 2 ^ 32 → k * 2 ^ 32 + w < room (n + 1)
unfolding room
room_more n k w l m =
    let more : suc n ≡ n + 1 = omega arith in
    let h : k * 2 ^ 32 + w < room (suc n) = omega arith in
    subst (λ (j : ℕ). k * 2 ^ 32 + w < room j) more h

pub start : (0 < room 0) × (unpacked 0 0 ≡ [])
unfolding room unpacked
start = (omega arith, refl)

-- four words fit 128 bits
pub key_fits : (n k w : ℕ) → n < 4 → k < room n → w < 2 ^ 32 → k * 2 ^ 32 + w < 2 ^ 128
unfolding room
key_fits zero k w l m o = omega arith
key_fits (suc zero) k w l m o = omega arith
key_fits (suc (suc zero)) k w l m o = omega arith
key_fits (suc (suc (suc zero))) k w l m o = omega arith
key_fits (suc (suc (suc (suc n)))) k w l m o = absurd (omega arith)

-- the words of a key, read from its bits
pub words_are : (n k : ℕ) (a b c d : ℤ) → n ≤ 4 → a ≡ number_of (k / 2 ^ 96 % 2 ^ 32) → b ≡ number_of (k / 2 ^ 64 % 2 ^ 32) → c ≡ number_of (k / 2 ^ 32 % 2 ^ 32) → d ≡ number_of (k / 2 ^ 0 % 2 ^ 32)
    → take (4 - (4 - n)) (drop (4 - n) (a ∷ b ∷ c ∷ d ∷ [])) ≡ unpacked n k
unfolding unpacked
words_are n k a b c d l ea eb ec ed = at n l
  where
    last : d ≡ number_of (k % 2 ^ 32)
    last = ed ∙ ap (λ (m : ℕ). number_of (m % 2 ^ 32)) (omega arith)

    two : k / 2 ^ 32 / 2 ^ 32 ≡ k / 2 ^ 64
    two = div-div-eq-div-mul k (2 ^ 32) (2 ^ 32)

    three : k / 2 ^ 32 / 2 ^ 32 / 2 ^ 32 ≡ k / 2 ^ 96
    three = ap (λ (m : ℕ). m / 2 ^ 32) two ∙ div-div-eq-div-mul k (2 ^ 64) (2 ^ 32)

    second : b ≡ number_of (k / 2 ^ 32 / 2 ^ 32 % 2 ^ 32)
    second = eb ∙ ap (λ (m : ℕ). number_of (m % 2 ^ 32)) (sym two)

    first : a ≡ number_of (k / 2 ^ 32 / 2 ^ 32 / 2 ^ 32 % 2 ^ 32)
    first = ea ∙ ap (λ (m : ℕ). number_of (m % 2 ^ 32)) (sym three)

    at : (n : ℕ) → n ≤ 4 → take (4 - (4 - n)) (drop (4 - n) (a ∷ b ∷ c ∷ d ∷ [])) ≡ unpacked n k
    at zero l = refl
    at (suc zero) l = ap (λ (z : ℤ). z ∷ []) last
    at (suc (suc zero)) l = ap₂ (λ (y z : ℤ). y ∷ z ∷ []) ec last
    at (suc (suc (suc zero))) l = ap₂ (λ (x : ℤ) (yz : List ℤ). x ∷ yz) second (ap₂ (λ (y z : ℤ). y ∷ z ∷ []) ec last)
    at (suc (suc (suc (suc zero)))) l = ap₂ (λ (w x : ℤ). w ∷ x ∷ c ∷ d ∷ []) first second ∙ ap₂ (λ (y z : ℤ). number_of (k / 2 ^ 32 / 2 ^ 32 / 2 ^ 32 % 2 ^ 32) ∷ number_of (k / 2 ^ 32 / 2 ^ 32 % 2 ^ 32) ∷ y ∷ z ∷ []) ec last
    at (suc (suc (suc (suc (suc n))))) l = absurd (omega arith)

either : (l e b s t : Bool) → l || (e && (b || (s && t))) ≡ (l || (e && b)) || ((e && s) && t)
either true e b s t = refl
either false true b s t = refl
either false false b s t = refl

two_ends : (l e : Bool) → l || (e && false) ≡ false || (true && l)
two_ends true e = refl
two_ends false true = refl
two_ends false false = refl

-- the order of two rows with a number more
before-push : (p q : List ℤ) (x y : ℤ) → length p ≡ length q → before (p ++ x ∷ []) (q ++ y ∷ []) ≡ before p q || (same p q && int_lt x y)
unfolding before same each
before-push [] [] x y e = two_ends (int_lt x y) (int_eq x y)
before-push [] (b ∷ q) x y e = absurd (omega arith)
before-push (a ∷ p) [] x y e = absurd (omega arith)
before-push (a ∷ p) (b ∷ q) x y e =
    ap (λ (t : Bool). int_lt a b || (int_eq a b && t)) (before-push p q x y (omega arith))
    ∙ either (int_lt a b) (int_eq a b) (before p q) (same p q) (int_lt x y)

and_apart : (a b c : Bool) → a && (b && c) ≡ (a && b) && c
and_apart true b c = refl
and_apart false b c = refl

and_one : (a : Bool) → a && true ≡ true && a
and_one true = refl
and_one false = refl

same-push : (p q : List ℤ) (x y : ℤ) → length p ≡ length q → same (p ++ x ∷ []) (q ++ y ∷ []) ≡ same p q && int_eq x y
unfolding same each
same-push [] [] x y e = and_one (int_eq x y)
same-push [] (b ∷ q) x y e = absurd (omega arith)
same-push (a ∷ p) [] x y e = absurd (omega arith)
same-push (a ∷ p) (b ∷ q) x y e = ap (λ (t : Bool). int_eq a b && t) (same-push p q x y (omega arith)) ∙ and_apart (int_eq a b) (same p q) (int_eq x y)

-- ---- two keys

lengths : (n a b : ℕ) → length (unpacked n a) ≡ length (unpacked n b)
lengths n a b = length-unpacked n a ∙ sym (length-unpacked n b)

room_rest : (n k : ℕ) → k < room (suc n) → k / 2 ^ 32 < room n
unfolding room
room_rest n k l = div_below k (2 ^ 32) (room n) (omega arith) l

-- one row, one key
pub one_key : (n a b : ℕ) → a < room n → b < room n → same (unpacked n a) (unpacked n b) ≡ true → a ≡ b
unfolding unpacked room
one_key zero a b l m s = omega arith
one_key (suc n) a b l m s =
    let x : ℤ = number_of (a % 2 ^ 32) in
    let y : ℤ = number_of (b % 2 ^ 32) in
    let t : same (unpacked n (a / 2 ^ 32)) (unpacked n (b / 2 ^ 32)) && int_eq x y ≡ true = sym (same-push (unpacked n (a / 2 ^ 32)) (unpacked n (b / 2 ^ 32)) x y (lengths n (a / 2 ^ 32) (b / 2 ^ 32))) ∙ s in
    let high : a / 2 ^ 32 ≡ b / 2 ^ 32 = one_key n (a / 2 ^ 32) (b / 2 ^ 32) (room_rest n a l) (room_rest n b m) (and_first (same (unpacked n (a / 2 ^ 32)) (unpacked n (b / 2 ^ 32))) (int_eq x y) t) in
    let ends : x ≡ y = eq_is x y (and_second (same (unpacked n (a / 2 ^ 32)) (unpacked n (b / 2 ^ 32))) (int_eq x y) t) in
    let low : a % 2 ^ 32 ≡ b % 2 ^ 32 = omega (arith, int_facts) in
    omega arith

none_earlier : before [] [] ≡ true → ⊥
unfolding before
none_earlier e = true≢false (sym e)

-- the earlier row has the smaller key
pub earlier_key : (n a b : ℕ) → a < room n → b < room n → before (unpacked n a) (unpacked n b) ≡ true → a < b
unfolding unpacked room
earlier_key zero a b l m h = absurd (none_earlier h)
earlier_key (suc n) a b l m h =
    let p : List ℤ = unpacked n (a / 2 ^ 32) in
    let q : List ℤ = unpacked n (b / 2 ^ 32) in
    let x : ℤ = number_of (a % 2 ^ 32) in
    let y : ℤ = number_of (b % 2 ^ 32) in
    at (before p q) refl (earlier_key n (a / 2 ^ 32) (b / 2 ^ 32) (room_rest n a l) (room_rest n b m)) (sym (before-push p q x y (lengths n (a / 2 ^ 32) (b / 2 ^ 32))) ∙ h)
  where
    at : (t : Bool) → before (unpacked n (a / 2 ^ 32)) (unpacked n (b / 2 ^ 32)) ≡ t → (before (unpacked n (a / 2 ^ 32)) (unpacked n (b / 2 ^ 32)) ≡ true → a / 2 ^ 32 < b / 2 ^ 32)
        → before (unpacked n (a / 2 ^ 32)) (unpacked n (b / 2 ^ 32)) || (same (unpacked n (a / 2 ^ 32)) (unpacked n (b / 2 ^ 32)) && int_lt (number_of (a % 2 ^ 32)) (number_of (b % 2 ^ 32))) ≡ true → a < b
    at true e i f =
        let high : a / 2 ^ 32 < b / 2 ^ 32 = i e in
        omega arith
    at false e i f =
        let s : Bool = same (unpacked n (a / 2 ^ 32)) (unpacked n (b / 2 ^ 32)) in
        let t : Bool = int_lt (number_of (a % 2 ^ 32)) (number_of (b % 2 ^ 32)) in
        let g : s && t ≡ true = ap (λ (c : Bool). c || (s && t)) (sym e) ∙ f in
        let high : a / 2 ^ 32 ≡ b / 2 ^ 32 = one_key n (a / 2 ^ 32) (b / 2 ^ 32) (room_rest n a l) (room_rest n b m) (and_first s t g) in
        let ends : number_of (a % 2 ^ 32) <ℤ number_of (b % 2 ^ 32) = lt_is (number_of (a % 2 ^ 32)) (number_of (b % 2 ^ 32)) (and_second s t g) in
        let low : a % 2 ^ 32 < b % 2 ^ 32 = omega (arith, int_facts) in
        omega arith

-- ---- many keys

pub same_key : (n a b : ℕ) → a < room n → b < room n → same (unpacked n a) (unpacked n b) ≡ a == b
same_key n a b l m = at (same (unpacked n a) (unpacked n b)) refl
  where
    at : (t : Bool) → same (unpacked n a) (unpacked n b) ≡ t → same (unpacked n a) (unpacked n b) ≡ a == b
    at true e = e ∙ sym (eq-eqb a b (one_key n a b l m e))
    at false e = e ∙ sym (ne_eqb a b (λ q. true≢false (sym (strict_places.itself (unpacked n a)) ∙ ap (λ k. same (unpacked n a) (unpacked n k)) q ∙ e)))

not_below : (a b : ℕ) → is_lt (nat_cmp a b) ≡ false → a < b → ⊥
not_below a b h l = grind arith

pub steady_keys : (n : ℕ) (ks : List ℕ) → All (λ k. k < room n) ks → IsSorted nat_cmp ks → steady (map (unpacked n) ks) ≡ true
unfolding steady
steady_keys n [] a h = refl
steady_keys n (k ∷ []) a h = refl
steady_keys n (j ∷ k ∷ ks) a h =
    and_both (not (before (unpacked n k) (unpacked n j))) (steady (map (unpacked n) (k ∷ ks)))
    (at (before (unpacked n k) (unpacked n j)) refl)
    (steady_keys n (k ∷ ks) (All-tail (λ i. i < room n) j (k ∷ ks) a) (λ i d l m. let e : suc i + 1 ≡ suc (i + 1) = omega arith in
    ap (λ (t : ℕ). is_lt (nat_cmp (get_or (j ∷ k ∷ ks) t d) (get_or (k ∷ ks) i d))) (sym e) ∙ h (suc i) d (omega arith) (omega arith)))
  where
    at : (t : Bool) → before (unpacked n k) (unpacked n j) ≡ t → not (before (unpacked n k) (unpacked n j)) ≡ true
    at true e = absurd (not_below k j (h 0 0 (omega arith) (omega arith)) (earlier_key n k j (a 1 0 (omega arith)) (a 0 0 (omega arith)) e))
    at false e = ap not e

-- one number more of a row is packed
pub row_more : (row : List ℤ) (i k w : ℕ) → i < length row → w < 2 ^ 32 → number_of w ≡ get_or row i (pos 0) → unpacked i k ≡ take i row → unpacked (i + 1) (k * 2 ^ 32 + w) ≡ take (i + 1) row
row_more row i k w l m e h =
    let more : i + 1 ≡ suc i = omega arith in
    ap (λ (j : ℕ). unpacked j (k * 2 ^ 32 + w)) more ∙ unpacked_more i k w m
    ∙ ap₂ (λ (p : List ℤ) (x : ℤ). p ++ x ∷ []) h e ∙ sym (take_more row i (pos 0) l)

-- ---- keys that cancel as they come

pub keys_start : (n : ℕ) (ks : List ℕ) (L : List (List ℤ)) → ks ≡ [] → Gathered n (map (unpacked n) ks) L L
keys_start n ks L e = subst (λ (z : List ℕ). Gathered n (map (unpacked n) z) L L) (sym e) (none_gathered n L)

pub keys_push : (n : ℕ) (ks js : List ℕ) (k : ℕ) (row : List ℤ) (R rest L : List (List ℤ)) → js ≡ ks ++ k ∷ [] → unpacked n k ≡ row → R ≡ row ∷ rest → Gathered n (map (unpacked n) ks) R L → Gathered n (map (unpacked n) js) rest L
keys_push n ks js k row R rest L e u r g =
    gathered_one n (map (unpacked n) ks) (map (unpacked n) js) (unpacked n k) R rest L (ap (map (unpacked n)) e ∙ map-append (unpacked n) ks (k ∷ [])) (r ∙ ap (λ (z : List ℤ). z ∷ rest) (sym u)) (length-unpacked n k) g

pub keys_pop : (n : ℕ) (ks js : List ℕ) (i k : ℕ) (row : List ℤ) (R rest L : List (List ℤ)) → i + 1 ≡ length ks → js ≡ take i ks → get_or ks i 0 ≡ k → unpacked n k ≡ row → R ≡ row ∷ rest → Gathered n (map (unpacked n) ks) R L → Gathered n (map (unpacked n) js) rest L
keys_pop n ks js i k row R rest L e t s u r g =
    let apart : ks ≡ js ++ k ∷ [] = last_apart ks i 0 e ∙ ap₂ (λ (z : List ℕ) (y : ℕ). z ++ y ∷ []) (sym t) s in
    gathered_less n (map (unpacked n) ks) (map (unpacked n) js) (unpacked n k) R rest L (ap (map (unpacked n)) apart ∙ map-append (unpacked n) js (k ∷ [])) (r ∙ ap (λ (z : List ℤ). z ∷ rest) (sym u)) g

-- the key of a row of n numbers
pub row_is : (n k : ℕ) (row : List ℤ) → length row ≡ n → unpacked (length row) k ≡ row → unpacked n k ≡ row
row_is n k row e h = ap (λ (j : ℕ). unpacked j k) (sym e) ∙ h

pub room_is : (n : ℕ) (row : List ℤ) (k : ℕ) → length row ≡ n → k < room (length row) → k < room n
room_is n row k e h = subst (λ (j : ℕ). k < room j) e h

-- what is left of the keys, sorted
pub sorted_keys : (n : ℕ) (L : List (List ℤ)) (ks js : List ℕ) (flat : List ℤ) → 0 < n → All (λ k. k < room n) ks → AreLone n L (map (unpacked n) ks) → IsPermutation ks js → IsSorted nat_cmp js → flat ≡ flat_of (unpaired (map (unpacked n) js))
    → (length flat % n ≡ 0) × IsReduced n L (rows_of flat n 0)
sorted_keys n L ks js flat some small lone moved sorted written =
    lone_rows_are n L (map (unpacked n) ks) (map (unpacked n) js) flat some lone (IsPermutation-map (unpacked n) ks js moved)
    (steady_keys n js (All-permutation (λ k. k < room n) ks js moved small) sorted) written
