-- Keys of rows that are moved into a box.
use Rattle.std.proofs.Common.{◌≡◌, ℕ, zero, suc, ◌+◌, ◌-◌, ◌*◌, ◌/◌, ◌%◌, ◌^◌, ◌<◌, ◌≤◌, Bool, true, List, [], ◌∷◌, ◌++◌, length, map, drop, take, get_or, ℤ, pos, int_lt, refl, sym, ap, ap₂, ◌∙◌, subst, arith, ⊎_elim, Some, ◌==◌, eq-eqb}
use Rattle.std.specs.List.{list_all}
use Rattle.std.specs.List.{All}
use Rattle.std.proofs.Math.Nat.{div-div-eq-div-mul}
use Rattle.std.proofs.lemmas.Nat.{div-mul-add, mod-mul-add, mod_below, div-add-mod', mul-le}
use Rattle.std.proofs.lemmas.List.{map-append, take_all}
use Rattle.std.proofs.lemmas.List.Elements.{All-push, All-pop, All-same, All-append, All-cons, All-nil}
use Rattle.evm_cells.specs.Booleans.{xor}
use Rattle.evm_cells.specs.Places.{same, without}
use Rattle.evm_cells.specs.Windows.{between, clamped, IsReduced}
use Rattle.evm_cells.proofs.Sum.{xsum-append, xsum-map}
use Rattle.evm_cells.proofs.Xor.{xsum, odd-count, and_both}
use Rattle.evm_shapes.specs.Keys.{number_of, unpacked, room, IsPut}
use Rattle.evm_shapes.specs.Moves.{low_rows, raised, closed}
use Rattle.evm_shapes.specs.Order.{AreLone}
use Rattle.evm_shapes.proofs.Clipped.{clamped_more}
use Rattle.evm_shapes.proofs.Closing.{low_goes_on, closed_sum}
use Rattle.evm_shapes.proofs.Lone.{Gathered, gathered_less, last_apart}
use Rattle.evm_shapes.proofs.Packed.{keys_push, unpacked_more, length-unpacked}

-- ---- one key more

pub put_away : (ks js : List ℕ) (i k : ℕ) → i + 1 ≡ length ks → js ≡ take i ks → get_or ks i 0 ≡ k → ks ≡ js ++ k ∷ []
put_away ks js i k e t s = last_apart ks i 0 e ∙ ap₂ (λ (z : List ℕ) (y : ℕ). z ++ y ∷ []) (sym t) s

pub put_room : (n : ℕ) (ks : List ℕ) (k : ℕ) (js : List ℕ) → IsPut ks k js → All (λ i. i < room n) ks → k < room n → All (λ i. i < room n) js
put_room n ks k js p a l = ⊎_elim
    (λ (e : js ≡ ks ++ k ∷ []). All-same (λ i. i < room n) js (ks ++ k ∷ []) e (All-push (λ i. i < room n) ks k a l))
    (λ (e : ks ≡ js ++ k ∷ []). (All-pop (λ i. i < room n) ks js (Some k) e a).0)
    p

pub put_gathered : (n : ℕ) (ks : List ℕ) (k : ℕ) (js : List ℕ) (row : List ℤ) (R rest L : List (List ℤ)) → IsPut ks k js → unpacked n k ≡ row → R ≡ row ∷ rest → Gathered n (map (unpacked n) ks) R L → Gathered n (map (unpacked n) js) rest L
put_gathered n ks k js row R rest L p u r g = ⊎_elim
    (λ (e : js ≡ ks ++ k ∷ []). keys_push n ks js k row R rest L e u r g)
    (λ (e : ks ≡ js ++ k ∷ []). gathered_less n (map (unpacked n) ks) (map (unpacked n) js) (unpacked n k) R rest L (ap (map (unpacked n)) e ∙ map-append (unpacked n) js (k ∷ [])) (r ∙ ap (λ (z : List ℤ). z ∷ rest) (sym u)) g)
    p

-- ---- one number more

pub clamped_key : (lo hi c : List ℤ) (i k w : ℕ) (x : ℤ) (all : List ℤ) → i < length lo → i < length hi → i < length c → w < 2 ^ 32 → number_of w ≡ x → x ≡ between (get_or lo i (pos 0)) (get_or hi i (pos 0)) (get_or c i (pos 0))
    → unpacked i k ++ clamped (drop i lo) (drop i hi) (drop i c) ≡ all → unpacked (i + 1) (k * 2 ^ 32 + w) ++ clamped (drop (i + 1) lo) (drop (i + 1) hi) (drop (i + 1) c) ≡ all
clamped_key lo hi c i k w x all l m o s e b h =
    let more : i + 1 ≡ suc i = omega arith in
    clamped_more lo hi c i (unpacked i k) (unpacked (i + 1) (k * 2 ^ 32 + w)) all l m o
    (ap (λ (j : ℕ). unpacked j (k * 2 ^ 32 + w)) more ∙ unpacked_more i k w s ∙ ap (λ (z : ℤ). unpacked i k ++ z ∷ []) (e ∙ b)) h

-- ---- one row more

pub low_put : (n : ℕ) (lo hi row : List ℤ) (ks : List ℕ) (k : ℕ) (js : List ℕ) (h : ℤ) (R rest : List (List ℤ)) (L : List (List ℤ)) → IsPut ks k js → unpacked n k ≡ clamped lo hi row → R ≡ row ∷ rest → int_lt (get_or row 0 (pos 0)) h ≡ true
    → Gathered n (map (unpacked n) ks) (map (clamped lo hi) (low_rows h R)) L → Gathered n (map (unpacked n) js) (map (clamped lo hi) (low_rows h rest)) L
low_put n lo hi row ks k js h R rest L p u r l g =
    put_gathered n ks k js (clamped lo hi row) (map (clamped lo hi) (low_rows h R)) (map (clamped lo hi) (low_rows h rest)) L p u (ap (map (clamped lo hi)) (low_goes_on h R rest row r l)) g

pub low_all : (row : List ℤ) (h : ℤ) (R rest V : List (List ℤ)) → R ≡ row ∷ rest → int_lt (get_or row 0 (pos 0)) h ≡ true → (low_rows h R ≡ R → low_rows h V ≡ V) → low_rows h rest ≡ rest → low_rows h V ≡ V
low_all row h R rest V r l f e = f (low_goes_on h R rest row r l ∙ ap (λ (z : List (List ℤ)). row ∷ z) e ∙ sym r)

-- a row that is cut to the length it has
pub cut_row : (n : ℕ) (row long : List ℤ) (R rest : List (List ℤ)) → length long ≤ n → row ≡ take n long → R ≡ long ∷ rest → R ≡ row ∷ rest
cut_row n row long R rest l f e = e ∙ ap (λ (p : List ℤ). p ∷ rest) (sym (f ∙ take_all n long l))

pub low_none : (h : ℤ) (R : List (List ℤ)) → R ≡ [] → low_rows h R ≡ []
unfolding low_rows
low_none h R e = ap (low_rows h) e

-- ---- keys that are put at a height

pub room_some : (n : ℕ) → 0 < room n
unfolding room
room_some zero = omega arith
room_some (suc n) = let h = room_some n in omega arith

mod_parts : (R k : ℕ) → 0 < R → k % (R * 2 ^ 32) ≡ (k / 2 ^ 32 % R) * 2 ^ 32 + k % 2 ^ 32
mod_parts R k some =
    let q : ℕ = k / 2 ^ 32 in
    let r : ℕ = k % 2 ^ 32 in
    let small : r < 2 ^ 32 = mod_below k (2 ^ 32) (omega arith) in
    let less : q % R < R = mod_below q R some in
    let t : (q % R) * 2 ^ 32 + r < R * 2 ^ 32 = omega arith in
    let whole : k ≡ (q / R) * (R * 2 ^ 32) + ((q % R) * 2 ^ 32 + r) =
    sym (div-add-mod' k (2 ^ 32)) ∙ ap (λ (z : ℕ). z * 2 ^ 32 + r) (sym (div-add-mod' q R)) ∙ spread (q / R) R (q % R) r in
    ap (λ (z : ℕ). z % (R * 2 ^ 32)) whole ∙ mod-mul-add (q / R) (R * 2 ^ 32) ((q % R) * 2 ^ 32 + r) t
  where
    spread : (a b c d : ℕ) → (a * b + c) * 2 ^ 32 + d ≡ a * (b * 2 ^ 32) + (c * 2 ^ 32 + d)
    spread a b c d = grind arith

-- a key by its first word
first_apart : (n k : ℕ) → unpacked (suc n) k ≡ number_of (k / room n % 2 ^ 32) ∷ unpacked n (k % room n)
unfolding unpacked room
first_apart zero k = ap (λ (z : ℕ). number_of (z % 2 ^ 32) ∷ []) (omega arith)
first_apart (suc n) k =
    let some : 0 < room n = room_some n in
    let small : k % 2 ^ 32 < 2 ^ 32 = mod_below k (2 ^ 32) (omega arith) in
    let parts : k % (room n * 2 ^ 32) ≡ (k / 2 ^ 32 % room n) * 2 ^ 32 + k % 2 ^ 32 = mod_parts (room n) k some in
    let turned : 2 ^ 32 * room n ≡ room n * 2 ^ 32 = omega arith in
    let high : k % (room n * 2 ^ 32) / 2 ^ 32 ≡ k / 2 ^ 32 % room n = ap (λ (z : ℕ). z / 2 ^ 32) parts ∙ div-mul-add (k / 2 ^ 32 % room n) (2 ^ 32) (k % 2 ^ 32) small in
    let low : k % (room n * 2 ^ 32) % 2 ^ 32 ≡ k % 2 ^ 32 = ap (λ (z : ℕ). z % 2 ^ 32) parts ∙ mod-mul-add (k / 2 ^ 32 % room n) (2 ^ 32) (k % 2 ^ 32) small in
    ap (λ (z : List ℤ). z ++ number_of (k % 2 ^ 32) ∷ []) (first_apart n (k / 2 ^ 32))
    ∙ ap₂ (λ (a : ℕ) (z : List ℤ). number_of (a % 2 ^ 32) ∷ z) (div-div-eq-div-mul k (2 ^ 32) (room n) ∙ ap (λ (m : ℕ). k / m) turned)
    (ap₂ (λ (a b : ℕ). unpacked n a ++ number_of b ∷ []) (sym high) (sym low))

without_head : (x : ℤ) (p : List ℤ) → without 0 (x ∷ p) ≡ p
unfolding without
without_head x p = refl

raised_one : (m w k : ℕ) → w < 2 ^ 32 → unpacked (suc m) (w * room m + k % room m) ≡ raised (number_of w) (unpacked (suc m) k)
raised_one m w k l =
    let small : k % room m < room m = mod_below k (room m) (room_some m) in
    let top : (w * room m + k % room m) / room m % 2 ^ 32 ≡ w = ap (λ (z : ℕ). z % 2 ^ 32) (div-mul-add w (room m) (k % room m) small) ∙ omega arith in
    let rest : (w * room m + k % room m) % room m ≡ k % room m = mod-mul-add w (room m) (k % room m) small in
    first_apart m (w * room m + k % room m) ∙ ap₂ (λ (a b : ℕ). number_of a ∷ unpacked m b) top rest
    ∙ ap (λ (z : List ℤ). number_of w ∷ z) (sym (ap (without 0) (first_apart m k) ∙ without_head (number_of (k / room m % 2 ^ 32)) (unpacked m (k % room m))))

pub raised_key : (n w k : ℕ) (at : ℤ) → 0 < n → w < 2 ^ 32 → number_of w ≡ at → unpacked n (w * room (n - 1) + k % room (n - 1)) ≡ raised at (unpacked n k)
raised_key zero w k at some l e = absurd (omega arith)
raised_key (suc m) w k at some l e =
    let less : suc m - 1 ≡ m = omega arith in
    ap (λ (j : ℕ). unpacked (suc m) (w * room j + k % room j)) less ∙ raised_one m w k l ∙ ap (λ (z : ℤ). raised z (unpacked (suc m) k)) e

pub raised_room : (n w k : ℕ) → 0 < n → w < 2 ^ 32 → w * room (n - 1) + k % room (n - 1) < room n
unfolding room
raised_room zero w k some l = absurd (omega arith)
raised_room (suc m) w k some l =
    let less : suc m - 1 ≡ m = omega arith in
    let small : k % room m < room m = mod_below k (room m) (room_some m) in
    let wide : (w + 1) * room m ≤ 2 ^ 32 * room m = mul-le (w + 1) (room m) (2 ^ 32) (room m) (omega arith) (omega arith) in
    subst (λ (j : ℕ). w * room j + k % room j < room m * 2 ^ 32) (sym less) (below (w * room m) (room m) (k % room m) wide small)
  where
    below : (a b c : ℕ) → (w + 1) * b ≤ 2 ^ 32 * b → c < b → w * b + c < b * 2 ^ 32
    below a b c x y = grind arith

pub raised_keys : (n w : ℕ) (at : ℤ) (ks : List ℕ) → 0 < n → w < 2 ^ 32 → number_of w ≡ at → map (unpacked n) (map (λ k. w * room (n - 1) + k % room (n - 1)) ks) ≡ map (raised at) (map (unpacked n) ks)
raised_keys n w at [] some l e = refl
raised_keys n w at (k ∷ ks) some l e = ap₂ (λ (p : List ℤ) (z : List (List ℤ)). p ∷ z) (raised_key n w k at some l e) (raised_keys n w at ks some l e)

-- ---- what is left

pub lone_reduced : (n : ℕ) (L W X : List (List ℤ)) → AreLone n L W → IsReduced n W X → IsReduced n L X
lone_reduced n L W X a r = record { ascends = r.ascends; wide = r.wide; odd_times = λ p. r.odd_times p ∙ a.odd_times (λ q. same q p) }

pub closed_reduced : (n : ℕ) (h : ℤ) (W X : List (List ℤ)) → IsReduced n (W ++ map (raised h) W) X → IsReduced n (closed h W) X
closed_reduced n h W X r = record {
  ascends = r.ascends;
  wide = r.wide;
  odd_times = λ p.
      let f : List ℤ → Bool = λ q. same q p in
      r.odd_times p ∙ odd-count f (W ++ map (raised h) W) ∙ xsum-append f W (map (raised h) W) ∙ ap (xor (xsum f W)) (xsum-map f (raised h) W)
      ∙ sym (closed_sum f h W) ∙ sym (odd-count f (closed h W));
}

keys_wide : (n : ℕ) (ks : List ℕ) → list_all (λ p. length p == n) (map (unpacked n) ks) ≡ true
keys_wide n [] = refl
keys_wide n (k ∷ ks) = and_both (length (unpacked n k) == n) (list_all (λ p. length p == n) (map (unpacked n) ks)) (eq-eqb (length (unpacked n k)) n (length-unpacked n k)) (keys_wide n ks)

pub keys_lone : (n : ℕ) (ks : List ℕ) → AreLone n (map (unpacked n) ks) (map (unpacked n) ks)
keys_lone n ks = record { wide = keys_wide n ks; odd_times = λ f. refl }

-- ---- keys of one to four numbers

pub room_one : (n : ℕ) → n ≡ 1 → room (n - 1) ≡ 1
unfolding room
room_one n e = ap (λ (k : ℕ). room (k - 1)) e

pub room_two : (n : ℕ) → n ≡ 2 → room (n - 1) ≡ 2 ^ 32
unfolding room
room_two n e = ap (λ (k : ℕ). room (k - 1)) e

pub room_three : (n : ℕ) → n ≡ 3 → room (n - 1) ≡ 2 ^ 64
unfolding room
room_three n e = ap (λ (k : ℕ). room (k - 1)) e

pub room_four : (n : ℕ) → n ≡ 4 → room (n - 1) ≡ 2 ^ 96
unfolding room
room_four n e = ap (λ (k : ℕ). room (k - 1)) e

pub key_row : (m n k : ℕ) (p : List ℤ) → m ≡ n → unpacked m k ≡ p → unpacked n k ≡ p
key_row m n k p e h = ap (λ (j : ℕ). unpacked j k) (sym e) ∙ h

pub room_all : (n k : ℕ) → 0 < n → n ≤ 4 → k < room n → k < 2 ^ 128
unfolding room
room_all zero k s l m = omega arith
room_all (suc zero) k s l m = omega arith
room_all (suc (suc zero)) k s l m = omega arith
room_all (suc (suc (suc zero))) k s l m = omega arith
room_all (suc (suc (suc (suc zero)))) k s l m = omega arith
room_all (suc (suc (suc (suc (suc n))))) k s l m = absurd (omega arith)

-- ---- what closes the keys

take_whole : (xs : List ℕ) (i : ℕ) → length xs ≤ i → take i xs ≡ xs
take_whole [] zero l = refl
take_whole [] (suc i) l = refl
take_whole (x ∷ xs) zero l = absurd (omega arith)
take_whole (x ∷ xs) (suc i) l = ap (λ (z : List ℕ). x ∷ z) (take_whole xs i (omega arith))

raised_small : (n w : ℕ) (ks : List ℕ) → 0 < n → w < 2 ^ 32 → All (λ i. i < room n) (map (λ k. w * room (n - 1) + k % room (n - 1)) ks)
raised_small n w [] some l = All-nil (λ i. i < room n)
raised_small n w (k ∷ ks) some l = All-cons (λ i. i < room n) (w * room (n - 1) + k % room (n - 1)) (map (λ k. w * room (n - 1) + k % room (n - 1)) ks) (raised_room n w k some l) (raised_small n w ks some l)

pub top_fits : (n w k top low : ℕ) → 0 < n → n ≤ 4 → w < 2 ^ 32 → top ≡ w * room (n - 1) → low ≡ k % room (n - 1) → top + low < 2 ^ 128
top_fits n w k top low some narrow l t e =
    subst (λ (z : ℕ). z < 2 ^ 128) (sym (ap₂ (λ (a b : ℕ). a + b) t e)) (room_all n (w * room (n - 1) + k % room (n - 1)) some narrow (raised_room n w k some l))

pub close_room : (n w top i : ℕ) (ks js : List ℕ) → 0 < n → w < 2 ^ 32 → top ≡ w * room (n - 1) → js ≡ ks ++ map (λ k. top + k % room (n - 1)) (take i ks) → All (λ k. k < room n) ks → All (λ k. k < room n) js
close_room n w top i ks js some l t e a =
    All-same (λ k. k < room n) js (ks ++ map (λ k. w * room (n - 1) + k % room (n - 1)) (take i ks)) (e ∙ ap (λ (z : ℕ). ks ++ map (λ k. z + k % room (n - 1)) (take i ks)) t)
    (All-append (λ k. k < room n) ks (map (λ k. w * room (n - 1) + k % room (n - 1)) (take i ks)) a (raised_small n w (take i ks) some l))

pub close_rows : (n w top i : ℕ) (at : ℤ) (ks js : List ℕ) → 0 < n → w < 2 ^ 32 → number_of w ≡ at → top ≡ w * room (n - 1) → length ks ≤ i → js ≡ ks ++ map (λ k. top + k % room (n - 1)) (take i ks)
    → map (unpacked n) js ≡ map (unpacked n) ks ++ map (raised at) (map (unpacked n) ks)
close_rows n w top i at ks js some l s t m e =
    ap (map (unpacked n)) (e ∙ ap₂ (λ (z : ℕ) (ys : List ℕ). ks ++ map (λ k. z + k % room (n - 1)) ys) t (take_whole ks i m))
    ∙ map-append (unpacked n) ks (map (λ k. w * room (n - 1) + k % room (n - 1)) ks)
    ∙ ap (λ (z : List (List ℤ)). map (unpacked n) ks ++ z) (raised_keys n w at ks some l s)
