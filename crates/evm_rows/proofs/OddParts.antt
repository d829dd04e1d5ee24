-- The places that occur an odd number of times, as flat numbers.
use Rattle.std.proofs.Common.{◌≡◌, ℕ, ◌+◌, ◌-◌, ◌*◌, ◌%◌, ◌<◌, ◌≤◌, ◌||◌, true, List, [], ◌∷◌, ◌++◌, length, take, drop, ℤ, sym, ap, ap₂, ◌∙◌, subst, arith}
use Rattle.std.specs.Bool.{MatchBool, nat_lt}
use native.Mathlib.Nat.{mul-mod_left}
use Rattle.std.proofs.lemmas.Bool.{lt-ltb, le-ltb}
use Rattle.std.proofs.Math.Nat.{mul-add-mod_self_right}
use Rattle.evm_cells.specs.Places.{same, has, ascending}
use Rattle.evm_cells.specs.Booleans.{xor}
use Rattle.evm_cells.proofs.Xor.{xsum}
use Rattle.evm_cells.proofs.Sum.{xsum-append}
use Rattle.evm_cells.proofs.Universe.{xsum-same_place}
use Rattle.evm_cells.proofs.Places.{strict_places}
use Rattle.evm_rows.specs.Rows.{rows_of, flat_of, merge_xor, has_row, ascends}
use Rattle.evm_rows.specs.Groups.{HasOddPlace, IsOddPart, IsPaired}
use Rattle.evm_rows.proofs.RowsLaws.{rows_of-nil, rows_of-cons}
use Rattle.evm_rows.proofs.RowsOrder.{Wide, rows_of-wide, rows_of-own, rows_of-merge, merge_xor-all, merge_xor-ascends, length-flat_of}
use Rattle.evm_rows.proofs.Lines.{rows_of-append}
use Rattle.evm_rows.proofs.Pairs.{count_of}
use Rattle.evm_rows.proofs.Bridge.{has-row, differ-xor, ascends_from, ascending_from}
use Rattle.evm_rows.proofs.RowsMembers.{has_row-merge_xor}

-- of an ascending list each place occurs once
pub odd_part_itself : (K : List (List ℤ)) → ascending K ≡ true → IsOddPart K K
odd_part_itself K a = record { rises = a; members = λ q. sym (count_of K q ∙ xsum-same_place K q a) }

-- of two lists, one after the other: the merge of what each has
pub odd_part_both : (K L R A B : List (List ℤ)) → K ≡ L ++ R → IsOddPart L A → IsOddPart R B → IsOddPart K (merge_xor A B)
odd_part_both K L R A B e a b =
    let f : ascends A ≡ true = ascends_from A a.rises in
    let g : ascends B ≡ true = ascends_from B b.rises in
    record {
      rises = ascending_from (merge_xor A B) (merge_xor-ascends A B f g);
      members = λ q.
          sym (has-row q (merge_xor A B)) ∙ has_row-merge_xor q A B f g ∙ differ-xor (has_row q A) (has_row q B)
          ∙ ap₂ xor (has-row q A ∙ a.members q ∙ count_of L q) (has-row q B ∙ b.members q ∙ count_of R q)
          ∙ sym (xsum-append (λ s. same s q) L R) ∙ ap (xsum (λ s. same s q)) (sym e) ∙ sym (count_of K q);
    }

-- no place occurs an odd number of times exactly if the list of these is empty
pub odd_part_none : (K : List (List ℤ)) → IsOddPart K [] → IsPaired K
unfolding has
odd_part_none K o = λ q. sym (o.members q)

pub odd_part_some : (K : List (List ℤ)) (x : List ℤ) (O : List (List ℤ)) → IsOddPart K (x ∷ O) → HasOddPlace K
unfolding has
odd_part_some K x O o = (x, sym (o.members x) ∙ ap (λ t. t || has O x) (strict_places.itself x))

-- ---- in flat numbers

-- what is left of as many numbers as some rows have
pub whole_left : (k a b w long : ℕ) → a ≡ k * w → a + b ≡ long → long % w ≡ 0 → b % w ≡ 0
whole_left k a b w long e s whole = sym (mul-add-mod_self_right k w b) ∙ ap (λ (n : ℕ). n % w) (let f : k * w + b ≡ long = omega (arith, e, s) in f) ∙ whole

pub two_rows : (m w long : ℕ) → 1 < m → 0 < w → m * w ≡ long → w < long
two_rows m w long h some e = grind arith

wide_flat : (xs : List ℤ) (n : ℕ) → 0 < n → length xs % n ≡ 0 → Wide n (rows_of xs n 0)
wide_flat xs n some whole = let e : n - 0 ≡ n = omega arith in subst (λ (k : ℕ). Wide k (rows_of xs n 0)) e (rows_of-wide xs n 0 some whole)

-- rows that ascend
pub rests_whole : (flat xs : List ℤ) (w s : ℕ) → s < w → length flat % w ≡ 0 → xs ≡ flat_of (rows_of flat w s) → length xs % (w - s) ≡ 0
rests_whole flat xs w s left whole e =
    let rs = rows_of flat w s in
    ap (λ (k : ℕ). k % (w - s)) (ap length e ∙ length-flat_of (w - s) rs (rows_of-wide flat w s left whole)) ∙ mul-mod_left (length rs) (w - s)

pub rests_part : (flat xs : List ℤ) (w s : ℕ) → s < w → length flat % w ≡ 0 → ascending (rows_of flat w s) ≡ true → xs ≡ flat_of (rows_of flat w s)
    → IsOddPart (rows_of flat w s) (rows_of xs (w - s) 0)
rests_part flat xs w s left whole a e =
    let is : rows_of flat w s ≡ rows_of xs (w - s) 0 = sym (rows_of-own flat w s left whole) ∙ ap (λ zs. rows_of zs (w - s) 0) (sym e) in
    subst (λ (O : List (List ℤ)). IsOddPart (rows_of flat w s) O) is (odd_part_itself (rows_of flat w s) a)

-- the merge of what two halves have
pub merged_whole : (a b xs : List ℤ) (n : ℕ) → 0 < n → length a % n ≡ 0 → length b % n ≡ 0 → xs ≡ flat_of (merge_xor (rows_of a n 0) (rows_of b n 0)) → length xs % n ≡ 0
merged_whole a b xs n some p q e =
    let rs = merge_xor (rows_of a n 0) (rows_of b n 0) in
    let wide : Wide n rs = merge_xor-all (λ r. length r ≡ n) (rows_of a n 0) (rows_of b n 0) (wide_flat a n some p) (wide_flat b n some q) in
    ap (λ (k : ℕ). k % n) (ap length e ∙ length-flat_of n rs wide) ∙ mul-mod_left (length rs) n

pub merged_part : (flat first second a b xs : List ℤ) (w s n : ℕ) → 0 < w → 0 < n → flat ≡ first ++ second → length first % w ≡ 0 → length a % n ≡ 0 → length b % n ≡ 0
    → IsOddPart (rows_of first w s) (rows_of a n 0) → IsOddPart (rows_of second w s) (rows_of b n 0) → xs ≡ flat_of (merge_xor (rows_of a n 0) (rows_of b n 0))
    → IsOddPart (rows_of flat w s) (rows_of xs n 0)
merged_part flat first second a b xs w s n wide some both whole p q f g e =
    let rs = merge_xor (rows_of a n 0) (rows_of b n 0) in
    let is : rs ≡ rows_of xs n 0 = sym (rows_of-merge n (rows_of a n 0) (rows_of b n 0) some (wide_flat a n some p) (wide_flat b n some q)) ∙ ap (λ zs. rows_of zs n 0) (sym e) in
    let parted : rows_of flat w s ≡ rows_of first w s ++ rows_of second w s = ap (λ zs. rows_of zs w s) both ∙ rows_of-append first second w s wide whole in
    subst (λ (O : List (List ℤ)). IsOddPart (rows_of flat w s) O) is (odd_part_both (rows_of flat w s) (rows_of first w s) (rows_of second w s) (rows_of a n 0) (rows_of b n 0) parted f g)

-- there are some exactly if they have numbers
pub odd_part_tells : (K : List (List ℤ)) (xs : List ℤ) (w n : ℕ) → 0 < w → n ≡ length xs → IsOddPart K (rows_of xs w 0) → MatchBool (nat_lt 0 n) (HasOddPlace K) (IsPaired K)
odd_part_tells K [] w n some e o =
    let none : n ≤ 0 = omega (arith, e) in
    rw (le-ltb 0 n none) (let f = rows_of-nil w 0 in odd_part_none K (subst (λ (O : List (List ℤ)). IsOddPart K O) f o))
odd_part_tells K (x ∷ xs) w n some e o =
    let more : 0 < n = omega (arith, e) in
    let f = rows_of-cons (x ∷ xs) w 0 (omega arith) some in
    rw (lt-ltb 0 n more) (odd_part_some K (take w (x ∷ xs)) (rows_of (drop w (x ∷ xs)) w 0) (subst (λ (O : List (List ℤ)). IsOddPart K O) f o))
