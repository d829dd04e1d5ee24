-- The cut of rows at a height, in flat numbers.
use Rattle.std.proofs.Common.{◌≡◌, ℕ, zero, suc, ◌+◌, ◌-◌, ◌/◌, ◌%◌, ◌<◌, ◌≤◌, ◌⊎◌, Bool, true, false, ◌&&◌, ◌||◌, ◌==◌, List, [], ◌∷◌, ◌++◌, length, take, drop, map, filter, count_by, ℤ, inl, inr, refl, sym, ap, ap₂, ◌∙◌, subst, arith, append_assoc, append-nil, eq-eqb, eqb-true, ⊎_elim, take-add, length-append}
use Rattle.std.specs.List.{list_all}
use Rattle.std.proofs.lemmas.Bool.{ne_eqb}
use Rattle.std.proofs.lemmas.List.{length-take-le, drop_at}
use native.Mathlib.Nat.{mul-mod_left}
use Rattle.evm_cells.specs.Booleans.{xor_cells}
use Rattle.evm_cells.specs.Limits.{IsCellSet}
use Rattle.evm_cells.specs.Places.{same, has, ascending}
use Rattle.evm_cells.specs.Vertices.{odd, evm, cells, IsVertexList}
use Rattle.evm_cells.specs.Windows.{is_under, is_over, IsReduced}
use Rattle.evm_cells.proofs.Core.{vertices-evm}
use Rattle.evm_cells.proofs.Lists.{all-append}
use Rattle.evm_cells.proofs.Sides.{cell_set-part}
use Rattle.evm_cells.proofs.Universe.{same_sym, cell_set-cells}
use Rattle.evm_cells.proofs.Xor.{xsum, xsum-nil, and-true, and-false, and_both, and_first, and_second}
use Rattle.evm_rows.specs.Rows.{rows_of, flat_of, merge_xor, xor_rows, AreRows}
use Rattle.evm_rows.specs.Groups.{IsOddPart, IsFrontGroup, head_of}
use Rattle.evm_rows.proofs.BoxTests.{flat_of-append}
use Rattle.evm_rows.proofs.Bridge.{merge_is, vertices-xor}
use Rattle.evm_rows.proofs.FirstRows.{asc_none}
use Rattle.evm_rows.proofs.Lines.{rows_of-append, rows_of-single, rows_of-skip, rows_parted, empty_places}
use Rattle.evm_rows.proofs.Pairs.{count_of}
use Rattle.evm_rows.proofs.RowsLaws.{rows_of-nil, rows_of-cons, whole-first}
use Rattle.evm_rows.proofs.RowsOrder.{Wide, rows_of-wide, rows_of-flat_of, length-flat_of}
use Rattle.evm_rows.proofs.RowsPlaces.{length-rows_of, quotient}
use Rattle.evm_rows.proofs.Solids.{flat_of-rows_of, are_rows-from, cells-xor_rows}
use Rattle.evm_shapes.proofs.Shaped.{are_rows_of, cells_of}
use Rattle.evm_cutting.specs.Cuts.{IsBetween}
use Rattle.evm_cutting.specs.Levels.{lowered, put, starts_over, IsParted, IsClosed, IsCut, IsCutInTwo}
use Rattle.evm_cutting.proofs.Lowered.{below_rows}
use Rattle.evm_cutting.proofs.Sided.{above_by_xor}
use Rattle.evm_cutting.proofs.Closed.{IsCutSoFar, IsLowered, all_join, group_is, group_lowered, cut_more, no_places, puts_wide}
use Rattle.evm_cutting.proofs.Above.{IsOther, IsOtherSoFar, group_above, other_more}

to_wide : (n : ℕ) (S : List (List ℤ)) → Wide n S → list_all (λ p. length p == n) S ≡ true
to_wide n [] w = refl
to_wide n (p ∷ S) w = and_both (length p == n) (list_all (λ q. length q == n) S) (eq-eqb (length p) n w.0) (to_wide n S w.1)

from_wide : (n : ℕ) (S : List (List ℤ)) → list_all (λ p. length p == n) S ≡ true → Wide n S
from_wide n [] h = tt
from_wide n (p ∷ S) h = (eqb-true (length p) n (and_first (length p == n) (list_all (λ q. length q == n) S) h), from_wide n S (and_second (length p == n) (list_all (λ q. length q == n) S) h))

-- ---- the rows below the height

pub low_start : (i w : ℕ) (at : ℤ) (flat : List ℤ) → list_all (is_under i at) (rows_of (take 0 flat) w 0) ≡ true
low_start i w at flat = ap (list_all (is_under i at)) (rows_of-nil w 0)

pub low_more : (i w n : ℕ) (at : ℤ) (flat later row : List ℤ) → n + length later ≡ length flat → 0 < w → n % w ≡ 0 → 0 < length later → length later % w ≡ 0 → later ≡ drop n flat → row ≡ take w later → is_under i at row ≡ true
    → list_all (is_under i at) (rows_of (take n flat) w 0) ≡ true → list_all (is_under i at) (rows_of (take (n + w) flat) w 0) ≡ true
low_more i w n at flat later row counted wide steps some whole place r under so_far =
    let t : List ℤ → Bool = is_under i at in
    let front : length (take n flat) % w ≡ 0 = ap (λ (k : ℕ). k % w) (length-take-le n flat (omega arith)) ∙ steps in
    let long : length (take w later) ≡ w = length-take-le w later (whole-first (length later) w some whole) in
    let joined : take (n + w) flat ≡ take n flat ++ take w later = take-add n w flat ∙ ap (λ zs. take n flat ++ take w zs) (sym place) in
    ap (list_all t) (ap (λ zs. rows_of zs w 0) joined ∙ rows_of-append (take n flat) (take w later) w 0 wide front ∙ ap (λ rs. rows_of (take n flat) w 0 ++ rs) (rows_of-single (take w later) w 0 wide long))
    ∙ all-append t (rows_of (take n flat) w 0) (take w later ∷ [])
    ∙ and_both (list_all t (rows_of (take n flat) w 0)) (t (take w later) && true) so_far (and_both (t (take w later)) true (ap t (sym r) ∙ under) refl)

pub low_done : (i w n : ℕ) (at : ℤ) (flat low later : List ℤ) → n + length later ≡ length flat → 0 < w → n % w ≡ 0 → low ≡ take n flat → later ≡ drop n flat → list_all (is_under i at) (rows_of (take n flat) w 0) ≡ true
    → (rows_of later w 0 ≡ []) ⊎ ((row : List ℤ) × (rest : List (List ℤ)) × (rows_of later w 0 ≡ row ∷ rest) × (is_over i at row ≡ true))
    → IsParted i at (rows_of flat w 0) (rows_of low w 0) (rows_of later w 0)
low_done i w n at flat low later counted wide steps e place u end = record {
  both = rows_parted flat later w 0 n wide steps (omega arith) place ∙ ap (λ zs. rows_of zs w 0 ++ rows_of later w 0) (sym e);
  low = ap (λ zs. list_all (is_under i at) (rows_of zs w 0)) e ∙ u;
  high = ⊎_elim (λ k. ap (starts_over i at) k) (λ v. let (row, rest, k, o) = v in ap (starts_over i at) k ∙ o) end;
}

pub low_whole : (w n : ℕ) (flat low : List ℤ) → n ≤ length flat → n % w ≡ 0 → low ≡ take n flat → length low % w ≡ 0
low_whole w n flat low l steps e = ap (λ zs. length zs % w) e ∙ ap (λ (k : ℕ). k % w) (length-take-le n flat l) ∙ steps

-- ---- rows with numbers before them

pub put_more : (h : List ℤ) (x : ℤ) (out one two new all row : List ℤ) (R rest : List (List ℤ)) → R ≡ row ∷ rest → one ≡ out ++ h → two ≡ one ++ x ∷ [] → new ≡ two ++ row
    → out ++ flat_of (map (put h x) R) ≡ all → new ++ flat_of (map (put h x) rest) ≡ all
put_more h x out one two new all row R rest r a b c e =
    let more : List ℤ = flat_of (map (put h x) rest) in
    ap (λ z. z ++ more) (c ∙ ap (λ z. z ++ row) (b ∙ ap (λ z. z ++ x ∷ []) a ∙ append_assoc out h (x ∷ [])) ∙ append_assoc out (h ++ x ∷ []) row ∙ ap (λ z. out ++ z) (append_assoc h (x ∷ []) row))
    ∙ append_assoc out (put h x row) more ∙ ap (λ Z. out ++ flat_of (map (put h x) Z)) (sym r) ∙ e

pub put_end : (h : List ℤ) (x : ℤ) (out all : List ℤ) (R : List (List ℤ)) → R ≡ [] → out ++ flat_of (map (put h x) R) ≡ all → out ≡ all
put_end h x out all R r e = sym (append-nil out) ∙ ap (λ Z. out ++ flat_of (map (put h x) Z)) (sym r) ∙ e

-- ---- the rows that close a group

no_odd_part : IsOddPart [] []
unfolding has
no_odd_part = record { rises = asc_none; members = λ q. sym (count_of [] q ∙ xsum-nil (λ s. same s q)) }

pub closed_empty : (n i : ℕ) (at : ℤ) (U : List (List ℤ)) (old new : List ℤ) → U ≡ [] → new ≡ old → IsClosed n i at U old new
closed_empty n i at U old new e f = record {
  places = [];
  wide = refl;
  odd = subst (λ (T : List (List ℤ)). IsOddPart (map (drop (suc i)) T) []) (sym e) no_odd_part;
  made = f ∙ sym (append-nil old);
}

-- as many rows as numbers tell
count_rows : (flat : List ℤ) (w : ℕ) → 0 < w → length flat % w ≡ 0 → length flat / w ≡ length (rows_of flat w 0)
count_rows flat w wide whole = quotient (length (rows_of flat w 0)) w (length flat) wide (length-rows_of flat w 0 wide whole)

all_wide : (flat : List ℤ) (w : ℕ) → 0 < w → length flat % w ≡ 0 → Wide w (rows_of flat w 0)
all_wide flat w wide whole = let less : w - 0 ≡ w = omega arith in subst (λ (m : ℕ). Wide m (rows_of flat w 0)) less (rows_of-wide flat w 0 wide whole)

last_odd : (i w : ℕ) (flat : List ℤ) (q : List ℤ) → i + 1 ≡ w → length flat % w ≡ 0 → odd (count_by (λ s. same s q) (map (drop (suc i)) (rows_of flat w 0))) ≡ (same [] q && odd (length flat / w))
last_odd i w flat q e whole =
    let wide : 0 < w = omega arith in
    let m : suc i ≡ w = omega arith in
    count_of (map (drop (suc i)) (rows_of flat w 0)) q
    ∙ ap (λ (j : ℕ). xsum (λ s. same s q) (map (drop j) (rows_of flat w 0))) m
    ∙ empty_places w (rows_of flat w 0) q (all_wide flat w wide whole)
    ∙ ap (λ (k : ℕ). same [] q && odd k) (sym (count_rows flat w wide whole))

pub closed_even : (i w : ℕ) (at : ℤ) (flat old new : List ℤ) → i + 1 ≡ w → length flat % w ≡ 0 → (length flat / w % 2 ≡ 1 → ⊥) → new ≡ old → IsClosed w i at (rows_of flat w 0) old new
unfolding has odd
closed_even i w at flat old new e whole even f = record {
  places = [];
  wide = refl;
  odd = record {
    rises = asc_none;
    members = λ q. sym (last_odd i w flat q e whole ∙ ap (λ t. same [] q && t) (ne_eqb (length flat / w % 2) 1 even) ∙ and-false (same [] q));
  };
  made = f ∙ sym (append-nil old);
}

one_asc : (x : List ℤ) → ascending (x ∷ []) ≡ true
unfolding ascending
one_asc x = refl

or-false : (b : Bool) → (b || false) ≡ b
or-false true = refl
or-false false = refl

-- the head of rows in flat numbers
head_is : (i w : ℕ) (flat head : List ℤ) → 0 < length flat → i < w → length flat % w ≡ 0 → head ≡ take i flat → head ≡ head_of i (rows_of flat w 0)
head_is i w flat head some l whole e =
    e ∙ sym (ap (head_of i) (rows_of-cons flat w 0 some (omega arith)) ∙ shorter i w flat (omega arith))
  where
    shorter : (j k : ℕ) (xs : List ℤ) → j ≤ k → take j (take k xs) ≡ take j xs
    shorter zero k xs m = refl
    shorter (suc j) zero xs m = absurd (omega arith)
    shorter (suc j) (suc k) [] m = refl
    shorter (suc j) (suc k) (x ∷ xs) m = ap (λ z. x ∷ z) (shorter j k xs (omega arith))

pub closed_odd : (i w : ℕ) (at : ℤ) (flat head old one new : List ℤ) → i + 1 ≡ w → 0 < length flat → length flat % w ≡ 0 → length flat / w % 2 ≡ 1 → head ≡ take i flat → one ≡ old ++ head → new ≡ one ++ at ∷ []
    → IsClosed w i at (rows_of flat w 0) old new
unfolding has odd
closed_odd i w at flat head old one new e some whole is h a b = record {
  places = [] ∷ [];
  wide = and_both (0 == w - suc i) true (eq-eqb 0 (w - suc i) (omega arith)) refl;
  odd = record {
    rises = one_asc [];
    members = λ q.
        or-false (same q []) ∙ same_sym q [] ∙ sym (and-true (same [] q))
        ∙ sym (last_odd i w flat q e whole ∙ ap (λ t. same [] q && t) (eq-eqb (length flat / w % 2) 1 is));
  };
  made =
      b ∙ ap (λ z. z ++ at ∷ []) (a ∙ ap (λ z. old ++ z) (head_is i w flat head some (omega arith) whole h))
      ∙ append_assoc old (head_of i (rows_of flat w 0)) (at ∷ []) ∙ ap (λ z. old ++ z) (sym (append-nil (put (head_of i (rows_of flat w 0)) at [])));
}

pub closed_places : (i w k m : ℕ) (at : ℤ) (flat head xs old new : List ℤ) → i + 1 < w → 0 < length flat → length flat % w ≡ 0 → k ≡ w - (i + 1) → m ≡ k → length xs % k ≡ 0 → head ≡ take i flat
    → IsOddPart (rows_of flat w (i + 1)) (rows_of xs k 0) → new ≡ old ++ flat_of (map (put head at) (rows_of xs m 0)) → IsClosed w i at (rows_of flat w 0) old new
closed_places i w k m at flat head xs old new l some whole e d whole_xs h o a =
    let j : i + 1 ≡ suc i = omega arith in
    let wide : 0 < k = omega arith in
    let f : k ≡ w - suc i = omega arith in
    record {
      places = rows_of xs k 0;
      wide = ap (λ (z : ℕ). list_all (λ q. length q == z) (rows_of xs k 0)) (sym f) ∙ to_wide k (rows_of xs k 0) (all_wide xs k wide whole_xs);
      odd = subst (λ (T : List (List ℤ)). IsOddPart T (rows_of xs k 0)) (rows_of-skip flat w (i + 1) ∙ ap (λ (z : ℕ). map (drop z) (rows_of flat w 0)) j) o;
      made = a ∙ ap₂ (λ (z : List ℤ) (y : ℕ). old ++ flat_of (map (put z at) (rows_of xs y 0))) (head_is i w flat head some (omega arith) whole h) d;
    }

-- ---- group after group

pub cut_none : (w : ℕ) (out : List ℤ) → out ≡ [] → rows_of out w 0 ≡ []
cut_none w out e = ap (λ z. rows_of z w 0) e ∙ rows_of-nil w 0

-- closing rows have as many numbers as the others
closing_wide : (w i : ℕ) (at : ℤ) (U O : List (List ℤ)) → i < w → Wide w U → list_all (λ q. length q == w - suc i) O ≡ true → IsOddPart (map (drop (suc i)) U) O → Wide w (map (put (head_of i U) at) O)
closing_wide w i at [] O l wide a o = subst (λ (T : List (List ℤ)). Wide w (map (put (head_of i []) at) T)) (sym (no_places (suc i) O o)) tt
closing_wide w i at (p ∷ U) O l wide a o =
    let k : length p ≡ w = wide.0 in
    from_wide w (map (put (take i p) at) O) (puts_wide w i (take i p) at O l (length-take-le i p (omega arith)) a)

-- the closing rows of a cut
abbrev closing : (w i : ℕ) (at : ℤ) (P S : List (List ℤ)) (old new : List ℤ) → IsCut w i at P S old new → List (List ℤ)
closing w i at P S old new c = map (put (head_of i c.fewer) at) c.closed.places

cut_wide : (w i : ℕ) (at : ℤ) (P S : List (List ℤ)) (old new : List ℤ) → i < w → Wide w P → Wide w S → (c : IsCut w i at P S old new) → Wide w (closing w i at P S old new c)
cut_wide w i at P S old new l a b c =
    closing_wide w i at c.fewer c.closed.places l (⊎_elim (λ (e : c.fewer ≡ P). subst (Wide w) (sym e) a) (λ (e : c.fewer ≡ S). subst (Wide w) (sym e) b) c.one_side) c.closed.wide c.closed.odd

-- numbers with rows after them
rows_added : (w : ℕ) (out new : List ℤ) (N : List (List ℤ)) → 0 < w → length out % w ≡ 0 → Wide w N → new ≡ out ++ flat_of N → (length new % w ≡ 0) × (rows_of new w 0 ≡ rows_of out w 0 ++ N)
rows_added w out new N wide whole u e =
    let r : rows_of new w 0 ≡ rows_of out w 0 ++ N = ap (λ z. rows_of z w 0) e ∙ rows_of-append out (flat_of N) w 0 wide whole ∙ ap (λ Z. rows_of out w 0 ++ Z) (rows_of-flat_of w N wide u) in
    let v : Wide w (rows_of out w 0 ++ N) =
    from_wide w (rows_of out w 0 ++ N) (all_join (λ p. length p == w) (rows_of out w 0) N (to_wide w (rows_of out w 0) (all_wide out w wide whole)) (to_wide w N u)) in
    let made : new ≡ flat_of (rows_of out w 0 ++ N) = e ∙ ap (λ z. z ++ flat_of N) (sym (flat_of-rows_of out w wide whole)) ∙ sym (flat_of-append (rows_of out w 0) N) in
    (ap (λ (z : List ℤ). length z % w) made ∙ ap (λ (k : ℕ). k % w) (length-flat_of w (rows_of out w 0 ++ N) v) ∙ mul-mod_left (length (rows_of out w 0 ++ N)) w, r)

-- the rows of a group G, cut in two
pub record IsGroupCut (w i : ℕ) (at : ℤ) (R G T P S : List (List ℤ)) : Type 0 where
  pub within : i < w
  pub some : 0 < length R
  pub front : IsFrontGroup i R G T
  pub parted : IsParted i at G P S

-- the numbers of what is below, with one more group
pub cut_group : (w i : ℕ) (at : ℤ) (V R G T P S : List (List ℤ)) (out new : List ℤ) → IsGroupCut w i at R G T P S → length out % w ≡ 0 → IsCutSoFar w i at V (rows_of out w 0) R → (c : IsCut w i at P S out new)
    → (length new % w ≡ 0) × (rows_of new w 0 ≡ rows_of out w 0 ++ (P ++ closing w i at P S out new c)) × IsCutSoFar w i at V (rows_of new w 0) T
cut_group w i at V R G T P S out new t whole s c =
    let l : i < w = t.within in
    let (paired, g) = group_is w i at V (rows_of out w 0) R G T l s t.front in
    let M : List (List ℤ) = closing w i at P S out new c in
    let N : List (List ℤ) = P ++ M in
    let n : IsLowered w i at (head_of i R) G N = group_lowered w i at (head_of i R) G P S c.fewer c.closed.places g t.parted c.one_side c.closed.wide c.closed.odd in
    let more : IsCutSoFar w i at V (rows_of out w 0 ++ N) T = cut_more w i at V (rows_of out w 0) R G T N l t.some s t.front paired n in
    let made : new ≡ out ++ flat_of N = c.closed.made ∙ append_assoc out (flat_of P) (flat_of M) ∙ ap (λ z. out ++ z) (sym (flat_of-append P M)) in
    let (a, r) = rows_added w out new N (omega arith) whole (from_wide w N n.wide) made in
    (a, r, subst (λ (Z : List (List ℤ)). IsCutSoFar w i at V Z T) (sym r) more)

-- and those of what is above
pub other_group : (w i : ℕ) (at : ℤ) (V R G T P S : List (List ℤ)) (out new above more : List ℤ) → IsGroupCut w i at R G T P S → length out % w ≡ 0 → length above % w ≡ 0 → IsCutSoFar w i at V (rows_of out w 0) R
    → IsOtherSoFar w i V (rows_of out w 0) (rows_of above w 0) R → IsCutInTwo w i at P S out new above more
    → (length more % w ≡ 0) × IsOtherSoFar w i V (rows_of new w 0) (rows_of more w 0) T
other_group w i at V R G T P S out new above more t whole whole_above s o b =
    let c : IsCut w i at P S out new = b.cut in
    let (paired, g) = group_is w i at V (rows_of out w 0) R G T t.within s t.front in
    let M : List (List ℤ) = closing w i at P S out new c in
    let K : List (List ℤ) = merge_xor M S in
    let k : IsOther w i (head_of i R) G (P ++ M) K = group_above w i at (head_of i R) G P S c.fewer c.closed.places g t.parted c.one_side c.closed.wide c.closed.odd in
    let next : IsOtherSoFar w i V (rows_of out w 0 ++ (P ++ M)) (rows_of above w 0 ++ K) T =
    other_more w i V (rows_of out w 0) (rows_of above w 0) R G T (P ++ M) K t.within t.some s.rises s.long t.front k o in
    let (a, r) = rows_added w above more K (let l = t.within in omega arith) whole_above (from_wide w K k.wide) b.rest in
    let below = (cut_group w i at V R G T P S out new t whole s c).1 in
    (a, subst (λ (Y : List (List ℤ)). IsOtherSoFar w i V Y (rows_of more w 0) T) (sym below) (subst (λ (Z : List (List ℤ)). IsOtherSoFar w i V (rows_of out w 0 ++ (P ++ M)) Z T) (sym r) next))

-- a cut of a group, by the side that its closing rows are asked of
pub cut_is : (w i : ℕ) (at : ℤ) (low high fewer old middle new : List ℤ) → 0 < w → length low % w ≡ 0 → (fewer ≡ low) ⊎ (fewer ≡ high) → middle ≡ old ++ low → IsClosed w i at (rows_of fewer w 0) middle new
    → IsCut w i at (rows_of low w 0) (rows_of high w 0) old new
cut_is w i at low high fewer old middle new l whole side m c = record {
  fewer = rows_of fewer w 0;
  one_side = ⊎_elim (λ (e : fewer ≡ low). inl (ap (λ (z : List ℤ). rows_of z w 0) e)) (λ (e : fewer ≡ high). inr (ap (λ (z : List ℤ). rows_of z w 0) e)) side;
  closed = subst (λ (z : List ℤ). IsClosed w i at (rows_of fewer w 0) z new) (m ∙ ap (λ (z : List ℤ). old ++ z) (sym (flat_of-rows_of low w l whole))) c;
}

-- the closing rows, as the numbers after the kept ones
pub closing_numbers : (w i : ℕ) (at : ℤ) (low high old new : List ℤ) → i < w → length low % w ≡ 0 → length high % w ≡ 0 → (c : IsCut w i at (rows_of low w 0) (rows_of high w 0) old new)
    → (length old + length low ≤ length new) × ((after : List ℤ) → after ≡ drop (length old + length low) new → (length after % w ≡ 0) × (rows_of after w 0 ≡ closing w i at (rows_of low w 0) (rows_of high w 0) old new c))
closing_numbers w i at low high old new l whole_low whole_high c =
    let wide : 0 < w = omega arith in
    let M : List (List ℤ) = closing w i at (rows_of low w 0) (rows_of high w 0) old new c in
    let u : Wide w M = cut_wide w i at (rows_of low w 0) (rows_of high w 0) old new l (all_wide low w wide whole_low) (all_wide high w wide whole_high) c in
    let made : new ≡ (old ++ low) ++ flat_of M = c.closed.made ∙ ap (λ z. (old ++ z) ++ flat_of M) (flat_of-rows_of low w wide whole_low) in (
      omega (arith, ap length made, length-append (old ++ low) (flat_of M), length-append old low),
      λ after e.
          let is : after ≡ flat_of M = e ∙ ap (drop (length old + length low)) made ∙ drop_at (old ++ low) (flat_of M) (length old + length low) (length-append old low) in
          (ap (λ (z : List ℤ). length z % w) is ∙ ap (λ (k : ℕ). k % w) (length-flat_of w M u) ∙ mul-mod_left (length M) w, ap (λ z. rows_of z w 0) is ∙ rows_of-flat_of w M wide u),
    )

pub some_rows : (flat : List ℤ) (w : ℕ) → 0 < w → 0 < length flat → 0 < length (rows_of flat w 0)
some_rows flat w wide some = let e = ap length (rows_of-cons flat w 0 some wide) in omega (arith, e)

-- ---- the whole

-- the vertices of a view that passes over no number
pub whole_rows : (w s : ℕ) (flat : List ℤ) → s ≡ 0 → IsVertexList (w - s) (rows_of flat w s) → IsVertexList w (rows_of flat w 0)
whole_rows w s flat e v =
    let d : w - s ≡ w = omega arith in
    subst (λ (k : ℕ). IsVertexList k (rows_of flat w 0)) d (subst (λ (k : ℕ). IsVertexList (w - s) (rows_of flat w k)) e v)

pub below_made : (w s i : ℕ) (at : ℤ) (flat xs : List ℤ) → w ≤ 6 → s < w → s ≡ 0 → IsBetween (w - s) i at → IsVertexList (w - s) (rows_of flat w s) → length xs % w ≡ 0 → IsReduced w (map (lowered i at) (rows_of flat w 0)) (rows_of xs w 0)
    → AreRows xs w 0 × (cells w (rows_of xs w 0) ≡ filter (is_under i at) (cells (w - s) (rows_of flat w s)))
below_made w s i at flat xs few left e b v whole r =
    let d : w - s ≡ w = omega arith in
    let V : List (List ℤ) = rows_of flat w 0 in
    let T : List (List ℤ) = filter (is_under i at) (cells w V) in
    let t : IsCellSet w T = cell_set-part w (is_under i at) (cells w V) (cell_set-cells w V) in
    let c : IsBetween w i at = subst (λ (k : ℕ). IsBetween k i at) d b in
    let k : rows_of xs w 0 ≡ evm w T = below_rows w i at V (rows_of xs w 0) few c (whole_rows w s flat e v) r in (
      are_rows_of w xs T (omega arith) few whole t k,
      cells_of w w (rows_of xs w 0) T refl t k ∙ ap₂ (λ (n m : ℕ). filter (is_under i at) (cells n (rows_of flat w m))) (sym d) (sym e),
    )

pub above_made : (w s i : ℕ) (at : ℤ) (flat xs ys : List ℤ) → w ≤ 6 → s < w → s ≡ 0 → IsBetween (w - s) i at → IsVertexList (w - s) (rows_of flat w s) → IsReduced w (map (lowered i at) (rows_of flat w 0)) (rows_of xs w 0)
    → length ys % w ≡ 0 → rows_of ys w 0 ≡ merge_xor (rows_of flat w 0) (rows_of xs w 0)
    → AreRows ys w 0 × (cells w (rows_of ys w 0) ≡ filter (is_over i at) (cells (w - s) (rows_of flat w s)))
above_made w s i at flat xs ys few left e b v r whole m =
    let d : w - s ≡ w = omega arith in
    let V : List (List ℤ) = rows_of flat w 0 in
    let W : List (List ℤ) = rows_of xs w 0 in
    let T : List (List ℤ) = filter (is_under i at) (cells w V) in
    let t : IsCellSet w T = cell_set-part w (is_under i at) (cells w V) (cell_set-cells w V) in
    let vV : IsVertexList w V = whole_rows w s flat e v in
    let k : W ≡ evm w T = below_rows w i at V W few (subst (λ (j : ℕ). IsBetween j i at) d b) vV r in
    let vW : IsVertexList w W = subst (λ (Z : List (List ℤ)). IsVertexList w Z) (sym k) (vertices-evm w T t) in
    let is : rows_of ys w 0 ≡ xor_rows w V W = m ∙ merge_is w V W vV vW in (
      are_rows-from ys w (omega arith) few whole (subst (λ (Z : List (List ℤ)). IsVertexList w Z) (sym is) (vertices-xor w V W)),
      ap (cells w) is ∙ cells-xor_rows w V W ∙ ap (xor_cells w (cells w V)) (cells_of w w W T refl t k) ∙ above_by_xor w i at (cells w V) (cell_set-cells w V)
          ∙ ap₂ (λ (n j : ℕ). filter (is_over i at) (cells n (rows_of flat w j))) (sym d) (sym e),
    )
