-- What is above a height of an axis, group after group: the rows that just one of the closing rows and the rows not below has.
use Rattle.std.proofs.Common.{◌≡◌, ℕ, suc, ◌-◌, ◌<◌, ◌⊎◌, Bool, true, false, ◌==◌, List, [], ◌∷◌, ◌++◌, length, take, drop, map, ℤ, refl, sym, ap, ap₂, ◌∙◌, subst}
use Rattle.std.specs.List.{list_all, AllByRecursion}
use Rattle.evm_cells.specs.Booleans.{xor}
use Rattle.evm_cells.specs.Places.{same, has, ascending}
use Rattle.evm_cells.proofs.Places.{ascending-rising}
use Rattle.evm_cells.proofs.Sum.{xsum-append}
use Rattle.evm_cells.proofs.Universe.{same_sets, xsum-same_place}
use Rattle.evm_cells.proofs.Xor.{xsum, xsum-nil, xor_assoc, xor_comm, and_first, and_second, and_both}
use Rattle.evm_rows.specs.Rows.{merge_xor, has_row}
use Rattle.evm_rows.specs.Groups.{IsOddPart, IsFrontGroup, head_of}
use Rattle.evm_rows.proofs.Bridge.{has-row, differ-xor, ascends_from, ascending_from}
use Rattle.evm_rows.proofs.Lines.{asc_tail}
use Rattle.evm_rows.proofs.RowsMembers.{has_row-merge_xor}
use Rattle.evm_rows.proofs.RowsOrder.{merge_xor-all, merge_xor-ascends}
use Rattle.evm_cutting.specs.Levels.{put, IsParted}
use Rattle.evm_cutting.proofs.Closed.{IsGroup, IsAhead, all_join, all_right, head_alike, alike_fewer, puts_rise, puts_wide, puts_alike, ahead_none, ahead_more}

-- ---- the merge of two lists that ascend

merge_rises : (V W : List (List ℤ)) → ascending V ≡ true → ascending W ≡ true → ascending (merge_xor V W) ≡ true
merge_rises V W a b = ascending_from (merge_xor V W) (merge_xor-ascends V W (ascends_from V a) (ascends_from W b))

merge_members : (V W : List (List ℤ)) (p : List ℤ) → ascending V ≡ true → ascending W ≡ true → has (merge_xor V W) p ≡ xor (has V p) (has W p)
merge_members V W p a b =
    sym (has-row p (merge_xor V W)) ∙ has_row-merge_xor p V W (ascends_from V a) (ascends_from W b)
    ∙ differ-xor (has_row p V) (has_row p W) ∙ ap₂ xor (has-row p V) (has-row p W)

merge_passes : (t : List ℤ → Bool) (V W : List (List ℤ)) → list_all t V ≡ true → list_all t W ≡ true → list_all t (merge_xor V W) ≡ true
merge_passes t V W a b = back (merge_xor V W) (merge_xor-all (λ r. t r ≡ true) V W (each V a) (each W b))
  where
    each : (S : List (List ℤ)) → list_all t S ≡ true → AllByRecursion (λ r. t r ≡ true) S
    each [] h = tt
    each (p ∷ S) h = (and_first (t p) (list_all t S) h, each S (and_second (t p) (list_all t S) h))

    back : (S : List (List ℤ)) → AllByRecursion (λ r. t r ≡ true) S → list_all t S ≡ true
    back [] h = refl
    back (p ∷ S) h = and_both (t p) (list_all t S) h.0 (back S h.1)

-- ---- one group

-- K are the rows of which just one of G and N has each, with the first i numbers h
pub record IsOther (n i : ℕ) (h : List ℤ) (G N K : List (List ℤ)) : Type 0 where
  pub ascends : ascending K ≡ true
  pub wide : list_all (λ p. length p == n) K ≡ true
  pub alike : list_all (λ p. same (take i p) h) K ≡ true
  pub times : (p : List ℤ) → xor (xsum (λ q. same q p) K) (xsum (λ q. same q p) N) ≡ xsum (λ q. same q p) G

-- rows M that two lists share cancel
shared : (m s p : Bool) → xor (xor m s) (xor p m) ≡ xor p s
unfolding xor
shared true true true = refl
shared true true false = refl
shared true false true = refl
shared true false false = refl
shared false true true = refl
shared false true false = refl
shared false false true = refl
shared false false false = refl

-- the closing rows, merged with the rows that are not below, are what the rows below and the closing rows leave
pub group_above : (n i : ℕ) (at : ℤ) (h : List ℤ) (G P S fewer O : List (List ℤ)) → IsGroup n i h G → IsParted i at G P S → (fewer ≡ P) ⊎ (fewer ≡ S)
    → list_all (λ q. length q == n - suc i) O ≡ true → IsOddPart (map (drop (suc i)) fewer) O
    → IsOther n i h G (P ++ map (put (head_of i fewer) at) O) (merge_xor (map (put (head_of i fewer) at) O) S)
group_above n i at h G P S fewer O g c side wide o =
    let w : list_all (λ p. length p == n) (P ++ S) ≡ true = ap (list_all (λ p. length p == n)) (sym c.both) ∙ g.long in
    let a : list_all (λ p. same (take i p) h) (P ++ S) ≡ true = ap (list_all (λ p. same (take i p) h)) (sym c.both) ∙ g.alike in
    let rs : ascending S ≡ true = asc_tail P S (ap ascending (sym c.both) ∙ g.rises) in
    let M : List (List ℤ) = map (put h at) O in
    let K : List (List ℤ) = merge_xor M S in
    let m : map (put (head_of i fewer) at) O ≡ M = head_alike i h at fewer O (alike_fewer i h P S fewer a side) o in
    let rm : ascending M ≡ true = ascending-rising M ∙ puts_rise h at O (sym (ascending-rising O) ∙ o.rises) in
    let rk : ascending K ≡ true = merge_rises M S rm rs in
    let times : (p : List ℤ) → xor (xsum (λ q. same q p) K) (xsum (λ q. same q p) (P ++ M)) ≡ xsum (λ q. same q p) G =
    λ p.
    let f : List ℤ → Bool = λ q. same q p in
    ap₂ xor (xsum-same_place K p rk ∙ merge_members M S p rm rs ∙ ap₂ xor (sym (xsum-same_place M p rm)) (sym (xsum-same_place S p rs))) (xsum-append f P M)
    ∙ shared (xsum f M) (xsum f S) (xsum f P) ∙ sym (xsum-append f P S) ∙ ap (xsum f) (sym c.both) in
    subst (λ (Z : List (List ℤ)). IsOther n i h G (P ++ Z) (merge_xor Z S)) (sym m)
    (record {
      ascends = rk;
      wide = merge_passes (λ p. length p == n) M S (puts_wide n i h at O g.within g.deep wide) (all_right (λ p. length p == n) P S w);
      alike = merge_passes (λ p. same (take i p) h) M S (puts_alike i h at O g.deep) (all_right (λ p. same (take i p) h) P S a);
      times = times;
    })

-- ---- group after group

-- X are the rows, before the rows R in V, of which just one of V and W has each
pub record IsOtherSoFar (n i : ℕ) (V W X R : List (List ℤ)) : Type 0 where
  pub ascends : ascending X ≡ true
  pub wide : list_all (λ p. length p == n) X ≡ true
  pub ahead : IsAhead i X R
  pub times : (p : List ℤ) → xor (xsum (λ q. same q p) X) (xor (xsum (λ q. same q p) W) (xsum (λ q. same q p) R)) ≡ xsum (λ q. same q p) V

pub other_start : (n i : ℕ) (V : List (List ℤ)) → IsOtherSoFar n i V [] [] V
unfolding ascending xor
other_start n i V = record {
  ascends = refl;
  wide = refl;
  ahead = ahead_none i V;
  times = λ p. ap₂ (λ s t. xor s (xor t (xsum (λ q. same q p) V))) (xsum-nil (λ q. same q p)) (xsum-nil (λ q. same q p));
}

pub other_more : (n i : ℕ) (V W X R G T N K : List (List ℤ)) → i < n → 0 < length R → ascending R ≡ true → list_all (λ p. length p == n) R ≡ true → IsFrontGroup i R G T
    → IsOther n i (head_of i R) G N K → IsOtherSoFar n i V W X R → IsOtherSoFar n i V (W ++ N) (X ++ K) T
other_more n i V W X R G T N K l some rises long f c s =
    let (ascends, ahead) = ahead_more n i X R G T K l some rises long f s.ascends s.ahead c.ascends c.alike in
    record {
      ascends = ascends;
      wide = all_join (λ p. length p == n) X K s.wide c.wide;
      ahead = ahead;
      times = λ p.
          let e : List ℤ → Bool = λ q. same q p in
          ap₂ (λ a b. xor a (xor b (xsum e T))) (xsum-append e X K) (xsum-append e W N)
          ∙ moved (xsum e X) (xsum e K) (xsum e W) (xsum e N) (xsum e T)
          ∙ ap (λ t. xor (xsum e X) (xor (xsum e W) t)) (ap (λ t. xor t (xsum e T)) (c.times p) ∙ sym (xsum-append e G T) ∙ ap (xsum e) (sym f.rows))
          ∙ s.times p;
    }
  where
    moved : (x k w n t : Bool) → xor (xor x k) (xor (xor w n) t) ≡ xor x (xor w (xor (xor k n) t))
    moved x k w n t =
        xor_assoc x k (xor (xor w n) t)
        ∙ ap (xor x) (sym (xor_assoc k (xor w n) t) ∙ ap (λ s. xor s t) (sym (xor_assoc k w n) ∙ ap (λ s. xor s n) (xor_comm k w) ∙ xor_assoc w k n) ∙ xor_assoc w (xor k n) t)

undone : (x w : Bool) → xor (xor x (xor w false)) w ≡ x
unfolding xor
undone true true = refl
undone true false = refl
undone false true = refl
undone false false = refl

pub other_end : (n i : ℕ) (V W X R : List (List ℤ)) → R ≡ [] → ascending V ≡ true → ascending W ≡ true → IsOtherSoFar n i V W X R → X ≡ merge_xor V W
other_end n i V W X R e a b s =
    same_sets X (merge_xor V W) s.ascends (merge_rises V W a b)
    (λ p.
    let f : List ℤ → Bool = λ q. same q p in
    sym (xsum-same_place X p s.ascends)
    ∙ told (xsum f X) (xsum f W) (xsum f V) (ap (λ t. xor (xsum f X) (xor (xsum f W) t)) (sym (ap (xsum f) e ∙ xsum-nil f)) ∙ s.times p)
    ∙ ap₂ xor (xsum-same_place V p a) (xsum-same_place W p b)
    ∙ sym (merge_members V W p a b))
  where
    told : (x w v : Bool) → xor x (xor w false) ≡ v → x ≡ xor v w
    told x w v h = sym (undone x w) ∙ ap (λ t. xor t w) h
