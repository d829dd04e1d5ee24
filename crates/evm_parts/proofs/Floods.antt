-- The flood of a cell set from one of its cells: what it keeps, and that it is closed under sharing a face.
use Rattle.std.proofs.Common.{◌≡◌, ℕ, zero, suc, ◌+◌, ◌<◌, ◌≤◌, ◌⊎◌, inl, inr, ⊎_elim, Bool, true, false, ◌&&◌, ◌||◌, List, [], ◌∷◌, length, count_by, ℤ, pos, ◌+ℤ◌, refl, sym, ap, ap₂, ◌∙◌, subst, arith, int_eq}
use Rattle.std.specs.List.{list_any}
use Rattle.std.proofs.lemmas.Bool.{false≢true, or_cases, or_left, or_right}
use Rattle.std.proofs.lemmas.List.Sums.{count_by-le-length}
use Rattle.evm_cells.specs.Places.{has, same, ascending}
use Rattle.evm_cells.specs.Parts.{share_face, spread, spread_rounds, flood}
use Rattle.evm_cells.proofs.Xor.{and_first, and_second, and_both}
use Rattle.evm_cells.proofs.Coords.{eq_sym}
use Rattle.evm_cells.proofs.Places.{strict_places}
use Rattle.evm_cells.proofs.Universe.{has-filter, ascending-filter, same_sym}
use Rattle.evm_partition.proofs.Once.{bit, count-cons}

or_comm : (a b : Bool) → (a || b) ≡ (b || a)
or_comm true true = refl
or_comm true false = refl
or_comm false true = refl
or_comm false false = refl

-- to share a face goes both ways
pub share_face_sym : (p q : List ℤ) → share_face p q ≡ share_face q p
unfolding share_face
share_face_sym [] [] = refl
share_face_sym [] (y ∷ q) = refl
share_face_sym (x ∷ p) [] = refl
share_face_sym (x ∷ p) (y ∷ q) =
    ap₂ (λ u v. u || v)
    (ap₂ (λ u v. u && v) (or_comm (int_eq (x +ℤ pos 1) y) (int_eq (y +ℤ pos 1) x)) (same_sym p q))
    (ap₂ (λ u v. u && v) (eq_sym x y) (share_face_sym p q))

-- ---- members

-- one that passes
pub any_place : (p : List ℤ → Bool) (S : List (List ℤ)) → list_any p S ≡ true → (e : List ℤ) × (has S e ≡ true) × (p e ≡ true)
unfolding has
any_place p [] h = absurd (false≢true h)
any_place p (x ∷ S) h =
    ⊎_elim
    (λ u. (x, or_left (same x x) (list_any (same x) S) (strict_places.itself x), u))
    (λ u. let (e, m, v) = any_place p S u in (e, or_right (same e x) (list_any (same e) S) m, v))
    (or_cases (p x) (list_any p S) h)

pub place_any : (p : List ℤ → Bool) (S : List (List ℤ)) (e : List ℤ) → has S e ≡ true → p e ≡ true → list_any p S ≡ true
unfolding has
place_any p [] e m h = absurd (false≢true m)
place_any p (x ∷ S) e m h =
    ⊎_elim
    (λ u. or_left (p x) (list_any p S) (sym (ap p (strict_places.equal e x u)) ∙ h))
    (λ u. or_right (p x) (list_any p S) (place_any p S e u h))
    (or_cases (same e x) (list_any (same e) S) m)

-- ---- counts

fewer : (p q : List ℤ → Bool) → ((x : List ℤ) → p x ≡ true → q x ≡ true) → (xs : List (List ℤ)) → count_by p xs ≤ count_by q xs
fewer p q f [] = omega arith
fewer p q f (x ∷ xs) =
    let u = count-cons p x xs in
    let v = count-cons q x xs in
    let ih = fewer p q f xs in
    let w = at (p x) (q x) (f x) in
    omega (arith, u, v, w, ih)
  where
    at : (a b : Bool) → (a ≡ true → b ≡ true) → bit a ≤ bit b
    at true b g = let e = ap bit (g refl) in omega (arith, e)
    at false b g = omega arith

-- a test that passes no less passes more of the places, or the same ones
grow : (p q : List ℤ → Bool) → ((x : List ℤ) → p x ≡ true → q x ≡ true) → (xs : List (List ℤ))
    → (count_by p xs < count_by q xs) ⊎ ((x : List ℤ) → has xs x ≡ true → q x ≡ true → p x ≡ true)
unfolding has
grow p q f [] = inr (λ x h k. absurd (false≢true h))
grow p q f (x ∷ xs) = at (p x) (q x) refl refl (grow p q f xs)
  where
    at : (a b : Bool) → p x ≡ a → q x ≡ b → (count_by p xs < count_by q xs) ⊎ ((y : List ℤ) → list_any (same y) xs ≡ true → q y ≡ true → p y ≡ true)
        → (count_by p (x ∷ xs) < count_by q (x ∷ xs)) ⊎ ((y : List ℤ) → (same y x || list_any (same y) xs) ≡ true → q y ≡ true → p y ≡ true)
    at false true u v h =
        let l = fewer p q f xs in
        let i = count-cons p x xs in
        let j = count-cons q x xs in
        let a = ap bit u in
        let b = ap bit v in
        inl (omega (arith, l, i, j, a, b))
    at true b u v h = ⊎_elim
        (λ l.
        let i = count-cons p x xs in
        let j = count-cons q x xs in
        let a = ap bit u in
        let b = ap bit (f x u) in
        inl (omega (arith, l, i, j, a, b)))
        (λ g. inr (λ y m k. ⊎_elim (λ e. ap p (strict_places.equal y x e) ∙ u) (λ n. g y n k) (or_cases (same y x) (list_any (same y) xs) m)))
        h
    at false false u v h = ⊎_elim
        (λ l.
        let i = count-cons p x xs in
        let j = count-cons q x xs in
        let a = ap bit u in
        let b = ap bit v in
        inl (omega (arith, l, i, j, a, b)))
        (λ g. inr (λ y m k. ⊎_elim
        (λ e. absurd (false≢true (sym v ∙ sym (ap q (strict_places.equal y x e)) ∙ k)))
        (λ n. g y n k) (or_cases (same y x) (list_any (same y) xs) m)))
        h

-- a place that passes counts
pub one_counts : (p : List ℤ → Bool) (d : List ℤ) → p d ≡ true → (xs : List (List ℤ)) → has xs d ≡ true → 1 ≤ count_by p xs
unfolding has
one_counts p d h [] m = absurd (false≢true m)
one_counts p d h (x ∷ xs) m =
    let i = count-cons p x xs in
    ⊎_elim
    (λ e. let u = ap bit (sym (ap p (strict_places.equal d x e)) ∙ h) in omega (arith, i, u))
    (λ n. let u = one_counts p d h xs n in omega (arith, i, u))
    (or_cases (same d x) (list_any (same d) xs) m)

-- ---- rounds

-- all places of the second list stand in the first
abbrev pub Within : List (List ℤ) → List (List ℤ) → Type 0
Within S T = (d : List ℤ) → has T d ≡ true → has S d ≡ true

-- what shares a face with one that is there is there
abbrev pub IsClosed : List (List ℤ) → List (List ℤ) → Type 0
IsClosed S T = (d e : List ℤ) → has S d ≡ true → has T e ≡ true → share_face d e ≡ true → has T d ≡ true

pub has-spread : (S T : List (List ℤ)) (d : List ℤ) → has (spread S T) d ≡ (has S d && (has T d || list_any (share_face d) T))
unfolding spread
has-spread S T d = has-filter (λ c. has T c || list_any (share_face c) T) S d

within_spread : (S T : List (List ℤ)) → Within S (spread S T)
within_spread S T d m = and_first (has S d) (has T d || list_any (share_face d) T) (sym (has-spread S T d) ∙ m)

spread_keeps : (S T : List (List ℤ)) → Within S T → (d : List ℤ) → has T d ≡ true → has (spread S T) d ≡ true
spread_keeps S T w d m = has-spread S T d ∙ and_both (has S d) (has T d || list_any (share_face d) T) (w d m) (or_left (has T d) (list_any (share_face d) T) m)

spread_adds : (S T : List (List ℤ)) (d e : List ℤ) → has S d ≡ true → has T e ≡ true → share_face d e ≡ true → has (spread S T) d ≡ true
spread_adds S T d e s m h = has-spread S T d ∙ and_both (has S d) (has T d || list_any (share_face d) T) s (or_right (has T d) (list_any (share_face d) T) (place_any (share_face d) T e m h))

-- what a closed list spreads to is itself
spread_back : (S T : List (List ℤ)) → IsClosed S T → (d : List ℤ) → has (spread S T) d ≡ true → has T d ≡ true
spread_back S T c d m =
    let u = sym (has-spread S T d) ∙ m in
    ⊎_elim (λ v. v)
    (λ v. let (e, n, h) = any_place (share_face d) T v in c d e (and_first (has S d) (has T d || list_any (share_face d) T) u) n h)
    (or_cases (has T d) (list_any (share_face d) T) (and_second (has S d) (has T d || list_any (share_face d) T) u))

closed_stays : (k : ℕ) (S T : List (List ℤ)) → Within S T → IsClosed S T → IsClosed S (spread_rounds k S T)
unfolding spread_rounds
closed_stays zero S T w c = c
closed_stays (suc k) S T w c =
    closed_stays k S (spread S T) (within_spread S T)
    (λ d e s m h. spread_keeps S T w d (c d e s (spread_back S T c e m) h))

-- after k rounds nothing changes any more, or k places came to those that were there
closed_or_more : (k : ℕ) (S T : List (List ℤ)) → Within S T → IsClosed S (spread_rounds k S T) ⊎ (k + count_by (has T) S ≤ count_by (has (spread_rounds k S T)) S)
unfolding spread_rounds
closed_or_more zero S T w = inr (omega arith)
closed_or_more (suc k) S T w = ⊎_elim
    (λ l. ⊎_elim inl (λ m. inr (omega (arith, l, m))) (closed_or_more k S (spread S T) (within_spread S T)))
    (λ g. inl (closed_stays k S (spread S T) (within_spread S T)
    (λ d e s m h. spread_keeps S T w d (g d s (spread_adds S T d e s (g e (within_spread S T e m) m) h)))))
    (grow (has T) (has (spread S T)) (spread_keeps S T w) S)

-- what holds at the start and is passed on holds of all that is there in the end
pub spread_passes : (P : List ℤ → Type 0) (k : ℕ) (S T : List (List ℤ)) → ((d e : List ℤ) → has S d ≡ true → P e → share_face d e ≡ true → P d)
    → ((e : List ℤ) → has T e ≡ true → P e) → (d : List ℤ) → has (spread_rounds k S T) d ≡ true → P d
unfolding spread_rounds
spread_passes P zero S T step start d m = start d m
spread_passes P (suc k) S T step start d m = spread_passes P k S (spread S T) step
    (λ e n.
    let u = sym (has-spread S T e) ∙ n in
    ⊎_elim (start e)
    (λ v. let (f, l, h) = any_place (share_face e) T v in step e f (and_first (has S e) (has T e || list_any (share_face e) T) u) (start f l) h)
    (or_cases (has T e) (list_any (share_face e) T) (and_second (has S e) (has T e || list_any (share_face e) T) u)))
    d m

keeps : (k : ℕ) (S T : List (List ℤ)) → Within S T → (d : List ℤ) → has T d ≡ true → has (spread_rounds k S T) d ≡ true
unfolding spread_rounds
keeps zero S T w d m = m
keeps (suc k) S T w d m = keeps k S (spread S T) (within_spread S T) d (spread_keeps S T w d m)

ascending-rounds : (k : ℕ) (S T : List (List ℤ)) → ascending S ≡ true → ascending T ≡ true → ascending (spread_rounds k S T) ≡ true
unfolding spread_rounds spread
ascending-rounds zero S T a b = b
ascending-rounds (suc k) S T a b = ascending-rounds k S (spread S T) a (ascending-filter (λ c. has T c || list_any (share_face c) T) S a)

-- ---- floods

pub one_is : (c d : List ℤ) → has (c ∷ []) d ≡ true → d ≡ c
unfolding has
one_is c d m = ⊎_elim (λ e. strict_places.equal d c e) (λ f. absurd (false≢true f)) (or_cases (same d c) false m)

pub one_has : (c : List ℤ) → has (c ∷ []) c ≡ true
unfolding has
one_has c = or_left (same c c) false (strict_places.itself c)

module _ (S : List (List ℤ)) (c : List ℤ) (m : has S c ≡ true) where
  within_one : Within S (c ∷ [])
  within_one d n = ap (has S) (one_is c d n) ∙ m

  pub flood_within : Within S (flood S c)
  unfolding flood
  flood_within = spread_passes (λ d. has S d ≡ true) (length S) S (c ∷ []) (λ d e s p h. s) within_one

  pub flood_has : has (flood S c) c ≡ true
  unfolding flood
  flood_has = keeps (length S) S (c ∷ []) within_one c (one_has c)

  pub flood_closed : IsClosed S (flood S c)
  unfolding flood
  flood_closed = ⊎_elim (λ u. u)
      (λ l.
      let u = count_by-le-length (has (spread_rounds (length S) S (c ∷ []))) S in
      let v = one_counts (has (c ∷ [])) c (one_has c) S m in
      absurd (omega (arith, l, u, v)))
      (closed_or_more (length S) S (c ∷ []) within_one)

  pub flood_passes : (P : List ℤ → Type 0) → ((d e : List ℤ) → has S d ≡ true → P e → share_face d e ≡ true → P d) → P c → (d : List ℤ) → has (flood S c) d ≡ true → P d
  unfolding flood
  flood_passes P step start = spread_passes P (length S) S (c ∷ []) step (λ e n. subst P (sym (one_is c e n)) start)

  pub ascending-flood : ascending S ≡ true → ascending (flood S c) ≡ true
  unfolding flood ascending
  ascending-flood a = ascending-rounds (length S) S (c ∷ []) a refl
