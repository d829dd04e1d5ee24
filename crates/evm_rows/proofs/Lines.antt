-- Lines with an odd number of rows, by groups of rows that share their first numbers.
use Rattle.std.proofs.Common.{◌≡◌, ℕ, zero, suc, ◌+◌, ◌-◌, ◌/◌, ◌%◌, ◌<◌, ◌≤◌, Bool, true, false, not, ◌&&◌, List, [], ◌∷◌, ◌++◌, length, take, drop, map, count_by, ℤ, int_eq, int_lt, refl, sym, ap, ap₂, ◌∙◌, subst, arith, ⊎_elim, ◌⊎◌, length-drop, length-append, take-add}
use Rattle.std.specs.List.{list_all}
use Rattle.std.specs.Bool.{MatchBool}
use Rattle.std.proofs.lemmas.List.{take-append-drop, take_at, drop_at, take-append-le, drop-append-le, take_all, drop_all, length-take-le}
use Rattle.std.proofs.lemmas.Bool.{or_cases, false≢true, true≢false}
use Rattle.evm_cells.specs.Places.{same, each, without, before, ascending}
use Rattle.evm_cells.specs.Booleans.{xor}
use Rattle.evm_cells.specs.Vertices.{odd}
use Rattle.evm_cells.proofs.Xor.{xsum, xsum-cons, xsum-nil, xsum-same_on, odd-count, odd-zero, odd-more, and_first, and_second, and_both, and_assoc, and-false, xor-false, false-xor}
use Rattle.evm_cells.proofs.Sum.{xsum-append, xsum-map, xsum-and_left, xsum-none}
use Rattle.evm_cells.proofs.Order.{refuted}
use Rattle.evm_cells.proofs.Lists.{all_weaker, all-append}
use Rattle.evm_cells.proofs.Places.{strict_places}
use Rattle.evm_cells.proofs.Coords.{strict_ints, eq_is}
use Rattle.evm_rows.specs.Rows.{rows_after, rows_of}
use Rattle.evm_rows.specs.Check.{IsEvenOn, HasOddLine}
use Rattle.evm_rows.specs.Groups.{HasOddPlace, IsPaired, IsFrontGroup, head_of}
use Rattle.evm_rows.proofs.RowsLaws.{rows_of-cons, rows_of-nil, rows_of-none, whole-first, whole-rest}
use Rattle.evm_rows.proofs.RowsOrder.{Wide, rows_of-wide}
use Rattle.evm_rows.proofs.RowsPlaces.{length-rows_of, quotient}
use Rattle.evm_rows.proofs.Pairs.{asc_parts, not_true, not_false, count_of}

-- ---- rows of parts of a flat list

rows_of-append_below : (k : ℕ) (a b : List ℤ) (w s : ℕ) → length a < k → 0 < w → length a % w ≡ 0 → rows_of (a ++ b) w s ≡ rows_of a w s ++ rows_of b w s
rows_of-append_below zero a b w s below wide whole = absurd (omega arith)
rows_of-append_below (suc k) [] b w s below wide whole = rw (rows_of-nil w s) refl
rows_of-append_below (suc k) (x ∷ a) b w s below wide whole =
    let first : w ≤ length (x ∷ a) = whole-first (length (x ∷ a)) w (omega arith) whole in
    let more : rows_of (drop w (x ∷ a) ++ b) w s ≡ rows_of (drop w (x ∷ a)) w s ++ rows_of b w s =
    rows_of-append_below k (drop w (x ∷ a)) b w s (omega (arith, length-drop w (x ∷ a))) wide (whole-rest (x ∷ a) w (omega arith) whole) in
    rows_of-cons ((x ∷ a) ++ b) w s (omega (arith, length-append (x ∷ a) b)) wide
    ∙ ap (λ r. drop s r ∷ rows_of (drop w ((x ∷ a) ++ b)) w s) (take-append-le w (x ∷ a) b first)
    ∙ ap (λ r. drop s (take w (x ∷ a)) ∷ rows_of r w s) (drop-append-le w (x ∷ a) b first)
    ∙ ap (λ rs. drop s (take w (x ∷ a)) ∷ rs) more
    ∙ ap (λ rs. rs ++ rows_of b w s) (sym (rows_of-cons (x ∷ a) w s (omega arith) wide))

-- the rows of two lists, one after the other
pub rows_of-append : (a b : List ℤ) (w s : ℕ) → 0 < w → length a % w ≡ 0 → rows_of (a ++ b) w s ≡ rows_of a w s ++ rows_of b w s
rows_of-append a b w s wide whole = rows_of-append_below (suc (length a)) a b w s (omega arith) wide whole

-- the one row of as many numbers as a row has
pub rows_of-single : (a : List ℤ) (w s : ℕ) → 0 < w → length a ≡ w → rows_of a w s ≡ drop s a ∷ []
rows_of-single a w s wide e =
    rows_of-cons a w s (omega arith) wide
    ∙ ap (λ r. drop s r ∷ rows_of (drop w a) w s) (take_all w a (omega arith))
    ∙ ap (λ rs. drop s a ∷ rs) (rows_of-none (drop w a) w s (omega (arith, length-drop w a)))

rows_after-skip : (w s k : ℕ) (xs : List ℤ) → rows_after w s k xs ≡ map (drop s) (rows_after w 0 k xs)
rows_after-skip w s k [] = refl
rows_after-skip w s zero (x ∷ xs) = ap (λ rs. drop s (take w (x ∷ xs)) ∷ rs) (rows_after-skip w s (w - 1) xs)
rows_after-skip w s (suc k) (x ∷ xs) = rows_after-skip w s k xs

-- rows without their first numbers
pub rows_of-skip : (xs : List ℤ) (w s : ℕ) → rows_of xs w s ≡ map (drop s) (rows_of xs w 0)
unfolding rows_of
rows_of-skip xs w s = rows_after-skip w s 0 xs

-- ---- rows by their first numbers

pub line_split : (i : ℕ) (p line : List ℤ) → same (without i p) line ≡ (same (take i p) (take i line) && same (drop (suc i) p) (drop i line))
unfolding without same each
line_split zero [] line = refl
line_split zero (x ∷ p) line = refl
line_split (suc i) [] [] = refl
line_split (suc i) [] (y ∷ line) = refl
line_split (suc i) (x ∷ p) [] = refl
line_split (suc i) (x ∷ p) (y ∷ line) =
    ap (λ t. int_eq x y && t) (line_split i p line) ∙ sym (and_assoc (int_eq x y) (same (take i p) (take i line)) (same (drop (suc i) p) (drop i line)))

-- on a line, of rows that share their front h
sum_group : (i : ℕ) (h : List ℤ) (G : List (List ℤ)) (line : List ℤ) → list_all (λ p. same (take i p) h) G ≡ true
    → xsum (λ p. same (without i p) line) G ≡ (same h (take i line) && xsum (λ s. same s (drop i line)) (map (drop (suc i)) G))
sum_group i h G line a =
    xsum-same_on (λ p. same (take i p) h) (λ p. same (without i p) line) (λ p. same h (take i line) && same (drop (suc i) p) (drop i line))
    (λ p m. line_split i p line ∙ ap (λ z. same z (take i line) && same (drop (suc i) p) (drop i line)) (strict_places.equal (take i p) h m)) G a
    ∙ xsum-and_left (same h (take i line)) (λ p. same (drop (suc i) p) (drop i line)) G
    ∙ ap (λ t. same h (take i line) && t) (sym (xsum-map (λ s. same s (drop i line)) (drop (suc i)) G))

-- of rows with another front
sum_apart : (i : ℕ) (h : List ℤ) (R : List (List ℤ)) (line : List ℤ) → list_all (λ p. not (same (take i p) h)) R ≡ true → take i line ≡ h
    → xsum (λ p. same (without i p) line) R ≡ false
sum_apart i h R line a e =
    xsum-same_on (λ p. not (same (take i p) h)) (λ p. same (without i p) line) (λ p. false)
    (λ p m. line_split i p line ∙ ap (λ z. same (take i p) z && same (drop (suc i) p) (drop i line)) e
    ∙ ap (λ t. t && same (drop (suc i) p) (drop i line)) (not_true (same (take i p) h) m)) R a
    ∙ xsum-none R

pub parity : ℕ → List (List ℤ) → List ℤ → Bool
parity i V line = xsum (λ p. same (without i p) line) V

pub parity-is : (i : ℕ) (V : List (List ℤ)) (line : List ℤ) → odd (count_by (λ p. same (without i p) line) V) ≡ parity i V line
unfolding parity
parity-is i V line = odd-count (λ p. same (without i p) line) V

-- on a line, the first group tells what the places in it do
group_parity : (i : ℕ) (V G R : List (List ℤ)) (line : List ℤ) → IsFrontGroup i V G R
    → parity i G line ≡ (same (head_of i V) (take i line) && xsum (λ s. same s (drop i line)) (map (drop (suc i)) G))
unfolding parity
group_parity i V G R line g = sum_group i (head_of i V) G line g.alike

parity-split : (i : ℕ) (V G R : List (List ℤ)) (line : List ℤ) → V ≡ G ++ R → parity i V line ≡ xor (parity i G line) (parity i R line)
unfolding parity
parity-split i V G R line e = ap (xsum (λ p. same (without i p) line)) e ∙ xsum-append (λ p. same (without i p) line) G R

-- a group with no odd line: what is left tells
pub group_even : (i : ℕ) (V G R K : List (List ℤ)) (line : List ℤ) → IsFrontGroup i V G R → K ≡ map (drop (i + 1)) G → IsPaired K → parity i V line ≡ parity i R line
group_even i V G R K line g k e =
    let h = head_of i V in
    let places : K ≡ map (drop (suc i)) G = k ∙ ap (λ (j : ℕ). map (drop j) G) (let m : i + 1 ≡ suc i = omega arith in m) in
    let none : xsum (λ s. same s (drop i line)) (map (drop (suc i)) G) ≡ false = ap (xsum (λ s. same s (drop i line))) (sym places) ∙ sym (count_of K (drop i line)) ∙ e (drop i line) in
    parity-split i V G R line g.rows
    ∙ ap (λ t. xor t (parity i R line)) (group_parity i V G R line g ∙ ap (λ t. same h (take i line) && t) none ∙ and-false (same h (take i line)))
    ∙ false-xor (parity i R line)

-- a group with an odd line
pub group_odd : (i : ℕ) (V G R K : List (List ℤ)) → IsFrontGroup i V G R → K ≡ map (drop (i + 1)) G → HasOddPlace K → (line : List ℤ) × (parity i V line ≡ true)
unfolding parity
group_odd i V G R K g k w =
    let h = head_of i V in
    let (q, o) = w in
    let places : K ≡ map (drop (suc i)) G = k ∙ ap (λ (j : ℕ). map (drop j) G) (let m : i + 1 ≡ suc i = omega arith in m) in
    let front : take i (h ++ q) ≡ h = take_at h q i g.deep in
    let back : drop i (h ++ q) ≡ q = drop_at h q i g.deep in
    let one : xsum (λ s. same s q) (map (drop (suc i)) G) ≡ true = ap (xsum (λ s. same s q)) (sym places) ∙ sym (count_of K q) ∙ o in (
      h ++ q,
      parity-split i V G R (h ++ q) g.rows
          ∙ ap₂ xor (group_parity i V G R (h ++ q) g ∙ ap₂ (λ (u v : List ℤ). same h u && xsum (λ s. same s v) (map (drop (suc i)) G)) front back
          ∙ and_both (same h h) (xsum (λ s. same s q) (map (drop (suc i)) G)) (strict_places.itself h) one)
          (sum_apart i h R (h ++ q) g.apart front)
          ∙ xor-false true,
    )

-- ---- how a group is gathered

-- a row between two rows of one front has that front
squeeze : (i : ℕ) (p q r : List ℤ) → before p q ≡ true → before q r ≡ true → take i p ≡ take i r → take i q ≡ take i p
unfolding before
squeeze zero p q r a b e = refl
squeeze (suc i) [] [] r a b e = refl
squeeze (suc i) [] (y ∷ q) [] a b e = absurd (false≢true b)
squeeze (suc i) [] (y ∷ q) (z ∷ r) a b e = cc
squeeze (suc i) (x ∷ p) [] r a b e = absurd (false≢true a)
squeeze (suc i) (x ∷ p) (y ∷ q) [] a b e = absurd (false≢true b)
squeeze (suc i) (x ∷ p) (y ∷ q) (z ∷ r) a b e =
    let xz : x ≡ z = cc in
    let tails : take i p ≡ take i r = cc in
    ⊎_elim
    (λ l. ⊎_elim
    (λ m. absurd (strict_ints.one_way x y l (ap (int_lt y) xz ∙ m)))
    (λ m. absurd (strict_ints.one_way x y l (ap (λ (u : ℤ). int_lt y u) xz ∙ ap (λ (u : ℤ). int_lt u z) (eq_is y z (and_first (int_eq y z) (before q r) m)) ∙ absurd (clash x y l (xz ∙ sym (eq_is y z (and_first (int_eq y z) (before q r) m)))))))
    (or_cases (int_lt y z) (int_eq y z && before q r) b))
    (λ l. let xy : x ≡ y = eq_is x y (and_first (int_eq x y) (before p q) l) in ⊎_elim
    (λ m. absurd (clash y z m (sym xy ∙ xz)))
    (λ m. let t : take i q ≡ take i p = squeeze i p q r (and_second (int_eq x y) (before p q) l) (and_second (int_eq y z) (before q r) m) tails in
    λ k. sym xy k ∷ t k)
    (or_cases (int_lt y z) (int_eq y z && before q r) b))
    (or_cases (int_lt x y) (int_eq x y && before p q) a)
  where
    clash : (u v : ℤ) → int_lt u v ≡ true → u ≡ v → ⊥
    clash u v l e = let m : int_lt v v ≡ true = ap (λ (w : ℤ). int_lt w v) (sym e) ∙ l in strict_ints.one_way v v m m

pub asc_tail : (U W : List (List ℤ)) → ascending (U ++ W) ≡ true → ascending W ≡ true
asc_tail [] W a = a
asc_tail (x ∷ U) W a = asc_tail U W (asc_parts x (U ++ W) a).1

-- the rows after a group have other first numbers
apart_rows : (i : ℕ) (first : List ℤ) (G : List (List ℤ)) (row : List ℤ) (rest : List (List ℤ)) → ascending ((first ∷ G) ++ row ∷ rest) ≡ true → same (take i row) (take i first) ≡ false
    → list_all (λ p. not (same (take i p) (take i first))) (row ∷ rest) ≡ true
apart_rows i first G row rest a d =
    let (h, t) = asc_parts first (G ++ row ∷ rest) a in
    let after : list_all (before first) (row ∷ rest) ≡ true =
    and_second (list_all (before first) G) (list_all (before first) (row ∷ rest)) (sym (all-append (before first) G (row ∷ rest)) ∙ h) in
    let (u, v) = asc_parts row rest (asc_tail G (row ∷ rest) t) in
    let l : before first row ≡ true = and_first (before first row) (list_all (before first) rest) after in
    and_both (not (same (take i row) (take i first))) (list_all (λ p. not (same (take i p) (take i first))) rest) (not_false (same (take i row) (take i first)) d)
    (all_weaker (before row) (λ p. not (same (take i p) (take i first)))
    (λ p m. not_false (same (take i p) (take i first)) (refuted (same (take i p) (take i first))
    (λ k. true≢false (sym (ap (λ z. same z (take i first)) (squeeze i first row p l m (sym (strict_places.equal (take i p) (take i first) k))) ∙ strict_places.itself (take i first)) ∙ d))))
    rest u)

-- the rows of the first n numbers and of the rest
pub rows_parted : (flat later : List ℤ) (w s n : ℕ) → 0 < w → n % w ≡ 0 → n ≤ length flat → later ≡ drop n flat → rows_of flat w s ≡ rows_of (take n flat) w s ++ rows_of later w s
rows_parted flat later w s n wide steps within e =
    let front : length (take n flat) % w ≡ 0 = ap (λ (k : ℕ). k % w) (length-take-le n flat within) ∙ steps in
    ap (λ zs. rows_of zs w s) (sym (take-append-drop n flat)) ∙ rows_of-append (take n flat) (drop n flat) w s wide front
    ∙ ap (λ zs. rows_of (take n flat) w s ++ rows_of zs w s) (sym e)

-- a group begins with the first row
pub front_first : (i w s : ℕ) (flat first head : List ℤ) → 0 < length flat → 0 < w → length flat % w ≡ 0 → first ≡ drop s (take w flat) → head ≡ take i first
    → list_all (λ p. same (take i p) head) (rows_of (take w flat) w s) ≡ true
front_first i w s flat first head some wide whole f h =
    let long : length (take w flat) ≡ w = length-take-le w flat (whole-first (length flat) w some whole) in
    ap (list_all (λ p. same (take i p) head)) (rows_of-single (take w flat) w s wide long)
    ∙ and_both (same (take i (drop s (take w flat))) head) true (ap (λ z. same (take i z) head) (sym f) ∙ ap (same (take i first)) h ∙ strict_places.itself (take i first)) refl

-- and grows by a row with the same first numbers
pub front_more : (i w s n : ℕ) (flat later row start head : List ℤ) → n + length later ≡ length flat → 0 < w → n % w ≡ 0 → 0 < length later → length later % w ≡ 0 → later ≡ drop n flat
    → row ≡ drop s (take w later) → start ≡ take i row → true ≡ same start head
    → list_all (λ p. same (take i p) head) (rows_of (take n flat) w s) ≡ true → list_all (λ p. same (take i p) head) (rows_of (take (n + w) flat) w s) ≡ true
front_more i w s n flat later row start head counted wide steps some whole place r st alike so_far =
    let front : length (take n flat) % w ≡ 0 = ap (λ (k : ℕ). k % w) (length-take-le n flat (omega arith)) ∙ steps in
    let long : length (take w later) ≡ w = length-take-le w later (whole-first (length later) w some whole) in
    let joined : take (n + w) flat ≡ take n flat ++ take w later = take-add n w flat ∙ ap (λ zs. take n flat ++ take w zs) (sym place) in
    let same_start : same (take i (drop s (take w later))) head ≡ true = ap (λ z. same z head) (ap (take i) (sym r) ∙ sym st) ∙ sym alike in
    ap (list_all (λ p. same (take i p) head)) (ap (λ zs. rows_of zs w s) joined ∙ rows_of-append (take n flat) (take w later) w s wide front
    ∙ ap (λ rs. rows_of (take n flat) w s ++ rs) (rows_of-single (take w later) w s wide long))
    ∙ all-append (λ p. same (take i p) head) (rows_of (take n flat) w s) (drop s (take w later) ∷ [])
    ∙ and_both (list_all (λ p. same (take i p) head) (rows_of (take n flat) w s)) (same (take i (drop s (take w later))) head && true) so_far (and_both (same (take i (drop s (take w later))) head) true same_start refl)

-- until no row is left or the next has others
pub front_done : (i w s n : ℕ) (flat group later first head : List ℤ) → 0 < n → n + length later ≡ length flat → s + i < w → n % w ≡ 0 → length flat % w ≡ 0 → group ≡ take n flat → later ≡ drop n flat
    → ascending (rows_of flat w s) ≡ true → first ≡ drop s (take w flat) → head ≡ take i first
    → list_all (λ p. same (take i p) head) (rows_of (take n flat) w s) ≡ true
    → (rows_of later w s ≡ []) ⊎ ((row : List ℤ) × (rest : List (List ℤ)) × (rows_of later w s ≡ row ∷ rest) × (false ≡ same (take i row) head))
    → IsFrontGroup i (rows_of flat w s) (rows_of group w s) (rows_of later w s)
front_done i w s n flat group later first head some counted deep steps whole gr place asc f hd alike end =
    let wide : 0 < w = omega arith in
    let within : w ≤ length flat = whole-first (length flat) w (omega arith) whole in
    let G = rows_of (take n flat) w s in
    let is : rows_of group w s ≡ G = ap (λ zs. rows_of zs w s) gr in
    let parted : rows_of flat w s ≡ G ++ rows_of later w s = rows_parted flat later w s n wide steps (omega arith) place in
    let heads : head_of i (rows_of flat w s) ≡ take i (drop s (take w flat)) = ap (head_of i) (rows_of-cons flat w s (omega arith) wide) in
    let head_is : head ≡ head_of i (rows_of flat w s) = hd ∙ ap (take i) f ∙ sym heads in
    let begins : G ≡ drop s (take w (take n flat)) ∷ rows_of (drop w (take n flat)) w s = rows_of-cons (take n flat) w s (omega (arith, length-take-le n flat (omega arith))) wide in
    record {
      rows = parted ∙ ap (λ rs. rs ++ rows_of later w s) (sym is);
      deep = ap length heads ∙ length-take-le i (drop s (take w flat)) (omega (arith, length-take-le w flat within, length-drop s (take w flat)));
      alike = ap₂ (λ (z : List ℤ) (rs : List (List ℤ)). list_all (λ p. same (take i p) z) rs) (sym head_is) is ∙ alike;
      apart = ⊎_elim
          (λ e. ap (list_all (λ p. not (same (take i p) (head_of i (rows_of flat w s))))) e)
          (λ v. let (row, rest, e, d) = v in
          let other = drop w (take n flat) in
          let one : head_of i (rows_of flat w s) ≡ take i (drop s (take w (take n flat))) = ap (head_of i) (parted ∙ ap (λ rs. rs ++ rows_of later w s) begins) in
          ap₂ (λ (z : List ℤ) (rs : List (List ℤ)). list_all (λ p. not (same (take i p) z)) rs) one e
          ∙ apart_rows i (drop s (take w (take n flat))) (rows_of other w s) row rest
          (ap ascending (sym (parted ∙ ap₂ (λ (us vs : List (List ℤ)). us ++ vs) begins e)) ∙ asc)
          (ap (same (take i row)) (sym (head_is ∙ one)) ∙ sym d))
          end;
    }

-- ---- places of which nothing is left

pub empty_places : (w : ℕ) (V : List (List ℤ)) (q : List ℤ) → Wide w V → xsum (λ s. same s q) (map (drop w) V) ≡ (same [] q && odd (length V))
unfolding xor
empty_places w [] q wide = xsum-nil (λ s. same s q) ∙ sym (ap (λ t. same [] q && t) odd-zero ∙ and-false (same [] q))
empty_places w (p ∷ V) q wide =
    let none : drop w p ≡ [] = let l : length p ≡ w = wide.0 in drop_all w p (omega arith) in
    let more : 1 + length V ≡ suc (length V) = omega arith in
    xsum-cons (λ s. same s q) (drop w p) (map (drop w) V)
    ∙ ap₂ xor (ap (λ z. same z q) none) (empty_places w V q wide.1)
    ∙ turn (same [] q) (odd (length V))
    ∙ ap (λ t. same [] q && t) (sym (odd-more (length V)) ∙ ap odd more)
  where
    turn : (b t : Bool) → xor b (b && t) ≡ (b && not t)
    turn true t = refl
    turn false t = refl

places_told : (n : ℕ) (K : List (List ℤ)) → ((q : List ℤ) → xsum (λ s. same s q) K ≡ (same [] q && odd n)) → MatchBool (odd n) (HasOddPlace K) (IsPaired K)
places_told n K h = at (odd n) refl
  where
    at : (b : Bool) → odd n ≡ b → MatchBool (odd n) (HasOddPlace K) (IsPaired K)
    at true e = rw e ([], count_of K [] ∙ h [] ∙ and_both (same [] []) (odd n) (strict_places.itself []) e)
    at false e = rw e (λ q. count_of K q ∙ h q ∙ ap (λ t. same [] q && t) e ∙ and-false (same [] q))

-- their number tells
pub number_tells : (flat : List ℤ) (w s : ℕ) → 0 < w → length flat % w ≡ 0 → s ≡ w → MatchBool (odd (length flat / w)) (HasOddPlace (rows_of flat w s)) (IsPaired (rows_of flat w s))
number_tells flat w s wide whole e =
    let count : length flat / w ≡ length (rows_of flat w 0) = quotient (length (rows_of flat w 0)) w (length flat) wide (length-rows_of flat w 0 wide whole) in
    let less : w - 0 ≡ w = omega arith in
    let all : Wide w (rows_of flat w 0) = subst (λ (m : ℕ). Wide m (rows_of flat w 0)) less (rows_of-wide flat w 0 wide whole) in
    rw (e, count) (places_told (length (rows_of flat w 0)) (rows_of flat w w) (λ q. ap (xsum (λ s. same s q)) (rows_of-skip flat w w) ∙ empty_places w (rows_of flat w 0) q all))

-- ---- what the loop over the groups takes

pub odd_line_found : (i w : ℕ) (V : List (List ℤ)) (rest group later : List ℤ) → ((line : List ℤ) → parity i V line ≡ parity i (rows_of rest w 0) line)
    → IsFrontGroup i (rows_of rest w 0) (rows_of group w 0) (rows_of later w 0) → HasOddPlace (rows_of group w (i + 1)) → HasOddLine i V
odd_line_found i w V rest group later p g o =
    let (line, t) = group_odd i (rows_of rest w 0) (rows_of group w 0) (rows_of later w 0) (rows_of group w (i + 1)) g (rows_of-skip group w (i + 1)) o in
    (line, parity-is i V line ∙ p line ∙ t)

pub even_so_far : (i w : ℕ) (V : List (List ℤ)) (rest group later : List ℤ) → ((line : List ℤ) → parity i V line ≡ parity i (rows_of rest w 0) line)
    → IsFrontGroup i (rows_of rest w 0) (rows_of group w 0) (rows_of later w 0) → IsPaired (rows_of group w (i + 1)) → (line : List ℤ) → parity i V line ≡ parity i (rows_of later w 0) line
even_so_far i w V rest group later p g e line =
    p line ∙ group_even i (rows_of rest w 0) (rows_of group w 0) (rows_of later w 0) (rows_of group w (i + 1)) line g (rows_of-skip group w (i + 1)) e

pub asc_left : (i : ℕ) (V G R : List (List ℤ)) → IsFrontGroup i V G R → ascending V ≡ true → ascending R ≡ true
asc_left i V G R g a = asc_tail G R (sym (ap ascending g.rows) ∙ a)

pub even_at_end : (i : ℕ) (V W : List (List ℤ)) → ((line : List ℤ) → parity i V line ≡ parity i W line) → W ≡ [] → IsEvenOn i V
unfolding parity
even_at_end i V W p e = λ line. parity-is i V line ∙ p line ∙ ap (xsum (λ q. same (without i q) line)) e ∙ xsum-nil (λ q. same (without i q) line)
