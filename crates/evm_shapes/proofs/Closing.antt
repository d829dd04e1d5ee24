-- Rows at or above the upper end of a box on the first axis need not be read: those below it, once as they are and once at that end,
-- count as all.
use Rattle.std.proofs.Common.{◌≡◌, ℕ, zero, suc, ◌+◌, ◌<◌, ◌≤◌, ◌%◌, ◌≤ℤ◌, ◌<ℤ◌, Bool, true, false, cond, ◌&&◌, ◌==◌, List, [], ◌∷◌, ◌++◌, length, drop, get_or, map, count_by, ℤ, pos, int_le, int_lt, refl, sym, ap, ap₂, ◌∙◌, arith, append_assoc, append-nil, eq-eqb, eqb-true}
use Rattle.std.specs.List.{list_all}
use Rattle.std.proofs.lemmas.List.{drop_more}
use Rattle.std.proofs.lemmas.Int.{ints as int_facts}
use denote.Ref.{Bor}
use native.Mathlib.Nat.{mul-mod_left}
use Rattle.evm_cells.specs.Places.{same, each, ascending, before, without}
use Rattle.evm_cells.specs.Limits.{is_point}
use Rattle.evm_cells.specs.Booleans.{xor}
use Rattle.evm_cells.specs.Boxes.{is_box}
use Rattle.evm_cells.specs.Vertices.{odd, IsVertexList}
use Rattle.evm_cells.specs.Windows.{between, clamped, IsReduced}
use Rattle.evm_cells.proofs.Clamping.{not_less}
use Rattle.evm_cells.proofs.Coords.{le_is, lt_is}
use Rattle.evm_cells.proofs.Core.{even_sum}
use Rattle.evm_cells.proofs.Insides.{box_lengths}
use Rattle.evm_cells.proofs.Sum.{xsum-append, xsum-map}
use Rattle.evm_cells.proofs.Universe.{point_parts}
use Rattle.evm_cells.proofs.Xor.{xsum, xsum-cons, xsum-nil, xsum-same_on, odd-count, xor_assoc, xor_swap, false-xor, and_first, and_second, and_both}
use Rattle.evm_rows.specs.Rows.{rows_of, flat_of}
use Rattle.evm_rows.specs.Groups.{targets}
use Rattle.evm_rows.proofs.Bridge.{wide-points}
use Rattle.evm_rows.proofs.RowsOrder.{Wide, rows_of-flat_of, length-flat_of}
use Rattle.evm_shapes.specs.Moves.{low_rows, raised, closed}
use Rattle.evm_shapes.specs.Order.{AreLone}
use Rattle.evm_shapes.proofs.Missed.{from_first}

-- ---- the rows below a height, and the others

high_rows : ℤ → List (List ℤ) → List (List ℤ)
high_rows h [] = []
high_rows h (p ∷ V) = cond (int_lt (get_or p 0 (pos 0)) h) (high_rows h V) (p ∷ V)

two_parts : (h : ℤ) (V : List (List ℤ)) → low_rows h V ++ high_rows h V ≡ V
unfolding low_rows high_rows
two_parts h [] = refl
two_parts h (p ∷ V) = at (int_lt (get_or p 0 (pos 0)) h) (two_parts h V)
  where
    at : (b : Bool) → low_rows h V ++ high_rows h V ≡ V → cond b (p ∷ low_rows h V) [] ++ cond b (high_rows h V) (p ∷ V) ≡ p ∷ V
    at true e = ap (λ W. p ∷ W) e
    at false e = refl

high_over : (n : ℕ) (h : ℤ) (V : List (List ℤ)) → 0 < n → Wide n V → ascending V ≡ true → list_all (λ q. int_le h (get_or q 0 (pos 0))) (high_rows h V) ≡ true
unfolding ascending high_rows
high_over n h [] some w a = refl
high_over n h (p ∷ V) some w a = at (int_lt (get_or p 0 (pos 0)) h) refl (high_over n h V some w.1 (and_second (list_all (before p) V) (ascending V) a))
  where
    at : (b : Bool) → int_lt (get_or p 0 (pos 0)) h ≡ b → list_all (λ q. int_le h (get_or q 0 (pos 0))) (high_rows h V) ≡ true → list_all (λ q. int_le h (get_or q 0 (pos 0))) (cond b (high_rows h V) (p ∷ V)) ≡ true
    at true e r = r
    at false e r = from_first n (p ∷ V) h some w a (not_less (get_or p 0 (pos 0)) h e)

high_wide : (n : ℕ) (h : ℤ) (V : List (List ℤ)) → Wide n V → list_all (λ q. length q == n) (high_rows h V) ≡ true
unfolding high_rows
high_wide n h [] w = refl
high_wide n h (p ∷ V) w = at (int_lt (get_or p 0 (pos 0)) h) (high_wide n h V w.1)
  where
    whole : (U : List (List ℤ)) → Wide n U → list_all (λ q. length q == n) U ≡ true
    whole [] u = refl
    whole (q ∷ U) u = and_both (length q == n) (list_all (λ r. length r == n) U) (eq-eqb (length q) n u.0) (whole U u.1)

    at : (b : Bool) → list_all (λ q. length q == n) (high_rows h V) ≡ true → list_all (λ q. length q == n) (cond b (high_rows h V) (p ∷ V)) ≡ true
    at true r = r
    at false r = whole (p ∷ V) w

pub low_wide : (n : ℕ) (h : ℤ) (V : List (List ℤ)) → Wide n V → Wide n (low_rows h V)
unfolding low_rows
low_wide n h [] w = tt
low_wide n h (p ∷ V) w = at (int_lt (get_or p 0 (pos 0)) h) (low_wide n h V w.1)
  where
    at : (b : Bool) → Wide n (low_rows h V) → Wide n (cond b (p ∷ low_rows h V) [])
    at true r = (w.0, r)
    at false r = tt

-- ---- one row

between_top : (a b x : ℤ) → a <ℤ b → b ≤ℤ x → between a b x ≡ b
unfolding between
between_top a b x l m = at (int_lt x a) (int_lt b x) refl refl
  where
    at : (s t : Bool) → int_lt x a ≡ s → int_lt b x ≡ t → cond s a (cond t b x) ≡ b
    at true t e f = let k = lt_is x a e in absurd (omega (arith, int_facts))
    at false true e f = refl
    at false false e f = let k = not_less b x f in omega (arith, int_facts)

-- a row at or above the upper end is moved to that end
moved_up : (lo hi q : List ℤ) → 0 < length lo → length hi ≡ length lo → length q ≡ length lo → each int_lt lo hi ≡ true → get_or hi 0 (pos 0) ≤ℤ get_or q 0 (pos 0)
    → clamped lo hi q ≡ raised (get_or hi 0 (pos 0)) (clamped lo hi q)
unfolding clamped each without
moved_up [] hi q s e f r l = absurd (omega arith)
moved_up (a ∷ lo) [] q s e f r l = absurd (omega arith)
moved_up (a ∷ lo) (b ∷ hi) [] s e f r l = absurd (omega arith)
moved_up (a ∷ lo) (b ∷ hi) (x ∷ q) s e f r l = ap (λ y. y ∷ clamped lo hi q) (between_top a b x (lt_is a b (and_first (int_lt a b) (each int_lt lo hi) r)) l)

box_room : (n : ℕ) (lo hi : List ℤ) → is_box n lo hi ≡ true → each int_lt lo hi ≡ true
box_room n lo hi h = and_second (is_point n lo && is_point n hi) (each int_lt lo hi) h

-- ---- sums

pub closed_sum : (f : List ℤ → Bool) (h : ℤ) (W : List (List ℤ)) → xsum f (closed h W) ≡ xor (xsum f W) (xsum (λ q. f (raised h q)) W)
unfolding closed
closed_sum f h [] = sym (ap (λ t. xor t (xsum (λ q. f (raised h q)) [])) (xsum-nil f) ∙ false-xor (xsum (λ q. f (raised h q)) []) ∙ xsum-nil (λ q. f (raised h q)) ∙ sym (xsum-nil f))
closed_sum f h (p ∷ W) =
    xsum-cons f p (raised h p ∷ closed h W) ∙ ap (xor (f p)) (xsum-cons f (raised h p) (closed h W) ∙ ap (xor (f (raised h p))) (closed_sum f h W))
    ∙ sym (xor_assoc (f p) (f (raised h p)) (xor (xsum f W) (xsum (λ q. f (raised h q)) W)))
    ∙ xor_swap (f p) (f (raised h p)) (xsum f W) (xsum (λ q. f (raised h q)) W)
    ∙ ap₂ xor (sym (xsum-cons f p W)) (sym (xsum-cons (λ q. f (raised h q)) p W))

equal_parts : (a b : Bool) → xor a b ≡ false → a ≡ b
unfolding xor
equal_parts true true e = refl
equal_parts true false e = e
equal_parts false true e = sym e
equal_parts false false e = refl

first_clamped : (lo hi q : List ℤ) → length hi ≡ length lo → length q ≡ length lo → without 0 (clamped lo hi q) ≡ clamped (without 0 lo) (without 0 hi) (without 0 q)
unfolding clamped without
first_clamped [] hi q e f = refl
first_clamped (a ∷ lo) [] q e f = absurd (omega arith)
first_clamped (a ∷ lo) (b ∷ hi) [] e f = absurd (omega arith)
first_clamped (a ∷ lo) (b ∷ hi) (x ∷ q) e f = refl

-- what is put at the upper end holds an even number of times of all rows
all_even : (n : ℕ) (lo hi : List ℤ) (V : List (List ℤ)) (h : ℤ) (f : List ℤ → Bool) → 0 < n → length lo ≡ n → length hi ≡ n → IsVertexList n V → xsum (λ q. f (raised h (clamped lo hi q))) V ≡ false
all_even n lo hi V h f some e g v =
    xsum-same_on (is_point n) (λ q. f (raised h (clamped lo hi q))) (λ q. f (h ∷ clamped (without 0 lo) (without 0 hi) (without 0 q)))
    (λ q m. let (k, l) = point_parts n q m in ap (λ (r : List ℤ). f (h ∷ r)) (first_clamped lo hi q (omega arith) (omega arith)))
    V v.points
    ∙ even_sum n V v.points v.even 0 some (λ r. f (h ∷ clamped (without 0 lo) (without 0 hi) r))

pub closing : (n : ℕ) (lo hi : List ℤ) (V W : List (List ℤ)) (p : List ℤ) → 0 < n → is_box n lo hi ≡ true → IsVertexList n V → AreLone n (map (clamped lo hi) (low_rows (get_or hi 0 (pos 0)) V)) W
    → odd (count_by (λ q. same q p) (closed (get_or hi 0 (pos 0)) W)) ≡ odd (count_by (λ q. same q p) (map (clamped lo hi) V))
closing n lo hi V W p some box v a =
    let h : ℤ = get_or hi 0 (pos 0) in
    let C : List ℤ → List ℤ = clamped lo hi in
    let f : List ℤ → Bool = λ q. same q p in
    let U : List (List ℤ) = low_rows h V in
    let R : List (List ℤ) = high_rows h V in
    let l = box_lengths n lo hi box in
    let g : length lo ≡ n = l.0 in
    let k : length hi ≡ n = l.1 in
    let w : Wide n V = wide-points n V v.points in
    let same_sum : (t : List ℤ → Bool) → xsum t W ≡ xsum (λ q. t (C q)) U = λ t. sym (odd-count t W) ∙ a.odd_times t ∙ odd-count t (map C U) ∙ xsum-map t C U in
    let zero_sum : xor (xsum (λ q. f (raised h (C q))) U) (xsum (λ q. f (raised h (C q))) R) ≡ false =
    sym (xsum-append (λ q. f (raised h (C q))) U R) ∙ ap (xsum (λ q. f (raised h (C q)))) (two_parts h V) ∙ all_even n lo hi V h f some g k v in
    let high : xsum (λ q. f (raised h (C q))) R ≡ xsum (λ q. f (C q)) R =
    xsum-same_on (λ q. length q == n && int_le h (get_or q 0 (pos 0))) (λ q. f (raised h (C q))) (λ q. f (C q))
    (λ q m. let e : length q ≡ n = eqb-true (length q) n (and_first (length q == n) (int_le h (get_or q 0 (pos 0))) m) in
    ap f (sym (moved_up lo hi q (omega arith) (omega arith) (omega arith) (box_room n lo hi box) (le_is h (get_or q 0 (pos 0)) (and_second (length q == n) (int_le h (get_or q 0 (pos 0))) m)))))
    R (all_both (λ q. length q == n) (λ q. int_le h (get_or q 0 (pos 0))) R (high_wide n h V w) (high_over n h V some w v.ascends)) in
    odd-count f (closed h W) ∙ closed_sum f h W
    ∙ ap₂ xor (same_sum f) (same_sum (λ q. f (raised h q)) ∙ equal_parts (xsum (λ q. f (raised h (C q))) U) (xsum (λ q. f (raised h (C q))) R) zero_sum ∙ high)
    ∙ sym (xsum-append (λ q. f (C q)) U R) ∙ ap (xsum (λ q. f (C q))) (two_parts h V)
    ∙ sym (xsum-map f C V) ∙ sym (odd-count f (map C V))
  where
    all_both : (s t : List ℤ → Bool) (S : List (List ℤ)) → list_all s S ≡ true → list_all t S ≡ true → list_all (λ q. s q && t q) S ≡ true
    all_both s t [] x y = refl
    all_both s t (q ∷ S) x y =
        and_both (s q && t q) (list_all (λ r. s r && t r) S) (and_both (s q) (t q) (and_first (s q) (list_all s S) x) (and_first (t q) (list_all t S) y))
        (all_both s t S (and_second (s q) (list_all s S) x) (and_second (t q) (list_all t S) y))

-- ---- the loops

pub low_stops : (h : ℤ) (R rest : List (List ℤ)) (row : List ℤ) → R ≡ row ∷ rest → int_lt (get_or row 0 (pos 0)) h ≡ false → low_rows h R ≡ []
unfolding low_rows
low_stops h R rest row e l = ap (low_rows h) e ∙ ap (λ b. cond b (row ∷ low_rows h rest) []) l

pub low_goes_on : (h : ℤ) (R rest : List (List ℤ)) (row : List ℤ) → R ≡ row ∷ rest → int_lt (get_or row 0 (pos 0)) h ≡ true → low_rows h R ≡ row ∷ low_rows h rest
unfolding low_rows
low_goes_on h R rest row e l = ap (low_rows h) e ∙ ap (λ b. cond b (row ∷ low_rows h rest) []) l

pub low_end : (h : ℤ) (f : List ℤ → List ℤ) (out all : List ℤ) (R : List (List ℤ)) → R ≡ [] → out ++ flat_of (map f (low_rows h R)) ≡ all → out ≡ all
unfolding low_rows
low_end h f out all R e i = sym (append-nil out) ∙ ap (λ (z : List (List ℤ)). out ++ flat_of (map f (low_rows h z))) (sym e) ∙ i

pub low_stop : (h : ℤ) (f : List ℤ → List ℤ) (out all row : List ℤ) (R rest : List (List ℤ)) → R ≡ row ∷ rest → int_lt (get_or row 0 (pos 0)) h ≡ false → out ++ flat_of (map f (low_rows h R)) ≡ all → out ≡ all
low_stop h f out all row R rest e l i = sym (append-nil out) ∙ ap (λ (z : List (List ℤ)). out ++ flat_of (map f z)) (sym (low_stops h R rest row e l)) ∙ i

pub low_more : (h : ℤ) (f : List ℤ → List ℤ) (out new all row : List ℤ) (R rest : List (List ℤ)) → R ≡ row ∷ rest → int_lt (get_or row 0 (pos 0)) h ≡ true → new ≡ out ++ f row → out ++ flat_of (map f (low_rows h R)) ≡ all
    → new ++ flat_of (map f (low_rows h rest)) ≡ all
low_more h f out new all row R rest e l n i =
    ap (λ z. z ++ flat_of (map f (low_rows h rest))) n ∙ append_assoc out (f row) (flat_of (map f (low_rows h rest)))
    ∙ ap (λ (z : List (List ℤ)). out ++ flat_of (map f z)) (sym (low_goes_on h R rest row e l)) ∙ i

pub without_first : (p : List ℤ) → 0 < length p → without 0 p ≡ drop 1 p
unfolding without
without_first [] l = absurd (omega arith)
without_first (x ∷ p) l = refl

pub without_none : (p : List ℤ) → length p ≡ 0 → without 0 p ≡ []
unfolding without
without_none [] l = refl
without_none (x ∷ p) l = absurd (omega arith)

pub closed_more : (h : ℤ) (bs : List (Bor (List ℤ))) (i : ℕ) (d : Bor (List ℤ)) (out mid new all : List ℤ) → i < length bs → mid ≡ out ++ (get_or bs i d).now → new ≡ mid ++ raised h (get_or bs i d).now
    → out ++ flat_of (closed h (targets (drop i bs))) ≡ all → new ++ flat_of (closed h (targets (drop (i + 1) bs))) ≡ all
unfolding closed
closed_more h bs i d out mid new all l m n e =
    let p : List ℤ = (get_or bs i d).now in
    let rest : List ℤ = flat_of (closed h (targets (drop (i + 1) bs))) in
    let one : targets (drop i bs) ≡ p ∷ targets (drop (i + 1) bs) = ap targets (drop_more bs i d l) in
    ap (λ z. z ++ rest) (n ∙ ap (λ z. z ++ raised h p) m) ∙ append_assoc (out ++ p) (raised h p) rest ∙ append_assoc out p (raised h p ++ rest)
    ∙ ap (λ V. out ++ flat_of (closed h V)) (sym one) ∙ e

pub closed_all : (h : ℤ) (bs : List (Bor (List ℤ))) (i : ℕ) (out all : List ℤ) → length bs ≤ i → out ++ flat_of (closed h (targets (drop i bs))) ≡ all → out ≡ all
unfolding closed
closed_all h bs i out all l e = sym (append-nil out) ∙ ap (λ cs. out ++ flat_of (closed h (targets cs))) (sym (drop-none bs i l)) ∙ e
  where
    drop-none : (xs : List (Bor (List ℤ))) (k : ℕ) → length xs ≤ k → drop k xs ≡ []
    drop-none [] zero m = refl
    drop-none [] (suc k) m = refl
    drop-none (x ∷ xs) zero m = absurd (omega arith)
    drop-none (x ∷ xs) (suc k) m = drop-none xs k (omega arith)

-- rows of one width, closed
pub wide_closed : (n : ℕ) (h : ℤ) (W : List (List ℤ)) → 0 < n → list_all (λ p. length p == n) W ≡ true → Wide n (closed h W)
unfolding closed without
wide_closed n h [] some a = tt
wide_closed n h (p ∷ W) some a =
    let e : length p ≡ n = eqb-true (length p) n (and_first (length p == n) (list_all (λ q. length q == n) W) a) in
    (e, (long p e, wide_closed n h W some (and_second (length p == n) (list_all (λ q. length q == n) W) a)))
  where
    long : (q : List ℤ) → length q ≡ n → length (raised h q) ≡ n
    long [] e = absurd (omega arith)
    long (x ∷ q) e = e

-- what is left of the closed rows is left of all moved rows
pub closed_is : (n : ℕ) (lo hi : List ℤ) (V W X : List (List ℤ)) → 0 < n → is_box n lo hi ≡ true → IsVertexList n V → AreLone n (map (clamped lo hi) (low_rows (get_or hi 0 (pos 0)) V)) W
    → IsReduced n (closed (get_or hi 0 (pos 0)) W) X → IsReduced n (map (clamped lo hi) V) X
closed_is n lo hi V W X some box v a r = record { ascends = r.ascends; wide = r.wide; odd_times = λ p. r.odd_times p ∙ closing n lo hi V W p some box v a }

pub closed_rows_are : (n : ℕ) (h : ℤ) (W : List (List ℤ)) (flat : List ℤ) → 0 < n → list_all (λ p. length p == n) W ≡ true → flat ≡ flat_of (closed h W) → (length flat % n ≡ 0) × (rows_of flat n 0 ≡ closed h W)
closed_rows_are n h W flat some a f =
    let w : Wide n (closed h W) = wide_closed n h W some a in (
      ap (λ (z : List ℤ). length z % n) f ∙ ap (λ (k : ℕ). k % n) (length-flat_of n (closed h W) w) ∙ mul-mod_left (length (closed h W)) n,
      ap (λ (z : List ℤ). rows_of z n 0) f ∙ rows_of-flat_of n (closed h W) some w,
    )
