-- Heights at which cell sets change, and how many there are. The cell sets have dimension m + 1.
use Rattle.std.proofs.Common.{◌≡◌, ℕ, zero, suc, ◌+◌, ◌<◌, ◌≤◌, ◌⊎◌, inl, inr, Bool, true, false, not, cond, ◌&&◌, ◌||◌, List, [], ◌∷◌, ◌++◌, length, map, filter, get_or, ℤ, pos, neg_ℤ, ◌-ℤ◌, ◌<ℤ◌, ◌≤ℤ◌, int_le, int_lt, int_eq, refl, sym, ap, ap₂, ◌∙◌, arith, ⊎_elim}
use Rattle.std.specs.List.{list_any, list_all}
use Rattle.std.proofs.lemmas.Bool.{true≢false, false≢true, or_cases, or_left, or_right}
use Rattle.std.proofs.lemmas.Int.{ints as int_facts}
use Rattle.evm_cells.specs.Places.{has, is_empty, each, with_at, without, before, ascending}
use Rattle.evm_cells.specs.Limits.{limit, point_coords, is_point, is_point_coord, is_cell_coord, is_cell, IsCellSet}
use Rattle.evm_cells.specs.Booleans.{xor, xor_cells}
use Rattle.evm_cells.specs.Sections.{slice, couplet, cuts, rows_at}
use Rattle.evm_cells.specs.Shapes.{clip}
use Rattle.evm_cells.specs.Vertices.{cells, IsVertexList}
use Rattle.evm_cells.proofs.Xor.{and_first, and_second, and_both, and-false}
use Rattle.evm_cells.proofs.Order.{refuted, any-filter}
use Rattle.evm_cells.proofs.Coords.{strict_ints, eq_is, eq_yes, le_yes, le_no, lt_is, lt_yes, lt_no, any-point_coords, point_yes, cell_is}
use Rattle.evm_cells.proofs.Places.{has-any}
use Rattle.evm_cells.proofs.Universe.{same_sets, point_parts, cell_set-cells}
use Rattle.evm_cells.proofs.Booleans.{xor_undone}
use Rattle.evm_cells.proofs.Combine.{cell_set-xor}
use Rattle.evm_cells.proofs.Core.{evm-cells}
use Rattle.evm_cells.proofs.Slices.{coord, has-slice_of, cell_set-slice, cell_set-couplet}
use Rattle.evm_cells.proofs.Layers.{same_section, no_couplet, slice-combine, slice_outside, no_places, rows-evm, is_empty-evm, all_and}
use Rattle.evm_cells.proofs.Lists.{all_weaker}
use Rattle.evm_cells.proofs.Insides.{cell_set-clip, has-clip_of}
use Rattle.evm_cells.proofs.SlicedInsides.{slice_of_clip}
use Rattle.evm_tiles.proofs.Parts.{xor_other}

-- whether the section changes at a height
abbrev pub changes : ℕ → List (List ℤ) → ℤ → Bool
changes m S h = not (is_empty (couplet m 0 h S))

-- ---- tests

pub sure : (b : Bool) → (b ≡ false → ⊥) → b ≡ true
sure true f = refl
sure false f = absurd (f refl)

one_of : (a b c : Bool) → (a ≡ false → b ≡ false → c ≡ false) → c ≡ true → (a ≡ true) ⊎ (b ≡ true)
one_of true b c f e = inl refl
one_of false true c f e = inr refl
one_of false false c f e = absurd (true≢false (sym e ∙ f refl refl))

-- where a test passes whatever another passes, it passes no fewer
pub fewer : (p q : ℤ → Bool) (xs : List ℤ) → ((h : ℤ) → p h ≡ true → q h ≡ true) → length (filter p xs) ≤ length (filter q xs)
fewer p q [] f = omega arith
fewer p q (x ∷ xs) f = at (p x) (q x) (f x) (fewer p q xs f)
  where
    at : (b c : Bool) → (b ≡ true → c ≡ true) → length (filter p xs) ≤ length (filter q xs)
        → length (cond b (x ∷ filter p xs) (filter p xs)) ≤ length (cond c (x ∷ filter q xs) (filter q xs))
    at true true f l = omega arith
    at true false f l = absurd (false≢true (f refl))
    at false true f l = omega arith
    at false false f l = l

pub fewer_cuts : (m : ℕ) (S : List (List ℤ)) (p : ℤ → Bool) → ((h : ℤ) → changes m S h ≡ true → p h ≡ true) → length (cuts m 0 S) ≤ length (filter p (point_coords (suc m)))
unfolding cuts
fewer_cuts m S p f = fewer (changes m S) p (point_coords (suc m)) f

-- ---- where a section changes

none_is : (S : List (List ℤ)) → not (is_empty S) ≡ false → S ≡ []
unfolding is_empty
none_is [] h = refl
none_is (c ∷ S) h = absurd (true≢false h)

stays_at : (m : ℕ) (S : List (List ℤ)) (h : ℤ) → changes m S h ≡ false → slice m 0 (h -ℤ pos 1) S ≡ slice m 0 h S
stays_at m S h e = same_section m 0 h S (none_is (couplet m 0 h S) e)

no_change : (m : ℕ) (S : List (List ℤ)) (h : ℤ) → slice m 0 (h -ℤ pos 1) S ≡ slice m 0 h S → changes m S h ≡ false
unfolding is_empty
no_change m S h e = ap (λ T. not (is_empty T)) (no_couplet m 0 h S e)

-- an exclusive or changes only where one of the two does
pub xor_changes : (m : ℕ) (A B : List (List ℤ)) (h : ℤ) → IsCellSet (suc m) A → IsCellSet (suc m) B → changes m (xor_cells (suc m) A B) h ≡ true → (changes m A h ≡ true) ⊎ (changes m B h ≡ true)
unfolding xor_cells xor
xor_changes m A B h a b =
    one_of (changes m A h) (changes m B h) (changes m (xor_cells (suc m) A B) h)
    (λ e f. no_change m (xor_cells (suc m) A B) h
    (slice-combine xor m 0 (h -ℤ pos 1) A B refl a b
    ∙ ap₂ (xor_cells m) (stays_at m A h e) (stays_at m B h f)
    ∙ sym (slice-combine xor m 0 h A B refl a b)))

-- so a change changes only where the operand does, before or after
pub change_changes : (m : ℕ) (A D : List (List ℤ)) (h : ℤ) → IsCellSet (suc m) A → IsCellSet (suc m) D → changes m D h ≡ true → (changes m (xor_cells (suc m) A D) h ≡ true) ⊎ (changes m A h ≡ true)
change_changes m A D h a d e =
    let n : ℕ = suc m in
    let back : D ≡ xor_cells n (xor_cells n A D) A = sym (xor_undone n D A d) ∙ ap (λ T. xor_cells n T A) (xor_other n D A d a) in
    xor_changes m (xor_cells n A D) A h (cell_set-xor n A D) a (ap (λ T. changes m T h) (sym back) ∙ e)

-- outside the limits nothing changes
change_is_point : (m : ℕ) (S : List (List ℤ)) (h : ℤ) → IsCellSet (suc m) S → changes m S h ≡ true → is_point_coord (suc m) h ≡ true
change_is_point m S h s e =
    sure (is_point_coord (suc m) h)
    (λ f. true≢false (sym e ∙ no_change m S h
    (slice_outside m 0 (h -ℤ pos 1) S s (refuted (is_cell_coord (suc m) (h -ℤ pos 1)) (λ c. let (a, b) = cell_is (suc m) (h -ℤ pos 1) c in true≢false (sym (point_yes (suc m) h (omega (arith, int_facts)) (omega (arith, int_facts))) ∙ f)))
    ∙ sym (slice_outside m 0 h S s (refuted (is_cell_coord (suc m) h) (λ c. let (a, b) = cell_is (suc m) h c in true≢false (sym (point_yes (suc m) h a (omega (arith, int_facts))) ∙ f)))))))

cut_is_there : (m : ℕ) (S : List (List ℤ)) (h : ℤ) → IsCellSet (suc m) S → changes m S h ≡ true → list_any (int_eq h) (cuts m 0 S) ≡ true
unfolding cuts
cut_is_there m S h s e =
    any-filter int_eq int_lt strict_ints (changes m S) h (point_coords (suc m))
    ∙ and_both (list_any (int_eq h) (point_coords (suc m))) (changes m S h) (any-point_coords (suc m) h ∙ change_is_point m S h s e) e

some_passes : (p : ℤ → Bool) (k : ℤ) (xs : List ℤ) → p k ≡ true → list_any (int_eq k) xs ≡ true → list_any p xs ≡ true
some_passes p k [] h e = absurd (false≢true e)
some_passes p k (x ∷ xs) h e = at (int_eq k x) refl e (λ g. some_passes p k xs h g)
  where
    at : (b : Bool) → int_eq k x ≡ b → (b || list_any (int_eq k) xs) ≡ true → (list_any (int_eq k) xs ≡ true → list_any p xs ≡ true) → (p x || list_any p xs) ≡ true
    at true f g rest = or_left (p x) (list_any p xs) (ap p (sym (eq_is k x f)) ∙ h)
    at false f g rest = or_right (p x) (list_any p xs) (rest g)

-- some cut is at a height or below, and some at it or above
cut_below : (m : ℕ) (S : List (List ℤ)) (k h : ℤ) → IsCellSet (suc m) S → changes m S k ≡ true → k ≤ℤ h → list_any (λ l. int_le l h) (cuts m 0 S) ≡ true
cut_below m S k h s e l = some_passes (λ l. int_le l h) k (cuts m 0 S) (le_yes k h l) (cut_is_there m S k s e)

cut_above : (m : ℕ) (S : List (List ℤ)) (k h : ℤ) → IsCellSet (suc m) S → changes m S k ≡ true → h ≤ℤ k → list_any (int_le h) (cuts m 0 S) ≡ true
cut_above m S k h s e l = some_passes (int_le h) k (cuts m 0 S) (le_yes h k l) (cut_is_there m S k s e)

-- whether a height is in the least range that has all cuts of some cell sets
abbrev pub spanned : ℕ → List (List (List ℤ)) → ℤ → Bool
spanned m Ds h =
    list_any (λ D. list_any (λ k. int_le k h) (cuts m 0 D)) Ds
    && list_any (λ D. list_any (int_le h) (cuts m 0 D)) Ds

pub between_cuts : (m : ℕ) (D : List (List ℤ)) (l u h : ℤ) → IsCellSet (suc m) D → changes m D l ≡ true → changes m D u ≡ true → l ≤ℤ h → h ≤ℤ u → spanned m (D ∷ []) h ≡ true
between_cuts m D l u h d a b x y =
    let low : Bool = list_any (λ k. int_le k h) (cuts m 0 D) in
    let high : Bool = list_any (int_le h) (cuts m 0 D) in
    and_both (low || false) (high || false) (or_left low false (cut_below m D l h d a x)) (or_left high false (cut_above m D u h d b y))

-- one of a list
pub any_in : (p : List (List ℤ) → Bool) (Ss Ts : List (List (List ℤ))) (S : List (List ℤ)) → p S ≡ true → list_any p (Ss ++ (S ∷ Ts)) ≡ true
any_in p [] Ts S h = or_left (p S) (list_any p Ts) h
any_in p (R ∷ Ss) Ts S h = or_right (p R) (list_any p (Ss ++ (S ∷ Ts))) (any_in p Ss Ts S h)

pub spanned_in : (m : ℕ) (Ds Es : List (List (List ℤ))) (D : List (List ℤ)) (h : ℤ) → spanned m (D ∷ []) h ≡ true → spanned m (Ds ++ (D ∷ Es)) h ≡ true
spanned_in m Ds Es D h e =
    let low : List (List ℤ) → Bool = λ S. list_any (λ k. int_le k h) (cuts m 0 S) in
    let high : List (List ℤ) → Bool = λ S. list_any (int_le h) (cuts m 0 S) in
    and_both (list_any low (Ds ++ (D ∷ Es))) (list_any high (Ds ++ (D ∷ Es)))
    (any_in low Ds Es D (alone (low D) (and_first (low D || false) (high D || false) e)))
    (any_in high Ds Es D (alone (high D) (and_second (low D || false) (high D || false) e)))
  where
    alone : (b : Bool) → (b || false) ≡ true → b ≡ true
    alone true f = refl
    alone false f = f

-- ---- what is inside a box

-- nothing is left of an empty section
none_inside : (m : ℕ) (lo hi : List ℤ) (S : List (List ℤ)) (k : ℤ) → IsCellSet (suc m) S → slice m 0 k S ≡ [] → slice m 0 k (clip (suc m) lo hi S) ≡ []
none_inside m lo hi S k s e =
    let C : List (List ℤ) = clip (suc m) lo hi S in
    let a : IsCellSet m (slice m 0 k C) = cell_set-slice m 0 k C in
    let ends : List ℤ → Bool = λ x. is_cell (suc m) x && (each int_le lo x && each int_lt x hi) in
    same_sets (slice m 0 k C) [] a.ascends no_places
    (λ c. has-slice_of m 0 k C c (cell_set-clip (suc m) lo hi S)
    ∙ has-clip_of (suc m) lo hi S (with_at 0 k c) s
    ∙ ap (λ b. b && ends (with_at 0 k c)) (sym (has-slice_of m 0 k S c s) ∙ ap (λ T. has T c) e ∙ has-any [] c)
    ∙ sym (has-any [] c))

-- nothing is left past the ends
none_past : (m : ℕ) (l u k : ℤ) (lo hi : List ℤ) (S : List (List ℤ)) → IsCellSet (suc m) S → (int_le l k && int_lt k u) ≡ false → slice m 0 k (clip (suc m) (l ∷ lo) (u ∷ hi) S) ≡ []
unfolding with_at each
none_past m l u k lo hi S s e =
    let C : List (List ℤ) = clip (suc m) (l ∷ lo) (u ∷ hi) S in
    let a : IsCellSet m (slice m 0 k C) = cell_set-slice m 0 k C in
    same_sets (slice m 0 k C) [] a.ascends no_places
    (λ c. has-slice_of m 0 k C c (cell_set-clip (suc m) (l ∷ lo) (u ∷ hi) S)
    ∙ has-clip_of (suc m) (l ∷ lo) (u ∷ hi) S (k ∷ c) s
    ∙ at (has S (k ∷ c)) (is_cell (suc m) (k ∷ c)) (int_le l k) (each int_le lo c) (int_lt k u) (each int_lt c hi) e
    ∙ sym (has-any [] c))
  where
    at : (s w p a q b : Bool) → (p && q) ≡ false → (s && (w && ((p && a) && (q && b)))) ≡ false
    at false w p a q b e = refl
    at true false p a q b e = refl
    at true true false a q b e = refl
    at true true true false q b e = refl
    at true true true true false b e = refl
    at true true true true true b e = absurd (true≢false e)

-- inside the ends nothing changes where the whole does not
inside_stays : (m : ℕ) (l u k : ℤ) (lo hi : List ℤ) (S : List (List ℤ)) → IsCellSet (suc m) S → l <ℤ k → k <ℤ u → changes m S k ≡ false → changes m (clip (suc m) (l ∷ lo) (u ∷ hi) S) k ≡ false
inside_stays m l u k lo hi S s a b e =
    no_change m (clip (suc m) (l ∷ lo) (u ∷ hi) S) k
    (slice_of_clip m l u (k -ℤ pos 1) lo hi S s (le_yes l (k -ℤ pos 1) (omega (arith, int_facts))) (lt_yes (k -ℤ pos 1) u (omega (arith, int_facts)))
    ∙ ap (clip m lo hi) (stays_at m S k e)
    ∙ sym (slice_of_clip m l u k lo hi S s (le_yes l k (omega (arith, int_facts))) (lt_yes k u b)))

outside_stays : (m : ℕ) (l u k : ℤ) (lo hi : List ℤ) (S : List (List ℤ)) → IsCellSet (suc m) S → (int_le l (k -ℤ pos 1) && int_lt (k -ℤ pos 1) u) ≡ false → (int_le l k && int_lt k u) ≡ false
    → changes m (clip (suc m) (l ∷ lo) (u ∷ hi) S) k ≡ false
outside_stays m l u k lo hi S s e f =
    no_change m (clip (suc m) (l ∷ lo) (u ∷ hi) S) k (none_past m l u (k -ℤ pos 1) lo hi S s e ∙ sym (none_past m l u k lo hi S s f))

-- a window changes at the ends of its box, or where the whole does between them
pub window_changes : (m : ℕ) (l u k : ℤ) (lo hi : List ℤ) (S : List (List ℤ)) → IsCellSet (suc m) S → changes m (clip (suc m) (l ∷ lo) (u ∷ hi) S) k ≡ true
    → ((k ≡ l) ⊎ (k ≡ u)) ⊎ ((changes m S k ≡ true) × (l <ℤ k) × (k <ℤ u))
window_changes m l u k lo hi S s e = at (int_lt k l) (int_lt l k) (int_lt k u) (int_lt u k) refl refl refl refl
  where
    never : changes m (clip (suc m) (l ∷ lo) (u ∷ hi) S) k ≡ false → ((k ≡ l) ⊎ (k ≡ u)) ⊎ ((changes m S k ≡ true) × (l <ℤ k) × (k <ℤ u))
    never f = absurd (true≢false (sym e ∙ f))

    at : (a b c d : Bool) → int_lt k l ≡ a → int_lt l k ≡ b → int_lt k u ≡ c → int_lt u k ≡ d → ((k ≡ l) ⊎ (k ≡ u)) ⊎ ((changes m S k ≡ true) × (l <ℤ k) × (k <ℤ u))
    at true b c d p q r t =
        let x : k <ℤ l = lt_is k l p in
        never (outside_stays m l u k lo hi S s
        (ap (λ z. z && int_lt (k -ℤ pos 1) u) (le_no l (k -ℤ pos 1) (omega (arith, int_facts))))
        (ap (λ z. z && int_lt k u) (le_no l k x)))
    at false false c d p q r t = inl (inl (omega (arith, int_facts)))
    at false true true d p q r t =
        let x : l <ℤ k = lt_is l k q in
        let y : k <ℤ u = lt_is k u r in
        inr (sure (changes m S k) (λ f. true≢false (sym e ∙ inside_stays m l u k lo hi S s x y f)), x, y)
    at false true false true p q r t =
        let x : u <ℤ k = lt_is u k t in
        never (outside_stays m l u k lo hi S s
        (ap (λ z. int_le l (k -ℤ pos 1) && z) (lt_no (k -ℤ pos 1) u (omega (arith, int_facts))) ∙ and-false (int_le l (k -ℤ pos 1)))
        (ap (λ z. int_le l k && z) (lt_no k u (omega (arith, int_facts))) ∙ and-false (int_le l k)))
    at false true false false p q r t = inl (inr (omega (arith, int_facts)))

-- a window that is open to the limits changes only where the whole does
pub open_window_changes : (m : ℕ) (l u k : ℤ) (lo hi : List ℤ) (S : List (List ℤ)) → IsCellSet (suc m) S → l ≡ neg_ℤ (pos (limit (suc m))) → u ≡ pos (limit (suc m)) → changes m (clip (suc m) (l ∷ lo) (u ∷ hi) S) k ≡ true
    → changes m S k ≡ true
open_window_changes m l u k lo hi S s el eu e =
    ⊎_elim (λ z. sure (changes m S k) (λ f. true≢false (sym e ∙ nothing f (⊎_elim (λ x. inl (under x f)) (λ x. inr (over x)) z)))) (λ z. z.0) (window_changes m l u k lo hi S s e)
  where
    C : List (List ℤ)
    C = clip (suc m) (l ∷ lo) (u ∷ hi) S

    -- just below the least coordinate and at the largest there are no cells
    under : k ≡ l → changes m S k ≡ false → slice m 0 (k -ℤ pos 1) S ≡ []
    under x f = slice_outside m 0 (k -ℤ pos 1) S s (refuted (is_cell_coord (suc m) (k -ℤ pos 1)) (λ c. let (a, b) = cell_is (suc m) (k -ℤ pos 1) c in omega (arith, int_facts)))

    over : k ≡ u → slice m 0 k S ≡ []
    over x = slice_outside m 0 k S s (refuted (is_cell_coord (suc m) k) (λ c. let (a, b) = cell_is (suc m) k c in omega (arith, int_facts)))

    nothing : changes m S k ≡ false → (slice m 0 (k -ℤ pos 1) S ≡ []) ⊎ (slice m 0 k S ≡ []) → changes m (clip (suc m) (l ∷ lo) (u ∷ hi) S) k ≡ false
    nothing f z =
        let same : slice m 0 (k -ℤ pos 1) S ≡ slice m 0 k S = stays_at m S k f in
        let (a, b) = both same z in
        no_change m (clip (suc m) (l ∷ lo) (u ∷ hi) S) k (none_inside m (l ∷ lo) (u ∷ hi) S (k -ℤ pos 1) s a ∙ sym (none_inside m (l ∷ lo) (u ∷ hi) S k s b))
      where
        both : slice m 0 (k -ℤ pos 1) S ≡ slice m 0 k S → (slice m 0 (k -ℤ pos 1) S ≡ []) ⊎ (slice m 0 k S ≡ []) → (slice m 0 (k -ℤ pos 1) S ≡ []) × (slice m 0 k S ≡ [])
        both e y = ⊎_elim (λ (a : slice m 0 (k -ℤ pos 1) S ≡ []). (a, sym e ∙ a)) (λ (b : slice m 0 k S ≡ []). (e ∙ b, b)) y

-- ---- rows

some_row : (W : List (List ℤ)) (j : ℕ) → j < length W → not (is_empty (rows_at 0 (coord 0 (get_or W j [])) W)) ≡ true
unfolding rows_at is_empty
some_row [] j l = absurd (omega arith)
some_row (q ∷ W) zero l = ap (λ b. not (is_empty (map (without 0) (cond b (q ∷ filter (λ r. int_eq (coord 0 r) (coord 0 q)) W) (filter (λ r. int_eq (coord 0 r) (coord 0 q)) W))))) (eq_yes (coord 0 q) (coord 0 q) refl)
some_row (q ∷ W) (suc j) l = at (int_eq (coord 0 q) (coord 0 (get_or W j []))) (some_row W j (omega arith))
  where
    at : (b : Bool) → not (is_empty (map (without 0) (filter (λ r. int_eq (coord 0 r) (coord 0 (get_or W j []))) W))) ≡ true
        → not (is_empty (map (without 0) (cond b (q ∷ filter (λ r. int_eq (coord 0 r) (coord 0 (get_or W j []))) W) (filter (λ r. int_eq (coord 0 r) (coord 0 (get_or W j []))) W)))) ≡ true
    at true h = refl
    at false h = h

-- the cells of some rows change at the height of each of them
pub row_changes : (m : ℕ) (V : List (List ℤ)) (i : ℕ) → IsVertexList (suc m) V → i < length V → changes m (cells (suc m) V) (coord 0 (get_or V i [])) ≡ true
row_changes m V i w l =
    let h : ℤ = coord 0 (get_or V i []) in
    let S : List (List ℤ) = cells (suc m) V in
    ap not
    (sym (is_empty-evm m (couplet m 0 h S) (cell_set-couplet m 0 h S))
    ∙ ap is_empty (sym (rows-evm m 0 h S (cell_set-cells (suc m) V) (omega arith)) ∙ ap (rows_at 0 h) (evm-cells (suc m) V w)))
    ∙ some_row V i l

-- the first of ascending rows has the least height, the last one the largest
before_low : (p q : List ℤ) → 0 < length p → 0 < length q → before p q ≡ true → int_le (coord 0 p) (coord 0 q) ≡ true
unfolding before
before_low [] q a b h = absurd (omega arith)
before_low (x ∷ p) [] a b h = absurd (omega arith)
before_low (x ∷ p) (y ∷ q) a b h =
    ⊎_elim (λ l. let t : x <ℤ y = lt_is x y l in le_yes x y (omega (arith, int_facts)))
    (λ e. let t : x ≡ y = eq_is x y (and_first (int_eq x y) (before p q) e) in le_yes x y (omega (arith, int_facts)))
    (or_cases (int_lt x y) (int_eq x y && before p q) h)

some_numbers : (m : ℕ) (q : List ℤ) → is_point (suc m) q ≡ true → 0 < length q
some_numbers m q h = let (e, b) = point_parts (suc m) q h in omega arith

pub first_is_low : (m : ℕ) (V : List (List ℤ)) → ascending V ≡ true → list_all (is_point (suc m)) V ≡ true → list_all (λ q. int_le (coord 0 (get_or V 0 [])) (coord 0 q)) V ≡ true
unfolding ascending
first_is_low m [] a p = refl
first_is_low m (q ∷ W) a p =
    let h : is_point (suc m) q ≡ true = and_first (is_point (suc m) q) (list_all (is_point (suc m)) W) p in
    and_both (int_le (coord 0 q) (coord 0 q)) (list_all (λ r. int_le (coord 0 q) (coord 0 r)) W)
    (le_yes (coord 0 q) (coord 0 q) (omega (arith, int_facts)))
    (all_weaker (λ r. before q r && is_point (suc m) r) (λ r. int_le (coord 0 q) (coord 0 r))
    (λ r k. before_low q r (some_numbers m q h) (some_numbers m r (and_second (before q r) (is_point (suc m) r) k)) (and_first (before q r) (is_point (suc m) r) k))
    W (all_and (before q) (is_point (suc m)) W (and_first (list_all (before q) W) (ascending W) a) (and_second (is_point (suc m) q) (list_all (is_point (suc m)) W) p)))

pub all_get : (p : List ℤ → Bool) (V : List (List ℤ)) (i : ℕ) → list_all p V ≡ true → i < length V → p (get_or V i []) ≡ true
all_get p [] i a l = absurd (omega arith)
all_get p (q ∷ W) zero a l = and_first (p q) (list_all p W) a
all_get p (q ∷ W) (suc i) a l = all_get p W i (and_second (p q) (list_all p W) a) (omega arith)

pub last_is_high : (m : ℕ) (V : List (List ℤ)) (i : ℕ) → i + 1 ≡ length V → ascending V ≡ true → list_all (is_point (suc m)) V ≡ true → list_all (λ q. int_le (coord 0 q) (coord 0 (get_or V i []))) V ≡ true
unfolding ascending
last_is_high m [] i e a p = refl
last_is_high m (q ∷ W) zero e a p = alone W (omega arith)
  where
    alone : (U : List (List ℤ)) → length U ≡ 0 → list_all (λ r. int_le (coord 0 r) (coord 0 q)) (q ∷ U) ≡ true
    alone [] f = and_both (int_le (coord 0 q) (coord 0 q)) true (le_yes (coord 0 q) (coord 0 q) (omega (arith, int_facts))) refl
    alone (r ∷ U) f = absurd (omega arith)
last_is_high m (q ∷ W) (suc i) e a p =
    let z : List ℤ = get_or W i [] in
    let t : list_all (is_point (suc m)) W ≡ true = and_second (is_point (suc m) q) (list_all (is_point (suc m)) W) p in
    and_both (int_le (coord 0 q) (coord 0 z)) (list_all (λ r. int_le (coord 0 r) (coord 0 z)) W)
    (before_low q z (some_numbers m q (and_first (is_point (suc m) q) (list_all (is_point (suc m)) W) p)) (some_numbers m z (all_get (is_point (suc m)) W i t (omega arith)))
    (all_get (before q) W i (and_first (list_all (before q) W) (ascending W) a) (omega arith)))
    (last_is_high m W i (omega arith) (and_second (list_all (before q) W) (ascending W) a) t)
