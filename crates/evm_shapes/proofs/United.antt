-- Unions of sections, and the projection.
use Rattle.std.proofs.Common.{◌≡◌, ℕ, zero, suc, ◌+◌, ◌-◌, ◌*◌, ◌%◌, ◌<◌, ◌≤◌, Bool, true, false, ◌&&◌, ◌||◌, List, [], ◌∷◌, ◌++◌, length, take, drop, filter, ℤ, ◌≤ℤ◌, int_le, int_lt, int_eq, refl, sym, ap, ap₂, ◌∙◌, subst, arith, ⊎_elim, zero-add}
use Rattle.std.specs.Prelude.{Option, Some, None, IfSome, IfNone, is_some}
use Rattle.std.specs.List.{list_any}
use Rattle.std.proofs.lemmas.Bool.{true≢false, false≢true, or_cases, or_left, or_right, cases_Bool}
use Rattle.std.proofs.lemmas.Int.{ints as int_facts, by_lt_z}
use Rattle.std.proofs.lemmas.List.{map-append, take_all}
use Rattle.evm_cells.specs.Places.{each, has, with_at}
use Rattle.evm_cells.specs.Limits.{every_cell, cell_coords, is_cell, is_cell_coord, IsCellSet}
use Rattle.evm_cells.specs.Booleans.{combine, or_cells}
use Rattle.evm_cells.specs.Vertices.{evm, cells, IsVertexList}
use Rattle.evm_cells.specs.Sections.{slice}
use Rattle.evm_cells.specs.Shapes.{proj, front}
use Rattle.evm_cells.proofs.Xor.{xsum-nil, and-false, and_second, and_both}
use Rattle.evm_cells.proofs.Order.{same_tests}
use Rattle.evm_cells.proofs.Lists.{any-append}
use Rattle.evm_cells.proofs.Coords.{lt_yes, eq_is, eq_yes, any-cell_coords, cell_is}
use Rattle.evm_cells.proofs.Universe.{has-cells, has-cells_of, cell_set-cells, cells_are, same_sets, member_passes}
use Rattle.evm_cells.proofs.Combine.{cell_set-filter, cell_set-combine, has-combine}
use Rattle.evm_cells.proofs.Core.{cells-evm, evm-cells, vertices-evm}
use Rattle.evm_cells.proofs.Slices.{has-slice_of, cell_set-slice, cell_of_with_at}
use Rattle.evm_cells.proofs.Layers.{evm-empty}
use Rattle.evm_cells.proofs.Lifts.{proj_of_sections, proj_of_front, cell_set-front}
use Rattle.evm_rows.specs.Rows.{Vertices, xor_rows, rows_of}
use Rattle.evm_rows.proofs.RowsPlaces.{length-rows_of}
use Rattle.evm_sections.specs.Couplets.{couplets_of, put_row, rise_above, slabs_in, slabs_above, slabs_left}
use Rattle.evm_sections.proofs.Sections.{Above, starts, waits, steps, ends, slabs_are, bottom, bottom_is}
use Rattle.evm_boolean.specs.Tower.{or_vertices}
use Rattle.evm_shapes.specs.Unions.{united, sections_of}

-- ---- the number of couplets

put_row-length : (h : ℤ) (r : List ℤ) (cs : List (ℤ × List (List ℤ))) → length (put_row h r cs) ≤ suc (length cs)
put_row-length h r [] = omega arith
put_row-length h r ((k, c) ∷ cs) = ⊎_elim
    (λ (t : int_eq h k ≡ true). rw t (omega arith))
    (λ (t : int_eq h k ≡ false). rw t (omega arith))
    (cases_Bool (int_eq h k))

pub couplets-few : (V : List (List ℤ)) → length (couplets_of V) ≤ length V
unfolding couplets_of
couplets-few [] = omega arith
couplets-few ([] ∷ V) = let h = couplets-few V in omega arith
couplets-few ((h ∷ r) ∷ V) = let a = couplets-few V in let b = put_row-length h r (couplets_of V) in omega arith

-- ---- unions

cell_set-united : (n : ℕ) (Vs : List (List (List ℤ))) → IsCellSet n (filter (λ c. list_any (λ V. has (cells n V) c) Vs) (every_cell n))
cell_set-united n Vs = cell_set-filter n (λ c. list_any (λ V. has (cells n V) c) Vs)

or-false : (b : Bool) → (b || false) ≡ b
or-false true = refl
or-false false = refl

pub united-one : (n : ℕ) (V : List (List ℤ)) → IsVertexList n V → V ≡ united n (V ∷ [])
unfolding united
united-one n V v =
    let s : IsCellSet n (cells n V) = cell_set-cells n V in
    sym (evm-cells n V v) ∙ ap (evm n) (sym (cells_are n (cells n V) s.ascends s.cells))
    ∙ ap (λ (f : List ℤ → Bool). evm n (filter f (every_cell n))) (λ i c. sym (or-false (has (cells n V) c)) i)

parts_or : (p a b : Bool) → (p && ((p && a) || (p && b))) ≡ (p && (a || b))
parts_or true a b = refl
parts_or false a b = refl

or_united : (n : ℕ) (Us Vs : List (List (List ℤ))) → combine (λ a b. a || b) n (filter (λ c. list_any (λ V. has (cells n V) c) Us) (every_cell n)) (filter (λ c. list_any (λ V. has (cells n V) c) Vs) (every_cell n)) ≡ filter (λ c. list_any (λ V. has (cells n V) c) (Us ++ Vs)) (every_cell n)
or_united n Us Vs =
    let A : List (List ℤ) = filter (λ c. list_any (λ V. has (cells n V) c) Us) (every_cell n) in
    let B : List (List ℤ) = filter (λ c. list_any (λ V. has (cells n V) c) Vs) (every_cell n) in
    let C : IsCellSet n (combine (λ a b. a || b) n A B) = cell_set-combine (λ a b. a || b) n A B in
    let D : IsCellSet n (filter (λ c. list_any (λ V. has (cells n V) c) (Us ++ Vs)) (every_cell n)) = cell_set-united n (Us ++ Vs) in
    same_sets (combine (λ a b. a || b) n A B) (filter (λ c. list_any (λ V. has (cells n V) c) (Us ++ Vs)) (every_cell n)) C.ascends D.ascends
    (λ c. has-combine (λ a b. a || b) n A B c
    ∙ ap₂ (λ x y. is_cell n c && (x || y)) (has-cells n (λ d. list_any (λ V. has (cells n V) d) Us) c) (has-cells n (λ d. list_any (λ V. has (cells n V) d) Vs) c)
    ∙ parts_or (is_cell n c) (list_any (λ V. has (cells n V) c) Us) (list_any (λ V. has (cells n V) c) Vs)
    ∙ ap (λ t. is_cell n c && t) (sym (any-append (λ (V : List (List ℤ)). has (cells n V) c) Us Vs))
    ∙ sym (has-cells n (λ d. list_any (λ V. has (cells n V) d) (Us ++ Vs)) c))

-- the union of two unions
pub united-append : (n : ℕ) (Us Vs : List (List (List ℤ))) → evm n (or_cells n (cells n (united n Us)) (cells n (united n Vs))) ≡ united n (Us ++ Vs)
unfolding united or_cells
united-append n Us Vs =
    ap₂ (λ A B. evm n (combine (λ a b. a || b) n A B))
    (cells-evm n (filter (λ c. list_any (λ V. has (cells n V) c) Us) (every_cell n)) (cell_set-united n Us))
    (cells-evm n (filter (λ c. list_any (λ V. has (cells n V) c) Vs) (every_cell n)) (cell_set-united n Vs))
    ∙ ap (evm n) (or_united n Us Vs)

pub or_rows : (a b s : Vertices) → s ≡ or_vertices a b → s.rows ≡ evm a.dim (or_cells a.dim (cells a.dim a.rows) (cells a.dim b.rows))
unfolding or_vertices
or_rows a b s e = ap (λ (p : Vertices). p.rows) e

pub or_dim : (a b s : Vertices) → s ≡ or_vertices a b → s.dim ≡ a.dim
unfolding or_vertices
or_dim a b s e = ap (λ (p : Vertices). p.dim) e

-- ---- the slabs of a solid

-- a cell set of which some cell is known has vertices
not_empty : (n : ℕ) (S : List (List ℤ)) (s : List (List ℤ)) (c : List ℤ) → IsCellSet n S → s ≡ evm n S → has (cells n s) c ≡ has S c
not_empty n S s c h e = ap (λ V. has (cells n V) c) e ∙ ap (λ T. has T c) (cells-evm n S h)

no_member : (n : ℕ) (c : List ℤ) → has (cells n []) c ≡ true → ⊥
no_member n c m = true≢false (sym m ∙ has-cells_of n [] c ∙ ap (λ t. is_cell n c && t) (xsum-nil (λ q. each int_le q c)) ∙ and-false (is_cell n c))

-- the section at a height is that of some slab
slab_at : (n : ℕ) (S : List (List ℤ)) (l k : ℤ) (s : List (List ℤ)) (cs : List (ℤ × List (List ℤ))) (c : List ℤ) → Above n S l s cs → l ≤ℤ k → has (slice n 0 k S) c ≡ true
    → list_any (λ V. has (cells n V) c) (sections_of (slabs_above n s l cs)) ≡ true
unfolding slabs_above
slab_at n S l k s [] c a le m =
    let b : Above n S k s [] = waits n S l k s [] a le refl in
    absurd (no_member n c (ap (λ V. has (cells n V) c) (sym (ends n S k s b)) ∙ not_empty n (slice n 0 k S) s c (cell_set-slice n 0 k S) b.section ∙ m))
slab_at n S l k s ((h, d) ∷ cs) c a le m = by_lt_z k h
    (λ low. let up : rise_above k ((h, d) ∷ cs) ≡ true = and_both (int_lt k h) (rise_above h cs) (lt_yes k h low) (and_second (int_lt l h) (rise_above h cs) a.rising) in
    let b : Above n S k s ((h, d) ∷ cs) = waits n S l k s ((h, d) ∷ cs) a le up in
    or_left (has (cells n s) c) (list_any (λ V. has (cells n V) c) (sections_of (slabs_above n (xor_rows n s d) h cs)))
    (not_empty n (slice n 0 k S) s c (cell_set-slice n 0 k S) b.section ∙ m))
    (λ high. or_right (has (cells n s) c) (list_any (λ V. has (cells n V) c) (sections_of (slabs_above n (xor_rows n s d) h cs)))
    (slab_at n S h k (xor_rows n s d) cs c (steps n S l h s d cs a) high m))

slab_of : (n : ℕ) (S : List (List ℤ)) (l k : ℤ) (cs : List (ℤ × List (List ℤ))) (c : List ℤ) → Above n S l [] cs → l ≤ℤ k → has (slice n 0 k S) c ≡ true
    → list_any (λ V. has (cells n V) c) (sections_of (slabs_left n [] cs)) ≡ true
unfolding slabs_left
slab_of n S l k [] c a le m =
    let b : Above n S k [] [] = waits n S l k [] [] a le refl in
    absurd (no_member n c (not_empty n (slice n 0 k S) [] c (cell_set-slice n 0 k S) b.section ∙ m))
slab_of n S l k ((h, d) ∷ cs) c a le m = by_lt_z k h
    (λ low. let up : rise_above k ((h, d) ∷ cs) ≡ true = and_both (int_lt k h) (rise_above h cs) (lt_yes k h low) (and_second (int_lt l h) (rise_above h cs) a.rising) in
    let b : Above n S k [] ((h, d) ∷ cs) = waits n S l k [] ((h, d) ∷ cs) a le up in
    absurd (no_member n c (not_empty n (slice n 0 k S) [] c (cell_set-slice n 0 k S) b.section ∙ m)))
    (λ high. slab_at n S h k (xor_rows n [] d) cs c (steps n S l h [] d cs a) high m)

-- each slab's section is that at its low end
low_end : (n : ℕ) (S : List (List ℤ)) (h : ℤ) (c : List ℤ) → IsCellSet (suc n) S → has (slice n 0 h S) c ≡ true → list_any (λ k. has (slice n 0 k S) c) (cell_coords (suc n)) ≡ true
low_end n S h c s m =
    let inside : has S (with_at 0 h c) ≡ true = sym (has-slice_of n 0 h S c s) ∙ m in
    let (a, b) = cell_of_with_at n 0 h c (member_passes (is_cell (suc n)) S (with_at 0 h c) s.cells inside) in
    any_of (λ k. has (slice n 0 k S) c) h (cell_coords (suc n)) (any-cell_coords (suc n) h ∙ a) m
  where
    any_of : (p : ℤ → Bool) (x : ℤ) (xs : List ℤ) → list_any (int_eq x) xs ≡ true → p x ≡ true → list_any p xs ≡ true
    any_of p x [] e t = absurd (false≢true e)
    any_of p x (y ∷ ys) e t = ⊎_elim
        (λ q. or_left (p y) (list_any p ys) (ap p (sym (eq_is x y q)) ∙ t))
        (λ q. or_right (p y) (list_any p ys) (any_of p x ys q t))
        (or_cases (int_eq x y) (list_any (int_eq x) ys) e)

height_of : (n : ℕ) (S : List (List ℤ)) (l : ℤ) (s : List (List ℤ)) (cs : List (ℤ × List (List ℤ))) (c : List ℤ) → Above n S l s cs → list_any (λ V. has (cells n V) c) (sections_of (slabs_above n s l cs)) ≡ true
    → list_any (λ k. has (slice n 0 k S) c) (cell_coords (suc n)) ≡ true
unfolding slabs_above
height_of n S l s [] c a m = absurd (false≢true m)
height_of n S l s ((h, d) ∷ cs) c a m = ⊎_elim
    (λ e. low_end n S l c a.set (sym (not_empty n (slice n 0 l S) s c (cell_set-slice n 0 l S) a.section) ∙ e))
    (λ e. height_of n S h (xor_rows n s d) cs c (steps n S l h s d cs a) e)
    (or_cases (has (cells n s) c) (list_any (λ V. has (cells n V) c) (sections_of (slabs_above n (xor_rows n s d) h cs))) m)

height_in : (n : ℕ) (S : List (List ℤ)) (l : ℤ) (cs : List (ℤ × List (List ℤ))) (c : List ℤ) → Above n S l [] cs → list_any (λ V. has (cells n V) c) (sections_of (slabs_left n [] cs)) ≡ true
    → list_any (λ k. has (slice n 0 k S) c) (cell_coords (suc n)) ≡ true
unfolding slabs_left
height_in n S l [] c a m = absurd (false≢true m)
height_in n S l ((h, d) ∷ cs) c a m = height_of n S h (xor_rows n [] d) cs c (steps n S l h [] d cs a) m

-- some height of a row of numbers, above their bound
any_height : (p : ℤ → Bool) (n : ℕ) → list_any p (cell_coords n) ≡ true → (k : ℤ) × (is_cell_coord n k ≡ true) × (p k ≡ true)
any_height p n h = let (k, a, b) = some_of (cell_coords n) h in (k, sym (any-cell_coords n k) ∙ b (int_eq k) (eq_yes k k refl), a)
  where
    some_of : (xs : List ℤ) → list_any p xs ≡ true → (x : ℤ) × (p x ≡ true) × ((q : ℤ → Bool) → q x ≡ true → list_any q xs ≡ true)
    some_of [] h = absurd (false≢true h)
    some_of (x ∷ xs) h = ⊎_elim
        (λ e. (x, e, λ q f. or_left (q x) (list_any q xs) f))
        (λ e. let (y, a, b) = some_of xs e in (y, a, λ q f. or_right (q x) (list_any q xs) (b q f)))
        (or_cases (p x) (list_any p xs) h)

-- the union of the sections of all slabs is the projection
projection : (n : ℕ) (V : List (List ℤ)) → IsVertexList (suc n) V → united n (sections_of (slabs_in n (cells (suc n) V))) ≡ evm n (proj n 0 (cells (suc n) V))
unfolding united
projection n V v =
    let S : List (List ℤ) = cells (suc n) V in
    let s : IsCellSet (suc n) S = cell_set-cells (suc n) V in
    let a : Above n S (bottom (suc n)) [] (couplets_of V) = starts n V v in
    ap (λ L. evm n (filter (λ c. list_any (λ W. has (cells n W) c) (sections_of L)) (every_cell n))) (sym (slabs_are n V v))
    ∙ ap (λ (f : List ℤ → Bool). evm n (filter f (every_cell n)))
    (λ i c. same_tests (list_any (λ W. has (cells n W) c) (sections_of (slabs_left n [] (couplets_of V)))) (list_any (λ k. has (slice n 0 k S) c) (cell_coords (suc n)))
    (height_in n S (bottom (suc n)) (couplets_of V) c a)
    (λ m. let (k, b, e) = any_height (λ k. has (slice n 0 k S) c) (suc n) m in
    let (u, w) = cell_is (suc n) k b in
    let z = bottom_is (suc n) in
    slab_of n S (bottom (suc n)) k (couplets_of V) c a (omega (arith, int_facts)) e) i)
    ∙ ap (evm n) (sym (proj_of_sections n 0 S (omega arith) s))

-- the same over the solid with the axis put first
pub projection_of : (m n i : ℕ) (V W : List (List ℤ)) → n + 1 ≡ m → i < m → IsVertexList m V → IsVertexList m W → W ≡ evm m (front m i (cells m V)) → united n (sections_of (slabs_in n (cells m W))) ≡ evm n (proj n i (cells m V))
projection_of m n i V W e l v w h =
    let q : m ≡ suc n = omega arith in
    ap (λ (j : ℕ). united n (sections_of (slabs_in n (cells j W)))) q
    ∙ projection n W (subst (λ (j : ℕ). IsVertexList j W) q w)
    ∙ ap (λ T. evm n (proj n 0 T)) (ap (λ X. cells (suc n) X) (h ∙ ap (λ (j : ℕ). evm j (front j i (cells j V))) q) ∙ cells-evm (suc n) (front (suc n) i (cells (suc n) V)) (cell_set-front (suc n) i (cells (suc n) V)))
    ∙ ap (evm n) (sym (proj_of_front n i (cells (suc n) V) (omega arith) (cell_set-cells (suc n) V)))
    ∙ ap (λ (j : ℕ). evm n (proj n i (cells j V))) (sym q)

-- ---- the number of slabs

above-length : (n : ℕ) (s : List (List ℤ)) (h : ℤ) (cs : List (ℤ × List (List ℤ))) → length (slabs_above n s h cs) ≡ length cs
unfolding slabs_above
above-length n s h [] = refl
above-length n s h ((k, c) ∷ cs) = ap suc (above-length n (xor_rows n s c) k cs)

pub slabs-length : (n : ℕ) (cs : List (ℤ × List (List ℤ))) → length (slabs_left n [] cs) ≡ length cs - 1
unfolding slabs_left
slabs-length n [] = omega arith
slabs-length n ((h, c) ∷ cs) = above-length n (xor_rows n [] c) h cs ∙ (let e : length cs ≡ suc (length cs) - 1 = omega arith in e)

pub slabs_in-length : (m n : ℕ) (W : List (List ℤ)) → n + 1 ≡ m → IsVertexList m W → length (slabs_in n (cells m W)) ≡ length (couplets_of W) - 1
slabs_in-length m n W e w =
    let q : m ≡ suc n = omega arith in
    ap (λ (j : ℕ). length (slabs_in n (cells j W))) q ∙ ap length (sym (slabs_are n W (subst (λ (j : ℕ). IsVertexList j W) q w))) ∙ slabs-length n (couplets_of W)

-- ---- the steps of the functions

-- what was given is the first of what was left
pub popped : {X : Type 0} (o : Option X) (f : X → ℤ × List (List ℤ)) (old new : List (ℤ × List (List ℤ))) → IfSome o (λ p. old ≡ f p ∷ new) → true ≡ is_some o → length old ≡ suc (length new)
popped None f old new e t = absurd (true≢false t)
popped (Some p) f old new e t = ap length e

pub given_none : {X : Type 0} (o : Option X) (old : List (ℤ × List (List ℤ))) → IfNone o (old ≡ []) → false ≡ is_some o → old ≡ []
given_none None old e t = e
given_none (Some p) old e t = absurd (false≢true t)

-- the first of the slabs that are left, where some are
pub advanced : {X : Type 0} (o : Option X) (f : X → ℤ × (ℤ × List (List ℤ))) (left new : List (ℤ × (ℤ × List (List ℤ)))) (n : ℕ) (section W V : List (List ℤ)) → ((x : X) → (f x).1.1 ≡ section) → IfSome o (λ x. left ≡ f x ∷ new) → IfNone o ((left ≡ []) × ((new ≡ []) × (section ≡ []))) → 1 ≤ length left → W ≡ V → V ≡ section → IsVertexList n V → W ≡ united n (sections_of (take 1 left))
advanced None f left new n section W V r a b l d g v = absurd (let e : length left ≡ 0 = ap length b.0 in omega arith)
advanced (Some x) f left new n section W V r a b l d g v =
    d ∙ united-one n V v ∙ ap (λ T. united n (T ∷ [])) (g ∙ sym (r x)) ∙ ap (λ L. united n (sections_of (take 1 L))) (sym a)

pub rows-few : (flat : List ℤ) (w s : ℕ) → s < w → length flat % w ≡ 0 → length (rows_of flat w s) ≤ length flat
rows-few flat w s l e =
    let m = length-rows_of flat w s (omega arith) e in
    let k : length (rows_of flat w s) ≤ length (rows_of flat w s) * w = grind arith in
    omega arith

pub take-add : {X : Type 0} (a b : ℕ) (xs : List X) → take (a + b) xs ≡ take a xs ++ take b (drop a xs)
take-add zero b xs = ap (λ (k : ℕ). take k xs) (zero-add b)
take-add (suc a) b [] = none_taken (suc a + b) ∙ sym (none_taken b)
  where
    none_taken : {X : Type 0} (k : ℕ) → take {A = X} k [] ≡ []
    none_taken zero = refl
    none_taken (suc k) = refl
take-add (suc a) b (x ∷ xs) = ap (λ (k : ℕ). take k (x ∷ xs)) (let e : suc a + b ≡ suc (a + b) = omega arith in e) ∙ ap (λ ys. x ∷ ys) (take-add a b xs)

-- the union of the two halves
pub two_halves : (n a b k : ℕ) (left rest : List (ℤ × (ℤ × List (List ℤ)))) (U V W : List (List ℤ)) → a + b ≡ k → rest ≡ drop a left → U ≡ united n (sections_of (take a left)) → V ≡ united n (sections_of (take b rest)) → W ≡ evm n (or_cells n (cells n U) (cells n V)) → W ≡ united n (sections_of (take k left))
two_halves n a b k left rest U V W e r u v w =
    w ∙ ap₂ (λ A B. evm n (or_cells n (cells n A) (cells n B))) u (v ∙ ap (λ L. united n (sections_of (take b L))) r)
    ∙ united-append n (sections_of (take a left)) (sections_of (take b (drop a left)))
    ∙ ap (united n) (sym (map-append (λ (s : ℤ × (ℤ × List (List ℤ))). s.1.1) (take a left) (take b (drop a left))))
    ∙ ap (λ L. united n (sections_of L)) (sym (take-add a b left))
    ∙ ap (λ (j : ℕ). united n (sections_of (take j left))) e

-- the slabs are all
pub all_slabs : (n k : ℕ) (left : List (ℤ × (ℤ × List (List ℤ)))) (W : List (List ℤ)) → length left ≡ k → W ≡ united n (sections_of (take k left)) → W ≡ united n (sections_of left)
all_slabs n k left W e w = w ∙ ap (λ L. united n (sections_of L)) (ap (λ (j : ℕ). take j left) (sym e) ∙ take_all (length left) left (omega arith))

-- where there are not two couplets, the projection is empty
pub no_slabs : (n : ℕ) (left : List (ℤ × (ℤ × List (List ℤ)))) → length left ≡ 0 → [] ≡ united n (sections_of left)
unfolding united
no_slabs n [] e = sym (ap (evm n) (filter_none (every_cell n)) ∙ evm-empty n)
  where
    filter_none : (xs : List (List ℤ)) → filter (λ c. false) xs ≡ []
    filter_none [] = refl
    filter_none (x ∷ xs) = filter_none xs
no_slabs n (x ∷ left) e = absurd (omega arith)

-- ---- the projection of a solid whose axis was put first

turned_vertices : (m i : ℕ) (V W : List (List ℤ)) → W ≡ evm m (front m i (cells m V)) → IsVertexList m W
turned_vertices m i V W h = subst (λ (X : List (List ℤ)). IsVertexList m X) (sym h) (vertices-evm m (front m i (cells m V)) (cell_set-front m i (cells m V)))

pub slabs_of : (m n d k i : ℕ) (V W : List (List ℤ)) (left : List (ℤ × (ℤ × List (List ℤ)))) → n + 1 ≡ m → W ≡ evm m (front m i (cells m V)) → d ≡ n → k ≡ length (couplets_of W) → left ≡ slabs_in d (cells m W) → length left ≡ k - 1
slabs_of m n d k i V W left e h f g s =
    ap length s ∙ ap (λ (j : ℕ). length (slabs_in j (cells m W))) f ∙ slabs_in-length m n W e (turned_vertices m i V W h) ∙ ap (λ (j : ℕ). j - 1) (sym g)

pub shadow_is : (m n d k i : ℕ) (V W shadow : List (List ℤ)) (left : List (ℤ × (ℤ × List (List ℤ)))) → n + 1 ≡ m → i < m → IsVertexList m V → W ≡ evm m (front m i (cells m V)) → d ≡ n → k ≡ length (couplets_of W) → left ≡ slabs_in d (cells m W)
    → shadow ≡ united d (sections_of (take (k - 1) left)) → shadow ≡ evm n (proj n i (cells m V))
shadow_is m n d k i V W shadow left e l v h f g s u =
    all_slabs d (k - 1) left shadow (slabs_of m n d k i V W left e h f g s) u
    ∙ ap (λ L. united d (sections_of L)) s ∙ ap (λ (j : ℕ). united j (sections_of (slabs_in j (cells m W)))) f
    ∙ projection_of m n i V W e l v (turned_vertices m i V W h) h

pub no_shadow : (m n k i : ℕ) (V W : List (List ℤ)) → n + 1 ≡ m → i < m → IsVertexList m V → W ≡ evm m (front m i (cells m V)) → k ≡ length (couplets_of W) → k < 2 → [] ≡ evm n (proj n i (cells m V))
no_shadow m n k i V W e l v h g few =
    no_slabs n (slabs_in n (cells m W)) (slabs_of m n n k i V W (slabs_in n (cells m W)) e h refl g refl ∙ (let z : k - 1 ≡ 0 = omega arith in z))
    ∙ projection_of m n i V W e l v (turned_vertices m i V W h) h
