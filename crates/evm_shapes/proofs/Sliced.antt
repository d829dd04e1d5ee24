-- What rows that lost or gained an axis are on cells.
use Rattle.std.proofs.Common.{◌≡◌, ℕ, suc, ◌+◌, ◌-◌, ◌<◌, ◌≤◌, ◌%◌, Bool, true, false, cond, ◌&&◌, List, [], ◌∷◌, ◌++◌, length, take, drop, map, filter, ℤ, pos, neg_ℤ, ◌≤ℤ◌, ◌<ℤ◌, int_le, int_eq, refl, sym, ap, ap₂, ◌∙◌, subst, arith, add-one, append_assoc, append-nil}
use Rattle.std.specs.List.{list_all}
use Rattle.std.proofs.lemmas.Int.{ints as int_facts}
use Rattle.std.proofs.lemmas.List.{take_rest}
use Rattle.evm_cells.specs.Places.{same, has, without, with_at}
use Rattle.evm_cells.specs.Limits.{is_point, is_point_coord, limit, IsCellSet}
use Rattle.evm_cells.specs.Booleans.{xor}
use Rattle.evm_cells.specs.Vertices.{evm, cells, IsVertexList}
use Rattle.evm_cells.specs.Sections.{slice}
use Rattle.evm_cells.specs.Shapes.{lift_fits, lift}
use Rattle.evm_cells.proofs.Xor.{xsum, xsum-same_on, odd-count, xor-and, or-xor, and_first, and_second}
use Rattle.evm_cells.proofs.Order.{refuted}
use Rattle.evm_cells.proofs.Sum.{xsum-map, xsum-filter, xsum-append, xsum-and_left}
use Rattle.evm_cells.proofs.Coords.{eq_sym, eq_is, lt_yes, point_yes}
use Rattle.evm_cells.proofs.Universe.{point_parts, same_sym, xsum-same_place, cell_set-cells}
use Rattle.evm_cells.proofs.Core.{evm-cells, length-without}
use Rattle.evm_cells.proofs.Slices.{coord, each-with_at, cell_set-slice}
use Rattle.evm_cells.proofs.Moves.{by_place}
use Rattle.evm_cells.proofs.LiftRanges.{lift_in_range, raised_points}
use Rattle.evm_cells.proofs.Lifts.{has-evm-slice, has-evm-lift, cell_set-lift}
use Rattle.evm_rows.specs.Rows.{rows_of, flat_of}
use Rattle.evm_rows.proofs.RowsOrder.{Wide, rows_of-flat_of, length-flat_of}
use Rattle.evm_rows.proofs.Bridge.{wide-points}
use Rattle.evm_rows.proofs.BoxTests.{flat_of-append}
use native.Mathlib.Nat.{mul-mod_left}
use Rattle.evm_shapes.specs.declared.moves.Move.TheVariants.{Raise}
use Rattle.evm_shapes.specs.Moves.{up_to}
use Rattle.evm_cells.specs.Windows.{IsReduced}
use Rattle.evm_shapes.proofs.MoveSteps.{without_parts}
use Rattle.evm_shapes.proofs.Shaped.{wide-moved}

-- ---- slices

up_to-cons : (i : ℕ) (k : ℤ) (p : List ℤ) (V : List (List ℤ)) → up_to i k (p ∷ V) ≡ up_to i k (p ∷ []) ++ up_to i k V
up_to-cons i k p V = at (int_le (coord i p) k)
  where
    at : (b : Bool) → map (without i) (cond b (p ∷ filter (λ q. int_le (coord i q) k) V) (filter (λ q. int_le (coord i q) k) V)) ≡ map (without i) (cond b (p ∷ []) []) ++ up_to i k V
    at true = refl
    at false = refl

-- one more row
pub up_to_more : (i : ℕ) (k : ℤ) (out new all : List ℤ) (p : List ℤ) (R rest : List (List ℤ)) → R ≡ p ∷ rest → new ≡ out ++ flat_of (up_to i k (p ∷ [])) → out ++ flat_of (up_to i k R) ≡ all → new ++ flat_of (up_to i k rest) ≡ all
up_to_more i k out new all p R rest r n h =
    ap (λ (z : List ℤ). z ++ flat_of (up_to i k rest)) n
    ∙ append_assoc out (flat_of (up_to i k (p ∷ []))) (flat_of (up_to i k rest))
    ∙ ap (λ (z : List ℤ). out ++ z) (sym (flat_of-append (up_to i k (p ∷ [])) (up_to i k rest)) ∙ ap flat_of (sym (up_to-cons i k p rest)))
    ∙ ap (λ (z : List (List ℤ)). out ++ flat_of (up_to i k z)) (sym r) ∙ h

pub up_to_done : (i : ℕ) (k : ℤ) (out all : List ℤ) (R : List (List ℤ)) → R ≡ [] → out ++ flat_of (up_to i k R) ≡ all → out ≡ all
up_to_done i k out all R e h = sym (append-nil out) ∙ ap (λ (z : List (List ℤ)). out ++ flat_of (up_to i k z)) (sym e) ∙ h

-- a row that is kept
pub kept_row : (i : ℕ) (k : ℤ) (out one two row : List ℤ) → int_le (coord i row) k ≡ true → one ≡ out ++ take i row → two ≡ one ++ take (length row - (i + 1)) (drop (i + 1) row) → two ≡ out ++ flat_of (up_to i k (row ∷ []))
kept_row i k out one two row e a b =
    b ∙ ap₂ (λ (u v : List ℤ). u ++ v) a (take_rest row (i + 1) ∙ ap (λ (j : ℕ). drop j row) (add-one i))
    ∙ append_assoc out (take i row) (drop (suc i) row)
    ∙ ap (λ (u : List ℤ). out ++ u) (sym (without_parts i row) ∙ sym (append-nil (without i row)))
    ∙ ap (λ (t : Bool). out ++ flat_of (map (without i) (cond t (row ∷ []) []))) (sym e)

pub left_row : (i : ℕ) (k : ℤ) (out row : List ℤ) → int_le (coord i row) k ≡ false → out ≡ out ++ flat_of (up_to i k (row ∷ []))
left_row i k out row e = sym (append-nil out) ∙ ap (λ (t : Bool). out ++ flat_of (map (without i) (cond t (row ∷ []) []))) (sym e)

wide-up_to : (n i : ℕ) (k : ℤ) (V : List (List ℤ)) → i < suc n → Wide (suc n) V → Wide n (up_to i k V)
wide-up_to n i k [] l w = tt
wide-up_to n i k (p ∷ V) l w = at (int_le (coord i p) k) (wide-up_to n i k V l w.1)
  where
    at : (b : Bool) → Wide n (up_to i k V) → Wide n (map (without i) (cond b (p ∷ filter (λ q. int_le (coord i q) k) V) (filter (λ q. int_le (coord i q) k) V)))
    at true r = (let e = length-without i p (let f = w.0 in omega arith) in let f = w.0 in omega arith, r)
    at false r = r

pub up_to_rows : (m n i : ℕ) (k : ℤ) (V : List (List ℤ)) (flat : List ℤ) → 0 < n → n + 1 ≡ m → i < m → IsVertexList m V → flat ≡ flat_of (up_to i k V) → (length flat % n ≡ 0) × (rows_of flat n 0 ≡ up_to i k V)
up_to_rows m n i k V flat some e l v f =
    let q : m ≡ suc n = omega arith in
    let w : Wide n (up_to i k V) = wide-up_to n i k V (omega arith) (subst (λ (j : ℕ). Wide j V) q (wide-points m V v.points)) in (
      ap (λ (z : List ℤ). length z % n) f ∙ ap (λ (j : ℕ). j % n) (length-flat_of n (up_to i k V) w) ∙ mul-mod_left (length (up_to i k V)) n,
      ap (λ (z : List ℤ). rows_of z n 0) f ∙ rows_of-flat_of n (up_to i k V) some w,
    )

slice_are : (n i : ℕ) (k : ℤ) (V W : List (List ℤ)) → i < suc n → IsVertexList (suc n) V → IsReduced n (up_to i k V) W → W ≡ evm n (slice n i k (cells (suc n) V))
slice_are n i k V W l v r =
    let s : IsCellSet n (slice n i k (cells (suc n) V)) = cell_set-slice n i k (cells (suc n) V) in
    by_place n (slice n i k (cells (suc n) V)) W s r.ascends r.wide
    (λ p e. r.odd_times p
    ∙ odd-count (λ (q : List ℤ). same q p) (up_to i k V)
    ∙ xsum-map (λ (q : List ℤ). same q p) (without i) (filter (λ q. int_le (coord i q) k) V)
    ∙ xsum-filter (λ q. same (without i q) p) (λ q. int_le (coord i q) k) V
    ∙ sym (odd-count (λ (q : List ℤ). int_le (coord i q) k && same (without i q) p) V)
    ∙ sym (has-evm-slice n i k V p l v e))

pub slice_are_at : (m n i : ℕ) (k : ℤ) (V W : List (List ℤ)) → n + 1 ≡ m → i < m → IsVertexList m V → IsReduced n (up_to i k V) W → W ≡ evm n (slice n i k (cells m V))
slice_are_at m n i k V W e l v r =
    let q : m ≡ suc n = omega arith in
    slice_are n i k V W (omega arith) (subst (λ (j : ℕ). IsVertexList j V) q v) r ∙ ap (λ (j : ℕ). evm n (slice n i k (cells j V))) (sym q)

-- ---- prisms

-- the rows of a prism: each at its low end, then each at its high end
abbrev pub ends : ℕ → ℤ → ℤ → List (List ℤ) → List (List ℤ)
ends i lo hi V = map (with_at i lo) V ++ map (with_at i hi) V

wide-append : (n : ℕ) (V W : List (List ℤ)) → Wide n V → Wide n W → Wide n (V ++ W)
wide-append n [] W a b = b
wide-append n (p ∷ V) W a b = (a.0, wide-append n V W a.1 b)

pub ends_rows : (n i : ℕ) (lo hi : ℤ) (V : List (List ℤ)) (flat : List ℤ) → i ≤ n → IsVertexList n V → flat ≡ flat_of (map (with_at i lo) V) ++ flat_of (map (with_at i hi) V) → (length flat % (n + 1) ≡ 0) × (rows_of flat (n + 1) 0 ≡ ends i lo hi V)
ends_rows n i lo hi V flat l v f =
    let a : Wide n V = wide-points n V v.points in
    let w : Wide (n + 1) (ends i lo hi V) = wide-append (n + 1) (map (with_at i lo) V) (map (with_at i hi) V) (wide-moved (Raise i lo) n V l a) (wide-moved (Raise i hi) n V l a) in
    let g : flat ≡ flat_of (ends i lo hi V) = f ∙ sym (flat_of-append (map (with_at i lo) V) (map (with_at i hi) V)) in (
      ap (λ (z : List ℤ). length z % (n + 1)) g ∙ ap (λ (j : ℕ). j % (n + 1)) (length-flat_of (n + 1) (ends i lo hi V) w) ∙ mul-mod_left (length (ends i lo hi V)) (n + 1),
      ap (λ (z : List ℤ). rows_of z (n + 1) 0) g ∙ rows_of-flat_of (n + 1) (ends i lo hi V) (omega arith) w,
    )

-- the rows at one end
at_end : (n i : ℕ) (k : ℤ) (V : List (List ℤ)) (p : List ℤ) → i ≤ n → IsVertexList n V → length p ≡ suc n → xsum (λ (q : List ℤ). same q p) (map (with_at i k) V) ≡ (int_eq k (coord i p) && has V (without i p))
unfolding same
at_end n i k V p l v e =
    xsum-map (λ (q : List ℤ). same q p) (with_at i k) V
    ∙ xsum-same_on (is_point n) (λ q. same (with_at i k q) p) (λ q. int_eq k (coord i p) && same q (without i p))
    (λ q m. let (f, b) = point_parts n q m in
    same_sym (with_at i k q) p ∙ each-with_at int_eq i k p q (omega arith) (omega arith)
    ∙ ap₂ (λ s t. s && t) (eq_sym (coord i p) k) (same_sym (without i p) q)) V v.points
    ∙ xsum-and_left (int_eq k (coord i p)) (λ q. same q (without i p)) V
    ∙ ap (λ t. int_eq k (coord i p) && t) (xsum-same_place V (without i p) v.ascends)

apart : (lo hi x : ℤ) → lo <ℤ hi → (int_eq lo x && int_eq hi x) ≡ false
apart lo hi x l = refuted (int_eq lo x && int_eq hi x)
    (λ h. let e : lo ≡ x = eq_is lo x (and_first (int_eq lo x) (int_eq hi x) h) in let f : hi ≡ x = eq_is hi x (and_second (int_eq lo x) (int_eq hi x) h) in omega (arith, int_facts))

lift_are : (n i : ℕ) (lo hi : ℤ) (V W : List (List ℤ)) → i ≤ n → lo <ℤ hi → lift_fits (suc n) i lo hi (cells n V) ≡ true → IsVertexList n V → IsReduced (suc n) (ends i lo hi V) W → W ≡ evm (suc n) (lift (suc n) i lo hi (cells n V))
lift_are n i lo hi V W l m f v r =
    by_place (suc n) (lift (suc n) i lo hi (cells n V)) W (cell_set-lift (suc n) i lo hi (cells n V)) r.ascends r.wide
    (λ p e. r.odd_times p
    ∙ odd-count (λ (q : List ℤ). same q p) (ends i lo hi V)
    ∙ xsum-append (λ (q : List ℤ). same q p) (map (with_at i lo) V) (map (with_at i hi) V)
    ∙ ap₂ xor (at_end n i lo V p l v e) (at_end n i hi V p l v e)
    ∙ sym (xor-and (int_eq lo (coord i p)) (int_eq hi (coord i p)) (has V (without i p)))
    ∙ ap₂ (λ s U. s && has U (without i p)) (sym (or-xor (int_eq lo (coord i p)) (int_eq hi (coord i p)) (apart lo hi (coord i p) m))) (sym (evm-cells n V v))
    ∙ sym (has-evm-lift n i lo hi (cells n V) p (omega arith) (cell_set-cells n V) e (lt_yes lo hi m) f))

pub lift_are_at : (n i : ℕ) (lo hi : ℤ) (V W : List (List ℤ)) → i ≤ n → lo <ℤ hi → lift_fits (n + 1) i lo hi (cells n V) ≡ true → IsVertexList n V → IsReduced (n + 1) (ends i lo hi V) W → W ≡ evm (n + 1) (lift (n + 1) i lo hi (cells n V))
lift_are_at n i lo hi V W l m f v r =
    let q : n + 1 ≡ suc n = omega arith in
    lift_are n i lo hi V W l m (rw q at f) v (rw q at r) ∙ ap (λ (j : ℕ). evm j (lift j i lo hi (cells n V))) (sym q)

-- a prism fits exactly where its base is within the limit of its dimension
pub lift_by_rows : (n i : ℕ) (lo hi : ℤ) (V : List (List ℤ)) → i ≤ n → neg_ℤ (pos (limit (n + 1))) ≤ℤ lo → lo <ℤ hi → hi ≤ℤ pos (limit (n + 1)) → IsVertexList n V
    → lift_fits (n + 1) i lo hi (cells n V) ≡ list_all (list_all (is_point_coord (n + 1))) V
lift_by_rows n i lo hi V l b m t v =
    let q : n + 1 ≡ suc n = omega arith in
    let d : neg_ℤ (pos (limit (suc n))) ≤ℤ lo = rw q at b in
    let u : hi ≤ℤ pos (limit (suc n)) = rw q at t in
    let low : is_point_coord (suc n) lo ≡ true = point_yes (suc n) lo d (omega (arith, int_facts)) in
    let high : is_point_coord (suc n) hi ≡ true = point_yes (suc n) hi (omega (arith, int_facts)) u in
    ap (λ (j : ℕ). lift_fits j i lo hi (cells n V)) q
    ∙ lift_in_range n i lo hi V (omega arith) v low high (lt_yes lo hi m)
    ∙ raised_points n i lo V v low
    ∙ ap (λ (j : ℕ). list_all (list_all (is_point_coord j)) V) (sym q)
