-- The heights of vertices, sorted and each once, are the cuts.
use Rattle.std.proofs.Common.{◌≡◌, ℕ, suc, ◌+◌, ◌<◌, Bool, true, false, not, cond, ◌&&◌, ◌||◌, List, [], ◌∷◌, map, filter, ℤ, int_lt, int_eq, refl, sym, ap, ◌∙◌, subst, arith}
use Rattle.std.proofs.lemmas.Int.{ints as int_facts}
use Rattle.std.specs.List.{list_any, list_all, dedup, dedup_from, AllByRecursion}
use Rattle.std.specs.List.Sorted.{IsStrictlySortedBy, IsSorted, IsPermutation}
use Rattle.std.specs.Ordering.{int_cmp, eq_by_cmp}
use Rattle.std.proofs.lemmas.Cmp.{int_cmp_total}
use Rattle.std.proofs.lemmas.List.Kept.{IsStrictlySortedBy-dedup}
use Rattle.std.proofs.lemmas.List.Sorted.{list_any-IsPermutation}
use Rattle.std.specs.declared.cmp.Ordering.TheVariants.{Less}
use Rattle.evm_cells.specs.Places.{is_empty, without}
use Rattle.evm_cells.specs.Limits.{is_point, is_point_coord, point_coords}
use Rattle.evm_cells.specs.Vertices.{cells, IsVertexList}
use Rattle.evm_cells.specs.Sections.{cuts, rows_at}
use Rattle.evm_cells.proofs.Xor.{and_first, and_second, and_both}
use Rattle.evm_cells.proofs.Order.{rising, at_member, same_lists, rising-filter, any-filter}
use Rattle.evm_cells.proofs.Coords.{strict_ints, eq_is, eq_sym, any-point_coords, rising-point_coords}
use Rattle.evm_cells.proofs.Universe.{absorb, point_parts, cell_set-cells}
use Rattle.evm_cells.proofs.Core.{evm-cells}
use Rattle.evm_cells.proofs.Slices.{coord, all-coord}
use Rattle.evm_cells.proofs.Layers.{cuts_are}

-- a height is that of some row exactly where rows stand there
any-heights : (i : ℕ) (h : ℤ) (V : List (List ℤ)) → list_any (int_eq h) (map (coord i) V) ≡ not (is_empty (rows_at i h V))
unfolding rows_at is_empty
any-heights i h [] = refl
any-heights i h (p ∷ V) = at_row (int_eq (coord i p) h) refl (any-heights i h V)
  where
    at_row : (b : Bool) → int_eq (coord i p) h ≡ b → list_any (int_eq h) (map (coord i) V) ≡ not (is_empty (map (without i) (filter (λ q. int_eq (coord i q) h) V)))
        → (int_eq h (coord i p) || list_any (int_eq h) (map (coord i) V)) ≡ not (is_empty (map (without i) (cond (int_eq (coord i p) h) (p ∷ filter (λ q. int_eq (coord i q) h) V) (filter (λ q. int_eq (coord i q) h) V))))
    at_row true e f = rw (eq_sym h (coord i p), e) refl
    at_row false e f = rw (eq_sym h (coord i p), e) f

all-heights : (n i : ℕ) (V : List (List ℤ)) → i < n → list_all (is_point n) V ≡ true → list_all (is_point_coord n) (map (coord i) V) ≡ true
all-heights n i [] l a = refl
all-heights n i (p ∷ V) l a =
    let (e, b) = point_parts n p (and_first (is_point n p) (list_all (is_point n) V) a) in
    and_both (is_point_coord n (coord i p)) (list_all (is_point_coord n) (map (coord i) V)) (all-coord (is_point_coord n) i p (omega arith) b)
    (all-heights n i V l (and_second (is_point n p) (list_all (is_point n) V) a))

-- an ascending list of the heights of a vertex list is that of the cuts
heights_are : (n i : ℕ) (V : List (List ℤ)) (D : List ℤ) → i < suc n → IsVertexList (suc n) V → rising int_lt D ≡ true → ((h : ℤ) → list_any (int_eq h) D ≡ list_any (int_eq h) (map (coord i) V)) → D ≡ cuts n i (cells (suc n) V)
heights_are n i V D l v r s =
    let test : ℤ → Bool = λ h. not (is_empty (rows_at i h V)) in
    same_lists int_eq int_lt strict_ints D (filter test (point_coords (suc n))) r (rising-filter int_eq int_lt strict_ints test (point_coords (suc n)) (rising-point_coords (suc n)))
    (λ h. s h ∙ any-heights i h V
    ∙ sym (any-filter int_eq int_lt strict_ints test h (point_coords (suc n))
    ∙ ap (λ b. b && test h) (any-point_coords (suc n) h)
    ∙ absorb (is_point_coord (suc n) h) (test h) (λ m. at_member int_eq int_lt strict_ints (is_point_coord (suc n)) h (map (coord i) V) (any-heights i h V ∙ m) (all-heights (suc n) i V l v.points))))
    ∙ sym (cuts_are n i (cells (suc n) V) (cell_set-cells (suc n) V) l ∙ ap (λ (W : List (List ℤ)). filter (λ h. not (is_empty (rows_at i h W))) (point_coords (suc n))) (evm-cells (suc n) V v))

pub heights_are_at : (m n i : ℕ) (V : List (List ℤ)) (D : List ℤ) → n + 1 ≡ m → i < m → IsVertexList m V → rising int_lt D ≡ true → ((h : ℤ) → list_any (int_eq h) D ≡ list_any (int_eq h) (map (coord i) V)) → D ≡ cuts n i (cells m V)
heights_are_at m n i V D one l v r s =
    let q : m ≡ suc n = omega arith in
    heights_are n i V D (omega arith) (subst (λ j. IsVertexList j V) q v) r s ∙ ap (λ j. cuts n i (cells j V)) (sym q)

-- ---- each once

lt_of_less : (x y : ℤ) → int_cmp x y ≡ Less → int_lt x y ≡ true
lt_of_less x y e = grind (arith, int_facts)

-- what is kept once passes the same tests
any-kept : {X : Type 0} (f : X → Bool) (E : X → X → Bool) → ((x y : X) → E x y ≡ true → x ≡ y) → (k : X) (xs : List X) → list_any f (dedup_from E k xs) ≡ (f k || list_any f xs)
any-kept f E eq k [] = refl
any-kept {X} f E eq k (x ∷ xs) = at_test (E x k) refl (any-kept f E eq k xs) (any-kept f E eq x xs)
  where
    twice : (a b : Bool) → (a || b) ≡ (a || (a || b))
    twice true b = refl
    twice false b = refl

    at_test : (b : Bool) → E x k ≡ b → list_any f (dedup_from E k xs) ≡ (f k || list_any f xs) → list_any f (dedup_from E x xs) ≡ (f x || list_any f xs)
        → list_any f (cond b (dedup_from E k xs) (k ∷ dedup_from E x xs)) ≡ (f k || (f x || list_any f xs))
    at_test true e g h = g ∙ twice (f k) (list_any f xs) ∙ ap (λ (z : X). f k || (f z || list_any f xs)) (sym (eq x k e))
    at_test false e g h = ap (λ b. f k || b) h

pub any-once : {X : Type 0} (f : X → Bool) (E : X → X → Bool) → ((x y : X) → E x y ≡ true → x ≡ y) → (xs : List X) → list_any f (dedup E xs) ≡ list_any f xs
any-once f E eq [] = refl
any-once f E eq (x ∷ xs) = any-kept f E eq x xs

all-less : (x : ℤ) (xs : List ℤ) → AllByRecursion (λ y. int_cmp x y ≡ Less) xs → list_all (int_lt x) xs ≡ true
all-less x [] a = refl
all-less x (y ∷ xs) a = and_both (int_lt x y) (list_all (int_lt x) xs) (lt_of_less x y a.0) (all-less x xs a.1)

rising-strict : (xs : List ℤ) → IsStrictlySortedBy int_cmp xs → rising int_lt xs ≡ true
unfolding rising IsStrictlySortedBy
rising-strict [] a = refl
rising-strict (x ∷ xs) a = and_both (list_all (int_lt x) xs) (rising int_lt xs) (all-less x xs a.0) (rising-strict xs a.1)

ties : (x y : ℤ) → int_eq x y ≡ eq_by_cmp int_cmp x y
ties x y = refl

-- the heights of the rows, sorted and each once, are the cuts
pub cut_list : (m n i : ℕ) (V : List (List ℤ)) (H S D : List ℤ) → n + 1 ≡ m → i < m → IsVertexList m V → H ≡ map (coord i) V → IsPermutation H S → IsSorted int_cmp S → D ≡ dedup int_eq S → D ≡ cuts n i (cells m V)
cut_list m n i V H S D one l v e p o d =
    let r : rising int_lt D ≡ true = ap (rising int_lt) d ∙ rising-strict (dedup int_eq S) (IsStrictlySortedBy-dedup int_cmp_total ties S o) in
    heights_are_at m n i V D one l v r
    (λ h. ap (list_any (int_eq h)) d ∙ any-once (int_eq h) int_eq eq_is S ∙ sym (list_any-IsPermutation (int_eq h) H S p) ∙ ap (list_any (int_eq h)) e)
