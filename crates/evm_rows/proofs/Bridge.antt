-- The order of rows as the one of places, and what a merge means on cells
use Rattle.std.proofs.Common.{◌≡◌, ℕ, ◌-◌, ◌<◌, ◌≤◌, Bool, true, false, ◌&&◌, ◌||◌, List, [], ◌∷◌, length, ℤ, refl, sym, ap, ap₂, ◌∙◌, arith, int_lt, int_eq}
use Rattle.std.specs.declared.cmp.Ordering.{Ordering}
use Rattle.std.specs.declared.cmp.Ordering.TheVariants.{Less, Equal, Greater}
use Rattle.std.specs.Ordering.{int_cmp, is_lt, is_eq, ordering_then}
use Rattle.std.specs.List.{list_all}
use Rattle.std.proofs.lemmas.Bool.{and_from}
use native.Mathlib.Nat.{mul-mod_left}
use Rattle.evm_cells.specs.Places.{same, each, before, ascending, has}
use Rattle.evm_cells.specs.Limits.{is_point}
use Rattle.evm_cells.specs.Booleans.{xor, combine, xor_cells}
use Rattle.evm_cells.specs.Vertices.{cells, odd, IsVertexList}
use Rattle.evm_cells.proofs.Xor.{and_first, and_second, and_both}
use Rattle.evm_cells.proofs.Universe.{point_parts}
use Rattle.evm_cells.proofs.Combine.{xor_vertices, cell_set-combine}
use Rattle.evm_cells.proofs.Core.{vertices-evm}
use Rattle.evm_rows.specs.Rows.{rows_of, flat_of, row_cmp, ascends, has_row, differ, merge_xor, AreRows, combined_rows, xor_rows}
use Rattle.evm_rows.specs.View.{vertices_of, merge_of, xor_of}
use Rattle.evm_rows.specs.declared.solid.Rows.{Rows}
use Rattle.evm_rows.proofs.RowsOrder.{AllAbove, ascends-parts, merge_xor-ascends, Wide, rows_of-flat_of, length-flat_of}
use Rattle.evm_rows.proofs.RowsMembers.{has_row-merge_xor}

lt-cmp : (x y : ℤ) → int_lt x y ≡ is_lt (int_cmp x y)
lt-cmp x y = at (int_lt x y) (int_lt y x) refl refl
  where
    at : (a b : Bool) → int_lt x y ≡ a → int_lt y x ≡ b → int_lt x y ≡ is_lt (int_cmp x y)
    at true b e f = rw e refl
    at false true e f = rw (e, f) refl
    at false false e f = rw (e, f) refl

lt_then : (o p : Ordering) → is_lt (ordering_then o p) ≡ (is_lt o || (is_eq o && is_lt p))
lt_then Less p = refl
lt_then Equal p = refl
lt_then Greater p = refl

eq_then : (o p : Ordering) → is_eq (ordering_then o p) ≡ (is_eq o && is_eq p)
eq_then Less p = refl
eq_then Equal p = refl
eq_then Greater p = refl

pub before-cmp : (p q : List ℤ) → before p q ≡ is_lt (row_cmp p q)
unfolding before
before-cmp [] [] = refl
before-cmp [] (y ∷ q) = refl
before-cmp (x ∷ p) [] = refl
before-cmp (x ∷ p) (y ∷ q) =
    ap₂ (λ a b. a || (int_eq x y && b)) (lt-cmp x y) (before-cmp p q) ∙ sym (lt_then (int_cmp x y) (row_cmp p q))

pub same-cmp : (p q : List ℤ) → same p q ≡ is_eq (row_cmp p q)
unfolding same each
same-cmp [] [] = refl
same-cmp [] (y ∷ q) = refl
same-cmp (x ∷ p) [] = refl
same-cmp (x ∷ p) (y ∷ q) = ap (λ b. int_eq x y && b) (same-cmp p q) ∙ sym (eq_then (int_cmp x y) (row_cmp p q))

pub has-row : (r : List ℤ) (V : List (List ℤ)) → has_row r V ≡ has V r
unfolding has
has-row r [] = refl
has-row r (x ∷ V) = ap₂ (λ a b. a || b) (sym (same-cmp r x)) (has-row r V)

pub differ-xor : (a b : Bool) → differ a b ≡ xor a b
unfolding xor
differ-xor true b = refl
differ-xor false b = refl

-- rows ascend one by one exactly if each is before all that follow
pub ascends_from : (V : List (List ℤ)) → ascending V ≡ true → ascends V ≡ true
unfolding ascending
ascends_from [] h = refl
ascends_from (x ∷ []) h = refl
ascends_from (x ∷ y ∷ V) h =
    let a : list_all (before x) (y ∷ V) ≡ true = and_first (list_all (before x) (y ∷ V)) (ascending (y ∷ V)) h in
    and_from (is_lt (row_cmp x y)) (ascends (y ∷ V)) (sym (before-cmp x y) ∙ and_first (before x y) (list_all (before x) V) a)
    (ascends_from (y ∷ V) (and_second (list_all (before x) (y ∷ V)) (ascending (y ∷ V)) h))

all_before : (x : List ℤ) (V : List (List ℤ)) → AllAbove x V → list_all (before x) V ≡ true
all_before x [] all = refl
all_before x (y ∷ V) all = and_both (before x y) (list_all (before x) V) (before-cmp x y ∙ ap is_lt all.0) (all_before x V all.1)

pub ascending_from : (V : List (List ℤ)) → ascends V ≡ true → ascending V ≡ true
unfolding ascending
ascending_from [] h = refl
ascending_from (x ∷ V) h =
    let parts : AllAbove x V × (ascends V ≡ true) = ascends-parts x V h in
    and_both (list_all (before x) V) (ascending V) (all_before x V parts.0) (ascending_from V parts.1)

-- the merge of two vertex lists is the vertices of the exclusive or
pub merge_is : (n : ℕ) (V W : List (List ℤ)) → IsVertexList n V → IsVertexList n W → merge_xor V W ≡ xor_rows n V W
unfolding xor_rows combined_rows xor_cells
merge_is n V W v w =
    let a : ascends V ≡ true = ascends_from V v.ascends in
    let b : ascends W ≡ true = ascends_from W w.ascends in
    xor_vertices n V W (merge_xor V W) v w (ascending_from (merge_xor V W) (merge_xor-ascends V W a b))
    (λ p. sym (has-row p (merge_xor V W)) ∙ has_row-merge_xor p V W a b ∙ differ-xor (has_row p V) (has_row p W) ∙ ap₂ xor (has-row p V) (has-row p W))

-- the merge of two views' rows
pub merge_of_is : (a b : Rows) → (vertices_of a).dim ≡ (vertices_of b).dim → merge_of a b ≡ xor_of a b
merge_of_is a b same =
    let n = a.width - a.skip in
    let w : IsVertexList n (rows_of b.flat.now b.width b.skip) = rw same b.vertices in
    merge_is n (rows_of a.flat.now a.width a.skip) (rows_of b.flat.now b.width b.skip) a.vertices w

pub vertices-op : (op : Bool → Bool → Bool) (n : ℕ) (V W : List (List ℤ)) → IsVertexList n (combined_rows op n V W)
unfolding combined_rows
vertices-op op n V W = vertices-evm n (combine op n (cells n V) (cells n W)) (cell_set-combine op n (cells n V) (cells n W))

pub vertices-xor : (n : ℕ) (V W : List (List ℤ)) → IsVertexList n (xor_rows n V W)
unfolding xor_rows
vertices-xor n V W = vertices-op xor n V W

pub vertices_none : (n : ℕ) → IsVertexList n []
unfolding ascending odd
vertices_none n = record { ascends = refl; points = refl; even = λ i line l. refl }

-- the rows of a vertex list have its dimension's length
pub wide-points : (n : ℕ) (V : List (List ℤ)) → list_all (is_point n) V ≡ true → Wide n V
wide-points n [] h = tt
wide-points n (p ∷ V) h =
    let (e, a) = point_parts n p (and_first (is_point n p) (list_all (is_point n) V) h) in
    (e, wide-points n V (and_second (is_point n p) (list_all (is_point n) V) h))

less_none : (n : ℕ) → n ≡ n - 0
less_none n = omega arith

-- the flat list of a vertex list
pub are_rows-flat : (n : ℕ) (V : List (List ℤ)) → 0 < n → n ≤ 6 → IsVertexList n V → AreRows (flat_of V) n 0
are_rows-flat n V some few v =
    let wide : Wide n V = wide-points n V v.points in
    let P : ℕ → List (List ℤ) → Type 0 = λ m rs. IsVertexList m rs in
    record {
      narrow = few;
      left = some;
      whole = rw (length-flat_of n V wide) (mul-mod_left (length V) n);
      vertices = rw (rows_of-flat_of n V some wide, ← less_none n) v;
    }

pub are_rows-nil : (dim : ℕ) → 0 < dim → dim ≤ 6 → AreRows [] dim 0
are_rows-nil dim low high = are_rows-flat dim [] low high (vertices_none dim)
