-- What is known of a solid from its numbers.
use Rattle.std.proofs.Common.{◌≡◌, ℕ, zero, suc, ◌-◌, ◌%◌, ◌<◌, ◌≤◌, Bool, ◌&&◌, ◌↔◌, subst, IsTrue, List, [], ◌∷◌, ◌++◌, length, take, drop, ℤ, refl, sym, ap, ap₂, ◌∙◌, arith, length-drop, int_eq}
use Rattle.std.specs.Cmp.Lexicographic.{pointwise}
use Rattle.std.proofs.lemmas.List.{take-append-drop}
use Rattle.evm_cells.specs.Places.{same, each, has}
use Rattle.evm_cells.specs.Booleans.{xor, xor_cells}
use Rattle.evm_cells.specs.Vertices.{evm, cells, IsVertexList}
use Rattle.evm_cells.proofs.Core.{evm-cells, cells-evm}
use Rattle.evm_cells.proofs.Combine.{cell_set-xor, has-evm-xor}
use Rattle.evm_cells.proofs.Universe.{cell_set-cells}
use Rattle.evm_cells.proofs.Places.{strict_places}
use Rattle.evm_rows.specs.Rows.{Vertices, IsSolid, AreRows, rows_of, flat_of, xor_rows, combined_rows}
use Rattle.evm_rows.proofs.RowsLaws.{rows_of-nil, rows_of-cons, whole-first, whole-rest}

-- the vertices that numbers show
abbrev pub shown : List ℤ → ℕ → Vertices
shown flat n = record { dim = n; rows = rows_of flat n 0 }

none_less : (n : ℕ) → n - 0 ≡ n
none_less n = omega arith

pub vertices_shown : (flat : List ℤ) (n : ℕ) → AreRows flat n 0 → IsVertexList n (rows_of flat n 0)
vertices_shown flat n a = let e = none_less n in let P : ℕ → Type 0 = λ m. IsVertexList m (rows_of flat n 0) in subst P e a.vertices

pub solid_shown : (flat : List ℤ) (n : ℕ) → AreRows flat n 0 → IsSolid (shown flat n)
solid_shown flat n a = record { low = a.left; high = a.narrow; vertices = vertices_shown flat n a }

-- whole rows that are a vertex list
pub are_rows-from : (flat : List ℤ) (n : ℕ) → 0 < n → n ≤ 6 → length flat % n ≡ 0 → IsVertexList n (rows_of flat n 0) → AreRows flat n 0
are_rows-from flat n some few whole v =
    let e = none_less n in
    record { narrow = few; left = some; whole = whole; vertices = subst (λ (m : ℕ). IsVertexList m (rows_of flat n 0)) (sym e) v }

-- the rows of whole rows, one after another, are the numbers again
flat_of-rows_of_below : (k : ℕ) (xs : List ℤ) (w : ℕ) → length xs < k → 0 < w → length xs % w ≡ 0 → flat_of (rows_of xs w 0) ≡ xs
flat_of-rows_of_below zero xs w below some whole = absurd (omega arith)
flat_of-rows_of_below (suc k) [] w below some whole = ap flat_of (rows_of-nil w 0)
flat_of-rows_of_below (suc k) (x ∷ xs) w below some whole =
    let first : w ≤ length (x ∷ xs) = whole-first (length (x ∷ xs)) w (omega arith) whole in
    ap flat_of (rows_of-cons (x ∷ xs) w 0 (omega arith) some)
    ∙ ap (λ zs. take w (x ∷ xs) ++ zs) (flat_of-rows_of_below k (drop w (x ∷ xs)) w (omega (arith, length-drop w (x ∷ xs))) some (whole-rest (x ∷ xs) w (omega arith) whole))
    ∙ take-append-drop w (x ∷ xs)

pub flat_of-rows_of : (xs : List ℤ) (w : ℕ) → 0 < w → length xs % w ≡ 0 → flat_of (rows_of xs w 0) ≡ xs
flat_of-rows_of xs w some whole = flat_of-rows_of_below (suc (length xs)) xs w (omega arith) some whole

-- equal rows of one dimension have equal numbers
numbers_same : (n : ℕ) (xs ys : List ℤ) → AreRows xs n 0 → AreRows ys n 0 → rows_of xs n 0 ≡ rows_of ys n 0 → xs ≡ ys
numbers_same n xs ys a b e = sym (flat_of-rows_of xs n a.left a.whole) ∙ ap flat_of e ∙ flat_of-rows_of ys n b.left b.whole

-- std's test of two lists is that of two places
pub pointwise-same : (p q : List ℤ) → pointwise int_eq p q ≡ same p q
unfolding same each
pointwise-same [] [] = refl
pointwise-same [] (y ∷ q) = refl
pointwise-same (x ∷ p) [] = refl
pointwise-same (x ∷ p) (y ∷ q) = ap (λ t. int_eq x y && t) (pointwise-same p q)

-- the cells tell the vertices
rows_told : (n : ℕ) (V W : List (List ℤ)) → IsVertexList n V → IsVertexList n W → cells n V ≡ cells n W → V ≡ W
rows_told n V W v w e = sym (evm-cells n V v) ∙ ap (evm n) e ∙ evm-cells n W w

-- the test whether two solids of one dimension are the same
pub same_vertices : (b : Bool) (n m : ℕ) (xs ys : List ℤ) → AreRows xs n 0 → AreRows ys m 0 → n ≡ m → b ≡ pointwise int_eq xs ys → IsTrue b ↔ (shown xs n ≡ shown ys m)
same_vertices b n m xs ys a c e t =
    let d : AreRows ys n 0 = subst (λ (k : ℕ). AreRows ys k 0) (sym e) c in
    let is : b ≡ same xs ys = t ∙ pointwise-same xs ys in (
      λ h. ap₂ shown (strict_places.equal xs ys (sym is ∙ h)) e,
      λ h. let rows : rows_of xs n 0 ≡ rows_of ys n 0 = ap (λ (v : Vertices). v.rows) h ∙ ap (λ (k : ℕ). rows_of ys k 0) (sym e) in
          is ∙ ap (λ zs. same zs ys) (numbers_same n xs ys a d rows) ∙ strict_places.itself ys,
    )

-- and whether they have the same cells
pub same_cells : (v w : Vertices) → IsVertexList v.dim v.rows → IsVertexList w.dim w.rows → (v ≡ w) ↔ ((v.dim ≡ w.dim) × (cells v.dim v.rows ≡ cells w.dim w.rows))
same_cells v w a b = (
  λ h. (ap (λ (u : Vertices). u.dim) h, ap (λ (u : Vertices). cells u.dim u.rows) h),
  λ h. let d : IsVertexList v.dim w.rows = subst (λ (k : ℕ). IsVertexList k w.rows) (sym h.0) b in
      let rows : v.rows ≡ w.rows = rows_told v.dim v.rows w.rows a d (h.1 ∙ ap (λ (k : ℕ). cells k w.rows) (sym h.0)) in
      λ i. record { dim = h.0 i; rows = rows i },
)

-- one fact by way of another
pub by_way : {A B C : Type 0} → A ↔ B → B ↔ C → A ↔ C
by_way f g = (λ a. g.0 (f.0 a), λ c. f.1 (g.1 c))

-- the cells of an exclusive or, and its members
pub cells-xor_rows : (n : ℕ) (V W : List (List ℤ)) → cells n (xor_rows n V W) ≡ xor_cells n (cells n V) (cells n W)
unfolding xor_rows combined_rows xor_cells
cells-xor_rows n V W = cells-evm n (xor_cells n (cells n V) (cells n W)) (cell_set-xor n (cells n V) (cells n W))

pub has-xor_rows : (n : ℕ) (V W : List (List ℤ)) (p : List ℤ) → IsVertexList n V → IsVertexList n W → has (xor_rows n V W) p ≡ xor (has V p) (has W p)
unfolding xor_rows combined_rows xor_cells
has-xor_rows n V W p v w =
    has-evm-xor n (cells n V) (cells n W) p (cell_set-cells n V) (cell_set-cells n W)
    ∙ ap₂ (λ (A B : List (List ℤ)). xor (has A p) (has B p)) (evm-cells n V v) (evm-cells n W w)
