-- The rows at a height as the vertices of a couplet.
use Rattle.std.proofs.Common.{◌≡◌, ℕ, suc, ◌+◌, ◌-◌, ◌<◌, ◌≤◌, ◌%◌, Bool, true, false, cond, List, [], ◌∷◌, ◌++◌, length, take, drop, map, filter, ℤ, int_eq, refl, sym, ap, ap₂, ◌∙◌, subst, arith, add-one, append_assoc, append-nil}
use Rattle.std.proofs.lemmas.List.{take_rest}
use Rattle.evm_cells.specs.Places.{without}
use Rattle.evm_cells.specs.Vertices.{evm, cells, IsVertexList}
use Rattle.evm_cells.specs.Sections.{couplet, rows_at}
use Rattle.evm_cells.proofs.Universe.{cell_set-cells}
use Rattle.evm_cells.proofs.Core.{evm-cells, cells-evm, length-without}
use Rattle.evm_cells.proofs.Slices.{coord, cell_set-couplet}
use Rattle.evm_cells.proofs.Layers.{rows-evm}
use Rattle.evm_rows.specs.Rows.{AreRows, rows_of, flat_of}
use Rattle.evm_rows.proofs.RowsOrder.{Wide, rows_of-flat_of, length-flat_of}
use Rattle.evm_rows.proofs.Bridge.{wide-points}
use Rattle.evm_rows.proofs.BoxTests.{flat_of-append}
use Rattle.evm_shapes.proofs.MoveSteps.{without_parts}
use Rattle.evm_shapes.proofs.Shaped.{are_rows_of}
use native.Mathlib.Nat.{mul-mod_left}

abbrev picked : ℕ → Bool → List ℤ → List (List ℤ)
picked i b p = map (without i) (cond b (p ∷ []) [])

rows_at-cons : (i : ℕ) (k : ℤ) (p : List ℤ) (V : List (List ℤ)) → rows_at i k (p ∷ V) ≡ picked i (int_eq (coord i p) k) p ++ rows_at i k V
unfolding rows_at
rows_at-cons i k p V = at (int_eq (coord i p) k)
  where
    at : (b : Bool) → map (without i) (cond b (p ∷ filter (λ q. int_eq (coord i q) k) V) (filter (λ q. int_eq (coord i q) k) V)) ≡ picked i b p ++ rows_at i k V
    at true = refl
    at false = refl

rows_at-one : (i : ℕ) (k : ℤ) (p : List ℤ) → rows_at i k (p ∷ []) ≡ picked i (int_eq (coord i p) k) p
unfolding rows_at
rows_at-one i k p = refl

rows_at-none : (i : ℕ) (k : ℤ) → rows_at i k [] ≡ []
unfolding rows_at
rows_at-none i k = refl

-- one more row
pub at_more : (i : ℕ) (k : ℤ) (out new all : List ℤ) (p : List ℤ) (R rest : List (List ℤ)) → R ≡ p ∷ rest → new ≡ out ++ flat_of (rows_at i k (p ∷ [])) → out ++ flat_of (rows_at i k R) ≡ all
    → new ++ flat_of (rows_at i k rest) ≡ all
at_more i k out new all p R rest r n h =
    let one : List (List ℤ) = rows_at i k (p ∷ []) in
    ap (λ (z : List ℤ). z ++ flat_of (rows_at i k rest)) n ∙ append_assoc out (flat_of one) (flat_of (rows_at i k rest))
    ∙ ap (λ (z : List ℤ). out ++ z)
    (sym (flat_of-append one (rows_at i k rest))
    ∙ ap flat_of (ap (λ (z : List (List ℤ)). z ++ rows_at i k rest) (rows_at-one i k p) ∙ sym (rows_at-cons i k p rest) ∙ ap (rows_at i k) (sym r)))
    ∙ h

pub at_done : (i : ℕ) (k : ℤ) (out all : List ℤ) (R : List (List ℤ)) → R ≡ [] → out ++ flat_of (rows_at i k R) ≡ all → out ≡ all
at_done i k out all R e h = sym (append-nil out) ∙ ap (λ (z : List (List ℤ)). out ++ flat_of z) (sym (ap (rows_at i k) e ∙ rows_at-none i k)) ∙ h

-- a row that is taken, and one that is not
pub taken_row : (i : ℕ) (k : ℤ) (out one two row : List ℤ) → int_eq (coord i row) k ≡ true → one ≡ out ++ take i row → two ≡ one ++ take (length row - (i + 1)) (drop (i + 1) row)
    → two ≡ out ++ flat_of (rows_at i k (row ∷ []))
taken_row i k out one two row e a b =
    b ∙ ap₂ (λ (u v : List ℤ). u ++ v) a (take_rest row (i + 1) ∙ ap (λ (j : ℕ). drop j row) (add-one i))
    ∙ append_assoc out (take i row) (drop (suc i) row)
    ∙ ap (λ (u : List ℤ). out ++ u) (sym (without_parts i row) ∙ sym (append-nil (without i row)) ∙ ap (λ (t : Bool). flat_of (picked i t row)) (sym e) ∙ ap flat_of (sym (rows_at-one i k row)))

pub passed_row : (i : ℕ) (k : ℤ) (out row : List ℤ) → int_eq (coord i row) k ≡ false → out ≡ out ++ flat_of (rows_at i k (row ∷ []))
passed_row i k out row e = sym (append-nil out) ∙ ap (λ (u : List ℤ). out ++ u) (ap (λ (t : Bool). flat_of (picked i t row)) (sym e) ∙ ap flat_of (sym (rows_at-one i k row)))

wide-rows_at : (n i : ℕ) (k : ℤ) (V : List (List ℤ)) → i < suc n → Wide (suc n) V → Wide n (rows_at i k V)
wide-rows_at n i k [] l w = subst (Wide n) (sym (rows_at-none i k)) tt
wide-rows_at n i k (p ∷ V) l w = subst (Wide n) (sym (rows_at-cons i k p V)) (at (int_eq (coord i p) k) (wide-rows_at n i k V l w.1))
  where
    at : (b : Bool) → Wide n (rows_at i k V) → Wide n (picked i b p ++ rows_at i k V)
    at true r = (let e = length-without i p (let f = w.0 in omega arith) in let f = w.0 in omega arith, r)
    at false r = r

pub at_rows : (m n i : ℕ) (k : ℤ) (V : List (List ℤ)) (flat : List ℤ) → 0 < n → n + 1 ≡ m → i < m → IsVertexList m V → flat ≡ flat_of (rows_at i k V)
    → (length flat % n ≡ 0) × (rows_of flat n 0 ≡ rows_at i k V)
at_rows m n i k V flat some e l v f =
    let q : m ≡ suc n = omega arith in
    let w : Wide n (rows_at i k V) = wide-rows_at n i k V (omega arith) (subst (λ (j : ℕ). Wide j V) q (wide-points m V v.points)) in (
      ap (λ (z : List ℤ). length z % n) f ∙ ap (λ (j : ℕ). j % n) (length-flat_of n (rows_at i k V) w) ∙ mul-mod_left (length (rows_at i k V)) n,
      ap (λ (z : List ℤ). rows_of z n 0) f ∙ rows_of-flat_of n (rows_at i k V) some w,
    )

-- the rows at a height are the vertices of the couplet there
pub couplet_are_at : (m n i : ℕ) (k : ℤ) (V W : List (List ℤ)) → n + 1 ≡ m → i < m → IsVertexList m V → W ≡ rows_at i k V → W ≡ evm n (couplet n i k (cells m V))
couplet_are_at m n i k V W e l v r =
    let q : m ≡ suc n = omega arith in
    r ∙ ap (rows_at i k) (sym (evm-cells m V v)) ∙ ap (λ (j : ℕ). rows_at i k (evm j (cells j V))) q
    ∙ rows-evm n i k (cells (suc n) V) (cell_set-cells (suc n) V) (omega arith)
    ∙ ap (λ (j : ℕ). evm n (couplet n i k (cells j V))) (sym q)

-- so their numbers are a solid, whose cells are the couplet
pub couplet_made : (m n i : ℕ) (k : ℤ) (V : List (List ℤ)) (flat : List ℤ) → 0 < n → n ≤ 6 → n + 1 ≡ m → i < m → IsVertexList m V → flat ≡ flat_of (rows_at i k V)
    → AreRows flat n 0 × (cells n (rows_of flat n 0) ≡ couplet n i k (cells m V))
couplet_made m n i k V flat some few e l v f =
    let made = at_rows m n i k V flat some e l v f in
    let w : rows_of flat n 0 ≡ evm n (couplet n i k (cells m V)) = couplet_are_at m n i k V (rows_of flat n 0) e l v made.1 in (
      are_rows_of n flat (couplet n i k (cells m V)) some few made.0 (cell_set-couplet n i k (cells m V)) w,
      ap (cells n) w ∙ cells-evm n (couplet n i k (cells m V)) (cell_set-couplet n i k (cells m V)),
    )
