-- The union of rows, halved and put in order.
use Rattle.std.proofs.Common.{◌≡◌, ℕ, ◌<◌, List, [], ◌∷◌, ◌++◌, map, length, take, drop, get_or, arith, Result, Ok, Err, IfOk, ℤ, sym, ap, ap₂, ◌∙◌}
use Rattle.std.specs.List.Sorted.{IsPermutation}
use Rattle.std.proofs.lemmas.List.{map-append, take-append-drop}
use Rattle.std.proofs.lemmas.List.Sorted.{IsPermutation-map}
use Rattle.evm_cells.specs.Booleans.{or_cells}
use Rattle.evm_cells.specs.Boxes.{box_cells}
use Rattle.evm_cells.specs.Vertices.{evm, cells}
use Rattle.evm_cells.specs.Unions.{Ends, union_of}
use Rattle.evm_cells.proofs.Core.{cells-evm}
use Rattle.evm_cells.proofs.Layers.{evm-empty}
use Rattle.evm_cells.proofs.Unions.{cell_set-union, no_boxes, one_box, two_unions, union-permuted}
use Rattle.evm_rows.specs.Rows.{Vertices, combined_rows}
use Rattle.evm_boolean.specs.Tower.{fills}
use Rattle.evm_boolean.specs.declared.boolean.Op2.TheVariants.{Or}
use Rattle.evm_boxes.specs.BoxRows.{ends_of}
use Rattle.evm_boxes.specs.declared.BoxRow.{BoxRow}

-- the vertices of the union of two solids, each of which is a union of boxes
pub united : (n : ℕ) (left right both : Vertices) (front back : List Ends) → left.dim ≡ n
    → left.rows ≡ evm n (union_of n front) → right.rows ≡ evm n (union_of n back)
    → both.rows ≡ combined_rows (fills Or) left.dim left.rows right.rows → both.rows ≡ evm n (union_of n (front ++ back))
unfolding combined_rows or_cells
united n left right both front back d l r e =
    e
    ∙ ap (λ (m : ℕ). evm m (or_cells m (cells m left.rows) (cells m right.rows))) d
    ∙ ap₂ (λ (A B : List (List ℤ)). evm n (or_cells n A B))
    (ap (cells n) l ∙ cells-evm n (union_of n front) (cell_set-union n front))
    (ap (cells n) r ∙ cells-evm n (union_of n back) (cell_set-union n back))
    ∙ ap (evm n) (two_unions n front back)

-- the union of no rows has no vertices
pub none_united : (n : ℕ) (V : List (List ℤ)) (boxes : List BoxRow) → length boxes < 1 → V ≡ [] → V ≡ evm n (union_of n (map ends_of boxes))
none_united n V [] h e = e ∙ sym (ap (evm n) (no_boxes n) ∙ evm-empty n)
none_united n V (row ∷ more) h e = absurd (omega arith)

-- one row, read by its place
pub one_united : (n : ℕ) (V : List (List ℤ)) (boxes : List BoxRow) (d : BoxRow) → 0 < length boxes → length boxes < 2 → (get_or boxes 0 d).dim ≡ n
    → V ≡ evm (get_or boxes 0 d).dim (box_cells (get_or boxes 0 d).dim (ends_of (get_or boxes 0 d)).lo (ends_of (get_or boxes 0 d)).hi) → V ≡ evm n (union_of n (map ends_of boxes))
one_united n V [] d some few h e = absurd (omega arith)
one_united n V (row ∷ next ∷ more) d some few h e = absurd (omega arith)
one_united n V (row ∷ []) d some few h e =
    e ∙ ap (λ (m : ℕ). evm m (box_cells m (ends_of row).lo (ends_of row).hi)) h ∙ ap (evm n) (sym (one_box n (ends_of row)))

-- the same where the answer may be want of memory
pub one_or_want : {E : Type 0} (n : ℕ) (r : Result Vertices E) (boxes : List BoxRow) (d : BoxRow) → 0 < length boxes → length boxes < 2 → (get_or boxes 0 d).dim ≡ n
    → IfOk r (λ s. s.rows ≡ evm (get_or boxes 0 d).dim (box_cells (get_or boxes 0 d).dim (ends_of (get_or boxes 0 d)).lo (ends_of (get_or boxes 0 d)).hi))
    → IfOk r (λ s. s.rows ≡ evm n (union_of n (map ends_of boxes)))
one_or_want n (Ok s) boxes d some few h e = one_united n s.rows boxes d some few h e
one_or_want n (Err x) boxes d some few h e = e

-- the front and the back of a list of rows
pub halves : (boxes : List BoxRow) (k : ℕ) → map ends_of (take k boxes) ++ map ends_of (drop k boxes) ≡ map ends_of boxes
halves boxes k = sym (map-append ends_of (take k boxes) (drop k boxes)) ∙ ap (map ends_of) (take-append-drop k boxes)

-- rows in another order
pub rows-permuted : (n : ℕ) (rows sorted : List BoxRow) → IsPermutation rows sorted → union_of n (map ends_of sorted) ≡ union_of n (map ends_of rows)
rows-permuted n rows sorted h = union-permuted n (map ends_of rows) (map ends_of sorted) (IsPermutation-map ends_of rows sorted h)
