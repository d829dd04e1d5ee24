-- What the public calls answer
use Rattle.std.proofs.Common.{◌≡◌, ℕ, ◌<◌, ◌≤◌, Bool, true, false, List, ℤ, refl, ap, ◌∙◌, arith}
use Rattle.evm_cells.specs.Booleans.{combine, or_cells, and_cells, sub_cells}
use Rattle.evm_cells.specs.Vertices.{cells, IsVertexList}
use Rattle.evm_rows.specs.Rows.{Vertices, rows_of, combined_rows, flat_of, AreRows}
use Rattle.evm_rows.proofs.RowsOrder.{rows_of-flat_of}
use Rattle.evm_rows.proofs.Bridge.{are_rows-flat, vertices-op, wide-points}
use Rattle.evm_boolean.specs.declared.boolean.Op2.TheVariants.{Or, And, Sub}
use Rattle.evm_boolean.specs.Tower.{fills, or_vertices, and_vertices, sub_vertices}
use Rattle.evm_cells.proofs.Core.{cells-evm}
use Rattle.evm_cells.proofs.Combine.{cell_set-combine}

pub or_is : (a b s : Vertices) → s.dim ≡ a.dim → s.rows ≡ combined_rows (fills Or) a.dim a.rows b.rows → s ≡ or_vertices a b
unfolding or_vertices combined_rows or_cells
or_is a b s d r = λ i. record { dim = d i; rows = r i }

pub and_is : (a b s : Vertices) → s.dim ≡ a.dim → s.rows ≡ combined_rows (fills And) a.dim a.rows b.rows → s ≡ and_vertices a b
unfolding and_vertices combined_rows and_cells
and_is a b s d r = λ i. record { dim = d i; rows = r i }

pub sub_is : (a b s : Vertices) → s.dim ≡ a.dim → s.rows ≡ combined_rows (fills Sub) a.dim a.rows b.rows → s ≡ sub_vertices a b
unfolding sub_vertices combined_rows sub_cells
sub_is a b s d r = λ i. record { dim = d i; rows = r i }

-- a test of one value, that fails at false, answers that value or nothing
pub kept : (f : Bool → Bool) → f false ≡ false → f true ≡ true → (b : Bool) → f b ≡ b
kept f e t true = t
kept f e t false = e

pub cleared : (f : Bool → Bool) → f false ≡ false → f true ≡ false → (b : Bool) → f b ≡ false
cleared f e t true = t
cleared f e t false = e

-- the cells of the answer
pub cells_are : (op : Bool → Bool → Bool) (n : ℕ) (V W X : List (List ℤ)) → X ≡ combined_rows op n V W → cells n X ≡ combine op n (cells n V) (cells n W)
unfolding combined_rows
cells_are op n V W X e = ap (cells n) e ∙ cells-evm n (combine op n (cells n V) (cells n W)) (cell_set-combine op n (cells n V) (cells n W))

pub cells_or : (n : ℕ) (A B : List (List ℤ)) → combine (fills Or) n A B ≡ or_cells n A B
unfolding or_cells
cells_or n A B = refl

pub cells_and : (n : ℕ) (A B : List (List ℤ)) → combine (fills And) n A B ≡ and_cells n A B
unfolding and_cells
cells_and n A B = refl

pub cells_sub : (n : ℕ) (A B : List (List ℤ)) → combine (fills Sub) n A B ≡ sub_cells n A B
unfolding sub_cells
cells_sub n A B = refl

-- the numbers of the answer
pub answer_rows : (op : Bool → Bool → Bool) (m n : ℕ) (V W : List (List ℤ)) (flat : List ℤ) → m ≡ n → 0 < n → n ≤ 6 → flat ≡ flat_of (combined_rows op m V W) → AreRows flat m 0
answer_rows op m n V W flat q some few e = rw e (are_rows-flat m (combined_rows op m V W) (omega arith) (omega arith) (vertices-op op m V W))

pub answer_is : (op : Bool → Bool → Bool) (m : ℕ) (V W : List (List ℤ)) (flat : List ℤ) → 0 < m → flat ≡ flat_of (combined_rows op m V W) → rows_of flat m 0 ≡ combined_rows op m V W
answer_is op m V W flat some e =
    let v : IsVertexList m (combined_rows op m V W) = vertices-op op m V W in
    rw e (rows_of-flat_of m (combined_rows op m V W) some (wide-points m (combined_rows op m V W) v.points))
