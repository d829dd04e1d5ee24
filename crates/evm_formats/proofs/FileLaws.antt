-- Files tell solids and cell sets apart.
use Rattle.std.proofs.Common.{◌≡◌, ℕ, inl, inr, List, ◌++◌, slice_index, ℤ, refl, sym, ap, ap₂, ◌∙◌, arith, ⊎_elim}
use Rattle.std.specs.Prelude.{◌==◌, if◌then◌else◌}
use Rattle.evm_cells.proofs.Examples.{box_of_six}
use Rattle.evm_cells.specs.Examples.{plane}
use Rattle.evm_cells.specs.Vertices.{evm, IsVertexList}
use Rattle.evm_cells.proofs.Corners.{cell_set-box}
use Rattle.evm_cells.proofs.Core.{vertices-evm, cells-evm, evm-cells}
use Rattle.evm_rows.specs.Rows.{Vertices, IsSolid, cells_of}
use Rattle.evm_rows.proofs.Solids.{same_cells}
use Rattle.evm_sections.specs.Couplets.{couplets_of}
use Rattle.evm_formats.specs.FirstFile.{first_file_bytes, first_file_of_cells, stated_dim, listed_rows}
use Rattle.evm_formats.specs.RowBodies.{row_body}
use Rattle.evm_formats.specs.File.{file_bytes, file_of_cells, stated_rows, reading, rows_in, head_bytes, six_cells, IsSolidCells, IsFileOf, IsFileOfCells, TellsSolids, TellsCells, VersionsDiffer, FilesByStatement, FileOfSix, FirstFileOfSix}
use Rattle.evm_formats.proofs.Bodies.{row_body-evm}
use Rattle.evm_formats.proofs.Frames.{file_is, rows_of_first, dim_of_first, states, stated}
use Rattle.evm_formats.proofs.Nesting.{rows_of_file, dim_of_file, nests, second_is}

-- vertices of one dimension with the same rows
pub one_solid : (v w : Vertices) → v.dim ≡ w.dim → v.rows ≡ w.rows → v ≡ w
one_solid v w d r = λ i. record { dim = d i; rows = r i }

-- equal files are of one solid
abbrev pub TellsApart : (Vertices → List ℕ) → Type 0
TellsApart file = (v w : Vertices) → IsSolid v → IsSolid w → file v ≡ file w → v ≡ w

pub told_apart : TellsApart file_bytes
told_apart v w s t e =
    one_solid v w (sym (dim_of_file v) ∙ ap stated_dim e ∙ dim_of_file w) (sym (rows_of_file v s) ∙ ap stated_rows e ∙ rows_of_file w t)

pub first_apart : TellsApart first_file_bytes
first_apart v w s t e =
    one_solid v w (sym (dim_of_first v) ∙ ap stated_dim e ∙ dim_of_first w) (sym (rows_of_first v s) ∙ ap listed_rows e ∙ rows_of_first w t)

pub solids : (file : Vertices → List ℕ) → TellsApart file → TellsSolids file
solids file apart v w s t =
    let same = same_cells v w s.vertices t.vertices in
    (λ e. same.0 (apart v w s t e), λ h. ap file (same.1 h))

-- the vertices of a cell set
abbrev pub vertices_of_cells : ℕ → List (List ℤ) → Vertices
vertices_of_cells n S = record { dim = n; rows = evm n S }

pub solid_of_cells : (n : ℕ) (S : List (List ℤ)) → IsSolidCells n S → IsSolid (vertices_of_cells n S)
solid_of_cells n S s = record { low = s.low; high = s.high; vertices = vertices-evm n S s.cells }

-- the vertices of a cell set have its dimension and its cells
pub cells_again : (v : Vertices) (n : ℕ) (S : List (List ℤ)) → IsSolidCells n S → v ≡ vertices_of_cells n S → (v.dim ≡ n) × (cells_of v ≡ S)
cells_again v n S s e = (ap (λ (u : Vertices). u.dim) e, ap (λ (u : Vertices). cells_of u) e ∙ cells-evm n S s.cells)

-- the file of a cell set is that of its vertices
pub file_of_vertices : (n : ℕ) (S : List (List ℤ)) → IsSolidCells n S → file_of_cells n S ≡ file_bytes (vertices_of_cells n S)
file_of_vertices n S s = ap (file_of_cells n) (sym (cells-evm n S s.cells))

pub cell_sets : (file : Vertices → List ℕ) (of_cells : ℕ → List (List ℤ) → List ℕ) → TellsApart file
    → ((n : ℕ) (S : List (List ℤ)) → IsSolidCells n S → of_cells n S ≡ file (vertices_of_cells n S)) → TellsCells of_cells
cell_sets file of_cells apart is n m S T s t = (
  λ e. let v = vertices_of_cells n S in
      let w = vertices_of_cells m T in
      let same : v ≡ w = apart v w (solid_of_cells n S s) (solid_of_cells m T t) (sym (is n S s) ∙ e ∙ is m T t) in
      let again = cells_again v m T t same in
      (again.0, sym (cells-evm n S s.cells) ∙ again.1),
  λ h. ap₂ of_cells h.0 h.1,
)

pub versions : VersionsDiffer
unfolding file_of_cells first_file_bytes
versions v w e = let bad : 2 ≡ 1 = ap (λ (xs : List ℕ). slice_index xs 4) e in absurd (omega (arith, bad))

pub statement : FilesByStatement
statement bytes v are s = (
  (
    λ e. nests v bytes s e,
    λ h. second_is bytes h.seen h.second are.small h.read h.filled h.rises (along (stated_dim bytes) v.dim h.seen.rows v.rows h.dim h.rows s.vertices)
        ∙ ap file_bytes (one_solid (record { dim = stated_dim bytes; rows = h.seen.rows }) v h.dim h.rows),
  ),
  (
    λ e. states v bytes s are.few e,
    λ h. file_is bytes h.framed.0 h.framed.1 are.small ∙ ap first_file_bytes (one_solid (stated bytes) v h.dim h.rows),
  ),
)
  where
    along : (n m : ℕ) (V W : List (List ℤ)) → n ≡ m → V ≡ W → IsVertexList m W → IsVertexList n V
    along n m V W e f h = rw (e, f) h

-- the worked files
pub file_of_six : FileOfSix
unfolding file_of_cells row_body couplets_of
file_of_six =
    ap (λ (xs : List ℕ). head_bytes 2 ++ xs) (sym (row_body-evm 2 six_cells (cell_set-box 2 (plane 0 0) (plane 2 3)))
    ∙ ap (row_body 2) box_of_six.1)

pub first_file_of_six : FirstFileOfSix
unfolding first_file_bytes
first_file_of_six = ap (λ (rows : List (List ℤ)). first_file_bytes (record { dim = 2; rows = rows })) box_of_six.1

-- a file of a solid is that of its cells
pub on_cells : (bytes : List ℕ) (v : Vertices) → IsVertexList v.dim v.rows → IsFileOf bytes v → IsFileOfCells bytes v.dim (cells_of v)
on_cells bytes v s f =
    ⊎_elim (λ (e : bytes ≡ file_bytes v). inl e)
    (λ (e : bytes ≡ first_file_bytes v). inr (e ∙ ap first_file_bytes (one_solid v (vertices_of_cells v.dim (cells_of v)) (λ i. v.dim) (sym (evm-cells v.dim v.rows s))))) f

-- a file of a cell set is that of its vertices
pub on_vertices : (bytes : List ℕ) (n : ℕ) (S : List (List ℤ)) → IsSolidCells n S → IsFileOfCells bytes n S → IsFileOf bytes (vertices_of_cells n S)
on_vertices bytes n S s f =
    ⊎_elim (λ (e : bytes ≡ file_of_cells n S). inl (e ∙ file_of_vertices n S s)) (λ (e : bytes ≡ first_file_of_cells n S). inr e) f

-- ---- either version

is_one : (v : Vertices) → slice_index (first_file_bytes v) 4 ≡ 1
unfolding first_file_bytes
is_one v = refl

version_one : (m : ℕ) (V W : List (List ℤ)) → m ≡ 1 → (if m == 1 then V else W) ≡ V
version_one m V W e = rw e refl

first_rows : (v : Vertices) → IsSolid v → stated_rows (first_file_bytes v) ≡ v.rows
first_rows v s = version_one (slice_index (first_file_bytes v) 4) (listed_rows (first_file_bytes v)) (rows_in (reading (first_file_bytes v))) (is_one v) ∙ rows_of_first v s

-- a file of a solid tells its rows
pub rows_of_either : (bytes : List ℕ) (v : Vertices) → IsSolid v → IsFileOf bytes v → stated_rows bytes ≡ v.rows
rows_of_either bytes v s f =
    ⊎_elim (λ (e : bytes ≡ file_bytes v). ap (λ (xs : List ℕ). stated_rows xs) e ∙ rows_of_file v s)
    (λ (e : bytes ≡ first_file_bytes v). ap (λ (xs : List ℕ). stated_rows xs) e ∙ first_rows v s) f

-- and its dimension
pub dim_of_either : (bytes : List ℕ) (v : Vertices) → IsFileOf bytes v → stated_dim bytes ≡ v.dim
dim_of_either bytes v f =
    ⊎_elim (λ (e : bytes ≡ file_bytes v). ap stated_dim e ∙ dim_of_file v) (λ (e : bytes ≡ first_file_bytes v). ap stated_dim e ∙ dim_of_first v) f
