-- EVM files, as the model reads them.
use Rattle.std.proofs.Common.{◌≡◌, ℕ, ◌<◌, ◌≤◌, ◌⊎◌, ⊎_elim, Bool, false, cond, List, ℤ, Option, Some, None, Err, sym, ap, ◌∙◌, subst}
use Rattle.std.specs.Result.{IsErrOf}
use Rattle.evm_cells.specs.Vertices.{cells}
use Rattle.evm_cells.proofs.Universe.{cell_set-cells}
use Rattle.evm_cells.proofs.Order.{refuted}
use Rattle.evm_rows.specs.Rows.{Vertices, IsSolid}
use Rattle.evm_formats.specs.File.{stated_rows, IsSolidCells, IsFileOf, IsFileOfCells}
use Rattle.evm_formats.specs.declared.file.FileError.{FileError}
use Rattle.evm_formats.specs.declared.file.FileError.TheVariants as files
use Rattle.evm_formats.proofs.FileLaws.{vertices_of_cells, on_cells, on_vertices, dim_of_either}
use Rattle.evm_file.proofs.Reading.{err_with}
use Rattle.evm_model.specs.Figures.{Figure}
use Rattle.evm_model.specs.Files.{is_evm_file, evm_figure}
use Rattle.evm_model.proofs.FileLaws.{tested_file, loads_saved}
use Rattle.evm_formulas.specs.Stated.{figure_of}
use Rattle.evm_session.specs.Loads.{ReadsFigure}
use Rattle.evm_session.specs.Refusals.{of_file_error}

-- the figure of tested bytes
tested : ℕ → List (List ℤ) → Bool → Option Figure
tested n S b = cond b (Some (record { dim = n; cells = S })) None

untested : (n : ℕ) (S : List (List ℤ)) (b : Bool) → b ≡ false → tested n S b ≡ None
unfolding tested
untested n S b e = ap (tested n S) e

-- bytes that are the file of no figure of this dimension
pub no_figure : (n : ℕ) (bytes : List ℕ) → ((S : List (List ℤ)) → IsSolidCells n S → IsFileOfCells bytes n S → ⊥) → 0 < n → n ≤ 6 → evm_figure n bytes ≡ None
unfolding tested
no_figure n bytes never low high =
    let S = cells n (stated_rows bytes) in
    untested n S (is_evm_file bytes n S)
    (refuted (is_evm_file bytes n S) (λ h. never S (record { low = low; high = high; cells = cell_set-cells n (stated_rows bytes) }) (tested_file bytes n S h)))

-- a file of a solid states its figure
pub figure_filed : (v : Vertices) (n : ℕ) (bytes : List ℕ) → IsSolid v → IsFileOf bytes v → v.dim ≡ n → evm_figure n bytes ≡ Some (figure_of v)
figure_filed v n bytes solid file dim =
    subst (λ (m : ℕ). evm_figure m bytes ≡ Some (figure_of v)) dim
    (loads_saved (figure_of v) bytes (record { low = solid.low; high = solid.high; cells = cell_set-cells v.dim v.rows }) (on_cells bytes v solid.vertices file))

-- a file of a solid of another dimension states none
pub figure_of_other : (v : Vertices) (n : ℕ) (bytes : List ℕ) → IsFileOf bytes v → (v.dim ≡ n → ⊥) → 0 < n → n ≤ 6 → evm_figure n bytes ≡ None
figure_of_other v n bytes file other low high =
    no_figure n bytes
    (λ S s f. other (sym (dim_of_either bytes v file) ∙ dim_of_either bytes (vertices_of_cells n S) (on_vertices bytes n S s f)))
    low high

-- a refusal of the reader, which finds each file of a solid
pub refused_file : (e : FileError) (n : ℕ) (bytes : List ℕ) → 0 < n → n ≤ 6 → ((m : ℕ) (S : List (List ℤ)) → IsSolidCells m S → IsFileOfCells bytes m S → ⊥ ⊎ IsErrOf (err_with {T = Vertices} e) files.NoMemory)
    → ReadsFigure (Err (of_file_error e)) (evm_figure n bytes)
refused_file files.NoMemory n bytes low high found = tt
refused_file e n bytes low high found =
    no_figure n bytes (λ S s q. ⊎_elim (λ (h : ⊥). h) (λ (h : IsErrOf (err_with {T = Vertices} e) files.NoMemory). cc) (found n S s q)) low high
