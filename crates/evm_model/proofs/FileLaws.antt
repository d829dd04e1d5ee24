-- Files: the figures that bytes state, and the bytes that figures are saved in.
use Rattle.std.proofs.Common.{◌≡◌, ℕ, ◌≤◌, Bool, true, false, cond, List, Option, Some, None, Result, Ok, Err, ℤ, pos, ◌⊎◌, inl, inr, refl, sym, ap, ◌∙◌, subst, bytes_eq, arith, nat_le, nat_abs, IfOk, ⊎_elim, ◌||◌}
use Rattle.std.specs.Prelude.{◌↔◌, ◌==◌}
use Rattle.std.proofs.lemmas.Bool.{eqb-false}
use Rattle.std.proofs.lemmas.Bool.Decides.{Decides-eqb, nat_tests}
use Rattle.evm_cells.specs.Places.{ascending}
use Rattle.evm_cells.specs.Limits.{IsCellSet}
use Rattle.evm_cells.specs.Vertices.{cells}
use Rattle.evm_cells.specs.Unions.{Ends}
use Rattle.evm_cells.proofs.Unions.{cell_set-union}
use Rattle.evm_cells.proofs.Core.{cells-evm}
use Rattle.evm_cells.proofs.Universe.{cell_set-cells}
use Rattle.evm_formats.specs.FirstFile.{first_file_of_cells}
use Rattle.evm_formats.specs.File.{file_bytes, file_of_cells, stated_rows, IsSolidCells, IsFileOfCells}
use Rattle.evm_formats.proofs.FileLaws.{vertices_of_cells, solid_of_cells, cell_sets, file_of_vertices, on_vertices, rows_of_either, told_apart as files_apart}
use Rattle.evm_formats.specs.BoxFile.{file_cells, union_or_refusal, boxes_of_file}
use Rattle.evm_formats.specs.declared.boxes.BoxFileError.{BoxFileError}
use Rattle.evm_formats.specs.Pgm.{pgm_cells}
use Rattle.evm_formats.specs.Y4m.{y4m_cells}
use Rattle.evm_formats.proofs.ImageSets.{cell_set-pgm, cell_set-y4m}
use Rattle.evm_text.specs.Lines.{lines}
use Rattle.evm_formats.proofs.BoxTexts.{read_again}
use Rattle.evm_script.specs.declared.files.LoadForm.{LoadForm}
use Rattle.evm_script.specs.declared.files.LoadForm.TheVariants as forms
use Rattle.evm_script.specs.declared.files.SaveForm.TheVariants as saves
use Rattle.evm_model.specs.Figures.{Figure, nothing}
use Rattle.evm_model.specs.Files.{is_evm_file, evm_figure, figure_stated, form_fits, figure_in, figure_fetched, or_nothing, bytes_in}
use Rattle.evm_model.specs.Scene.{Scene, stands, dim_of, value, is_dim, IsWell}
use Rattle.evm_model.proofs.Names.{by_test, same_name, equal_names}
use Rattle.evm_model.proofs.WellScenes.{solid_dim, value_dim, value_cells}
use Rattle.evm_model.proofs.WellEdits.{standing_dim}

-- a figure of dimension n whose cells are a cell set
abbrev pub HasCells : ℕ → Figure → Type 0
HasCells n a = (a.dim ≡ n) × IsCellSet a.dim a.cells

-- such a figure, or none
abbrev pub IfCells : ℕ → Option Figure → Type 0
IfCells n None = Unit {0}
IfCells n (Some a) = HasCells n a

nothing_set : (n : ℕ) → HasCells n (nothing n)
unfolding nothing ascending
nothing_set n = (refl, record { ascends = refl; cells = refl })

-- ---- images

-- those of images are 2 and 3
image_dim : (n : ℕ) → is_dim (pos n) ≡ true → nat_le n 3 ≡ true → (n ≡ 2) ⊎ (n ≡ 3)
image_dim n d h =
    let (low, high) = solid_dim n d in
    let few : n ≤ 3 = grind (arith, nat_tests, h) in
    by_test (n == 2) (λ e. inl ((Decides-eqb n 2).0 e)) (λ e. inr (omega (arith, low, few, eqb-false n 2 e)))

-- the figure of cells that a file states
stated_set : {E : Type 0} (n : ℕ) (r : Result (List (List ℤ)) E) → IfOk r (λ S. IsCellSet n S) → IfCells n (figure_stated n r)
stated_set n (Ok S) h = (refl, h)
stated_set n (Err e) h = tt

-- ---- boxes and EVM files

boxes_set : (n : ℕ) (bytes : List ℕ) → IfOk (file_cells n bytes) (λ S. IsCellSet n S)
unfolding file_cells
boxes_set n bytes = united (boxes_of_file n (lines bytes))
  where
    united : (r : Result (List Ends) BoxFileError) → IfOk (union_or_refusal n r) (λ S. IsCellSet n S)
    united (Ok boxes) = cell_set-union n boxes
    united (Err e) = tt

-- the figure of the rows that bytes state
abbrev pub row_figure : ℕ → List ℕ → Figure
row_figure n bytes = record { dim = n; cells = cells n (stated_rows bytes) }

-- the bytes are its file
abbrev pub is_its_file : ℕ → List ℕ → Bool
is_its_file n bytes = is_evm_file bytes n (cells n (stated_rows bytes))

evm_set : (n : ℕ) (bytes : List ℕ) → IfCells n (evm_figure n bytes)
evm_set n bytes =
    elim (is_its_file n bytes) as (λ b. IfCells n (cond b (Some (row_figure n bytes)) None)) [ true ↦ (refl, cell_set-cells n (stated_rows bytes)) | false ↦ tt ]

-- ---- all forms

pub figure_set : (form : LoadForm) (n : ℕ) (bytes : List ℕ) → is_dim (pos n) ≡ true → form_fits form n ≡ true → IfCells n (figure_in form n bytes)
unfolding figure_in
figure_set forms.Evm n bytes d h = evm_set n bytes
figure_set forms.Boxes n bytes d h = stated_set n (file_cells n bytes) (boxes_set n bytes)
figure_set (forms.Pgm threshold) n bytes d h = stated_set n (pgm_cells n (nat_abs threshold) bytes) (cell_set-pgm n (nat_abs threshold) bytes (image_dim n d h))
figure_set (forms.Y4m threshold) n bytes d h = stated_set n (y4m_cells n (nat_abs threshold) bytes) (cell_set-y4m n (nat_abs threshold) bytes (image_dim n d h))

pub figures_are : (form : LoadForm) (n : ℕ) (bytes : List ℕ) (a : Figure) → is_dim (pos n) ≡ true → form_fits form n ≡ true → figure_in form n bytes ≡ Some a → HasCells n a
figures_are form n bytes a d h e = subst (λ (o : Option Figure). IfCells n o) e (figure_set form n bytes d h)

or_set : (n : ℕ) (o : Option Figure) → IfCells n o → HasCells n (or_nothing n o)
or_set n None h = nothing_set n
or_set n (Some a) h = h

-- what a load takes is a cell set, whatever was fetched
pub loaded_set : (form : LoadForm) (n : ℕ) (got : Option (List ℕ)) → is_dim (pos n) ≡ true → form_fits form n ≡ true → HasCells n (or_nothing n (figure_fetched form n got))
loaded_set form n None d h = nothing_set n
loaded_set form n (Some bytes) d h = or_set n (figure_in form n bytes) (figure_set form n bytes d h)

-- ---- saved bytes

pub one_figure : (a b : Figure) → a.dim ≡ b.dim → a.cells ≡ b.cells → a ≡ b
one_figure a b d c = λ i. record { dim = d i; cells = c i }

-- two solids have equal files exactly if they are equal
pub told_apart : (a b : Figure) → IsSolidCells a.dim a.cells → IsSolidCells b.dim b.cells → (bytes_in saves.Evm a ≡ bytes_in saves.Evm b) ↔ (a ≡ b)
unfolding bytes_in
told_apart a b s t =
    let law = cell_sets file_bytes file_of_cells files_apart file_of_vertices a.dim b.dim a.cells b.cells s t in
    (λ e. one_figure a b (law.0 e).0 (law.0 e).1, λ e. ap (λ (x : Figure). file_of_cells x.dim x.cells) e)

-- the value of a name that stands is a solid
pub solid_value : (scene : Scene) (name : List ℕ) → IsWell scene → stands scene name ≡ true → IsSolidCells (value scene name).dim (value scene name).cells
solid_value scene name well h =
    let (low, high) = solid_dim (value scene name).dim (subst (λ (n : ℕ). is_dim (pos n) ≡ true) (value_dim scene well name) (standing_dim scene well name h)) in
    record { low = omega (arith, low); high = high; cells = value_cells scene well name }

pub told_names : (scene : Scene) (x y : List ℕ) → IsWell scene → stands scene x ≡ true → stands scene y ≡ true → dim_of scene x ≡ dim_of scene y
    → (bytes_in saves.Evm (value scene x) ≡ bytes_in saves.Evm (value scene y)) ↔ ((value scene x).cells ≡ (value scene y).cells)
told_names scene x y well h k d =
    let law = told_apart (value scene x) (value scene y) (solid_value scene x well h) (solid_value scene y well k) in
    (λ e. ap (λ (a : Figure). a.cells) (law.0 e), λ e. law.1 (one_figure (value scene x) (value scene y) (sym (value_dim scene well x) ∙ d ∙ value_dim scene well y) e))

-- bytes state a solid exactly if they are its file
some_same : (a b : Figure) → Some a ≡ Some b → a ≡ b
some_same a b e = cc

none_some : (a : Figure) → None ≡ Some a → ⊥
none_some a e = cc

either_true : (p q : Bool) → (p || q) ≡ true → (p ≡ true) ⊎ (q ≡ true)
either_true true q e = inl refl
either_true false q e = inr e

true_either : (p q : Bool) → (p ≡ true) ⊎ (q ≡ true) → (p || q) ≡ true
true_either true q e = refl
true_either false q e = ⊎_elim (λ (h : false ≡ true). let bad : false ≡ true = h in cc) (λ (h : q ≡ true). h) e

-- bytes that pass the test are a file of the cells, of either version
pub tested_file : (bytes : List ℕ) (n : ℕ) (S : List (List ℤ)) → is_evm_file bytes n S ≡ true → IsFileOfCells bytes n S
tested_file bytes n S e =
    ⊎_elim (λ (h : bytes_eq bytes (file_of_cells n S) ≡ true). inl (same_name bytes (file_of_cells n S) h))
    (λ (h : bytes_eq bytes (first_file_of_cells n S) ≡ true). inr (same_name bytes (first_file_of_cells n S) h))
    (either_true (bytes_eq bytes (file_of_cells n S)) (bytes_eq bytes (first_file_of_cells n S)) e)

file_tested : (bytes : List ℕ) (n : ℕ) (S : List (List ℤ)) → IsFileOfCells bytes n S → is_evm_file bytes n S ≡ true
file_tested bytes n S f =
    true_either (bytes_eq bytes (file_of_cells n S)) (bytes_eq bytes (first_file_of_cells n S))
    (⊎_elim (λ (e : bytes ≡ file_of_cells n S). inl (equal_names bytes (file_of_cells n S) e)) (λ (e : bytes ≡ first_file_of_cells n S). inr (equal_names bytes (first_file_of_cells n S) e)) f)

-- a file of a solid states it
pub loads_saved : (a : Figure) (bytes : List ℕ) → IsSolidCells a.dim a.cells → IsFileOfCells bytes a.dim a.cells → evm_figure a.dim bytes ≡ Some a
loads_saved a bytes s f =
    ap (λ (b : Bool). cond b (Some (row_figure a.dim bytes)) None) (file_tested bytes a.dim (cells a.dim (stated_rows bytes)) (subst (λ (S : List (List ℤ)). IsFileOfCells bytes a.dim S) (sym again) f))
    ∙ ap (λ (c : List (List ℤ)). Some (record { dim = a.dim; cells = c })) again
  where
    again : cells a.dim (stated_rows bytes) ≡ a.cells
    again =
        ap (cells a.dim) (rows_of_either bytes (vertices_of_cells a.dim a.cells) (solid_of_cells a.dim a.cells s) (on_vertices bytes a.dim a.cells s f))
        ∙ cells-evm a.dim a.cells s.cells

saved_loads : (a : Figure) (bytes : List ℕ) → evm_figure a.dim bytes ≡ Some a → IsFileOfCells bytes a.dim a.cells
saved_loads a bytes = by (is_its_file a.dim bytes) refl
  where
    by : (b : Bool) → is_its_file a.dim bytes ≡ b → cond b (Some (row_figure a.dim bytes)) None ≡ Some a → IsFileOfCells bytes a.dim a.cells
    by true q e =
        subst (λ (x : Figure). IsFileOfCells bytes a.dim x.cells) (some_same (row_figure a.dim bytes) a e)
        (tested_file bytes a.dim (cells a.dim (stated_rows bytes)) q)
    by false q e = absurd (none_some a e)

pub loaded_is_saved : (bytes : List ℕ) (a : Figure) → IsSolidCells a.dim a.cells
    → (figure_in forms.Evm a.dim bytes ≡ Some a) ↔ ((bytes ≡ bytes_in saves.Evm a) ⊎ (bytes ≡ first_file_of_cells a.dim a.cells))
unfolding figure_in bytes_in
loaded_is_saved bytes a s = (saved_loads a bytes, loads_saved a bytes s)

-- the box file of a solid is read again
pub boxes_load : (a : Figure) → IsSolidCells a.dim a.cells → figure_in forms.Boxes a.dim (bytes_in saves.Boxes a) ≡ Some a
unfolding figure_in bytes_in
boxes_load a s = ap (λ (r : Result (List (List ℤ)) BoxFileError). figure_stated a.dim r) (read_again a.dim a.cells s.low s.high s.cells)
