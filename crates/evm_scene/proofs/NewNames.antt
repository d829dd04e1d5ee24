-- Edits that make a new name, by the table.
use Rattle.std.proofs.Common.{◌≡◌, ℕ, Bool, true, false, not, List, [], ◌∷◌, ◌++◌, None, ℤ, ap, ◌∙◌, is_some}
use Rattle.std.specs.Prelude.{nat_abs}
use Rattle.evm_cells.specs.Vertices.{cells}
use Rattle.evm_rows.specs.Rows.{Vertices}
use Rattle.evm_model.specs.Figures.{Figure, nothing}
use Rattle.evm_model.specs.Scene.{Entry, Given, is_dim, with_new, IsWell}
use Rattle.evm_model.specs.Edits as model
use Rattle.evm_formulas.specs.Stated.{figure_of}
use Rattle.evm_scene.specs.Tables.{Table, node_at, entry_view, entries_of, scene_of}
use Rattle.evm_scene.proofs.Views.{stands_at}
use Rattle.evm_scene.proofs.Unread.{new_changes_none}

-- what refuses a new input
pub input_refusal : (t : Table) (name : List ℕ) (dim : ℤ) (s d : Bool) → is_some (node_at t name) ≡ s → is_dim dim ≡ d
    → model.refusal (scene_of t) (model.Input name dim) ≡ model.first_cause ((s, model.Taken) ∷ (not d, model.Dim) ∷ [])
input_refusal t name dim s d e f =
    ap (λ (b : Bool). model.first_cause ((b, model.Taken) ∷ (not (is_dim dim), model.Dim) ∷ [])) (stands_at t name ∙ e)
    ∙ ap (λ (b : Bool). model.first_cause ((s, model.Taken) ∷ (not b, model.Dim) ∷ [])) f

pub no_cells : (s : Vertices) (n : ℕ) → figure_of s ≡ nothing n → cells s.dim s.rows ≡ []
unfolding nothing
no_cells s n e = ap (λ (f : Figure). f.cells) e

-- a new input that is made
pub input_done : (t u : Table) (name : List ℕ) (dim : ℤ) (n : ℕ) (solid : Vertices) → IsWell (scene_of t) → is_some (node_at t name) ≡ false → is_dim dim ≡ true → n ≡ nat_abs dim → figure_of solid ≡ nothing n
    → entries_of u ≡ entries_of t ++ entry_view (name, record { dim = n; formula = None; solid = solid }) ∷ []
    → (model.refusal (scene_of t) (model.Input name dim) ≡ None) × (scene_of u ≡ with_new (scene_of t) name (nat_abs dim) (Given [])) × (0 ≡ model.changed (scene_of t) (model.Input name dim))
input_done t u name dim n solid well fresh fits size empty e = (
  input_refusal t name dim false true fresh fits,
  ap (λ (es : List Entry). record { entries = es; slots = [] })
      (e
      ∙ ap (λ (S : List (List ℤ)). entries_of t ++ record { name = name; dim = n; what = Given S } ∷ []) (no_cells solid n empty)
      ∙ ap (λ (k : ℕ). entries_of t ++ record { name = name; dim = k; what = Given [] } ∷ []) size),
  new_changes_none (scene_of t) (model.Input name dim) well (stands_at t name ∙ fresh),
)
