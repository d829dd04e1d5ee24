-- What refuses another figure for an input, by the table.
use Rattle.std.proofs.Common.{◌≡◌, ℕ, ◌==◌, Bool, true, false, not, List, [], ◌∷◌, Option, None, Some, refl, sym, ap, subst, ◌∙◌, is_some}
use Rattle.evm_rows.specs.Rows.{Vertices}
use Rattle.evm_model.specs.Scene.{Scene, is_input, dim_of, with_figure}
use Rattle.evm_model.specs.Edits.{Code, Replace, Name, Kind, Dim, first_cause, figure_causes, value_causes, refusal, after}
use Rattle.evm_scene.specs.declared.node.Node.{Node}
use Rattle.evm_formulas.specs.declared.changes.Change.{Change}
use Rattle.evm_formulas.specs.Stated.{figure_of}
use Rattle.evm_scene.specs.Tables.{Table, node_at, node_figure, is_made, scene_of}
use Rattle.evm_formulas.specs.Changes.{IsChange}
use Rattle.evm_scene.specs.InputEdits.{IsPlanned}
use Rattle.evm_scene.proofs.Views.{stands_at}
use Rattle.evm_scene.proofs.Planned.{there, made_here, wide, full_unless}

-- the causes at a node
abbrev other_code : Bool → Bool → Scene → Option Code
other_code made same left = first_cause ((made, Kind) ∷ (not same, Dim) ∷ value_causes left)

module _ (t : Table) (name : List ℕ) (solid : Vertices) where
  abbrev left : Scene
  left = after (scene_of t) (Replace name (figure_of solid))

  pub absent : node_at t name ≡ None → refusal (scene_of t) (Replace name (figure_of solid)) ≡ Some Name
  absent at =
      ap (λ (b : Bool). first_cause ((not b, Name) ∷ (not (is_input (scene_of t) name), Kind) ∷ (not (solid.dim == dim_of (scene_of t) name), Dim) ∷ value_causes left))
      (stands_at t name ∙ ap (λ (o : Option Node). is_some o) at)

  module _ (n : Node) (at : node_at t name ≡ Some n) where
    code_at : (m d : Bool) → is_some n.formula ≡ m → (solid.dim == n.dim) ≡ d → refusal (scene_of t) (Replace name (figure_of solid)) ≡ other_code m d left
    code_at m d p q =
        (λ i. first_cause ((not (there t name n at i), Name) ∷ (made_here t name n at i, Kind) ∷ (not (solid.dim == wide t name n at i), Dim) ∷ value_causes left))
        ∙ (λ i. other_code (p i) (q i) left)

    pub formula_refused : is_some n.formula ≡ true → refusal (scene_of t) (Replace name (figure_of solid)) ≡ Some Kind
    formula_refused p = code_at true (solid.dim == n.dim) p refl

    pub dim_refused : is_some n.formula ≡ false → (solid.dim == n.dim) ≡ false → refusal (scene_of t) (Replace name (figure_of solid)) ≡ Some Dim
    dim_refused p q = code_at false false p q

    pub plan : (c : Change) → is_some n.formula ≡ false → (solid.dim == n.dim) ≡ true → c.after ≡ solid → IsChange (Some c) (figure_of n.solid) → IsPlanned t name (Replace name (figure_of solid)) c
    plan c p q e h = record {
      stands = ap (λ (o : Option Node). is_some o) at;
      input = ap is_made at ∙ p;
      change = subst (λ (o : Option Node). IsChange (Some c) (node_figure o)) (sym at) h;
      only = code_at false true p q;
      after = ap (λ (v : Vertices). with_figure (scene_of t) name (figure_of v)) e;
      named = refl;
      full = full_unless (figure_causes (scene_of t) name (figure_of solid)) (scene_of t) (Replace name (figure_of solid))
          ((λ i. first_cause ((not (there t name n at i), Name) ∷ (made_here t name n at i, Kind) ∷ (not (solid.dim == wide t name n at i), Dim) ∷ []))
          ∙ (λ i. first_cause ((p i, Kind) ∷ (not (q i), Dim) ∷ [])));
    }
