-- The tree of a name, and what refuses a question that states numbers of it.
use Rattle.std.specs.Prelude.{ℕ, ◌≡◌, ◌≤◌, ◌==◌, Bool, true, not, ℤ, List, [], ◌∷◌, length}
use Rattle.evm_rows.specs.Rows.{Vertices}
use Rattle.evm_model.specs.Scene.{Scene, stands, value, dim_of}
use Rattle.evm_model.specs.Edits.{Code, Name, Dim}
use Rattle.evm_formulas.specs.Stated.{figure_of}

-- the name stands, and this is its solid
pub record IsTreeOf (v : Vertices) (scene : Scene) (name : List ℕ) : Type 0 where
  pub there : stands scene name ≡ true
  pub figure : figure_of v ≡ value scene name
  pub dim : v.dim ≡ dim_of scene name
  pub deep : 2 ≤ v.dim
  pub shallow : v.dim ≤ 6

-- what refuses a question that states a number for each axis, before their limits
abbrev pub many_causes : Scene → List ℕ → List ℤ → List (Bool × Code)
many_causes scene name nums = (not (stands scene name), Name) ∷ (not (length nums == dim_of scene name), Dim) ∷ []
