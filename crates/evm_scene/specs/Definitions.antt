-- The steps of a definition.
use Rattle.std.specs.Prelude.{ℕ, ◌≡◌, Bool, true, false, not, ◌&&◌, List, [], Result, Ok, Err, bytes_eq}
use Rattle.evm_rows.specs.Rows.{Vertices}
use Rattle.evm_script.specs.declared.formula.Formula.{Formula}
use Rattle.evm_model.specs.Figures.{Figure}
use Rattle.evm_model.specs.Scene.{Scene, stands, formula_value, formula_stays, formula_in_range}
use Rattle.evm_model.specs.Edits.{closes_cycle}
use Rattle.evm_scene.specs.declared.edit.Refusal.{Refusal}
use Rattle.evm_scene.specs.declared.edit.Refusal.TheVariants.{Name, Taken, Kind, Used, Cycle, Dim, Range, NoMemory}
use Rattle.evm_scene.specs.declared.defined.Parts.{Parts}
use Rattle.evm_formulas.specs.Stated.{figure_of}
use Rattle.evm_scene.specs.Tables.{Table, reads_at, scene_of}
use Rattle.evm_scene.specs.Orders.{Parted}

-- whether an operand is another name than the one that is being made, and does not stand
abbrev pub is_missing : Scene → List ℕ → List ℕ → Bool
is_missing scene name o = not (bytes_eq o name) && not (stands scene o)

-- what is made of a formula whose operands fit, at the figures of its operands; it is refused by its numbers exactly where
-- one that it states is past its limits, or a cell that it moves is
abbrev pub IsMade : {A : Type 0} → Result A Refusal → Scene → Formula → (List ℕ → Figure) → (A → Type 0) → Type 0
IsMade (Ok a) scene f at P = (formula_in_range scene f ≡ true) × (formula_stays f at ≡ true) × P a
IsMade (Err Range) scene f at P = (formula_in_range scene f && formula_stays f at) ≡ false
IsMade (Err NoMemory) scene f at P = Unit {0}
IsMade (Err Name) scene f at P = ⊥
IsMade (Err Taken) scene f at P = ⊥
IsMade (Err Kind) scene f at P = ⊥
IsMade (Err Used) scene f at P = ⊥
IsMade (Err Cycle) scene f at P = ⊥
IsMade (Err Dim) scene f at P = ⊥

-- the solid of a formula at these figures, in this dimension
abbrev pub IsValue : ℕ → Formula → (List ℕ → Figure) → Vertices → Type 0
IsValue n f at s = (figure_of s ≡ formula_value f at) × (s.dim ≡ n)

-- an order is parted at a name, and a formula may stand under the name without a cycle; it is refused exactly where it may not
abbrev pub IsFree : Result Parts Refusal → Table → List (List ℕ) → List ℕ → Formula → Type 0
IsFree (Ok p) t order name f = (closes_cycle (scene_of t) name f ≡ false) × Parted (reads_at t) order name p.front.items p.reach.keys []
IsFree (Err Cycle) t order name f = closes_cycle (scene_of t) name f ≡ true
IsFree (Err NoMemory) t order name f = Unit {0}
IsFree (Err Range) t order name f = ⊥
IsFree (Err Name) t order name f = ⊥
IsFree (Err Taken) t order name f = ⊥
IsFree (Err Kind) t order name f = ⊥
IsFree (Err Used) t order name f = ⊥
IsFree (Err Dim) t order name f = ⊥
