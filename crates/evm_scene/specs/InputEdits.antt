-- Edits of an input, by a box or by another solid.
use Rattle.std.specs.Prelude.{ℕ, ◌≡◌, true, false, ℤ, List, Some, is_some}
use Rattle.evm_model.specs.Figures.{Figure, xor_of, or_of, sub_of}
use Rattle.evm_model.specs.Scene.{Scene, with_figure}
use Rattle.evm_model.specs.Edits as model
use Rattle.evm_model.specs.Work.{work}
use Rattle.evm_formulas.specs.Stated.{figure_of}
use Rattle.evm_scene.specs.Tables.{Table, node_at, kept, is_made, scene_of}
use Rattle.evm_formulas.specs.Changes.{IsChange}
use Rattle.evm_scene.specs.Works.{whole_work}
use Rattle.evm_formulas.specs.declared.changes.Change.{Change}
use Rattle.evm_scene.specs.declared.edit.BoxEdit.{BoxEdit}
use Rattle.evm_scene.specs.declared.edit.BoxEdit.TheVariants.{Toggle, Add, Cut}
use Rattle.evm_scene.specs.declared.edit.Refusal.{Refusal}
use Rattle.evm_scene.specs.declared.edit.Refusal.TheVariants.{Name, Taken, Kind, Used, Cycle, Dim, Range, NoMemory}

-- an input and a box put together
abbrev pub figure_by : BoxEdit → Figure → Figure → Figure
figure_by Toggle own cuboid = xor_of own cuboid
figure_by Add own cuboid = or_of own cuboid
figure_by Cut own cuboid = sub_of own cuboid

-- the edit, as the model words it
abbrev pub edit_by : BoxEdit → List ℕ → List ℤ → model.Edit
edit_by Toggle name nums = model.Toggle name nums
edit_by Add name nums = model.Add name nums
edit_by Cut name nums = model.Cut name nums

-- the edit is refused by this code, or there was no memory
abbrev pub IsRefused : Refusal → Scene → model.Edit → Type 0
IsRefused Name scene edit = model.refusal scene edit ≡ Some model.Name
IsRefused Taken scene edit = model.refusal scene edit ≡ Some model.Taken
IsRefused Kind scene edit = model.refusal scene edit ≡ Some model.Kind
IsRefused Used scene edit = model.refusal scene edit ≡ Some model.Used
IsRefused Cycle scene edit = model.refusal scene edit ≡ Some model.Cycle
IsRefused Dim scene edit = model.refusal scene edit ≡ Some model.Dim
IsRefused Range scene edit = model.refusal scene edit ≡ Some model.Range
IsRefused NoMemory scene edit = Unit {0}

-- only the scene that it would leave refuses the edit of an input, and its change is made
pub record IsPlanned (t : Table) (name : List ℕ) (edit : model.Edit) (c : Change) : Type 0 where
  pub stands : is_some (node_at t name) ≡ true
  pub input : is_made (node_at t name) ≡ false
  pub change : IsChange (Some c) (kept t name)
  pub only : model.refusal (scene_of t) edit ≡ model.first_cause (model.value_causes (model.after (scene_of t) edit))
  pub after : with_figure (scene_of t) name (figure_of c.after) ≡ model.after (scene_of t) edit
  pub named : model.name_of edit ≡ name
  pub full : work (scene_of t) edit ≡ whole_work (scene_of t) edit
