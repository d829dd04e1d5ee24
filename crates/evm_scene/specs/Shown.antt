-- What the fields of a scene show and keep.
use Rattle.std.specs.Prelude.{ℕ, List, Option, None, Some}
use Rattle.evm_script.specs.declared.formula.Formula.{Formula}
use Rattle.evm_model.specs.Scene.{Scene, Entry, What, Given, Made, entry_of}
use Rattle.evm_scene.specs.declared.edit.Refusal.{Refusal}
use Rattle.evm_scene.specs.declared.edit.Refusal.TheVariants.{Name, Taken, Kind, Used, Cycle, Dim, Range, NoMemory}

abbrev pub name_of_entry : Entry → List ℕ
name_of_entry e = e.name

-- the formula that an entry stands for, if it stands for one
abbrev pub what_formula : What → Option Formula
what_formula (Given cells) = None
what_formula (Made formula) = Some formula

abbrev pub entry_formula : Option Entry → Option Formula
entry_formula None = None
entry_formula (Some e) = what_formula e.what

-- the formula of a name, or none where it does not stand or is an input
abbrev pub formula_of : Scene → List ℕ → Option Formula
formula_of scene name = entry_formula (entry_of scene.entries name)

-- a question about a name is refused because of the name, where this holds, or for want of memory
abbrev pub Refuses : Refusal → Type 0 → Type 0
Refuses Name P = P
Refuses NoMemory P = Unit {0}
Refuses Taken P = ⊥
Refuses Kind P = ⊥
Refuses Used P = ⊥
Refuses Cycle P = ⊥
Refuses Dim P = ⊥
Refuses Range P = ⊥
