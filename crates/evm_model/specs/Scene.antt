-- A scene: names in the order of their making, each with a dimension and what it stands for, and the slots of meters.
use Rattle.std.specs.Prelude.{ℕ, zero, suc, ◌≡◌, Bool, true, false, not, ◌&&◌, ◌||◌, if◌then◌else◌, ℤ, pos, int_lt, nat_abs, List, [], ◌∷◌, ◌++◌, length, map, set, Option, None, Some, find, is_some, bytes_eq}
use Rattle.std.specs.List.{list_any, list_all, slice_get}
use Rattle.evm_cells.specs.Places.{ascending}
use Rattle.evm_cells.specs.Limits.{is_cell}
use Rattle.evm_cells.specs.Localities.{Measure, measure}
use Rattle.evm_script.specs.declared.formula.Formula.{Formula}
use Rattle.evm_model.specs.Figures.{Figure, nothing}
use Rattle.evm_model.specs.Formulas.{parts_of, parts_dim, parts_fit, parts_in_range, parts_are_sound}
pub use Rattle.evm_model.specs.Formulas.{operands, formula_value, formula_stays, is_dim, is_axis, is_range}
use Rattle.evm_model.specs.Orders.{is_among, Ordered}

-- what a name stands for: the cells of an input, or a formula
pub data What : Type 0 where
  Given : List (List ℤ) → What
  Made : Formula → What

-- a name, with the dimension of its solid and what it stands for
pub record Entry : Type 0 where
  pub name : List ℕ
  pub dim : ℕ
  pub what : What

-- a slot: its meter, of some kind, is free or watches a name; or the meter was given up, and the slot is gone
pub data Slot : Type 0 where
  Free : Measure → Slot
  Watches : Measure → List ℕ → Slot
  Gone : Slot

-- the names, in the order of their making, and the slots of the meters that were handed in
pub record Scene : Type 0 where
  pub entries : List Entry
  pub slots : List Slot

-- the scene at the start, with free meters of these kinds
abbrev pub start_with : List Measure → Scene
start_with kinds = record { entries = []; slots = map Free kinds }

-- the scene at the start, without meters
abbrev pub start : Scene
start = start_with []

-- whether an entry is of this name
abbrev pub has_name : List ℕ → Entry → Bool
has_name name e = bytes_eq name e.name

-- the entry of a name, or none where the name does not stand
abbrev pub entry_of : List Entry → List ℕ → Option Entry
entry_of entries name = find (has_name name) entries

-- whether a name stands
abbrev pub stands : Scene → List ℕ → Bool
stands scene name = is_some (entry_of scene.entries name)

-- the dimension of an entry that may be there, 0 without one
abbrev pub dim_of_entry : Option Entry → ℕ
dim_of_entry None = 0
dim_of_entry (Some e) = e.dim

-- the dimension of a name, 0 where it does not stand
abbrev pub dim_of : Scene → List ℕ → ℕ
dim_of scene name = dim_of_entry (entry_of scene.entries name)

-- whether an entry that may be there is an input, and whether it is a formula
abbrev pub what_is_given : What → Bool
what_is_given (Given cells) = true
what_is_given (Made formula) = false

abbrev pub entry_is_given : Option Entry → Bool
entry_is_given None = false
entry_is_given (Some e) = what_is_given e.what

-- whether a name stands for an input
abbrev pub is_input : Scene → List ℕ → Bool
is_input scene name = entry_is_given (entry_of scene.entries name)

-- the names that an entry reads; an input reads none
abbrev pub what_operands : What → List (List ℕ)
what_operands (Given cells) = []
what_operands (Made formula) = operands formula

abbrev pub entry_operands : Option Entry → List (List ℕ)
entry_operands None = []
entry_operands (Some e) = what_operands e.what

-- the names that a name reads
abbrev pub operands_of : List Entry → List ℕ → List (List ℕ)
operands_of entries name = entry_operands (entry_of entries name)

-- the value of what a name stands for, at the values of its operands
abbrev pub what_value : ℕ → What → (List ℕ → Figure) → Figure
what_value dim (Given cells) at = record { dim = dim; cells = cells }
what_value dim (Made formula) at = formula_value formula at

-- the value of an entry that may be there, no cell without one
abbrev pub entry_value : Option Entry → (List ℕ → Figure) → Figure
entry_value None at = nothing 0
entry_value (Some e) at = what_value e.dim e.what at

-- the value of a name, evaluated anew through so many levels of operands
abbrev pub value_within : ℕ → List Entry → List ℕ → Figure
value_within zero entries name = entry_value (entry_of entries name) (λ _. nothing 0)
value_within (suc n) entries name = entry_value (entry_of entries name) (λ o. value_within n entries o)

-- the value of a name: for an input its cells, for a formula what it makes of the values of its operands;
-- no name has more levels of operands than there are entries
abbrev pub value : Scene → List ℕ → Figure
value scene name = value_within (length scene.entries) scene.entries name

-- whether what a name stands for makes no place that is no cell
abbrev pub what_stays : What → (List ℕ → Figure) → Bool
what_stays (Given cells) at = true
what_stays (Made formula) at = formula_stays formula at

-- whether each shift and each lift of a scene makes cells alone
abbrev pub all_stay : Scene → Bool
all_stay scene = list_all (λ (e : Entry). what_stays e.what (value scene)) scene.entries

-- whether a name reads another, or reads one that reaches it, through so many levels of operands
abbrev pub reaches_within : ℕ → List Entry → List ℕ → List ℕ → Bool
reaches_within zero entries x y = false
reaches_within (suc n) entries x y =
    list_any (λ o. bytes_eq o y || reaches_within n entries o y) (operands_of entries x)

-- whether a name reaches another through its operands
abbrev pub reaches : Scene → List ℕ → List ℕ → Bool
reaches scene x y = reaches_within (length scene.entries) scene.entries x y

-- whether some name reads this one
abbrev pub is_read : Scene → List ℕ → Bool
is_read scene name = list_any (λ (e : Entry). is_among name (what_operands e.what)) scene.entries

-- whether a slot watches this name
abbrev pub slot_watches : List ℕ → Slot → Bool
slot_watches name (Free kind) = false
slot_watches name (Watches kind other) = bytes_eq name other
slot_watches name Gone = false

-- whether some slot watches this name
abbrev pub is_watched : Scene → List ℕ → Bool
is_watched scene name = list_any (slot_watches name) scene.slots

-- the slot of a number, counted from 0, or none where no slot has it
abbrev pub slot_at : Scene → ℤ → Option Slot
slot_at scene k = if int_lt k (pos 0) then None else slice_get scene.slots (nat_abs k)

-- whether there is a slot, and its meter is free
abbrev pub slot_is_free : Option Slot → Bool
slot_is_free (Some (Free kind)) = true
slot_is_free (Some (Watches kind name)) = false
slot_is_free (Some Gone) = false
slot_is_free None = false

-- the kind of a meter that is not given up, and the name that it watches from now on
abbrev pub handed : List ℕ → Option Slot → Slot
handed name (Some (Free kind)) = Watches kind name
handed name (Some (Watches kind other)) = Watches kind name
handed name (Some Gone) = Gone
handed name None = Gone

-- the measure of a figure
abbrev pub measure_of : Measure → Figure → ℕ
measure_of kind figure = measure kind figure.dim figure.cells

-- what a slot reads, at the values of names: the measure of the value of the name that it watches, or none where it watches none
abbrev pub slot_reading : (List ℕ → Figure) → Option Slot → Option ℕ
slot_reading at (Some (Free kind)) = None
slot_reading at (Some (Watches kind name)) = Some (measure_of kind (at name))
slot_reading at (Some Gone) = None
slot_reading at None = None

-- what the slot of a number reads in a scene
abbrev pub reading : Scene → ℤ → Option ℕ
reading scene k = slot_reading (value scene) (slot_at scene k)

-- the scene with another slot of this number
abbrev pub with_slot : Scene → ℤ → Slot → Scene
with_slot scene k slot = record scene { slots = set scene.slots (nat_abs k) slot }

-- the scene in which the meter of this slot watches a name, and that in which it is given up
abbrev pub attached : Scene → ℤ → List ℕ → Scene
attached scene k name = with_slot scene k (handed name (slot_at scene k))

abbrev pub detached : Scene → ℤ → Scene
detached scene k = with_slot scene k Gone

-- the entries with another in the place of the first of this name
abbrev pub with_entry : List Entry → List ℕ → Entry → List Entry
with_entry [] name new = []
with_entry (e ∷ es) name new = if has_name name e then new ∷ es else e ∷ with_entry es name new

-- the entries without the first of this name
abbrev pub without_entry : List Entry → List ℕ → List Entry
without_entry [] name = []
without_entry (e ∷ es) name = if has_name name e then es else e ∷ without_entry es name

-- the entry of an input with a figure
abbrev pub given_entry : List ℕ → Figure → Entry
given_entry name figure = record { name = name; dim = figure.dim; what = Given figure.cells }

-- the scene with another figure under the name of an input
abbrev pub with_figure : Scene → List ℕ → Figure → Scene
with_figure scene name new = record scene { entries = with_entry scene.entries name (given_entry name new) }

-- the scene with a new name at its end
abbrev pub with_new : Scene → List ℕ → ℕ → What → Scene
with_new scene name dim what =
    record scene { entries = scene.entries ++ record { name = name; dim = dim; what = what } ∷ [] }

-- the dimension of a formula
abbrev pub formula_dim : Scene → Formula → ℕ
formula_dim scene formula = parts_dim (parts_of formula) (dim_of scene)

-- the entry of a name with a formula
abbrev pub made_entry : Scene → List ℕ → Formula → Entry
made_entry scene name formula = record { name = name; dim = formula_dim scene formula; what = Made formula }

-- the scene with this formula under a name: in the name's place, or at the end where the name does not stand
abbrev pub with_formula : Scene → List ℕ → Formula → Scene
with_formula scene name formula =
    if stands scene name
    then record scene { entries = with_entry scene.entries name (made_entry scene name formula) }
    else with_new scene name (formula_dim scene formula) (Made formula)

-- the scene without a name
abbrev pub without_name : Scene → List ℕ → Scene
without_name scene name = record scene { entries = without_entry scene.entries name }

-- a formula fits the dimensions of its operands
abbrev pub formula_fits : Scene → Formula → Bool
formula_fits scene formula = parts_fit (parts_of formula) (dim_of scene)

-- the numbers that a formula states are in their limits
abbrev pub formula_in_range : Scene → Formula → Bool
formula_in_range scene formula = parts_in_range (parts_of formula) (dim_of scene)

-- no name stands twice
abbrev pub names_differ : List Entry → Bool
names_differ [] = true
names_differ (e ∷ es) = not (list_any (has_name e.name) es) && names_differ es

-- an input of this dimension holds a cell set; a formula fits, its numbers are in range, and this is its dimension
abbrev pub what_is_sound : Scene → ℕ → What → Bool
what_is_sound scene dim (Given cells) = ascending cells && list_all (is_cell dim) cells
what_is_sound scene dim (Made formula) = parts_are_sound dim (parts_of formula) (dim_of scene)

-- what each scene of a run keeps: names differ, dimensions are those that named solids have, each entry is sound, no formula
-- makes a place that is no cell, operands stand, no name reaches itself, and watched names stand
pub record IsWell (scene : Scene) : Type 0 where
  pub names : names_differ scene.entries ≡ true
  pub dims : list_all (λ (e : Entry). is_dim (pos e.dim)) scene.entries ≡ true
  pub sound : list_all (λ (e : Entry). what_is_sound scene e.dim e.what) scene.entries ≡ true
  pub stay : all_stay scene ≡ true
  pub stand : (x o : List ℕ) → is_among o (operands_of scene.entries x) ≡ true → stands scene o ≡ true
  pub acyclic : (x : List ℕ) → reaches scene x x ≡ false
  pub watched : (x : List ℕ) → is_watched scene x ≡ true → stands scene x ≡ true

-- an order of the names of a scene in which the operands of each come before it
pub record IsOrderOf (scene : Scene) (order : List (List ℕ)) : Type 0 where
  pub ordered : Ordered (operands_of scene.entries) [] order
  pub whole : (x : List ℕ) → is_among x order ≡ stands scene x
  pub size : length order ≡ length scene.entries
