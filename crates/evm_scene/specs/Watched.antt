-- Slots of a scene: what the model sees of them, and what their meters read.
use Rattle.std.specs.Prelude.{ℕ, ◌≡◌, true, false, pos, List, map, Option, None, Some, is_some, option_map, Result, Ok, Err, ℤ}
use Rattle.std.specs.List.{list_any, slice_get}
use Rattle.evm_model.specs.Figures.{Figure}
use Rattle.evm_model.specs.Scene as model
use Rattle.evm_watch.specs.Slots.{Seen, Free, Watches, Gone, seen_watches}
use Rattle.evm_cells.specs.Localities.{Measure}
use Rattle.evm_formulas.specs.Stated.{figure_of}
use Rattle.evm_scene.specs.Tables.{Table, node_at, kept, entries_of}
use Rattle.evm_scene.specs.Changes.{Pending, change_at}
use Rattle.evm_formulas.specs.declared.changes.Change.{Change}
use Rattle.evm_scene.specs.declared.edit.AttachError.{AttachError}
use Rattle.evm_scene.specs.declared.edit.AttachError.TheVariants as errors

-- a slot, as the model words it
abbrev pub slot_of : Seen → model.Slot
slot_of (Free kind) = model.Free kind
slot_of (Watches kind name reading pending) = model.Watches kind name
slot_of Gone = model.Gone

abbrev pub slots_of : List Seen → List model.Slot
slots_of slots = map slot_of slots

-- a slot that watches a name reads the measure of the name's figure, and nothing is pending
abbrev pub Follows : (List ℕ → Figure) → Seen → Type 0
Follows at (Free kind) = Unit {0}
Follows at (Watches kind name reading pending) =
    (reading ≡ Some (model.measure_of kind (at name))) × (pending ≡ None)
Follows at Gone = Unit {0}

abbrev pub AllFollow : (List ℕ → Figure) → List Seen → Type 0
AllFollow at slots = (k : ℕ) (s : Seen) → slice_get slots k ≡ Some s → Follows at s

-- each name that a slot watches stands
abbrev pub WatchedStand : Table → List Seen → Type 0
WatchedStand t slots = (x : List ℕ) → list_any (seen_watches x) slots ≡ true → is_some (node_at t x) ≡ true

-- what a table and slots keep together
pub record IsWatched (t : Table) (slots : List Seen) : Type 0 where
  pub follow : AllFollow (kept t) slots
  pub stand : WatchedStand t slots

-- the same slots are there, and what the table and they keep together
pub record StaysWatched (t : Table) (old new : List Seen) : Type 0 where
  pub same : slots_of new ≡ slots_of old
  pub watched : IsWatched t new

-- the slot after the changes of names were prepared: pending is the measure of the figure after, where its name has a change
abbrev pub or_after : Option Change → Measure → Option ℕ → Option ℕ
or_after None kind pending = pending
or_after (Some c) kind pending = Some (model.measure_of kind (figure_of c.after))

abbrev pub prepared_by : Pending → Seen → Seen
prepared_by p (Free kind) = Free kind
prepared_by p (Watches kind name reading pending) =
    Watches kind name reading (or_after (change_at p name) kind pending)
prepared_by p Gone = Gone

-- the scene that a table and slots show
abbrev pub watched_scene : Table → List Seen → model.Scene
watched_scene t slots = record { entries = entries_of t; slots = slots_of slots }

-- what handing a slot to a name answers: a reading, or the first cause that refuses it, which leaves the scene, and so does want of
-- memory
abbrev pub Attaches : Result ℤ AttachError → model.Scene → model.Scene → ℕ → List ℕ → Type 0
Attaches (Ok n) old new slot name = (model.stands old name ≡ true)
    × (model.slot_is_free (model.slot_at old (pos slot)) ≡ true)
    × (new ≡ model.attached old (pos slot) name)
    × (option_map pos (model.reading new (pos slot)) ≡ Some n)
Attaches (Err errors.Name) old new slot name = (model.stands old name ≡ false) × (new ≡ old)
Attaches (Err errors.Slot) old new slot name = (model.stands old name ≡ true)
    × (model.slot_is_free (model.slot_at old (pos slot)) ≡ false) × (new ≡ old)
Attaches (Err errors.NoMemory) old new slot name = new ≡ old
