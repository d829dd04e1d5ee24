-- Slots of meters, as contracts see them.
use Rattle.std.specs.Prelude.{ℕ, ◌≡◌, Bool, true, false, List, Option, None, Some, bytes_eq, if◌then◌else◌, is_some}
use Rattle.std.specs.List.{slice_get}
use Rattle.evm_cells.specs.Localities.{Measure}
use Rattle.evm_cells.specs.Booleans.{xor_cells}
use Rattle.evm_cells.specs.Vertices.{cells}
use Rattle.evm_rows.specs.Rows.{Vertices}
use Rattle.evm_meter.specs.Meters.{measured, IsNearChange, moved_by}
use Rattle.evm_watch.specs.declared.slot.Slot.{Slot}
use Rattle.evm_watch.specs.declared.slot.Slot.TheVariants as slots

-- a free meter; one that watches a name, with its reading and its pending reading; or a meter that was given up
pub data Seen : Type 0 where
  Free : Measure → Seen
  Watches : Measure → List ℕ → Option ℕ → Option ℕ → Seen
  Gone : Seen

-- a slot, where these are the kind, the reading and the pending reading of a meter
abbrev pub seen_of : {M : Type 0} → (M → Measure) → (M → Option ℕ) → (M → Option ℕ) → Slot M → Seen
seen_of kind reading pending (slots.Free m) = Free (kind m)
seen_of kind reading pending (slots.Watches name m prepared) = Watches (kind m) name (reading m) (pending m)
seen_of kind reading pending slots.Gone = Gone

-- a meter that watches a name has a reading, and it has a pending reading exactly where the slot says so
abbrev pub IsKept : {M : Type 0} → (M → Option ℕ) → (M → Option ℕ) → Slot M → Type 0
IsKept reading pending (slots.Free m) = Unit {0}
IsKept reading pending (slots.Watches name m prepared) = (is_some (reading m) ≡ true) × (is_some (pending m) ≡ prepared)
IsKept reading pending slots.Gone = Unit {0}

-- whether a slot watches this name
abbrev pub seen_watches : List ℕ → Seen → Bool
seen_watches name (Free kind) = false
seen_watches name (Watches kind other reading pending) = bytes_eq name other
seen_watches name Gone = false

-- the reading of a slot that watches a name
abbrev pub seen_reading : Option Seen → Option ℕ
seen_reading (Some (Free kind)) = None
seen_reading (Some (Watches kind name reading pending)) = reading
seen_reading (Some Gone) = None
seen_reading None = None

-- whether there is a slot, and its meter is free
abbrev pub seen_is_free : Option Seen → Bool
seen_is_free (Some (Free kind)) = true
seen_is_free (Some (Watches kind name reading pending)) = false
seen_is_free (Some Gone) = false
seen_is_free None = false

-- the slot whose meter watches this name from now on, and reads the measure of these vertices
abbrev pub seen_attached : List ℕ → Vertices → Option Seen → Seen
seen_attached name a (Some (Free kind)) = Watches kind name (Some (measured kind a)) None
seen_attached name a (Some (Watches kind other reading pending)) = Watches kind other reading pending
seen_attached name a (Some Gone) = Gone
seen_attached name a None = Gone

-- a slot that watches this name reads the measure of these vertices, and nothing is pending
abbrev pub SeenReads : List ℕ → Vertices → Seen → Type 0
SeenReads name a (Free kind) = Unit {0}
SeenReads name a (Watches kind other reading pending) =
    bytes_eq name other ≡ true → (reading ≡ Some (measured kind a)) × (pending ≡ None)
SeenReads name a Gone = Unit {0}

abbrev pub EachReads : List ℕ → Vertices → List Seen → Type 0
EachReads name a slots = (k : ℕ) (s : Seen) → slice_get slots k ≡ Some s → SeenReads name a s

-- where a slot watches this name, its meter can be handed these parts of the solid before and after a change
abbrev pub CanMove : List ℕ → Vertices → Vertices → Seen → Type 0
CanMove name before after (Free kind) = Unit {0}
CanMove name before after (Watches kind other reading pending) =
    bytes_eq name other ≡ true → IsNearChange kind reading before after × (pending ≡ None)
CanMove name before after Gone = Unit {0}

-- the slot after these parts were handed to its meter, if it watches this name
abbrev pub seen_moved : List ℕ → Vertices → Vertices → Seen → Seen
seen_moved name before after (Free kind) = Free kind
seen_moved name before after (Watches kind other reading pending) =
    Watches kind other reading (if bytes_eq name other then moved_by kind before after reading else pending)
seen_moved name before after Gone = Gone

-- the slot after the measure of these vertices was prepared, if it watches this name
abbrev pub seen_prepared : List ℕ → Vertices → Seen → Seen
seen_prepared name a (Free kind) = Free kind
seen_prepared name a (Watches kind other reading pending) =
    Watches kind other reading (if bytes_eq name other then Some (measured kind a) else pending)
seen_prepared name a Gone = Gone

-- the reading after a commit: the pending one, where there is one
abbrev pub or_pending : Option ℕ → Option ℕ → Option ℕ
or_pending reading None = reading
or_pending reading (Some n) = Some n

-- the slot after its pending reading, if it has one, became its reading
abbrev pub seen_committed : Seen → Seen
seen_committed (Free kind) = Free kind
seen_committed (Watches kind name reading pending) = Watches kind name (or_pending reading pending) None
seen_committed Gone = Gone

-- the slot without a pending reading
abbrev pub seen_abandoned : Seen → Seen
seen_abandoned (Free kind) = Free kind
seen_abandoned (Watches kind name reading pending) = Watches kind name reading None
seen_abandoned Gone = Gone

-- a change of vertices to others of the same dimension: the exclusive or of the cells before and after
pub record IsMoved (before delta after : Vertices) : Type 0 where
  pub delta_dim : delta.dim ≡ before.dim
  pub after_dim : after.dim ≡ before.dim
  pub cells : cells after.dim after.rows ≡ xor_cells before.dim (cells before.dim before.rows) (cells delta.dim delta.rows)
