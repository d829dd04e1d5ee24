-- Scenes with slots: they are well, edits apply to them, and what their slots read.
use Rattle.std.proofs.Common.{◌≡◌, ℕ, zero, suc, false, cond, List, [], ◌∷◌, map, None, Some, Result, Ok, Err, ℤ, pos, refl, sym, ap, subst, ◌∙◌, true≢false, slice_get, bytes_eq, int_lt, arith}
use Rattle.std.specs.List.{list_any, IsDistinct}
use Rattle.std.specs.Map.{keys_of}
use Rattle.std.proofs.lemmas.Int.{ints as int_facts}
use Rattle.std.proofs.lemmas.Option.{same_Some, none-some}
use Rattle.evm_cells.specs.Localities.{Measure}
use Rattle.evm_cells.proofs.Coords.{lt_no}
use Rattle.evm_model.specs.Figures.{Figure}
use Rattle.evm_model.specs.Scene as model
use Rattle.evm_model.specs.Scene.{Scene, Slot, value, IsWell}
use Rattle.evm_model.specs.Edits.{Edit}
use Rattle.evm_model.proofs.SlotLaws.{with_slots, well_slots, is_drop, refusal_slots, after_slots, changed_slots}
use Rattle.evm_watch.specs.Slots.{Seen, Free, Watches, Gone, seen_watches, seen_reading}
use Rattle.evm_scene.specs.declared.edit.Refusal.{Refusal}
use Rattle.evm_scene.specs.declared.edit.Refusal.TheVariants.{Name, Taken, Kind, Used, Cycle, Dim, Range, NoMemory}
use Rattle.evm_scene.specs.declared.edit.Changed.{Changed}
use Rattle.evm_scene.specs.Tables.{Table, kept, entries_of, scene_of}
use Rattle.evm_scene.specs.Orders.{IsKept}
use Rattle.evm_scene.specs.Watched.{slot_of, slots_of, Follows, AllFollow, IsWatched, watched_scene}
use Rattle.evm_scene.specs.Applied.{Applies}
use Rattle.evm_scene.specs.declared.edit.BoxEdit.{BoxEdit}
use Rattle.evm_scene.specs.declared.edit.BoxEdit.TheVariants as boxes
use Rattle.evm_scene.specs.InputEdits.{edit_by}
use Rattle.evm_scene.proofs.Views.{stands_at}
use Rattle.evm_scene.proofs.Wells.{well_kept}
use Rattle.evm_scene.proofs.Watching.{same_watched}

pub well_watched : (t : Table) (order : List (List ℕ)) (slots : List Seen) → IsKept t order → IsWatched t slots → IsDistinct bytes_eq (keys_of t) → IsWell (watched_scene t slots)
well_watched t order slots kept watched distinct =
    well_slots (scene_of t) (slots_of slots) (well_kept t order kept distinct)
    (λ x h. stands_at t x ∙ watched.stand x (sym (same_watched slots x) ∙ h))

-- an edit that is no drop applies to a scene whatever its slots
with_same_slots : (r : Result Changed Refusal) (s u : Scene) (t : List Slot) (edit : Edit) → is_drop edit ≡ false → Applies r s u edit → Applies r (with_slots s t) (with_slots u t) edit
with_same_slots (Ok changed) s u t edit d h =
    (refusal_slots s t edit d ∙ h.0, ap (λ (v : Scene). with_slots v t) h.1 ∙ sym (after_slots s t edit), h.2 ∙ sym (changed_slots s t edit))
with_same_slots (Err Name) s u t edit d h = (refusal_slots s t edit d ∙ h.0, ap (λ (v : Scene). with_slots v t) h.1)
with_same_slots (Err Taken) s u t edit d h = (refusal_slots s t edit d ∙ h.0, ap (λ (v : Scene). with_slots v t) h.1)
with_same_slots (Err Kind) s u t edit d h = (refusal_slots s t edit d ∙ h.0, ap (λ (v : Scene). with_slots v t) h.1)
with_same_slots (Err Used) s u t edit d h = (refusal_slots s t edit d ∙ h.0, ap (λ (v : Scene). with_slots v t) h.1)
with_same_slots (Err Cycle) s u t edit d h = (refusal_slots s t edit d ∙ h.0, ap (λ (v : Scene). with_slots v t) h.1)
with_same_slots (Err Dim) s u t edit d h = (refusal_slots s t edit d ∙ h.0, ap (λ (v : Scene). with_slots v t) h.1)
with_same_slots (Err Range) s u t edit d h = (refusal_slots s t edit d ∙ h.0, ap (λ (v : Scene). with_slots v t) h.1)
with_same_slots (Err NoMemory) s u t edit d h = ap (λ (v : Scene). with_slots v t) h

pub applies_watched : (r : Result Changed Refusal) (t u : Table) (old new : List Seen) (edit : Edit) → is_drop edit ≡ false → Applies r (scene_of t) (scene_of u) edit → slots_of new ≡ slots_of old
    → Applies r (watched_scene t old) (watched_scene u new) edit
applies_watched r t u old new edit d h same =
    subst (λ (l : List Slot). Applies r (watched_scene t old) (record { entries = entries_of u; slots = l }) edit) (sym same)
    (with_same_slots r (scene_of t) (scene_of u) (slots_of old) edit d h)

-- ---- new scenes

follows_free : {X : Type 0} (kind : X → Measure) (meters : List X) (at : List ℕ → Figure) → AllFollow at (map (λ m. Free (kind m)) meters)
follows_free kind [] at k s h = absurd (none-some s h)
follows_free kind (m ∷ ms) at zero s h = subst (Follows at) (same_Some (Free (kind m)) s h) tt
follows_free kind (m ∷ ms) at (suc k) s h = follows_free kind ms at k s h

watches_free : {X : Type 0} (kind : X → Measure) (meters : List X) (x : List ℕ) → list_any (seen_watches x) (map (λ m. Free (kind m)) meters) ≡ false
watches_free kind [] x = refl
watches_free kind (m ∷ ms) x = watches_free kind ms x

pub watched_free : {X : Type 0} (kind : X → Measure) (meters : List X) (t : Table) (slots : List Seen) → slots ≡ map (λ m. Free (kind m)) meters → IsWatched t slots
watched_free kind meters t slots e = subst (λ (l : List Seen). IsWatched t l) (sym e) (record {
  follow = follows_free kind meters (kept t);
  stand = λ x h. absurd (true≢false (sym h ∙ watches_free kind meters x));
})

slots_free : {X : Type 0} (kind : X → Measure) (meters : List X) → slots_of (map (λ m. Free (kind m)) meters) ≡ map model.Free (map (λ m. kind m) meters)
slots_free kind [] = refl
slots_free kind (m ∷ ms) = ap (λ (l : List Slot). model.Free (kind m) ∷ l) (slots_free kind ms)

pub scene_free : {X : Type 0} (kind : X → Measure) (meters : List X) (t : Table) (slots : List Seen) → t ≡ [] → slots ≡ map (λ m. Free (kind m)) meters
    → watched_scene t slots ≡ model.start_with (map (λ m. kind m) meters)
scene_free kind meters t slots e f = λ i. record { entries = ap entries_of e i; slots = (ap slots_of f ∙ slots_free kind meters) i }

kept_none : IsKept [] []
kept_none = record { ordered = tt; whole = λ x. refl; size = refl; sized = λ x. tt; fixed = λ x. refl; stays = λ x. refl }

pub kept_empty : (t : Table) (order : List (List ℕ)) → t ≡ [] → order ≡ [] → IsKept t order
kept_empty t order e f = subst (λ (u : Table). IsKept u order) (sym e) (subst (λ (l : List (List ℕ)). IsKept [] l) (sym f) kept_none)

-- ---- readings

int_natural : (n : ℕ) → int_lt (pos n) (pos 0) ≡ false
int_natural n = lt_no (pos n) (pos 0) (omega (arith, int_facts))

-- the slot of a number that is counted from 0
pub slot_is : (s : Scene) (k : ℕ) → model.slot_at s (pos k) ≡ slice_get s.slots k
slot_is s k = ap (λ b. cond b None (slice_get s.slots k)) (int_natural k)

reads_figure : (at : List ℕ → Figure) (slots : List Seen) (k : ℕ) → AllFollow at slots → seen_reading (slice_get slots k) ≡ model.slot_reading at (slice_get (slots_of slots) k)
reads_figure at [] k h = refl
reads_figure at (s ∷ ss) zero h = by s (h zero s refl)
  where
    by : (s : Seen) → Follows at s → seen_reading (Some s) ≡ model.slot_reading at (Some (slot_of s))
    by (Free kind) f = refl
    by (Watches kind name reading pending) f = f.0
    by Gone f = refl
reads_figure at (s ∷ ss) (suc k) h = reads_figure at ss k (λ j z q. h (suc j) z q)

-- what a slot reads is what the model says that it reads
pub reads_value : (t : Table) (slots : List Seen) (k : ℕ) → ((x : List ℕ) → kept t x ≡ value (scene_of t) x) → IsWatched t slots
    → seen_reading (slice_get slots k) ≡ model.reading (watched_scene t slots) (pos k)
reads_value t slots k values watched =
    reads_figure (kept t) slots k watched.follow
    ∙ (λ i. model.slot_reading (λ x. values x i) (slice_get (slots_of slots) k))
    ∙ ap (model.slot_reading (value (scene_of t))) (sym (slot_is (watched_scene t slots) k))

-- ---- edits by a box

pub box_stays : (edit : BoxEdit) (name : List ℕ) (nums : List ℤ) → is_drop (edit_by edit name nums) ≡ false
box_stays boxes.Toggle name nums = refl
box_stays boxes.Add name nums = refl
box_stays boxes.Cut name nums = refl
