-- Slots of a scene: what stands at a number after a change, and that changes of slots keep a scene well.
use Rattle.std.proofs.Common.{◌≡◌, ℕ, zero, suc, Bool, true, false, cond, ◌||◌, List, [], ◌∷◌, set, Option, Some, None, ℤ, pos, refl, sym, ap, subst, int_lt, slice_get}
use Rattle.std.specs.Prelude.{nat_abs}
use Rattle.std.specs.List.{list_any}
use Rattle.std.proofs.lemmas.Bool.{false≢true}
use Rattle.evm_model.specs.Scene.{Scene, Slot, Free, Watches, Gone, stands, slot_watches, is_watched, slot_at, slot_is_free, handed, attached, detached, IsWell}
use Rattle.evm_model.specs.Edits.{attach_causes, first_cause}
use Rattle.evm_model.proofs.Names.{by_or, same_name, not_false, or_left, or_right}
use Rattle.evm_model.proofs.Refusals.{none_holds}

-- the scene with other slots
abbrev pub with_slots : Scene → List Slot → Scene
with_slots s t = record s { slots = t }

-- whether some of these slots watches a name
abbrev pub some_watches : List Slot → List ℕ → Bool
some_watches t name = list_any (slot_watches name) t

-- other slots keep a scene well where the names that they watch stand
pub well_slots : (s : Scene) (t : List Slot) → IsWell s → ((x : List ℕ) → some_watches t x ≡ true → stands s x ≡ true) → IsWell (with_slots s t)
well_slots s t well watched = record {
  names = well.names;
  dims = well.dims;
  sound = well.sound;
  stay = well.stay;
  stand = well.stand;
  acyclic = well.acyclic;
  watched = watched;
}

-- a scene stays well without its slots
pub well_bare : (s : Scene) (t : List Slot) → IsWell (with_slots s t) → IsWell (with_slots s [])
well_bare s t well = well_slots (with_slots s t) [] well (λ x h. absurd (false≢true h))

-- what watches a name after a slot was changed is the new slot, or did before
watches_set : (t : List Slot) (i : ℕ) (new : Slot) (name : List ℕ) → some_watches (set t i new) name ≡ true → (slot_watches name new || some_watches t name) ≡ true
watches_set [] i new name h = absurd (false≢true h)
watches_set (slot ∷ t) zero new name h =
    by_or (slot_watches name new) (some_watches t name) h
    (λ k. or_left (slot_watches name new) (some_watches (slot ∷ t) name) k)
    (λ k. or_right (slot_watches name new) (some_watches (slot ∷ t) name) (or_right (slot_watches name slot) (some_watches t name) k))
watches_set (slot ∷ t) (suc i) new name h =
    by_or (slot_watches name slot) (some_watches (set t i new) name) h
    (λ k. or_right (slot_watches name new) (some_watches (slot ∷ t) name) (or_left (slot_watches name slot) (some_watches t name) k))
    (λ k. by_or (slot_watches name new) (some_watches t name) (watches_set t i new name k)
    (λ l. or_left (slot_watches name new) (some_watches (slot ∷ t) name) l)
    (λ l. or_right (slot_watches name new) (some_watches (slot ∷ t) name) (or_right (slot_watches name slot) (some_watches t name) l)))

-- another slot keeps a scene well where a name that it watches stands
pub well_slot : (s : Scene) (i : ℕ) (new : Slot) → IsWell s → ((x : List ℕ) → slot_watches x new ≡ true → stands s x ≡ true) → IsWell (with_slots s (set s.slots i new))
well_slot s i new well watched =
    well_slots s (set s.slots i new) well
    (λ x h. by_or (slot_watches x new) (is_watched s x) (watches_set s.slots i new x h) (λ k. watched x k) (λ k. well.watched x k))

-- a slot that a meter was handed to watches this name, or none
handed_watches : (name : List ℕ) (o : Option Slot) (x : List ℕ) → slot_watches x (handed name o) ≡ true → x ≡ name
handed_watches name (Some (Free kind)) x h = same_name x name h
handed_watches name (Some (Watches kind other)) x h = same_name x name h
handed_watches name (Some Gone) x h = absurd (false≢true h)
handed_watches name None x h = absurd (false≢true h)

-- a meter that is handed to a name that stands keeps a scene well
pub well_attached : (s : Scene) (k : ℤ) (name : List ℕ) → IsWell s → stands s name ≡ true → IsWell (attached s k name)
well_attached s k name well h =
    well_slot s (nat_abs k) (handed name (slot_at s k)) well
    (λ x w. subst (λ (z : List ℕ). stands s z ≡ true) (sym (handed_watches name (slot_at s k) x w)) h)

-- and so does one that is given up
pub well_detached : (s : Scene) (k : ℤ) → IsWell s → IsWell (detached s k)
well_detached s k well = well_slot s (nat_abs k) Gone well (λ x w. absurd (false≢true w))

-- what holds where a meter may be handed to a name
pub record IsHandover (s : Scene) (k : ℤ) (name : List ℕ) : Type 0 where
  pub standing : stands s name ≡ true
  pub free : slot_is_free (slot_at s k) ≡ true

pub handover : (s : Scene) (k : ℤ) (name : List ℕ) → first_cause (attach_causes s k name) ≡ None → IsHandover s k name
handover s k name r =
    let h = none_holds (attach_causes s k name) r in
    record { standing = not_false (stands s name) h.0; free = not_false (slot_is_free (slot_at s k)) h.1.0 }

-- a slot that was changed, where there is one
pub slot_set : {X : Type 0} (t : List X) (i : ℕ) (old new : X) → slice_get t i ≡ Some old → slice_get (set t i new) i ≡ Some new
slot_set [] i old new h = absurd (never h)
  where
    never : None ≡ Some old → ⊥
    never q = cc
slot_set (slot ∷ t) zero old new h = refl
slot_set (slot ∷ t) (suc i) old new h = slot_set t i old new h

-- a slot stays at a change of another, or of it to what it is
pub slot_kept : {X : Type 0} (t : List X) (i j : ℕ) (old new : X) → slice_get t i ≡ Some old → (slice_get t j ≡ Some old → i ≡ j → new ≡ old) → slice_get (set t j new) i ≡ Some old
slot_kept [] i j old new h same = h
slot_kept (slot ∷ t) zero zero old new h same = ap (λ (x : _). Some x) (same h refl)
slot_kept (slot ∷ t) zero (suc j) old new h same = h
slot_kept (slot ∷ t) (suc i) zero old new h same = h
slot_kept (slot ∷ t) (suc i) (suc j) old new h same = slot_kept t i j old new h (λ k e. same k (ap suc e))

-- a slot that is gone stays so at each handing over
pub gone_attached : (s : Scene) (k : ℤ) (name : List ℕ) (i : ℕ) → slice_get s.slots i ≡ Some Gone → slice_get (attached s k name).slots i ≡ Some Gone
gone_attached s k name i h =
    slot_kept s.slots i (nat_abs k) Gone (handed name (slot_at s k)) h
    (λ g e. by (int_lt k (pos 0)) g)
  where
    by : (b : Bool) → slice_get s.slots (nat_abs k) ≡ Some Gone → handed name (cond b None (slice_get s.slots (nat_abs k))) ≡ Gone
    by true g = refl
    by false g = ap (handed name) g

pub gone_detached : (s : Scene) (k : ℤ) (i : ℕ) → slice_get s.slots i ≡ Some Gone → slice_get (detached s k).slots i ≡ Some Gone
gone_detached s k i h = slot_kept s.slots i (nat_abs k) Gone Gone h (λ g e. refl)
