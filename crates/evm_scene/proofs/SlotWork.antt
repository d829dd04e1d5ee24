-- The work of an edit does not depend on slots.
use Rattle.std.proofs.Common.{◌≡◌, ℕ, ◌+◌, ◌≤◌, if◌then◌else◌, List, refl, sym, ap, subst, ◌∙◌, is_some, sum_by}
use Rattle.evm_model.specs.Scene.{Scene, Slot, value}
use Rattle.evm_model.specs.Edits.{Edit, Input, Toggle, Add, Cut, Replace, Def, Drop, first_cause, def_causes}
use Rattle.evm_model.specs.Work.{work, entry_work}
use Rattle.evm_model.proofs.SlotLaws.{with_slots, after_slots}
use Rattle.evm_watch.specs.Slots.{Seen}
use Rattle.evm_scene.specs.Tables.{Table, scene_of}
use Rattle.evm_scene.specs.Watched.{slots_of, watched_scene}

work_slots : (s : Scene) (t : List Slot) (edit : Edit) → work (with_slots s t) edit ≡ work s edit
work_slots s t (Input name dim) = refl
work_slots s t (Toggle name nums) = refl
work_slots s t (Add name nums) = refl
work_slots s t (Cut name nums) = refl
work_slots s t (Replace name figure) = refl
work_slots s t (Def name f) =
    ap (λ (u : Scene). if is_some (first_cause (def_causes s name f)) then 0 else sum_by (entry_work (Def name f) (value s) (value u)) u.entries)
    (after_slots s t (Def name f))
work_slots s t (Drop name) = refl

-- a bound by the table is one by the scene that it is seen as
pub scene_few : (t : Table) (slots : List Seen) (scene : Scene) → watched_scene t slots ≡ scene → (edit same : Edit) → edit ≡ same → (s r : ℕ)
    → r ≤ s + work (scene_of t) same → r ≤ s + work scene edit
scene_few t slots scene view edit same e s r h =
    subst (λ (n : ℕ). r ≤ s + n)
    (sym (work_slots (scene_of t) (slots_of slots) same) ∙ ap (λ (u : Scene). work u same) view ∙ ap (work scene) (sym e)) h
