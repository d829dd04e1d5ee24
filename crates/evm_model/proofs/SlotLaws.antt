-- Slots: edits leave them, what they read, and that they change nothing of an edit but whether its name is dropped.
use Rattle.std.proofs.Common.{◌≡◌, ℕ, zero, suc, Bool, true, false, not, cond, ◌||◌, List, [], ◌∷◌, ◌++◌, set, length, Option, Some, None, is_some, Result, Ok, Err, ℤ, pos, refl, sym, ap, ap₂, ◌∙◌, subst, int_lt, slice_get, arith}
use Rattle.std.specs.Prelude.{nat_abs}
use Rattle.std.proofs.lemmas.Bool.{false≢true}
use Rattle.evm_cells.specs.Localities.{Measure}
use Rattle.evm_model.specs.Files.{Fetches}
use Rattle.evm_model.specs.Scene.{Scene, Slot, Free, Watches, Gone, Made, stands, is_input, is_read, dim_of, value, slot_at, slot_is_free, slot_reading, reading, measure_of, handed, attached, detached, with_entry, made_entry, with_new, formula_dim}
use Rattle.evm_model.specs.Edits.{Edit, Def, Drop, Code, Name, Meter, Used, first_cause, value_causes, def_causes, refusal, after, changed, changed_names}
use Rattle.evm_model.specs.Replies.{Reply, Done}
use Rattle.evm_script.specs.Line.{command}
use Rattle.evm_script.specs.declared.command.Command.{Command}
use Rattle.evm_script.specs.declared.command.Command.TheVariants as commands
use Rattle.evm_script.specs.declared.command.LineError.{LineError}
use Rattle.evm_model.specs.Steps.{Turn, Way, Edits, Asks, Loads, Saves, Hands, unless_refused, asked, handed_on, read_off, way_of, way_turn, load_causes, file_causes, save_causes, line_turn, step, of_line}
use Rattle.evm_model.specs.Laws.{changes_a_slot, NoSlotComesOrGoes, OthersLeaveSlots, ReadsTellMeasures, NothingIsRead, HandoversTellMeasures, MetersAreGivenUp}
use Rattle.evm_model.proofs.StepLaws.{IsHanding, IsPlain, plain_way}
pub use Rattle.evm_model.proofs.WellSlots.{with_slots, some_watches, well_slots, well_bare, slot_set}

-- an edit leaves all slots
pub edit_slots : (scene : Scene) (edit : Edit) → (after scene edit).slots ≡ scene.slots
edit_slots scene (Def name formula) = by (stands scene name)
  where
    by : (b : Bool) → (cond {A = Scene} b (record scene { entries = with_entry scene.entries name (made_entry scene name formula) }) (with_new scene name (formula_dim scene formula) (Made formula))).slots ≡ scene.slots
    by true = refl
    by false = refl
edit_slots scene _ = refl

-- a change of a slot leaves all names
pub slots_names : (scene : Scene) (k : ℤ) (name : List ℕ) → ((attached scene k name).entries ≡ scene.entries) × ((detached scene k).entries ≡ scene.entries)
slots_names scene k name = (refl, refl)

-- the slot of a number that a change of it leaves
pub slot_after : (scene : Scene) (k : ℤ) (old new : Slot) → slot_at scene k ≡ Some old → slot_at (with_slots scene (set scene.slots (nat_abs k) new)) k ≡ Some new
slot_after scene k old new h = by (int_lt k (pos 0)) h
  where
    by : (b : Bool) → cond b None (slice_get scene.slots (nat_abs k)) ≡ Some old → cond b None (slice_get (set scene.slots (nat_abs k) new) (nat_abs k)) ≡ Some new
    by true q = absurd (never q)
      where
        never : None ≡ Some old → ⊥
        never e = cc
    by false q = slot_set scene.slots (nat_abs k) old new q

-- a meter that was handed to a name reads the measure of its value
pub attached_reads : (scene : Scene) (k : ℤ) (name : List ℕ) (kind : Measure) → slot_at scene k ≡ Some (Free kind)
    → reading (attached scene k name) k ≡ Some (measure_of kind (value scene name))
attached_reads scene k name kind h =
    ap (slot_reading (value scene)) (slot_after scene k (Free kind) (handed name (slot_at scene k)) h ∙ ap (λ (o : Option Slot). Some (handed name o)) h)

-- a slot that watches a name reads the measure of what its value is after an edit
pub readings_follow : (scene : Scene) (edit : Edit) (k : ℤ) (name : List ℕ) (kind : Measure) → slot_at scene k ≡ Some (Watches kind name)
    → reading (after scene edit) k ≡ Some (measure_of kind (value (after scene edit) name))
readings_follow scene edit k name kind h =
    ap (slot_reading (value (after scene edit)))
    (ap (λ (t : List Slot). cond (int_lt k (pos 0)) None (slice_get t (nat_abs k))) (edit_slots scene edit) ∙ h)

-- ---- what a line leaves of the slots

-- what holds of the slots of a scene, and of those that a way leaves which is not refused, holds after it
unrefused_slots : (P : List Slot → Type 0) (o : Option Code) (scene : Scene) (turn : Turn) → P scene.slots → P turn.scene.slots → P (unless_refused o scene turn).scene.slots
unrefused_slots P None scene turn h k = k
unrefused_slots P (Some code) scene turn h k = h

-- what a change of a slot leaves of the slots, where a way is one
abbrev HandsKeep : (List Slot → Type 0) → Scene → Way → Type 0
HandsKeep P scene (Hands causes answer left) = P (left scene).slots
HandsKeep P scene _ = Unit {0}

-- what holds of the slots of a scene, and of those that a change of a slot leaves, holds after a way
way_slots : (P : List Slot → Type 0) (fetched : Fetches) (scene : Scene) (way : Way) → HandsKeep P scene way → P scene.slots → P (way_turn fetched scene way).scene.slots
way_slots P fetched scene (Edits edit) hand h =
    unrefused_slots P (refusal scene edit) scene _ h (subst P (sym (edit_slots scene edit)) h)
way_slots P fetched scene (Asks causes answer) hand h = unrefused_slots P (first_cause (causes scene)) scene _ h h
way_slots P fetched scene (Loads name form file) hand h =
    unrefused_slots P (first_cause (load_causes scene name form ++ file_causes fetched scene name form file)) scene _ h h
way_slots P fetched scene (Saves name form file) hand h = unrefused_slots P (first_cause (save_causes scene name form)) scene _ h h
way_slots P fetched scene (Hands causes answer left) hand h = unrefused_slots P (first_cause (causes scene)) scene _ h hand

line_slots : (P : List Slot → Type 0) (fetched : Fetches) (scene : Scene) (r : Result Command LineError) → ((c : Command) → r ≡ Ok c → HandsKeep P scene (way_of c))
    → P scene.slots → P (line_turn fetched scene r).scene.slots
line_slots P fetched scene (Ok c) hand h = way_slots P fetched scene (way_of c) (hand c refl) h
line_slots P fetched scene (Err e) hand h = h

-- what each change of a slot leaves
hands_keep : (P : List Slot → Type 0) (scene : Scene) (way : Way) → ((causes : Scene → List (Bool × Code)) (answer : Scene → Reply) (left : Scene → Scene) → IsHanding causes answer left → P (left scene).slots)
    → IsPlain way → HandsKeep P scene way
hands_keep P scene (Hands causes answer left) hand p = hand causes answer left p
hands_keep P scene _ hand p = tt

-- a line leaves as many slots
pub slots_fixed : (fetched : Fetches) (scene : Scene) (line : List ℕ) → length (step fetched scene line).scene.slots ≡ length scene.slots
unfolding step
slots_fixed fetched scene line =
    line_slots (λ t. length t ≡ length scene.slots) fetched scene (command line)
    (λ c e. hands_keep (λ t. length t ≡ length scene.slots) scene (way_of c) (λ causes answer left h. h.fixed scene) (plain_way c)) refl

same_places : (t u : List Slot) (i : ℕ) → length t ≡ length u → is_some (slice_get t i) ≡ is_some (slice_get u i)
same_places [] [] i e = refl
same_places [] (y ∷ u) i e = absurd (omega arith)
same_places (x ∷ t) [] i e = absurd (omega arith)
same_places (x ∷ t) (y ∷ u) zero e = refl
same_places (x ∷ t) (y ∷ u) (suc i) e = same_places t u i (omega arith)

-- so it makes no slot and takes none out
pub none_comes_or_goes : NoSlotComesOrGoes
none_comes_or_goes fetched scene line k = by (int_lt k (pos 0)) (step fetched scene line).scene.slots (slots_fixed fetched scene line)
  where
    by : (b : Bool) (t : List Slot) → length t ≡ length scene.slots → is_some (cond b None (slice_get t (nat_abs k))) ≡ is_some (cond b None (slice_get scene.slots (nat_abs k)))
    by true t e = refl
    by false t e = same_places t scene.slots (nat_abs k) e

-- and each that is gone
pub gone_stays : (fetched : Fetches) (scene : Scene) (line : List ℕ) (k : ℤ) → slot_at scene k ≡ Some Gone → slot_at (step fetched scene line).scene k ≡ Some Gone
unfolding step
gone_stays fetched scene line k h =
    line_slots IsGone fetched scene (command line)
    (λ c e. hands_keep IsGone scene (way_of c) (λ causes answer left is. by (left scene) (int_lt k (pos 0)) (λ g. is.gone scene (nat_abs k) g) h) (plain_way c)) h
  where
    IsGone : List Slot → Type 0
    IsGone t = cond (int_lt k (pos 0)) None (slice_get t (nat_abs k)) ≡ Some Gone

    by : (left : Scene) (b : Bool) → (slice_get scene.slots (nat_abs k) ≡ Some Gone → slice_get left.slots (nat_abs k) ≡ Some Gone)
        → cond b None (slice_get scene.slots (nat_abs k)) ≡ Some Gone → cond b None (slice_get left.slots (nat_abs k)) ≡ Some Gone
    by left true kept q = q
    by left false kept q = kept q

no_hand : (scene : Scene) (c : Command) → changes_a_slot c ≡ false → HandsKeep (λ t. t ≡ scene.slots) scene (way_of c)
no_hand scene (commands.Meter slot name) h = absurd (false≢true (sym h))
no_hand scene (commands.Unmeter slot) h = absurd (false≢true (sym h))
no_hand scene _ h = tt

-- a line that hands no meter to a name and gives none up leaves all slots
pub others_leave : OthersLeaveSlots
unfolding step
others_leave fetched scene line h =
    line_slots (λ t. t ≡ scene.slots) fetched scene (command line)
    (λ c e. no_hand scene c (ap (of_line changes_a_slot) (sym e) ∙ h)) refl

-- ---- what a line on a slot answers

pub reads_tell : ReadsTellMeasures
unfolding step
reads_tell fetched scene line name k kind e h =
    ap (λ r. (line_turn fetched scene r).reply) e
    ∙ ap (λ (o : Option ℕ). (asked ((not (is_some o), Meter) ∷ []) scene (read_off o)).reply) (ap (slot_reading (value scene)) h)

pub nothing_read : NothingIsRead
unfolding step
nothing_read fetched scene line k e h =
    ap (λ r. (line_turn fetched scene r).reply) e
    ∙ ap (λ (o : Option ℕ). (asked ((not (is_some o), Meter) ∷ []) scene (read_off o)).reply) h

pub handovers_tell : HandoversTellMeasures
unfolding step
handovers_tell fetched scene line name k kind e s h =
    let made : step fetched scene line ≡ record { reply = read_off (reading (attached scene k name) k); scene = attached scene k name; placed = None } =
    ap (line_turn fetched scene) e
    ∙ ap₂ (λ (b : Bool) (o : Option Slot). handed_on ((not b, Name) ∷ (not (slot_is_free o), Meter) ∷ []) scene (read_off (reading (attached scene k name) k)) (attached scene k name)) s h in (
      ap (λ (t : Turn). t.reply) made ∙ ap read_off (attached_reads scene k name kind h),
      ap (λ (t : Turn). slot_at t.scene k) made ∙ slot_after scene k (Free kind) (handed name (slot_at scene k)) h ∙ ap (λ (o : Option Slot). Some (handed name o)) h,
    )

pub given_up : MetersAreGivenUp
unfolding step
given_up fetched scene line name k kind e h =
    let made : step fetched scene line ≡ record { reply = Done; scene = detached scene k; placed = None } =
    ap (line_turn fetched scene) e
    ∙ ap (λ (o : Option ℕ). handed_on ((not (is_some o), Meter) ∷ []) scene Done (detached scene k)) (ap (slot_reading (value scene)) h) in
    (ap (λ (t : Turn). t.reply) made, ap (λ (t : Turn). slot_at t.scene k) made ∙ slot_after scene k (Watches kind name) Gone h)

-- ---- a scene with other slots

-- a name has the same value, stands as it did, and is of the same kind and dimension
pub same_names : (s : Scene) (t : List Slot) (x : List ℕ)
    → (value (with_slots s t) x ≡ value s x) × (dim_of (with_slots s t) x ≡ dim_of s x) × (stands (with_slots s t) x ≡ stands s x) × (is_input (with_slots s t) x ≡ is_input s x)
same_names s t x = (refl, refl, refl, refl)

-- an edit leaves the other slots
pub after_slots : (s : Scene) (t : List Slot) (edit : Edit) → after (with_slots s t) edit ≡ with_slots (after s edit) t
after_slots s t (Def name formula) = by (stands s name)
  where
    by : (b : Bool)
        → cond {A = Scene} b (record s { entries = with_entry s.entries name (made_entry s name formula); slots = t }) (with_new (with_slots s t) name (formula_dim s formula) (Made formula))
        ≡ with_slots (cond b (record s { entries = with_entry s.entries name (made_entry s name formula) }) (with_new s name (formula_dim s formula) (Made formula))) t
    by true = refl
    by false = refl
after_slots s t _ = refl

-- an edit changes as many names
pub changed_slots : (s : Scene) (t : List Slot) (edit : Edit) → changed (with_slots s t) edit ≡ changed s edit
changed_slots s t edit = ap (λ (u : Scene). changed_names s u) (after_slots s t edit)

abbrev pub is_drop : Edit → Bool
is_drop (Drop name) = true
is_drop _ = false

-- an edit that is no drop is refused as it was
pub refusal_slots : (s : Scene) (t : List Slot) (edit : Edit) → is_drop edit ≡ false → refusal (with_slots s t) edit ≡ refusal s edit
refusal_slots s t (Def name formula) h =
    ap (λ (u : Scene). first_cause (def_causes s name formula ++ value_causes u)) (after_slots s t (Def name formula))
refusal_slots s t (Drop name) h = absurd (false≢true (sym h))
refusal_slots s t _ h = refl

-- what refuses a drop of a name that slots may watch, where this refuses it otherwise
abbrev pub or_used : Bool → Option Code → Option Code
or_used watched (Some code) = Some code
or_used watched None = cond watched (Some Used) None

-- a drop is refused as it is without slots, or where some slot watches its name
pub refusal_drop : (s : Scene) (t : List Slot) (name : List ℕ) → refusal (with_slots s t) (Drop name) ≡ or_used (some_watches t name) (refusal (with_slots s []) (Drop name))
refusal_drop s t name = by (stands s name) (is_read s name) (some_watches t name)
  where
    by : (a b c : Bool) → first_cause ((not a, Name) ∷ (b || c, Used) ∷ []) ≡ or_used c (first_cause ((not a, Name) ∷ (b || false, Used) ∷ []))
    by false b c = refl
    by true true c = refl
    by true false true = refl
    by true false false = refl
