use Rattle.std.proofs.Common.{◌≡◌, ℕ, List, Bool, true, false, is_some, rules, refl, sym, subst, ap, ◌∙◌}
use Rattle.std.specs.List.{list_any}
use Rattle.evm_model.specs.Orders.{is_among}
use Rattle.evm_model.specs.Scene.{is_read}
use Rattle.evm_model.proofs.SlotLaws.{some_watches, well_bare}
use Rattle.evm_scene.specs.Tables.{node_at, reads_at, scene_of}
use Rattle.evm_scene.specs.Orders.{IsKept}
use Rattle.evm_scene.specs.Watched.{slots_of}
use Rattle.evm_scene.proofs.Unread.{used_is_read}
use Rattle.evm_scene.proofs.TakenOut.{kept_without, less_by, drop_refusal, drop_done}
use Rattle.evm_scene.proofs.Watching.{same_watched, watched_less}
use Rattle.evm_scene.proofs.removed.remove.Goals as goal

pub returns-then-not-contains_key-clause-applies : goal.returns-then-not-contains_key-clause-applies
returns-then-not-contains_key-clause-applies g c =
    let t = c.args.table.now.entries in
    let x = c.args.name.now in
    let out : is_some (node_at t x) ≡ false = search rules in
    (drop_refusal t (slots_of c.args.slots.now) x false (is_read (scene_of t) x) (some_watches (slots_of c.args.slots.now) x) out refl refl, refl)

read_by : (t : List (List ℕ)) (f : List ℕ → Bool) (o2 : List (List ℕ)) (b v w : Bool) → o2 ≡ t → b ≡ list_any f o2 → b ≡ v → list_any f t ≡ w → w ≡ v
read_by t f o2 b v w e h k r = sym r ∙ ap (λ l. list_any f l) (sym e) ∙ sym h ∙ k

pub returns-then-is_used-clause-applies : goal.returns-then-is_used-clause-applies
returns-then-is_used-clause-applies g c =
    let t = c.args.table.now.entries in
    let x = c.args.name.now in
    let slots = slots_of c.args.slots.now in
    let there : is_some (node_at t x) ≡ true = search rules in
    let read = read_by c.args.order.now.items (λ y. is_among x (reads_at t y)) _ _ true _ c.as_slice.ensures.value c.is_used.ensures c.if-is_used.true
    (used_is_read t c.args.order.now.items c.requires.kept (well_bare (scene_of t) slots c.requires.well) x) in
    (drop_refusal t slots x true true (some_watches slots x) there read refl, refl)

pub returns-then-watches-clause-applies : goal.returns-then-watches-clause-applies
returns-then-watches-clause-applies g c =
    let t = c.args.table.now.entries in
    let x = c.args.name.now in
    let slots = slots_of c.args.slots.now in
    let there : is_some (node_at t x) ≡ true = search rules in
    let free = read_by c.args.order.now.items (λ y. is_among x (reads_at t y)) _ _ false _ c.as_slice.ensures.value c.is_used.ensures c.if-is_used.false
    (used_is_read t c.args.order.now.items c.requires.kept (well_bare (scene_of t) slots c.requires.well) x) in
    (drop_refusal t slots x true false true there free (same_watched c.args.slots.now x ∙ sym c.watches.ensures ∙ c.if-watches.true), refl)

pub returns-clause-kept : goal.returns-clause-kept
returns-clause-kept g c =
    let t = c.args.table.now.entries in
    let x = c.args.name.now in
    let slots = slots_of c.args.slots.now in
    let there : is_some (node_at t x) ≡ true = search rules in
    let free = read_by c.args.order.now.items (λ y. is_among x (reads_at t y)) _ _ false _ c.as_slice.ensures.value c.is_used.ensures c.if-is_used.false
    (used_is_read t c.args.order.now.items c.requires.kept (well_bare (scene_of t) slots c.requires.well) x) in
    subst (λ l. IsKept c.shift_remove.new.self.entries l) (sym c.take_out.ensures)
    (kept_without _ _ _ _ c.requires.kept there c.shift_remove.ensures.updates.0
    (less_by _ _ _ c.shift_remove.ensures.len (ap (λ o. is_some o) c.shift_remove.ensures.value ∙ there)) free)

pub returns-clause-watched : goal.returns-clause-watched
returns-clause-watched g c =
    watched_less c.args.table.now.entries _ c.args.slots.now c.args.name.now c.requires.watched (sym c.watches.ensures ∙ c.if-watches.false) c.shift_remove.ensures.updates.0

pub returns-clause-applies : goal.returns-clause-applies
returns-clause-applies g c =
    let t = c.args.table.now.entries in
    let x = c.args.name.now in
    let slots = slots_of c.args.slots.now in
    let there : is_some (node_at t x) ≡ true = search rules in
    let free = read_by c.args.order.now.items (λ y. is_among x (reads_at t y)) _ _ false _ c.as_slice.ensures.value c.is_used.ensures c.if-is_used.false
    (used_is_read t c.args.order.now.items c.requires.kept (well_bare (scene_of t) slots c.requires.well) x) in
    drop_done t c.shift_remove.new.self.entries slots x c.requires.well there free (same_watched c.args.slots.now x ∙ sym c.watches.ensures ∙ c.if-watches.false) c.shift_remove.ensures.entries
