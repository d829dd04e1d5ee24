-- Slots that are handed a name, or given up.
use Rattle.std.proofs.Common.{◌≡◌, ℕ, zero, suc, true, false, ◌||◌, List, [], ◌∷◌, set, Option, None, Some, Ok, Err, ℤ, pos, refl, sym, ap, subst, ◌∙◌, true≢false, is_some, slice_get}
use Rattle.std.specs.Prelude.{option_map, MatchOption}
use Rattle.std.specs.List.{list_any}
use Rattle.std.proofs.lemmas.List.{map-set}
use Rattle.std.proofs.lemmas.Option.{slice_get-map, same_Some, none-some}
use Rattle.evm_rows.specs.Rows.{Vertices}
use Rattle.evm_model.specs.Figures.{Figure}
use Rattle.evm_model.specs.Scene as model
use Rattle.evm_model.specs.Scene.{Slot, value, handed, slot_is_free, attached, detached}
use Rattle.evm_model.proofs.Names.{by_or, or_left, or_right, same_name}
use Rattle.evm_watch.specs.Slots.{Seen, Free, Watches, Gone, seen_watches, seen_reading, seen_is_free, seen_attached}
use Rattle.evm_scene.specs.declared.edit.AttachError.TheVariants as errors
use Rattle.evm_formulas.specs.Stated.{figure_of}
use Rattle.evm_scene.specs.Tables.{Table, node_at, kept, entries_of, scene_of}
use Rattle.evm_scene.specs.Watched.{slot_of, slots_of, Follows, AllFollow, IsWatched, watched_scene, Attaches}
use Rattle.evm_scene.proofs.Views.{stands_at}
use Rattle.evm_scene.proofs.Slotted.{slot_is, reads_value}

-- ---- one slot is another

follow_set : (at : List ℕ → Figure) (slots : List Seen) (k : ℕ) (s : Seen) → AllFollow at slots → Follows at s → AllFollow at (set slots k s)
follow_set at [] k s h f j z q = absurd (none-some z q)
follow_set at (a ∷ ss) zero s h f zero z q = subst (Follows at) (same_Some s z q) f
follow_set at (a ∷ ss) zero s h f (suc j) z q = h (suc j) z q
follow_set at (a ∷ ss) (suc k) s h f zero z q = h zero z q
follow_set at (a ∷ ss) (suc k) s h f (suc j) z q = follow_set at ss k s (λ i y r. h (suc i) y r) f j z q

any_set : (x : List ℕ) (slots : List Seen) (k : ℕ) (s : Seen) → list_any (seen_watches x) (set slots k s) ≡ true → (seen_watches x s || list_any (seen_watches x) slots) ≡ true
any_set x [] k s h = absurd (true≢false (sym h))
any_set x (a ∷ ss) zero s h =
    by_or (seen_watches x s) (list_any (seen_watches x) ss) h
    (λ q. or_left (seen_watches x s) (list_any (seen_watches x) (a ∷ ss)) q)
    (λ q. or_right (seen_watches x s) (list_any (seen_watches x) (a ∷ ss)) (or_right (seen_watches x a) (list_any (seen_watches x) ss) q))
any_set x (a ∷ ss) (suc k) s h =
    by_or (seen_watches x a) (list_any (seen_watches x) (set ss k s)) h
    (λ q. or_right (seen_watches x s) (list_any (seen_watches x) (a ∷ ss)) (or_left (seen_watches x a) (list_any (seen_watches x) ss) q))
    (λ q. by_or (seen_watches x s) (list_any (seen_watches x) ss) (any_set x ss k s q)
    (λ r. or_left (seen_watches x s) (list_any (seen_watches x) (a ∷ ss)) r)
    (λ r. or_right (seen_watches x s) (list_any (seen_watches x) (a ∷ ss)) (or_right (seen_watches x a) (list_any (seen_watches x) ss) r)))

watched_set : (t : Table) (slots : List Seen) (k : ℕ) (s : Seen) → IsWatched t slots → Follows (kept t) s → ((x : List ℕ) → seen_watches x s ≡ true → is_some (node_at t x) ≡ true) → IsWatched t (set slots k s)
watched_set t slots k s w f stand = record {
  follow = follow_set (kept t) slots k s w.follow f;
  stand = λ x h. by_or (seen_watches x s) (list_any (seen_watches x) slots) (any_set x slots k s h) (λ q. stand x q) (λ q. w.stand x q);
}

-- ---- a slot is given up

pub watched_gone : (o : Option ℤ) (t : Table) (slots new : List Seen) (k : ℕ) → IsWatched t slots → MatchOption o (new ≡ slots) (λ n. new ≡ set slots k Gone) → IsWatched t new
watched_gone None t slots new k w h = subst (λ (l : List Seen). IsWatched t l) (sym h) w
watched_gone (Some n) t slots new k w h =
    subst (λ (l : List Seen). IsWatched t l) (sym h) (watched_set t slots k Gone w tt (λ x q. absurd (true≢false (sym q))))

pub scene_gone : (o : Option ℤ) (t : Table) (slots new : List Seen) (k : ℕ) → MatchOption o (new ≡ slots) (λ n. new ≡ set slots k Gone)
    → MatchOption o (watched_scene t new ≡ watched_scene t slots) (λ n. watched_scene t new ≡ detached (watched_scene t slots) (pos k))
scene_gone None t slots new k h = ap (λ (l : List Seen). watched_scene t l) h
scene_gone (Some n) t slots new k h = λ i. record { entries = entries_of t; slots = (ap slots_of h ∙ map-set slot_of slots k Gone) i }

-- ---- a slot is handed a name

handed_free : (name : List ℕ) (a : Vertices) (o : Option Seen) → seen_is_free o ≡ true → slot_of (seen_attached name a o) ≡ handed name (option_map slot_of o)
handed_free name a None h = refl
handed_free name a (Some (Free kind)) h = refl
handed_free name a (Some (Watches kind other reading pending)) h = absurd (true≢false (sym h))
handed_free name a (Some Gone) h = refl

is_free : (o : Option Seen) → slot_is_free (option_map slot_of o) ≡ seen_is_free o
is_free None = refl
is_free (Some (Free kind)) = refl
is_free (Some (Watches kind other reading pending)) = refl
is_free (Some Gone) = refl

slot_seen : (t : Table) (slots : List Seen) (k : ℕ) → model.slot_at (watched_scene t slots) (pos k) ≡ option_map slot_of (slice_get slots k)
slot_seen t slots k = slot_is (watched_scene t slots) k ∙ slice_get-map slot_of slots k

free_seen : (t : Table) (slots : List Seen) (k : ℕ) → slot_is_free (model.slot_at (watched_scene t slots) (pos k)) ≡ seen_is_free (slice_get slots k)
free_seen t slots k = ap slot_is_free (slot_seen t slots k) ∙ is_free (slice_get slots k)

follow_handed : (at : List ℕ → Figure) (name : List ℕ) (a : Vertices) (o : Option Seen) → figure_of a ≡ at name → seen_is_free o ≡ true → Follows at (seen_attached name a o)
follow_handed at name a None e h = tt
follow_handed at name a (Some (Free kind)) e h = (ap (λ (v : Figure). Some (model.measure_of kind v)) e, refl)
follow_handed at name a (Some (Watches kind other reading pending)) e h = absurd (true≢false (sym h))
follow_handed at name a (Some Gone) e h = tt

watches_handed : (name : List ℕ) (a : Vertices) (o : Option Seen) (x : List ℕ) → seen_is_free o ≡ true → seen_watches x (seen_attached name a o) ≡ true → x ≡ name
watches_handed name a None x h q = absurd (true≢false (sym q))
watches_handed name a (Some (Free kind)) x h q = same_name x name q
watches_handed name a (Some (Watches kind other reading pending)) x h q = absurd (true≢false (sym h))
watches_handed name a (Some Gone) x h q = absurd (true≢false (sym q))

module _ (t : Table) (slots new : List Seen) (k : ℕ) (name : List ℕ) (a : Vertices) (w : IsWatched t slots)
    (there : is_some (node_at t name) ≡ true) (same : figure_of a ≡ kept t name) (free : seen_is_free (slice_get slots k) ≡ true)
    (done : new ≡ set slots k (seen_attached name a (slice_get slots k))) where
  pub watched_handed : IsWatched t new
  watched_handed =
      subst (λ (l : List Seen). IsWatched t l) (sym done)
      (watched_set t slots k (seen_attached name a (slice_get slots k)) w
      (follow_handed (kept t) name a (slice_get slots k) same free)
      (λ x q. ap (λ (y : List ℕ). is_some (node_at t y)) (watches_handed name a (slice_get slots k) x free q) ∙ there))

  handed_slots : slots_of new ≡ set (slots_of slots) k (handed name (model.slot_at (watched_scene t slots) (pos k)))
  handed_slots =
      ap slots_of done ∙ map-set slot_of slots k (seen_attached name a (slice_get slots k))
      ∙ ap (set (slots_of slots) k) (handed_free name a (slice_get slots k) free ∙ ap (handed name) (sym (slot_seen t slots k)))

  pub attached_done : (n : ℤ) → ((x : List ℕ) → kept t x ≡ value (scene_of t) x) → Some n ≡ option_map pos (seen_reading (slice_get new k))
      → Attaches (Ok n) (watched_scene t slots) (watched_scene t new) k name
  attached_done n values read = (
    stands_at t name ∙ there,
    free_seen t slots k ∙ free,
    λ i. record { entries = entries_of t; slots = handed_slots i },
    sym (read ∙ ap (λ (o : Option ℕ). option_map pos o) (reads_value t new k values watched_handed)),
  )

pub attached_not : (t : Table) (slots new : List Seen) (k : ℕ) (name : List ℕ) → is_some (node_at t name) ≡ true → seen_is_free (slice_get slots k) ≡ false → new ≡ slots
    → Attaches (Err errors.Slot) (watched_scene t slots) (watched_scene t new) k name
attached_not t slots new k name there taken e = (
  stands_at t name ∙ there,
  free_seen t slots k ∙ taken,
  ap (λ (l : List Seen). watched_scene t l) e,
)
