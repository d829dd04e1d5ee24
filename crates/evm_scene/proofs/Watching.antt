-- What slots keep where the table below them changes.
use Rattle.std.proofs.Common.{◌≡◌, ℕ, zero, suc, Bool, true, false, cond, ◌||◌, List, [], ◌∷◌, map, Option, None, Some, refl, sym, ap, subst, ◌∙◌, true≢false, is_some, slice_get, bytes_eq}
use Rattle.std.specs.List.{list_any}
use Rattle.std.proofs.lemmas.Option.{same_Some, none-some}
use Rattle.evm_model.specs.Figures.{Figure}
use Rattle.evm_model.specs.Scene.{measure_of, slot_watches}
use Rattle.evm_model.proofs.Names.{or_left, or_right, same_name, name_itself}
use Rattle.evm_model.proofs.SlotLaws.{some_watches}
use Rattle.evm_watch.specs.Slots.{Seen, Free, Watches, Gone, seen_watches, or_pending, seen_committed}
use Rattle.evm_scene.specs.declared.node.Node.{Node}
use Rattle.evm_formulas.specs.declared.changes.Change.{Change}
use Rattle.evm_scene.specs.Tables.{Table, node_at, node_figure, kept}
use Rattle.evm_formulas.specs.Changes.{after_of}
use Rattle.evm_scene.specs.Changes.{Pending, change_at, moved}
use Rattle.evm_scene.specs.Watched.{slot_of, slots_of, Follows, AllFollow, IsWatched, StaysWatched, or_after, prepared_by}

-- a slot watches the same names as the model words it
pub same_watched : (slots : List Seen) (x : List ℕ) → some_watches (slots_of slots) x ≡ list_any (seen_watches x) slots
same_watched [] x = refl
same_watched (s ∷ ss) x = λ i. one s i || same_watched ss x i
  where
    one : (s : Seen) → slot_watches x (slot_of s) ≡ seen_watches x s
    one (Free kind) = refl
    one (Watches kind name reading pending) = refl
    one Gone = refl

seen_any : (slots : List Seen) (k : ℕ) (s : Seen) (x : List ℕ) → slice_get slots k ≡ Some s → seen_watches x s ≡ true → list_any (seen_watches x) slots ≡ true
seen_any [] k s x h w = absurd (none-some s h)
seen_any (a ∷ ss) zero s x h w = or_left (seen_watches x a) (list_any (seen_watches x) ss) (ap (seen_watches x) (same_Some a s h) ∙ w)
seen_any (a ∷ ss) (suc k) s x h w = or_right (seen_watches x a) (list_any (seen_watches x) ss) (seen_any ss k s x h w)

-- ---- the slots stay

pub stays_watched : (t : Table) (old new : List Seen) → IsWatched t old → new ≡ old → StaysWatched t old new
stays_watched t old new w e = record { same = ap slots_of e; watched = subst (λ (l : List Seen). IsWatched t l) (sym e) w }

follows_same : (f g : List ℕ → Figure) (s : Seen) → ((x : List ℕ) → seen_watches x s ≡ true → f x ≡ g x) → Follows f s → Follows g s
follows_same f g (Free kind) e h = tt
follows_same f g (Watches kind name reading pending) e h = (h.0 ∙ ap (λ (v : Figure). Some (measure_of kind v)) (e name (name_itself name)), h.1)
follows_same f g Gone e h = tt

-- where each watched name has the node that it had
pub watched_others : (t u : Table) (slots : List Seen) → IsWatched t slots → ((x : List ℕ) → list_any (seen_watches x) slots ≡ true → node_at u x ≡ node_at t x) → IsWatched u slots
watched_others t u slots w same = record {
  follow = λ k s h. follows_same (kept t) (kept u) s (λ x q. ap node_figure (sym (same x (seen_any slots k s x h q)))) (w.follow k s h);
  stand = λ x h. ap (λ (o : Option Node). is_some o) (same x h) ∙ w.stand x h;
}

-- where each name that stood has the node that it had
pub watched_added : (t u : Table) (slots : List Seen) → IsWatched t slots → ((x : List ℕ) → is_some (node_at t x) ≡ true → node_at u x ≡ node_at t x) → IsWatched u slots
watched_added t u slots w same = watched_others t u slots w (λ x h. same x (w.stand x h))

-- where a name that no slot watches is taken out
pub watched_less : (t u : Table) (slots : List Seen) (name : List ℕ) → IsWatched t slots → list_any (seen_watches name) slots ≡ false
    → ((x : List ℕ) → node_at u x ≡ cond (bytes_eq name x) None (node_at t x)) → IsWatched u slots
watched_less t u slots name w free places = watched_others t u slots w (λ x h. places x ∙ by x h (bytes_eq name x) refl)
  where
    by : (x : List ℕ) → list_any (seen_watches x) slots ≡ true → (b : Bool) → bytes_eq name x ≡ b → cond (bytes_eq name x) None (node_at t x) ≡ node_at t x
    by x h true d = absurd (true≢false (sym h ∙ ap (λ (y : List ℕ). list_any (seen_watches y) slots) (sym (same_name name x d)) ∙ free))
    by x h false d = ap (λ b. cond b None (node_at t x)) d

-- ---- the changes are in place, and the readings committed

committed_one : (t u : Table) (p : Pending) (s : Seen) → ((x : List ℕ) → seen_watches x s ≡ true → moved t p x ≡ kept u x) → Follows (kept t) s → Follows (kept u) (seen_committed (prepared_by p s))
committed_one t u p (Free kind) e h = tt
committed_one t u p (Watches kind name reading pending) e h = by (change_at p name) refl
  where
    by : (o : Option Change) → change_at p name ≡ o → Follows (kept u) (seen_committed (Watches kind name reading (or_after o kind pending)))
    by None q = (
      ap (or_pending reading) h.1 ∙ h.0
          ∙ ap (λ (v : Figure). Some (measure_of kind v)) (sym (ap (λ (o : Option Change). after_of o (kept t name)) q) ∙ e name (name_itself name)),
      refl,
    )
    by (Some c) q = (
      ap (λ (v : Figure). Some (measure_of kind v)) (sym (ap (λ (o : Option Change). after_of o (kept t name)) q) ∙ e name (name_itself name)),
      refl,
    )
committed_one t u p Gone e h = tt

committed_all : (t u : Table) (p : Pending) (slots : List Seen) → ((x : List ℕ) → list_any (seen_watches x) slots ≡ true → moved t p x ≡ kept u x) → AllFollow (kept t) slots
    → AllFollow (kept u) (map seen_committed (map (prepared_by p) slots))
committed_all t u p [] e h k s q = absurd (none-some s q)
committed_all t u p (a ∷ ss) e h zero s q =
    subst (Follows (kept u)) (same_Some (seen_committed (prepared_by p a)) s q)
    (committed_one t u p a (λ x w. e x (or_left (seen_watches x a) (list_any (seen_watches x) ss) w)) (h zero a refl))
committed_all t u p (a ∷ ss) e h (suc k) s q =
    committed_all t u p ss (λ x w. e x (or_right (seen_watches x a) (list_any (seen_watches x) ss) w)) (λ j z r. h (suc j) z r) k s q

committed_slots : (p : Pending) (slots : List Seen) → slots_of (map seen_committed (map (prepared_by p) slots)) ≡ slots_of slots
committed_slots p [] = refl
committed_slots p (s ∷ ss) = λ i. one s i ∷ committed_slots p ss i
  where
    one : (s : Seen) → slot_of (seen_committed (prepared_by p s)) ≡ slot_of s
    one (Free kind) = refl
    one (Watches kind name reading pending) = refl
    one Gone = refl

committed : (t u : Table) (p : Pending) (slots : List Seen) → IsWatched t slots → ((x : List ℕ) → is_some (node_at t x) ≡ true → moved t p x ≡ kept u x)
    → ((x : List ℕ) → is_some (node_at u x) ≡ is_some (node_at t x)) → StaysWatched u slots (map seen_committed (map (prepared_by p) slots))
committed t u p slots w values stands = record {
  same = committed_slots p slots;
  watched = record {
    follow = committed_all t u p slots (λ x h. values x (w.stand x h)) w.follow;
    stand = λ x h. stands x ∙ w.stand x (before x h);
  };
}
  where
    before : (x : List ℕ) → list_any (seen_watches x) (map seen_committed (map (prepared_by p) slots)) ≡ true → list_any (seen_watches x) slots ≡ true
    before x h =
        sym (same_watched slots x) ∙ ap (λ l. some_watches l x) (sym (committed_slots p slots))
        ∙ same_watched (map seen_committed (map (prepared_by p) slots)) x ∙ h

pub all_committed : (t u : Table) (p : Pending) (slots ready new : List Seen) → IsWatched t slots → ready ≡ map (prepared_by p) slots → new ≡ map seen_committed ready
    → ((x : List ℕ) → is_some (node_at t x) ≡ true → moved t p x ≡ kept u x) → ((x : List ℕ) → is_some (node_at u x) ≡ is_some (node_at t x)) → StaysWatched u slots new
all_committed t u p slots ready new w e f values stands =
    subst (λ (l : List Seen). StaysWatched u slots l) (sym (f ∙ ap (λ (l : List Seen). map seen_committed l) e)) (committed t u p slots w values stands)
