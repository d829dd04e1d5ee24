-- Changes that are prepared one after the other, and forgotten again.
use Rattle.std.proofs.Common.{◌≡◌, ℕ, zero, suc, Bool, true, false, cond, ◌||◌, List, [], ◌∷◌, map, take, Option, None, Some, refl, sym, ap, subst, ◌∙◌, true≢false, is_some, slice_get, bytes_eq, length, ◌+◌, ◌≤◌, arith}
use Rattle.std.specs.List.{list_any, IsDistinct}
use Rattle.std.specs.Map.{keys_of}
use Rattle.std.proofs.lemmas.Option.{same_Some, none-some}
use Rattle.evm_rows.specs.Rows.{Vertices}
use Rattle.evm_meter.specs.Meters.{measured}
use Rattle.evm_model.specs.Figures.{Figure, xor_of}
use Rattle.evm_model.specs.Scene.{measure_of}
use Rattle.evm_model.specs.Orders.{is_among}
use Rattle.evm_model.proofs.Names.{or_left, or_right, same_name, name_itself, name_sym, different_names, by_test, not_both}
use Rattle.evm_model.proofs.Counts.{AllDiffer, differ_distinct}
use Rattle.evm_watch.specs.Slots.{Seen, Free, Watches, Gone, seen_watches, SeenReads, EachReads, seen_prepared, seen_abandoned, IsMoved}
use Rattle.evm_scene.specs.declared.node.Node.{Node}
use Rattle.evm_formulas.specs.declared.changes.Change.{Change}
use Rattle.evm_formulas.specs.Stated.{figure_of}
use Rattle.evm_scene.specs.Tables.{Table, node_at, kept}
use Rattle.evm_formulas.specs.Changes.{IsChange}
use Rattle.evm_scene.specs.Changes.{Pending, change_at}
use Rattle.evm_scene.specs.Watched.{Follows, AllFollow, IsWatched, or_after, prepared_by}

-- ---- one more change

abbrev or_else : Option Change → Option Change → Option Change
or_else None other = other
or_else (Some c) other = Some c

or_none : (o : Option Change) → or_else o None ≡ o
or_none None = refl
or_none (Some c) = refl

take_more : (p : Pending) (k : ℕ) (e : List ℕ × Change) (y : List ℕ) → slice_get p k ≡ Some e → change_at (take (suc k) p) y ≡ or_else (change_at (take k p) y) (cond (bytes_eq y e.0) (Some e.1) None)
take_more [] k e y h = absurd (none-some e h)
take_more (a ∷ p) zero e y h = ap (λ (d : List ℕ × Change). cond (bytes_eq y d.0) (Some d.1) None) (same_Some a e h)
take_more (a ∷ p) (suc k) e y h = by (bytes_eq y a.0) (take_more p k e y h)
  where
    by : (b : Bool) → change_at (take (suc k) p) y ≡ or_else (change_at (take k p) y) (cond (bytes_eq y e.0) (Some e.1) None)
        → cond b (Some a.1) (change_at (take (suc k) p) y) ≡ or_else (cond b (Some a.1) (change_at (take k p) y)) (cond (bytes_eq y e.0) (Some e.1) None)
    by true q = refl
    by false q = q

key_there : (p : Pending) (k : ℕ) (e : List ℕ × Change) → slice_get p k ≡ Some e → is_among e.0 (keys_of p) ≡ true
key_there [] k e h = absurd (none-some e h)
key_there (a ∷ p) zero e h = or_left (bytes_eq e.0 a.0) (is_among e.0 (keys_of p)) (ap (λ (d : List ℕ × Change). bytes_eq e.0 d.0) (same_Some a e h) ∙ name_itself e.0)
key_there (a ∷ p) (suc k) e h = or_right (bytes_eq e.0 a.0) (is_among e.0 (keys_of p)) (key_there p k e h)

-- a change of another name stands before it
apart : (a : List ℕ × Change) (p : Pending) (k : ℕ) (e : List ℕ × Change) → is_among a.0 (keys_of p) ≡ false → slice_get p k ≡ Some e → bytes_eq e.0 a.0 ≡ false
apart a p k e d h =
    different_names e.0 a.0 (λ q. true≢false (sym (key_there p k e h) ∙ ap (λ (x : List ℕ). is_among x (keys_of p)) q ∙ d))

-- no change of the name stands before it
first_of : (p : Pending) (k : ℕ) (e : List ℕ × Change) → AllDiffer (keys_of p) → slice_get p k ≡ Some e → change_at (take k p) e.0 ≡ None
first_of [] k e d h = absurd (none-some e h)
first_of (a ∷ p) zero e d h = refl
first_of (a ∷ p) (suc k) e d h = ap (λ b. cond b (Some a.1) (change_at (take k p) e.0)) (apart a p k e d.0 h) ∙ first_of p k e d.1 h

prepared_one : (p : Pending) (k : ℕ) (e : List ℕ × Change) → AllDiffer (keys_of p) → slice_get p k ≡ Some e → (s : Seen) → seen_prepared e.0 e.1.after (prepared_by (take k p) s) ≡ prepared_by (take (suc k) p) s
prepared_one p k e d h (Free kind) = refl
prepared_one p k e d h Gone = refl
prepared_one p k e d h (Watches kind name reading pending) =
    ap (λ (o : Option ℕ). Watches kind name reading o) (by (bytes_eq e.0 name) refl)
  where
    by : (b : Bool) → bytes_eq e.0 name ≡ b → cond (bytes_eq e.0 name) (Some (measured kind e.1.after)) (or_after (change_at (take k p) name) kind pending) ≡ or_after (change_at (take (suc k) p) name) kind pending
    by true q =
        ap (λ b. cond b (Some (measured kind e.1.after)) (or_after (change_at (take k p) name) kind pending)) q
        ∙ sym (ap (λ (o : Option Change). or_after o kind pending)
        (take_more p k e name h
        ∙ (λ i. or_else ((ap (λ (x : List ℕ). change_at (take k p) x) (sym (same_name e.0 name q)) ∙ first_of p k e d h) i) (cond ((name_sym name e.0 ∙ q) i) (Some e.1) None))))
    by false q =
        ap (λ b. cond b (Some (measured kind e.1.after)) (or_after (change_at (take k p) name) kind pending)) q
        ∙ sym (ap (λ (o : Option Change). or_after o kind pending)
        (take_more p k e name h
        ∙ ap (λ b. or_else (change_at (take k p) name) (cond b (Some e.1) None)) (name_sym name e.0 ∙ q)
        ∙ or_none (change_at (take k p) name)))

prepared_all : (p : Pending) (k : ℕ) (e : List ℕ × Change) → AllDiffer (keys_of p) → slice_get p k ≡ Some e → (slots : List Seen)
    → map (seen_prepared e.0 e.1.after) (map (prepared_by (take k p)) slots) ≡ map (prepared_by (take (suc k) p)) slots
prepared_all p k e d h [] = refl
prepared_all p k e d h (s ∷ ss) = λ i. prepared_one p k e d h s i ∷ prepared_all p k e d h ss i

pub prepared_next : (p : Pending) (k : ℕ) (e : List ℕ × Change) (slots now next : List Seen) → IsDistinct bytes_eq (keys_of p) → slice_get p k ≡ Some e → now ≡ map (prepared_by (take k p)) slots
    → next ≡ map (seen_prepared e.0 e.1.after) now → next ≡ map (prepared_by (take (k + 1) p)) slots
prepared_next p k e slots now next d h q r =
    r ∙ ap (λ (l : List Seen). map (seen_prepared e.0 e.1.after) l) q ∙ prepared_all p k e (differ_distinct (keys_of p) d) h slots
    ∙ ap (λ (n : ℕ). map (prepared_by (take n p)) slots) (let m : suc k ≡ k + 1 = omega arith in m)

take_all : (p : Pending) (n : ℕ) → length p ≤ n → take n p ≡ p
take_all [] zero h = refl
take_all [] (suc n) h = refl
take_all (a ∷ p) zero h = absurd (omega arith)
take_all (a ∷ p) (suc n) h = ap (λ (q : Pending). a ∷ q) (take_all p n (omega arith))

pub prepared_whole : (p : Pending) (n : ℕ) (slots now : List Seen) → length p ≤ n → now ≡ map (prepared_by (take n p)) slots → now ≡ map (prepared_by p) slots
prepared_whole p n slots now h q = q ∙ ap (λ (r : Pending). map (prepared_by r) slots) (take_all p n h)

-- ---- what is handed to the slots of a name

reads_one : (f : List ℕ → Figure) (p : Pending) (name : List ℕ) (a : Vertices) (s : Seen) → change_at p name ≡ None → figure_of a ≡ f name → Follows f s → SeenReads name a (prepared_by p s)
reads_one f p name a (Free kind) c e h = tt
reads_one f p name a Gone c e h = tt
reads_one f p name a (Watches kind other reading pending) c e h = λ w. (
  h.0 ∙ ap (λ (v : Figure). Some (measure_of kind v)) (ap f (sym (same_name name other w)) ∙ sym e),
  ap (λ (o : Option Change). or_after o kind pending) (ap (λ (x : List ℕ). change_at p x) (sym (same_name name other w)) ∙ c) ∙ h.1,
)

reads_all : (f : List ℕ → Figure) (p : Pending) (name : List ℕ) (a : Vertices) (slots : List Seen) → change_at p name ≡ None → figure_of a ≡ f name → AllFollow f slots → EachReads name a (map (prepared_by p) slots)
reads_all f p name a [] c e h k s q = absurd (none-some s q)
reads_all f p name a (x ∷ ss) c e h zero s q = subst (SeenReads name a) (same_Some (prepared_by p x) s q) (reads_one f p name a x c e (h zero x refl))
reads_all f p name a (x ∷ ss) c e h (suc k) s q = reads_all f p name a ss c e (λ j z r. h (suc j) z r) k s q

pub each_reads : (t : Table) (p : Pending) (k : ℕ) (e : List ℕ × Change) (slots now : List Seen) → IsWatched t slots → IsDistinct bytes_eq (keys_of p) → slice_get p k ≡ Some e → now ≡ map (prepared_by (take k p)) slots
    → (a : Vertices) → figure_of a ≡ kept t e.0 → EachReads e.0 a now
each_reads t p k e slots now w d h q a f =
    subst (λ (l : List Seen). EachReads e.0 a l) (sym q)
    (reads_all (kept t) (take k p) e.0 a slots (first_of p k e (differ_distinct (keys_of p) d) h) f w.follow)

watches_prepared : (p : Pending) (slots : List Seen) (x : List ℕ) → list_any (seen_watches x) (map (prepared_by p) slots) ≡ list_any (seen_watches x) slots
watches_prepared p [] x = refl
watches_prepared p (s ∷ ss) x = λ i. one s i || watches_prepared p ss x i
  where
    one : (s : Seen) → seen_watches x (prepared_by p s) ≡ seen_watches x s
    one (Free kind) = refl
    one (Watches kind name reading pending) = refl
    one Gone = refl

pub watched_stands : (t : Table) (p : Pending) (slots now : List Seen) (x : List ℕ) → IsWatched t slots → now ≡ map (prepared_by p) slots → list_any (seen_watches x) now ≡ true → is_some (node_at t x) ≡ true
watched_stands t p slots now x w q h = w.stand x (sym (ap (λ (l : List Seen). list_any (seen_watches x) l) q ∙ watches_prepared p slots x) ∙ h)

-- the change of a name that is noted at a place
noted_at : (p : Pending) (k : ℕ) (e : List ℕ × Change) → AllDiffer (keys_of p) → slice_get p k ≡ Some e → change_at p e.0 ≡ Some e.1
noted_at [] k e d h = absurd (none-some e h)
noted_at (a ∷ p) zero e d h =
    subst (λ (b : List ℕ × Change). cond (bytes_eq e.0 b.0) (Some b.1) (change_at p e.0) ≡ Some e.1) (sym (same_Some a e h))
    (ap (λ b. cond b (Some e.1) (change_at p e.0)) (name_itself e.0))
noted_at (a ∷ p) (suc k) e d h = ap (λ b. cond b (Some a.1) (change_at p e.0)) (apart a p k e d.0 h) ∙ noted_at p k e d.1 h

pub change_noted : (t : Table) (p : Pending) (k : ℕ) (e : List ℕ × Change) → ((x : List ℕ) → IsChange (change_at p x) (kept t x)) → IsDistinct bytes_eq (keys_of p) → slice_get p k ≡ Some e → IsChange (Some e.1) (kept t e.0)
change_noted t p k e all d h = subst (λ (o : Option Change). IsChange o (kept t e.0)) (noted_at p k e (differ_distinct (keys_of p) d) h) (all e.0)

-- a solid moves as its figure does
pub is_moved : (own : Vertices) (f : Figure) (c : Change) → figure_of own ≡ f → IsChange (Some c) f → IsMoved own c.delta c.after
unfolding xor_of
is_moved own f c e h =
    let g : IsChange (Some c) (figure_of own) = subst (λ (v : Figure). IsChange (Some c) v) (sym e) h in
    record { delta_dim = g.0; after_dim = g.1; cells = ap (λ (v : Figure). v.cells) g.2 }

-- no slot watches the name
pub none_prepared : (x : List ℕ) (a : Vertices) (slots : List Seen) → list_any (seen_watches x) slots ≡ false → slots ≡ map (seen_prepared x a) slots
none_prepared x a [] h = refl
none_prepared x a (s ∷ ss) h = λ i. one s (first (seen_watches x s) (list_any (seen_watches x) ss) h) i ∷ none_prepared x a ss (second (seen_watches x s) (list_any (seen_watches x) ss) h) i
  where
    first : (b c : Bool) → (b || c) ≡ false → b ≡ false
    first true c q = absurd (true≢false q)
    first false c q = refl

    second : (b c : Bool) → (b || c) ≡ false → c ≡ false
    second true c q = absurd (true≢false q)
    second false c q = q

    one : (s : Seen) → seen_watches x s ≡ false → s ≡ seen_prepared x a s
    one (Free kind) q = refl
    one Gone q = refl
    one (Watches kind name reading pending) q = ap (λ b. Watches kind name reading (cond b (Some (measured kind a)) pending)) (sym q)

pub unwatched : (t : Table) (slots : List Seen) (x : List ℕ) → (list_any (seen_watches x) slots ≡ true → is_some (node_at t x) ≡ true) → node_at t x ≡ None → list_any (seen_watches x) slots ≡ false
unwatched t slots x stands gone =
    by_test (list_any (seen_watches x) slots)
    (λ h. not_both (is_some (node_at t x)) (stands h) (ap (λ (o : Option Node). is_some o) gone)) (λ h. h)

-- ---- what was prepared is forgotten

abandoned_one : (f : List ℕ → Figure) (p : Pending) (s : Seen) → Follows f s → seen_abandoned (prepared_by p s) ≡ s
abandoned_one f p (Free kind) h = refl
abandoned_one f p Gone h = refl
abandoned_one f p (Watches kind name reading pending) h = ap (λ (o : Option ℕ). Watches kind name reading o) (sym h.1)

abandoned_all : (f : List ℕ → Figure) (p : Pending) (slots : List Seen) → AllFollow f slots → map seen_abandoned (map (prepared_by p) slots) ≡ slots
abandoned_all f p [] h = refl
abandoned_all f p (s ∷ ss) h = λ i. abandoned_one f p s (h zero s refl) i ∷ abandoned_all f p ss (λ k z q. h (suc k) z q) i

pub all_abandoned : (t : Table) (p : Pending) (slots now failed left : List Seen) → IsWatched t slots → now ≡ map (prepared_by p) slots
    → map seen_abandoned failed ≡ map seen_abandoned now → left ≡ map seen_abandoned failed → left ≡ slots
all_abandoned t p slots now failed left w q r e =
    e ∙ r ∙ ap (λ (l : List Seen). map seen_abandoned l) q ∙ abandoned_all (kept t) p slots w.follow

pub none_yet : (slots : List Seen) → slots ≡ map (prepared_by []) slots
none_yet [] = refl
none_yet (s ∷ ss) = λ i. one s i ∷ none_yet ss i
  where
    one : (s : Seen) → s ≡ prepared_by [] s
    one (Free kind) = refl
    one (Watches kind name reading pending) = refl
    one Gone = refl
