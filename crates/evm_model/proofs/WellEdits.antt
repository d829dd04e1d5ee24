-- Edits keep a scene well.
use Rattle.std.proofs.Common.{◌≡◌, ℕ, zero, suc, Bool, true, false, not, cond, ◌&&◌, ◌||◌, List, [], ◌∷◌, length, Option, Some, None, pos, refl, sym, ap, ◌∙◌, subst, is_some, bytes_eq}
use Rattle.std.specs.List.{list_any}
use Rattle.std.proofs.lemmas.Bool.{false≢true}
use Rattle.std.proofs.lemmas.List.Folds.{list_all-append}
use Rattle.evm_cells.specs.Limits.{IsCellSet}
use Rattle.evm_cells.proofs.Order.{refuted}
use Rattle.evm_cells.proofs.Xor.{and-true}
use Rattle.evm_script.specs.declared.formula.Formula.{Formula}
use Rattle.evm_model.specs.Figures.{Figure}
use Rattle.evm_model.specs.Orders.{is_among}
use Rattle.evm_model.specs.Scene.{What, Made, Entry, Scene, has_name, entry_of, stands, dim_of, dim_of_entry, operands, what_operands, entry_operands, operands_of, reaches, is_read, is_watched, with_entry, with_figure, with_new, without_name, formula_dim, is_dim, names_differ, what_is_sound, value, what_stays, all_stay, IsWell, reaches_within, given_entry, made_entry}
use Rattle.evm_model.proofs.Names.{by_name, by_test, not_both, name_itself, different_names, or_left, or_none, or_second, neither, among_none, by_or, any_less, or_map, same_name, none_passes}
use Rattle.evm_model.proofs.Lookups.{with_other, with_own, with_none, differ_with, without_other, without_own, differ_without, push_other, push_own, differ_push, same_entry, no_some}
use Rattle.evm_model.proofs.Levels.{what_stays_same}
use Rattle.evm_model.proofs.Stays.{is_before, before_parts, before_both, before_reads, at_new, at_drop, value_stays, other_stays, all_stay_at, unread_unreached}
use Rattle.evm_model.proofs.WellScenes.{well_reaches, well_through, found_sound, found_dim, all_entries, what_sound_same, sound_cells}

-- a scene with another entry, or none, under one name alone, which reads names that stand, neither are the name nor reach it
module _ (s u : Scene) (well : IsWell s) (name : List ℕ)
    (other : (x : List ℕ) → bytes_eq x name ≡ false → entry_of u.entries x ≡ entry_of s.entries x)
    (differ : names_differ u.entries ≡ true)
    (dims : (x : List ℕ) → is_among name (operands_of s.entries x) ≡ true → (stands u name ≡ true) × (dim_of u name ≡ dim_of s name))
    (own : (e : Entry) → entry_of u.entries name ≡ Some e → (is_dim (pos e.dim) ≡ true) × (what_is_sound u e.dim e.what ≡ true))
    (reads : (o : List ℕ) → is_among o (operands_of u.entries name) ≡ true → (is_before s name o ≡ true) × (stands s o ≡ true))
    (slots : (x : List ℕ) → is_watched u x ≡ is_watched s x)
    (kept : is_watched s name ≡ true → stands u name ≡ true) where
  still : (x o : List ℕ) → is_among o (operands_of s.entries x) ≡ true → dim_of s o ≡ dim_of u o
  still x o m =
      by_name o name
      (λ e. subst (λ (z : List ℕ). dim_of s z ≡ dim_of u z) (sym e) (sym (dims x (subst (λ (z : List ℕ). is_among z (operands_of s.entries x) ≡ true) e m)).1))
      (λ d. ap (λ (t : Option Entry). dim_of_entry t) (sym (other o d)))

  entry_fits : (x : List ℕ) (e : Entry) → entry_of u.entries x ≡ Some e → (is_dim (pos e.dim) ≡ true) × (what_is_sound u e.dim e.what ≡ true)
  entry_fits x e q =
      by_name x name
      (λ k. own e (subst (λ (z : List ℕ). entry_of u.entries z ≡ Some e) k q))
      (λ d. old (sym (other x d) ∙ q))
    where
      old : entry_of s.entries x ≡ Some e → (is_dim (pos e.dim) ≡ true) × (what_is_sound u e.dim e.what ≡ true)
      old f = (
        found_dim s well x e f,
        sym (what_sound_same s u e.dim e.what (λ o m. still x o (subst (λ (t : Option Entry). is_among o (entry_operands t) ≡ true) (sym f) m))) ∙ found_sound s well x e f,
      )

  reads_other : (x : List ℕ) → bytes_eq x name ≡ false → operands_of u.entries x ≡ operands_of s.entries x
  reads_other x d = ap (λ (t : Option Entry). entry_operands t) (other x d)

  stands_still : (o : List ℕ) → bytes_eq o name ≡ false → stands s o ≡ true → stands u o ≡ true
  stands_still o d h = ap (λ (t : Option Entry). is_some t) (other o d) ∙ h

  -- operands stand
  stand_after : (x o : List ℕ) → is_among o (operands_of u.entries x) ≡ true → stands u o ≡ true
  stand_after x o m =
      by_name x name
      (λ e. let r = reads o (subst (λ (z : List ℕ). is_among o (operands_of u.entries z) ≡ true) e m) in
      stands_still o (before_parts s name o r.0).0 r.1)
      (λ d. old (subst (λ (os : List (List ℕ)). is_among o os ≡ true) (reads_other x d) m))
    where
      old : is_among o (operands_of s.entries x) ≡ true → stands u o ≡ true
      old k =
          by_name o name
          (λ e. subst (λ (z : List ℕ). stands u z ≡ true) (sym e) (dims x (subst (λ (z : List ℕ). is_among z (operands_of s.entries x) ≡ true) e k)).0)
          (λ d. stands_still o d (well.stand x o k))

  -- a name that neither is the changed one nor reached it reaches no more than before
  early_reaches : (n : ℕ) (x y : List ℕ) → is_before s name x ≡ true → reaches_within n u.entries x y ≡ true → reaches s x y ≡ true
  early_reaches zero x y b h = absurd (false≢true h)
  early_reaches (suc n) x y b h =
      well_reaches s well x y
      ∙ any_less (λ o. bytes_eq o y || reaches_within n u.entries o y) (λ o. bytes_eq o y || reaches s o y) (operands_of s.entries x)
      (λ o r k. or_map (bytes_eq o y) (reaches_within n u.entries o y) (reaches s o y) k (λ t. early_reaches n o y (before_reads s well name x b o r) t))
      (subst (λ (os : List (List ℕ)). list_any (λ o. bytes_eq o y || reaches_within n u.entries o y) os ≡ true) (reads_other x (before_parts s name x b).0) h)

  -- the changed name reaches neither itself nor what reached it
  own_reaches : (n : ℕ) (y : List ℕ) → is_before s name y ≡ false → reaches_within n u.entries name y ≡ false
  own_reaches zero y h = refl
  own_reaches (suc n) y h =
      none_passes (λ o. bytes_eq o y || reaches_within n u.entries o y) (operands_of u.entries name)
      (λ o m. let b : is_before s name o ≡ true = (reads o m).0 in
      neither (bytes_eq o y) (reaches_within n u.entries o y)
      (different_names o y (λ e. false≢true (sym h ∙ ap (λ (z : List ℕ). is_before s name z) (sym e) ∙ b)))
      (refuted (reaches_within n u.entries o y) (λ t. false≢true (sym h ∙ reached_before o y b (early_reaches n o y b t)))))
    where
      reached_before : (o z : List ℕ) → is_before s name o ≡ true → reaches s o z ≡ true → is_before s name z ≡ true
      reached_before o z b t =
          let p = before_parts s name o b in
          by_test (bytes_eq z name || reaches s z name)
          (λ k. absurd (false≢true (sym p.1 ∙ by_or (bytes_eq z name) (reaches s z name) k
          (λ e. subst (λ (w : List ℕ). reaches s o w ≡ true) (same_name z name e) t)
          (λ e. well_through s well o z name t e))))
          (λ k. ap not k)

  -- what reached the changed name is reached by no more
  late_reaches : (y : List ℕ) → is_before s name y ≡ false → (n : ℕ) (x : List ℕ) → bytes_eq x name ≡ false → reaches_within n u.entries x y ≡ true
      → reaches s x y ≡ true
  late_reaches y b zero x d h = absurd (false≢true h)
  late_reaches y b (suc n) x d h =
      well_reaches s well x y
      ∙ any_less (λ o. bytes_eq o y || reaches_within n u.entries o y) (λ o. bytes_eq o y || reaches s o y) (operands_of s.entries x)
      (λ o r k. or_map (bytes_eq o y) (reaches_within n u.entries o y) (reaches s o y) k (λ t. by_name o name
      (λ e. absurd (false≢true (sym (own_reaches n y b) ∙ subst (λ (z : List ℕ). reaches_within n u.entries z y ≡ true) e t)))
      (λ e. late_reaches y b n o e t)))
      (subst (λ (os : List (List ℕ)). list_any (λ o. bytes_eq o y || reaches_within n u.entries o y) os ≡ true) (reads_other x d) h)

  -- no name reaches itself
  acyclic_after : (x : List ℕ) → reaches u x x ≡ false
  acyclic_after x =
      by_name x name
      (λ e. subst (λ (z : List ℕ). reaches u z z ≡ false) (sym e)
      (own_reaches (length u.entries) name (ap not (or_left (bytes_eq name name) (reaches s name name) (name_itself name)))))
      (λ d. refuted (reaches u x x) (λ h. false≢true (sym (well.acyclic x) ∙ by_test (is_before s name x)
      (λ b. early_reaches (length u.entries) x x b h) (λ b. late_reaches x b (length u.entries) x d h))))

  -- watched names stand
  watched_after : (x : List ℕ) → is_watched u x ≡ true → stands u x ≡ true
  watched_after x h =
      by_name x name
      (λ e. subst (λ (z : List ℕ). stands u z ≡ true) (sym e) (kept (subst (λ (z : List ℕ). is_watched s z ≡ true) e (sym (slots x) ∙ h))))
      (λ d. stands_still x d (well.watched x (sym (slots x) ∙ h)))

  pub well_after : all_stay u ≡ true → IsWell u
  well_after stay = record {
    names = differ;
    dims = all_entries (λ (e : Entry). is_dim (pos e.dim)) u.entries differ (λ x e q. (entry_fits x e q).0);
    sound = all_entries (λ (e : Entry). what_is_sound u e.dim e.what) u.entries differ (λ x e q. (entry_fits x e q).1);
    stay = stay;
    stand = stand_after;
    acyclic = acyclic_after;
    watched = watched_after;
  }

-- the dimension of a name that stands
pub standing_dim : (s : Scene) → IsWell s → (name : List ℕ) → stands s name ≡ true → is_dim (pos (dim_of s name)) ≡ true
standing_dim s well name h = by (entry_of s.entries name) refl
  where
    by : (t : Option Entry) → entry_of s.entries name ≡ t → is_dim (pos (dim_of_entry t)) ≡ true
    by None q = not_both (is_some (entry_of s.entries name)) h (ap (λ (t : Option Entry). is_some t) q)
    by (Some e) q = found_dim s well name e q

-- a name with another figure of the same dimension
pub well_figure : (s : Scene) (name : List ℕ) (new : Figure) → IsWell s → dim_of s name ≡ new.dim → IsCellSet new.dim new.cells → all_stay (with_figure s name new) ≡ true → IsWell (with_figure s name new)
well_figure s name new well dim cells stay =
    by_test (stands s name)
    (λ h. let here = with_own s.entries name entry refl h in
    well_after s u well name (λ x d. with_other s.entries name x entry refl d) (differ_with s.entries name entry refl well.names)
    (λ x m. (ap (λ (t : Option Entry). is_some t) here, ap (λ (t : Option Entry). dim_of_entry t) here ∙ sym dim))
    (λ e q. subst (λ (t : Entry). (is_dim (pos t.dim) ≡ true) × (what_is_sound u t.dim t.what ≡ true)) (same_entry entry e (sym here ∙ q))
    (subst (λ (n : ℕ). is_dim (pos n) ≡ true) dim (standing_dim s well name h), sound_cells new.dim new.cells cells))
    (λ o m. among_none o (subst (λ (t : Option Entry). is_among o (entry_operands t) ≡ true) here m))
    (λ x. refl) (λ w. ap (λ (t : Option Entry). is_some t) here) stay)
    (λ out. subst IsWell (λ i. record s { entries = sym (with_none s.entries name entry out) i }) well)
  where
    entry : Entry
    entry = given_entry name new

    u : Scene
    u = with_figure s name new

-- a name that stands is none that does not
apart_new : (s : Scene) (name : List ℕ) → stands s name ≡ false → (o : List ℕ) → stands s o ≡ true → bytes_eq o name ≡ false
apart_new s name out o h = different_names o name (λ e. false≢true (sym out ∙ ap (λ (z : List ℕ). stands s z) (sym e) ∙ h))

-- nor is it reached
never_reached : (s : Scene) (name : List ℕ) → IsWell s → stands s name ≡ false → (x : List ℕ) → reaches s x name ≡ false
never_reached s name well out x =
    unread_unreached s name x well (λ y. refuted (is_among name (operands_of s.entries y)) (λ m. false≢true (sym out ∙ well.stand y name m)))

-- a new name makes a place out of the limits where its own formula does
pub stay_new : (s : Scene) (name : List ℕ) (dim : ℕ) (what : What) → IsWell s → stands s name ≡ false
    → ((o : List ℕ) → is_among o (what_operands what) ≡ true → stands s o ≡ true) → all_stay (with_new s name dim what) ≡ what_stays what (value s)
stay_new s name dim what well out stand =
    list_all-append passes s.entries (entry ∷ [])
    ∙ ap (λ (b : Bool). b && (passes entry && true)) (all_entries passes s.entries well.names old)
    ∙ and-true (passes entry)
    ∙ what_stays_same what (value u) (value s) (λ o m. value_stays s well name u (at_new s name dim what) o (apart_new s name out o (stand o m)) (never_reached s name well out o))
  where
    entry : Entry
    entry = record { name = name; dim = dim; what = what }

    u : Scene
    u = with_new s name dim what

    passes : Entry → Bool
    passes e = what_stays e.what (value u)

    old : (x : List ℕ) (e : Entry) → entry_of s.entries x ≡ Some e → passes e ≡ true
    old x e q =
        let d = apart_new s name out x (ap (λ (t : Option Entry). is_some t) q) in
        other_stays s well name u (at_new s name dim what) x e d (never_reached s name well out x) (push_other s.entries entry x d ∙ q)

pub well_new : (s : Scene) (name : List ℕ) (dim : ℕ) (what : What) → IsWell s → stands s name ≡ false → is_dim (pos dim) ≡ true → what_is_sound s dim what ≡ true
    → ((o : List ℕ) → is_among o (what_operands what) ≡ true → stands s o ≡ true) → what_stays what (value s) ≡ true → IsWell (with_new s name dim what)
well_new s name dim what well out d sound stand stay =
    well_after s u well name (λ x k. push_other s.entries entry x k) (differ_push s.entries entry well.names out)
    (λ x m. not_both (stands s name) (well.stand x name m) out)
    (λ e q. subst (λ (t : Entry). (is_dim (pos t.dim) ≡ true) × (what_is_sound u t.dim t.what ≡ true)) (same_entry entry e (sym here ∙ q))
    (d, sym (what_sound_same s u dim what (λ o m. ap (λ (t : Option Entry). dim_of_entry t) (sym (push_other s.entries entry o (apart_new s name out o (stand o m)))))) ∙ sound))
    (λ o m. let there = stand o (subst (λ (t : Option Entry). is_among o (entry_operands t) ≡ true) here m) in
    (before_both s name o (apart_new s name out o there) (never_reached s name well out o), there))
    (λ x. refl) (λ w. ap (λ (t : Option Entry). is_some t) here)
    (stay_new s name dim what well out stand ∙ stay)
  where
    entry : Entry
    entry = record { name = name; dim = dim; what = what }

    u : Scene
    u = with_new s name dim what

    here : entry_of u.entries name ≡ Some entry
    here = push_own s.entries entry out

-- another formula under a name that stands, which none of its operands is or reaches
pub well_formula : (s : Scene) (name : List ℕ) (f : Formula) → IsWell s → stands s name ≡ true → formula_dim s f ≡ dim_of s name → what_is_sound s (formula_dim s f) (Made f) ≡ true
    → ((o : List ℕ) → is_among o (operands f) ≡ true → stands s o ≡ true) → ((o : List ℕ) → is_among o (operands f) ≡ true → is_before s name o ≡ true)
    → all_stay (record s { entries = with_entry s.entries name (made_entry s name f) }) ≡ true
    → IsWell (record s { entries = with_entry s.entries name (made_entry s name f) })
well_formula s name f well h dim sound stand free stay =
    well_after s u well name other (differ_with s.entries name entry refl well.names)
    (λ x m. (ap (λ (t : Option Entry). is_some t) here, ap (λ (t : Option Entry). dim_of_entry t) here ∙ dim))
    (λ e q. subst (λ (t : Entry). (is_dim (pos t.dim) ≡ true) × (what_is_sound u t.dim t.what ≡ true)) (same_entry entry e (sym here ∙ q)) (
      subst (λ (n : ℕ). is_dim (pos n) ≡ true) (sym dim) (standing_dim s well name h),
      sym (what_sound_same s u (formula_dim s f) (Made f) (λ o m. ap (λ (t : Option Entry). dim_of_entry t) (sym (other o (before_parts s name o (free o m)).0)))) ∙ sound,
    ))
    (λ o m. let k = subst (λ (t : Option Entry). is_among o (entry_operands t) ≡ true) here m in (free o k, stand o k))
    (λ x. refl) (λ w. ap (λ (t : Option Entry). is_some t) here) stay
  where
    entry : Entry
    entry = made_entry s name f

    u : Scene
    u = record s { entries = with_entry s.entries name entry }

    here : entry_of u.entries name ≡ Some entry
    here = with_own s.entries name entry refl h

    other : (x : List ℕ) → bytes_eq x name ≡ false → entry_of u.entries x ≡ entry_of s.entries x
    other x d = with_other s.entries name x entry refl d

-- what no entry passes, none that is found passes
found_fails : (p : Entry → Bool) (es : List Entry) (x : List ℕ) (e : Entry) → entry_of es x ≡ Some e → list_any p es ≡ false → p e ≡ false
found_fails p [] x e f h = no_some e f
found_fails p (y ∷ ys) x e f h =
    elim (has_name x y) as (λ b. cond b (Some y) (entry_of ys x) ≡ Some e → p e ≡ false) [
      | true ↦ λ k. ap p (sym (same_entry y e k)) ∙ (or_none (p y) (list_any p ys) h).0
      | false ↦ λ k. found_fails p ys x e k (or_none (p y) (list_any p ys) h).1
    ] f

-- a name that is not read is no operand
pub unread : (s : Scene) (name : List ℕ) → is_read s name ≡ false → (x : List ℕ) → is_among name (operands_of s.entries x) ≡ false
unread s name h x = by (entry_of s.entries x) refl
  where
    by : (t : Option Entry) → entry_of s.entries x ≡ t → is_among name (entry_operands t) ≡ false
    by None q = refl
    by (Some e) q = found_fails (λ (y : Entry). is_among name (what_operands y.what)) s.entries x e q h

-- a name that is neither read nor watched, taken out: the names that are left read what they read, whose values stay
pub well_without : (s : Scene) (name : List ℕ) → IsWell s → stands s name ≡ true → is_read s name ≡ false → is_watched s name ≡ false → IsWell (without_name s name)
well_without s name well h free alone =
    well_after s u well name (λ x d. without_other s.entries name x d) differ
    (λ x m. not_both (is_among name (operands_of s.entries x)) m (unread s name free x))
    (λ e q. no_some e (sym gone ∙ q))
    (λ o m. among_none o (subst (λ (t : Option Entry). is_among o (entry_operands t) ≡ true) gone m))
    (λ x. refl) (λ w. not_both (is_watched s name) w alone)
    (all_stay_at s well name u (at_drop s name) differ
    (λ x e t q. by_name x name
    (λ k. no_some e (sym (ap (λ (z : List ℕ). entry_of u.entries z) k ∙ gone) ∙ q))
    (λ d. not_both (reaches s x name) (or_second (bytes_eq x name) (reaches s x name) t d) (unread_unreached s name x well (unread s name free)))))
  where
    u : Scene
    u = without_name s name

    differ : names_differ u.entries ≡ true
    differ = differ_without s.entries name well.names

    gone : entry_of u.entries name ≡ None
    gone = without_own s.entries name well.names
