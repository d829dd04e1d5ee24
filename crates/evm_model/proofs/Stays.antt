-- Edits keep the entries of other names, and the values of names that do not reach the edited one.
use Rattle.std.proofs.Common.{◌≡◌, ℕ, ◌+◌, ◌≤◌, Bool, true, false, not, cond, ◌&&◌, ◌||◌, List, [], ◌∷◌, length, filter, Option, Some, refl, sym, ap, ◌∙◌, subst, bytes_eq, arith}
use Rattle.std.specs.Prelude.{nat_abs}
use Rattle.std.specs.List.{list_any}
use Rattle.std.proofs.lemmas.Bool.{false≢true}
use Rattle.std.proofs.lemmas.List.Sums.{length-filter, count_by-le-length}
use Rattle.evm_cells.proofs.Xor.{and_first}
use Rattle.evm_script.specs.declared.formula.Formula.{Formula}
use Rattle.evm_model.specs.Figures.{Figure, box_at, xor_of, or_of, sub_of}
use Rattle.evm_model.specs.Orders.{is_among, Ordered}
use Rattle.evm_model.specs.Scene.{Scene, Entry, What, Given, Made, entry_of, stands, dim_of, entry_operands, operands_of, value, value_within, entry_value, what_stays, reaches, with_entry, without_entry, with_figure, with_new, with_formula, without_name, formula_dim, names_differ, all_stay, IsWell, IsOrderOf, given_entry, made_entry}
use Rattle.evm_model.specs.Edits.{Edit, Input, Toggle, Add, Cut, Replace, Def, Drop, name_of, after}
use Rattle.evm_model.proofs.Names.{by_test, not_both, not_true, same_name, name_itself, or_left, or_none, neither, among_none, among_filter, some_passes, none_passes, any_among, apart_back}
use Rattle.evm_model.proofs.Lookups.{none_stands, with_other, length-with, without_other, without_none, length-without, push_other, length-push}
use Rattle.evm_model.proofs.Levels.{none_value, levels_agree, fixed_agree, entry_same, what_stays_same}
use Rattle.evm_model.proofs.Orders.{ordered_filter}
use Rattle.evm_model.proofs.WellScenes.{well_reaches, well_from_none, found_stays, all_entries, well_order}

-- the names that neither are one nor reach it
abbrev pub is_before : Scene → List ℕ → List ℕ → Bool
is_before s name x = not (bytes_eq x name || reaches s x name)

pub before_parts : (s : Scene) (name x : List ℕ) → is_before s name x ≡ true → (bytes_eq x name ≡ false) × (reaches s x name ≡ false)
before_parts s name x h = or_none (bytes_eq x name) (reaches s x name) (not_true (bytes_eq x name || reaches s x name) h)

pub before_both : (s : Scene) (name x : List ℕ) → bytes_eq x name ≡ false → reaches s x name ≡ false → is_before s name x ≡ true
before_both s name x d r = ap not (neither (bytes_eq x name) (reaches s x name) d r)

-- what such a name reads is such a name
pub before_reads : (s : Scene) → IsWell s → (name x : List ℕ) → is_before s name x ≡ true → (o : List ℕ) → is_among o (operands_of s.entries x) ≡ true → is_before s name o ≡ true
before_reads s well name x h o m =
    by_test (bytes_eq o name || reaches s o name)
    (λ t. not_both (reaches s x name)
    (well_reaches s well x name ∙ some_passes (λ z. bytes_eq z name || reaches s z name) (operands_of s.entries x) o m t)
    (before_parts s name x h).1)
    (λ t. ap not t)

-- the entries of other names stay, and at most one entry goes, if the name stood
abbrev pub IsAt : Scene → List ℕ → Scene → Type 0
IsAt s name u =
    ((x : List ℕ) → bytes_eq x name ≡ false → entry_of u.entries x ≡ entry_of s.entries x)
    × (length s.entries ≤ length u.entries + cond (stands s name) 1 0)

pub at_figure : (s : Scene) (name : List ℕ) (new : Figure) → IsAt s name (with_figure s name new)
at_figure s name new = (
  λ x d. with_other s.entries name x (given_entry name new) refl d,
  omega (arith, length-with s.entries name (given_entry name new)),
)

pub at_new : (s : Scene) (name : List ℕ) (dim : ℕ) (what : What) → IsAt s name (with_new s name dim what)
at_new s name dim what = (
  λ x d. push_other s.entries (record { name = name; dim = dim; what = what }) x d,
  omega (arith, length-push s.entries (record { name = name; dim = dim; what = what })),
)

pub at_formula : (s : Scene) (name : List ℕ) (formula : Formula) → IsAt s name (with_formula s name formula)
at_formula s name formula = by (stands s name)
  where
    by : (b : Bool) → IsAt s name (cond b (record s { entries = with_entry s.entries name (made_entry s name formula) }) (with_new s name (formula_dim s formula) (Made formula)))
    by true = (
      λ x d. with_other s.entries name x (made_entry s name formula) refl d,
      omega (arith, length-with s.entries name (made_entry s name formula)),
    )
    by false = at_new s name (formula_dim s formula) (Made formula)

pub at_drop : (s : Scene) (name : List ℕ) → IsAt s name (without_name s name)
at_drop s name = (λ x d. without_other s.entries name x d, by (stands s name) refl)
  where
    by : (b : Bool) → stands s name ≡ b → length s.entries ≤ length (without_entry s.entries name) + cond b 1 0
    by true h = omega (arith, length-without s.entries name h)
    by false h = omega (arith, ap length (without_none s.entries name h))

pub at_edit : (s : Scene) (edit : Edit) → IsAt s (name_of edit) (after s edit)
at_edit s (Input name dim) = at_new s name (nat_abs dim) (Given [])
at_edit s (Toggle name nums) = at_figure s name (xor_of (value s name) (box_at (dim_of s name) nums))
at_edit s (Add name nums) = at_figure s name (or_of (value s name) (box_at (dim_of s name) nums))
at_edit s (Cut name nums) = at_figure s name (sub_of (value s name) (box_at (dim_of s name) nums))
at_edit s (Replace name figure) = at_figure s name figure
at_edit s (Def name formula) = at_formula s name formula
at_edit s (Drop name) = at_drop s name

length-kept : (p : List ℕ → Bool) (xs : List (List ℕ)) → length (filter p xs) ≤ length xs
length-kept p xs = omega (arith, length-filter p xs, count_by-le-length p xs)

-- where one does not pass, fewer are kept
length-fewer : (p : List ℕ → Bool) (name : List ℕ) (xs : List (List ℕ)) → is_among name xs ≡ true → p name ≡ false → length (filter p xs) + 1 ≤ length xs
length-fewer p name [] m h = among_none name m
length-fewer p name (x ∷ xs) m h = by (p x) refl (λ k. length-fewer p name xs k h)
  where
    by : (b : Bool) → p x ≡ b → (is_among name xs ≡ true → length (filter p xs) + 1 ≤ length xs) → length (cond b (x ∷ filter p xs) (filter p xs)) + 1 ≤ length (x ∷ xs)
    by true k rest = by_test (bytes_eq name x)
        (λ e. absurd (false≢true (sym h ∙ ap p (same_name name x e) ∙ k)))
        (λ e. omega (arith, rest (sym (ap (λ (b : Bool). b || is_among name xs) e) ∙ m)))
    by false k rest = omega (arith, length-kept p xs)

-- a name that neither is nor reaches the changed one keeps its value
module _ (s : Scene) (well : IsWell s) (name : List ℕ) (u : Scene) (at : IsAt s name u) where
  abbrev order : List (List ℕ)
  order = (well_order s well).0

  is_order : IsOrderOf s order
  is_order = (well_order s well).1

  abbrev front : List (List ℕ)
  front = filter (is_before s name) order

  front_order : Ordered (operands_of s.entries) [] front
  front_order =
      ordered_filter (operands_of s.entries) (operands_of s.entries) (is_before s name) [] [] [] order
      (λ x m b o k. (k, or_left (is_before s name o) false (before_reads s well name x b o k)))
      (λ x b m. m) (λ x m. m) (λ x b m. m) is_order.ordered

  front_fits : length front ≤ length u.entries
  front_fits =
      by_test (stands s name)
      (λ h. omega (
        arith,
        is_order.size,
        ap (λ (b : Bool). cond {A = ℕ} b 1 0) h,
        at.1,
        length-fewer (is_before s name) name order (is_order.whole name ∙ h) (ap not (or_left (bytes_eq name name) (reaches s name name) (name_itself name))),
      ))
      (λ h. omega (arith, is_order.size, ap (λ (b : Bool). cond {A = ℕ} b 1 0) h, at.1, length-kept (is_before s name) order))

  front_other : (x : List ℕ) → is_among x front ≡ true → entry_of u.entries x ≡ entry_of s.entries x
  front_other x m = at.0 x (before_parts s name x (and_first (is_before s name x) (is_among x order) (sym (among_filter (is_before s name) x order) ∙ m))).0

  pub value_stays : (x : List ℕ) → bytes_eq x name ≡ false → reaches s x name ≡ false → value u x ≡ value s x
  value_stays x d r =
      by_test (stands s x)
      (λ h. levels_agree (operands_of s.entries) (λ y g. entry_value (entry_of s.entries y) g) (λ n y. value_within n u.entries y) (λ n y. value_within n s.entries y)
      (λ y g k same. entry_same (entry_of s.entries y) g k same) [] front front_order
      (λ y m n. ap (λ (e : Option Entry). entry_value e (λ o. value_within n u.entries o)) (front_other y m)) (λ y m n. refl)
      0 (λ y m i j a b. among_none y m) x
      (among_filter (is_before s name) x order ∙ ap (λ (b : Bool). b && is_among x order) (before_both s name x d r) ∙ is_order.whole x ∙ h)
      (length u.entries) (length s.entries) (omega (arith, front_fits)) (omega (arith, is_order.size, length-kept (is_before s name) order)))
      (λ h. let gone = none_stands s.entries x h in
      none_value u.entries x (at.0 x d ∙ gone) (length u.entries) ∙ sym (none_value s.entries x gone (length s.entries)))

  -- and what its entry moves stays in the limits
  pub other_stays : (x : List ℕ) (e : Entry) → bytes_eq x name ≡ false → reaches s x name ≡ false → entry_of u.entries x ≡ Some e → what_stays e.what (value u) ≡ true
  other_stays x e d r q =
      what_stays_same e.what (value u) (value s)
      (λ o m. let parts = before_parts s name o (before_reads s well name x (before_both s name x d r) o (subst (λ (t : Option Entry). is_among o (entry_operands t) ≡ true) (sym old) m)) in
      value_stays o parts.0 parts.1)
      ∙ found_stays s well x e old
    where
      old : entry_of s.entries x ≡ Some e
      old = sym (at.0 x d) ∙ q

  -- no formula makes a place out of the limits, if those of the name and of the names that reach it do not
  pub all_stay_at : names_differ u.entries ≡ true
      → ((x : List ℕ) (e : Entry) → (bytes_eq x name || reaches s x name) ≡ true → entry_of u.entries x ≡ Some e → what_stays e.what (value u) ≡ true) → all_stay u ≡ true
  all_stay_at differ new =
      all_entries (λ (e : Entry). what_stays e.what (value u)) u.entries differ
      (λ x e q. by_test (bytes_eq x name || reaches s x name) (λ t. new x e t q) (λ t. let parts = or_none (bytes_eq x name) (reaches s x name) t in other_stays x e parts.0 parts.1 q))

-- a name that is no operand is not reached
pub unread_unreached : (scene : Scene) (name x : List ℕ) → IsWell scene → ((y : List ℕ) → is_among name (operands_of scene.entries y) ≡ false) → reaches scene x name ≡ false
unread_unreached scene name x well free =
    let (order, is) = well_order scene well in
    by_test (stands scene x)
    (λ h. fixed_agree (operands_of scene.entries) (λ y g. list_any g (operands_of scene.entries y)) (λ y. reaches scene y name) (λ y. false)
    (λ y g k same. any_among g k (operands_of scene.entries y) same)
    order is.ordered (λ y m. well_reaches scene well y name ∙ no_own y) (λ y m. sym (none_passes (λ o. false) (operands_of scene.entries y) (λ o l. refl))) x (is.whole x ∙ h))
    (λ h. well_from_none scene well x name h)
  where
    no_own : (y : List ℕ) → list_any (λ o. bytes_eq o name || reaches scene o name) (operands_of scene.entries y) ≡ list_any (λ o. reaches scene o name) (operands_of scene.entries y)
    no_own y =
        any_among (λ o. bytes_eq o name || reaches scene o name) (λ o. reaches scene o name) (operands_of scene.entries y)
        (λ o m. ap (λ (b : Bool). b || reaches scene o name) (apart_back name o (operands_of scene.entries y) (free y) m))
