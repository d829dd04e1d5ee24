-- How many names an edit changed, by a list of them.
use Rattle.std.proofs.Common.{◌≡◌, ℕ, ◌+◌, ◌≤◌, zero-add, Bool, true, false, not, cond, ◌&&◌, ◌||◌, List, [], ◌∷◌, length, refl, sym, ap, ◌∙◌, is_some, bytes_eq, count_by, arith}
use Rattle.std.specs.List.{list_any, list_all, IsDistinct, AllByRecursion}
use Rattle.std.proofs.lemmas.Bool.{false≢true}
use Rattle.std.proofs.lemmas.List.Sums.{sum_by-cons}
use Rattle.evm_cells.proofs.Xor.{and_first, and_second, and_both}
use Rattle.evm_cells.proofs.Lists.{all_weaker}
use Rattle.evm_model.specs.Figures.{same_figure}
use Rattle.evm_model.specs.Orders.{is_among, Ordered}
use Rattle.evm_model.specs.Scene.{Scene, Entry, has_name, entry_of, stands, value, names_differ}
use Rattle.evm_model.specs.Edits.{changed_names}
use Rattle.evm_model.proofs.Names.{by_test, by_or, by_among, same_name, name_itself, name_sym, or_left, or_right, or_none, neither, among_here, among_later, among_none, not_true}
use Rattle.evm_model.proofs.Lookups.{stands_any}

-- no name is twice in a list
abbrev pub AllDiffer : List (List ℕ) → Type 0
AllDiffer [] = Unit {0}
AllDiffer (x ∷ xs) = (is_among x xs ≡ false) × AllDiffer xs

-- the same by the words of keys of maps and sets
pub differ_distinct : (xs : List (List ℕ)) → IsDistinct bytes_eq xs → AllDiffer xs
unfolding IsDistinct
differ_distinct [] h = tt
differ_distinct (x ∷ xs) h = (none_equal xs h.0, differ_distinct xs h.1)
  where
    none_equal : (ys : List (List ℕ)) → AllByRecursion (λ y. bytes_eq x y ≡ false) ys → is_among x ys ≡ false
    none_equal [] k = refl
    none_equal (y ∷ ys) k = neither (bytes_eq x y) (is_among x ys) k.0 (none_equal ys k.1)

pub count_cons : {X : Type 0} (p : X → Bool) (x : X) (xs : List X) → count_by p (x ∷ xs) ≡ cond (p x) 1 0 + count_by p xs
count_cons p x xs = sum_by-cons (λ y. cond (p y) 1 0) x xs

pub count_never : {X : Type 0} (p : X → Bool) → ((x : X) → p x ≡ false) → (xs : List X) → count_by p xs ≡ 0
count_never p h [] = refl
count_never p h (x ∷ xs) = count_cons p x xs ∙ ap (λ (b : Bool). cond b 1 0 + count_by p xs) (h x) ∙ ap (λ (n : ℕ). 0 + n) (count_never p h xs)

-- a count of what passes one of two tests that exclude each other
pub count_or : {X : Type 0} (p q : X → Bool) → ((x : X) → p x ≡ true → q x ≡ false) → (xs : List X) → count_by (λ x. p x || q x) xs ≡ count_by p xs + count_by q xs
count_or p q h [] = refl
count_or p q h (x ∷ xs) =
    omega (arith, count_or p q h xs, count_cons (λ y. p y || q y) x xs, count_cons p x xs, count_cons q x xs, either_one (p x) (q x) (h x))
  where
    either_one : (a b : Bool) → (a ≡ true → b ≡ false) → cond {A = ℕ} (a || b) 1 0 ≡ cond a 1 0 + cond b 1 0
    either_one true true h = absurd (false≢true (sym (h refl)))
    either_one true false h = refl
    either_one false b h = sym (zero-add (cond b 1 0))

-- of what passes a test that passes no more
pub count_fewer : {X : Type 0} (p q : X → Bool) → ((x : X) → p x ≡ true → q x ≡ true) → (xs : List X) → count_by p xs ≤ count_by q xs
count_fewer p q h [] = omega arith
count_fewer p q h (x ∷ xs) = omega (arith, count_fewer p q h xs, count_cons p x xs, count_cons q x xs, at_most (p x) (q x) (h x))
  where
    at_most : (a b : Bool) → (a ≡ true → b ≡ true) → cond {A = ℕ} a 1 0 ≤ cond b 1 0
    at_most true true h = omega arith
    at_most true false h = absurd (false≢true (h refl))
    at_most false b h = omega arith

-- and of what passes a test that one passes
pub count_some : {X : Type 0} (p : X → Bool) (xs : List X) → list_any p xs ≡ true → 1 ≤ count_by p xs
count_some p [] h = absurd (false≢true h)
count_some p (x ∷ xs) h = omega (
  arith,
  count_cons p x xs,
  by_or (p x) (list_any p xs) h
      (λ e. let k : cond {A = ℕ} (p x) 1 0 ≡ 1 = ap (λ (b : Bool). cond b 1 0) e in let l : 1 ≤ cond {A = ℕ} (p x) 1 0 + count_by p xs = omega arith in l)
      (λ e. let k = count_some p xs e in let l : 1 ≤ cond {A = ℕ} (p x) 1 0 + count_by p xs = omega arith in l),
)

-- tests that agree on a list
pub count_agree : {X : Type 0} (r p q : X → Bool) → ((x : X) → r x ≡ true → p x ≡ q x) → (xs : List X) → list_all r xs ≡ true → count_by p xs ≡ count_by q xs
count_agree r p q h [] k = refl
count_agree r p q h (x ∷ xs) k =
    count_cons p x xs
    ∙ ap (λ (b : Bool). cond b 1 0 + count_by p xs) (h x (and_first (r x) (list_all r xs) k))
    ∙ ap (λ (n : ℕ). cond (q x) 1 0 + n) (count_agree r p q h xs (and_second (r x) (list_all r xs) k))
    ∙ sym (count_cons q x xs)

pub count_all : {X : Type 0} (p : X → Bool) (xs : List X) → list_all p xs ≡ true → count_by p xs ≡ length xs
count_all p [] h = refl
count_all p (x ∷ xs) h =
    omega (arith, count_cons p x xs ∙ ap (λ (b : Bool). cond b 1 0 + count_by p xs) (and_first (p x) (list_all p xs) h), count_all p xs (and_second (p x) (list_all p xs) h))

-- things with names, each another
module _ {X : Type 0} (label : X → List ℕ) where
  abbrev pub labelled : List ℕ → X → Bool
  labelled name x = bytes_eq name (label x)

  abbrev pub LabelsDiffer : List X → Type 0
  LabelsDiffer [] = Unit {0}
  LabelsDiffer (x ∷ xs) = (list_any (labelled (label x)) xs ≡ false) × LabelsDiffer xs

  count_none : (name : List ℕ) (xs : List X) → list_any (labelled name) xs ≡ false → count_by (labelled name) xs ≡ 0
  count_none name [] h = refl
  count_none name (x ∷ xs) h =
      count_cons (labelled name) x xs
      ∙ ap (λ (b : Bool). cond b 1 0 + count_by (labelled name) xs) (or_none (labelled name x) (list_any (labelled name) xs) h).0
      ∙ ap (λ (n : ℕ). 0 + n) (count_none name xs (or_none (labelled name x) (list_any (labelled name) xs) h).1)

  -- how often a name stands where names differ
  pub count_one : (name : List ℕ) (xs : List X) → LabelsDiffer xs → list_any (labelled name) xs ≡ true → count_by (labelled name) xs ≡ 1
  count_one name [] d h = absurd (false≢true h)
  count_one name (x ∷ xs) d h =
      count_cons (labelled name) x xs
      ∙ elim (labelled name x) as (λ b. labelled name x ≡ b → (b || list_any (labelled name) xs) ≡ true → cond b 1 0 + count_by (labelled name) xs ≡ 1) [
        | true ↦ λ q k. ap (λ (n : ℕ). 1 + n) (count_none name xs (ap (λ (y : List ℕ). list_any (labelled y) xs) (same_name name (label x) q) ∙ d.0))
        | false ↦ λ q k. ap (λ (n : ℕ). 0 + n) (count_one name xs d.1 k)
      ] refl h

  -- as many have a name of a list as there are names in it
  pub count_keys : (keys : List (List ℕ)) (xs : List X) → AllDiffer keys → LabelsDiffer xs
      → ((k : List ℕ) → is_among k keys ≡ true → list_any (labelled k) xs ≡ true)
      → count_by (λ x. is_among (label x) keys) xs ≡ length keys
  count_keys [] xs d e stand = count_never (λ x. is_among (label x) []) (λ x. refl) xs
  count_keys (k ∷ ks) xs d e stand =
      count_or (λ x. bytes_eq (label x) k) (λ x. is_among (label x) ks) (λ x q. ap (λ (y : List ℕ). is_among y ks) (same_name (label x) k q) ∙ d.0) xs
      ∙ omega (
        arith,
        ap (λ (t : X → Bool). count_by t xs) (λ i x. name_sym (label x) k i) ∙ count_one k xs e (stand k (among_here k ks)),
        count_keys ks xs d.1 e (λ y m. stand y (among_later y k ks m)),
      )

-- entries, by their names
abbrev pub name_of_entry : Entry → List ℕ
name_of_entry e = e.name

pub entries_differ : (es : List Entry) → names_differ es ≡ true → LabelsDiffer name_of_entry es
entries_differ [] d = tt
entries_differ (e ∷ es) d =
    (not_true (list_any (has_name e.name) es) (and_first (not (list_any (has_name e.name) es)) (names_differ es) d), entries_differ es (and_second (not (list_any (has_name e.name) es)) (names_differ es) d))

-- each entry's name stands
pub all_stand : (es : List Entry) → list_all (λ (e : Entry). is_some (entry_of es e.name)) es ≡ true
all_stand es = ap (λ (p : Entry → Bool). list_all p es) (λ i e. stands_any es e.name i) ∙ all_found es
  where
    all_found : (xs : List Entry) → list_all (λ (e : Entry). list_any (has_name e.name) xs) xs ≡ true
    all_found [] = refl
    all_found (x ∷ xs) =
        and_both (has_name x.name x || list_any (has_name x.name) xs) (list_all (λ (e : Entry). list_any (has_name e.name) (x ∷ xs)) xs)
        (or_left (has_name x.name x) (list_any (has_name x.name) xs) (name_itself x.name))
        (all_weaker (λ (e : Entry). list_any (has_name e.name) xs) (λ (e : Entry). list_any (has_name e.name) (x ∷ xs)) (λ e h. or_right (has_name e.name x) (list_any (has_name e.name) xs) h) xs (all_found xs))

-- as many names changed as a list of those that changed has
pub changed_count : (old new : Scene) (keys : List (List ℕ)) → names_differ old.entries ≡ true → AllDiffer keys
    → ((k : List ℕ) → is_among k keys ≡ true → stands old k ≡ true)
    → ((x : List ℕ) → stands old x ≡ true → (stands new x && not (same_figure (value old x) (value new x))) ≡ is_among x keys)
    → changed_names old new ≡ length keys
changed_count old new keys differ apart stand exact =
    count_agree (λ (e : Entry). stands old e.name) (λ (e : Entry). stands new e.name && not (same_figure (value old e.name) (value new e.name))) (λ (e : Entry). is_among e.name keys)
    (λ e s. exact e.name s) old.entries (all_stand old.entries)
    ∙ count_keys name_of_entry keys old.entries apart (entries_differ old.entries differ) (λ k m. sym (stands_any old.entries k) ∙ stand k m)

-- lists without repeats that have the same names are as long
pub same_length : (xs ys : List (List ℕ)) → AllDiffer xs → AllDiffer ys → ((x : List ℕ) → is_among x xs ≡ is_among x ys) → length xs ≡ length ys
same_length xs ys d e same =
    sym (count_all (λ x. is_among x ys) xs (each_in xs ys (λ x m. sym (same x) ∙ m)))
    ∙ count_keys (λ x. x) ys xs e (labels xs d) (λ k m. same k ∙ m)
  where
    each_in : (us vs : List (List ℕ)) → ((x : List ℕ) → is_among x us ≡ true → is_among x vs ≡ true) → list_all (λ x. is_among x vs) us ≡ true
    each_in [] vs h = refl
    each_in (u ∷ us) vs h = and_both (is_among u vs) (list_all (λ x. is_among x vs) us) (h u (among_here u us)) (each_in us vs (λ x m. h x (among_later x u us m)))

    labels : (us : List (List ℕ)) → AllDiffer us → LabelsDiffer (λ x. x) us
    labels [] h = tt
    labels (u ∷ us) h = (h.0, labels us h.1)

-- names of an order differ
later_out : (reads : List ℕ → List (List ℕ)) (seen xs : List (List ℕ)) → Ordered reads seen xs → (x : List ℕ) → is_among x xs ≡ true → is_among x seen ≡ false
later_out reads seen [] h x m = among_none x m
later_out reads seen (y ∷ ys) h x m =
    by_among x y ys m
    (λ e. ap (λ (k : List ℕ). is_among k seen) e ∙ h.0)
    (λ d late. (or_none (bytes_eq x y) (is_among x seen) (later_out reads (y ∷ seen) ys h.2 x late)).1)

pub ordered_differ : (reads : List ℕ → List (List ℕ)) (seen xs : List (List ℕ)) → Ordered reads seen xs → AllDiffer xs
ordered_differ reads seen [] h = tt
ordered_differ reads seen (x ∷ xs) h = (
  by_test (is_among x xs)
      (λ m. absurd (false≢true (sym (or_none (bytes_eq x x) (is_among x seen) (later_out reads (x ∷ seen) xs h.2 x m)).0 ∙ name_itself x)))
      (λ m. m),
  ordered_differ reads (x ∷ seen) xs h.2,
)
