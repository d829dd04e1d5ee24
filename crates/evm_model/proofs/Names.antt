-- The test of equal names, and whether a name is in a list.
use Rattle.std.proofs.Common.{◌≡◌, ℕ, Bool, true, false, cond, ◌&&◌, ◌||◌, List, [], ◌∷◌, ◌++◌, refl, sym, ap, ◌∙◌, bytes_eq, filter, not}
use Rattle.std.specs.List.{list_any}
use Rattle.std.proofs.lemmas.Bool.{false≢true}
pub use Rattle.std.proofs.lemmas.Bool.{or_left, or_right, or_parts as or_none, or_from as neither}
use Rattle.std.proofs.lemmas.Slice.Eq.{bytes_eq-Decides}
use Rattle.std.proofs.lemmas.List.Folds.{list_any-append}
use Rattle.evm_cells.proofs.Order.{same_tests, refuted}
use Rattle.evm_model.specs.Orders.{is_among}

-- names that the test calls equal are
pub same_name : (a b : List ℕ) → bytes_eq a b ≡ true → a ≡ b
same_name a b = (bytes_eq-Decides a b).0

pub equal_names : (a b : List ℕ) → a ≡ b → bytes_eq a b ≡ true
equal_names a b = (bytes_eq-Decides a b).1

pub name_itself : (a : List ℕ) → bytes_eq a a ≡ true
name_itself a = equal_names a a refl

pub name_sym : (a b : List ℕ) → bytes_eq a b ≡ bytes_eq b a
name_sym a b = same_tests (bytes_eq a b) (bytes_eq b a) (λ h. equal_names b a (sym (same_name a b h))) (λ h. equal_names a b (sym (same_name b a h)))

pub different_names : (a b : List ℕ) → (a ≡ b → ⊥) → bytes_eq a b ≡ false
different_names a b n = refuted (bytes_eq a b) (λ h. n (same_name a b h))

-- the two cases: one name, or different names
pub by_name : {C : Type 0} (a b : List ℕ) → (a ≡ b → C) → (bytes_eq a b ≡ false → C) → C
by_name {C} a b one two = at (bytes_eq a b) refl
  where
    at : (t : Bool) → bytes_eq a b ≡ t → C
    at true e = one (same_name a b e)
    at false e = two e

-- the two cases of a test
pub by_test : {C : Type 0} (t : Bool) → (t ≡ true → C) → (t ≡ false → C) → C
by_test true one two = one refl
by_test false one two = two refl

pub not_both : {C : Type 0} (t : Bool) → t ≡ true → t ≡ false → C
not_both t y n = absurd (false≢true (sym n ∙ y))

pub not_true : (t : Bool) → not t ≡ true → t ≡ false
not_true true h = absurd (false≢true h)
not_true false h = refl

pub not_false : (t : Bool) → not t ≡ false → t ≡ true
not_false true h = refl
not_false false h = absurd (false≢true (sym h))

-- the second of two where the first does not hold
pub or_second : (a b : Bool) → (a || b) ≡ true → a ≡ false → b ≡ true
or_second true b h d = absurd (false≢true (sym d))
or_second false b h d = h

-- another second of two
pub or_map : (a b c : Bool) → (a || b) ≡ true → (b ≡ true → c ≡ true) → (a || c) ≡ true
or_map true b c h f = refl
or_map false b c h f = f h

-- the two cases of one or the other
pub by_or : {C : Type 0} (a b : Bool) → (a || b) ≡ true → (a ≡ true → C) → (b ≡ true → C) → C
by_or true b h one two = one refl
by_or false b h one two = two h

pub or-false : (a : Bool) → (a || false) ≡ a
or-false true = refl
or-false false = refl

pub among_here : (x : List ℕ) (xs : List (List ℕ)) → is_among x (x ∷ xs) ≡ true
among_here x xs = or_left (bytes_eq x x) (is_among x xs) (name_itself x)

pub among_later : (x y : List ℕ) (xs : List (List ℕ)) → is_among x xs ≡ true → is_among x (y ∷ xs) ≡ true
among_later x y xs h = or_right (bytes_eq x y) (is_among x xs) h

-- the two cases of a name in a list: the first name, or one of the rest
pub by_among : {C : Type 0} (x y : List ℕ) (xs : List (List ℕ)) → is_among x (y ∷ xs) ≡ true → (x ≡ y → C) → (bytes_eq x y ≡ false → is_among x xs ≡ true → C) → C
by_among x y xs m one two = by_name x y one (λ d. two d (or_second (bytes_eq x y) (is_among x xs) m d))

pub among_none : {C : Type 0} (x : List ℕ) → is_among x [] ≡ true → C
among_none x m = absurd (false≢true m)

-- in one name or another
pub among-append : (x : List ℕ) (xs ys : List (List ℕ)) → is_among x (xs ++ ys) ≡ (is_among x xs || is_among x ys)
among-append x xs ys = list_any-append (bytes_eq x) xs ys

pub among_end : (x y : List ℕ) (xs : List (List ℕ)) → is_among x (xs ++ y ∷ []) ≡ (is_among x xs || bytes_eq x y)
among_end x y xs = among-append x xs (y ∷ []) ∙ ap (λ (b : Bool). is_among x xs || b) (or-false (bytes_eq x y))

-- a name that is not in a list is none of those that are
pub apart : (x o : List ℕ) (xs : List (List ℕ)) → is_among x xs ≡ false → is_among o xs ≡ true → bytes_eq x o ≡ false
apart x o xs out there = different_names x o (λ e. false≢true (sym out ∙ ap (λ (k : List ℕ). is_among k xs) e ∙ there))

pub apart_back : (x o : List ℕ) (xs : List (List ℕ)) → is_among x xs ≡ false → is_among o xs ≡ true → bytes_eq o x ≡ false
apart_back x o xs out there = name_sym o x ∙ apart x o xs out there

-- tests that agree on the names of a list
pub any_among : (f g : List ℕ → Bool) (xs : List (List ℕ)) → ((o : List ℕ) → is_among o xs ≡ true → f o ≡ g o) → list_any f xs ≡ list_any g xs
any_among f g [] e = refl
any_among f g (x ∷ xs) e = ap (λ (b : Bool). b || list_any f xs) (e x (among_here x xs)) ∙ ap (λ (b : Bool). g x || b) (any_among f g xs (λ o m. e o (among_later o x xs m)))

-- a test that no name of a list passes
pub none_passes : (f : List ℕ → Bool) (xs : List (List ℕ)) → ((o : List ℕ) → is_among o xs ≡ true → f o ≡ false) → list_any f xs ≡ false
none_passes f [] e = refl
none_passes f (x ∷ xs) e = neither (f x) (list_any f xs) (e x (among_here x xs)) (none_passes f xs (λ o m. e o (among_later o x xs m)))

pub passes_none : (f : List ℕ → Bool) (xs : List (List ℕ)) → list_any f xs ≡ false → (o : List ℕ) → is_among o xs ≡ true → f o ≡ false
passes_none f [] h o m = among_none o m
passes_none f (x ∷ xs) h o m =
    by_among o x xs m
    (λ e. ap f e ∙ (or_none (f x) (list_any f xs) h).0)
    (λ d k. passes_none f xs (or_none (f x) (list_any f xs) h).1 o k)

-- a test that some name of a list passes
pub some_passes : (f : List ℕ → Bool) (xs : List (List ℕ)) (o : List ℕ) → is_among o xs ≡ true → f o ≡ true → list_any f xs ≡ true
some_passes f [] o m h = among_none o m
some_passes f (x ∷ xs) o m h =
    by_among o x xs m (λ e. or_left (f x) (list_any f xs) (sym (ap f e) ∙ h)) (λ d k. or_right (f x) (list_any f xs) (some_passes f xs o k h))

-- a test that passes each name of a list that another passes
pub any_less : (f g : List ℕ → Bool) (xs : List (List ℕ)) → ((o : List ℕ) → is_among o xs ≡ true → f o ≡ true → g o ≡ true)
    → list_any f xs ≡ true → list_any g xs ≡ true
any_less f g [] less h = h
any_less f g (x ∷ xs) less h =
    by_or (f x) (list_any f xs) h
    (λ k. or_left (g x) (list_any g xs) (less x (among_here x xs) k))
    (λ k. or_right (g x) (list_any g xs) (any_less f g xs (λ o m. less o (among_later o x xs m)) k))

-- the names of a list that pass a test
pub among_kept : (p : List ℕ → Bool) (x : List ℕ) (xs : List (List ℕ)) → p x ≡ true → is_among x (filter p xs) ≡ is_among x xs
among_kept p x [] h = refl
among_kept p x (y ∷ ys) h = at (p y) refl (among_kept p x ys h)
  where
    at : (b : Bool) → p y ≡ b → is_among x (filter p ys) ≡ is_among x ys → is_among x (cond b (y ∷ filter p ys) (filter p ys)) ≡ is_among x (y ∷ ys)
    at true k rest = ap (λ (t : Bool). bytes_eq x y || t) rest
    at false k rest =
        rest
        ∙ sym (ap (λ (t : Bool). t || is_among x ys) (different_names x y (λ e. false≢true (sym k ∙ sym (ap p e) ∙ h))))

pub among_dropped : (p : List ℕ → Bool) (x : List ℕ) (xs : List (List ℕ)) → p x ≡ false → is_among x (filter p xs) ≡ false
among_dropped p x [] h = refl
among_dropped p x (y ∷ ys) h = at (p y) refl (among_dropped p x ys h)
  where
    at : (b : Bool) → p y ≡ b → is_among x (filter p ys) ≡ false → is_among x (cond b (y ∷ filter p ys) (filter p ys)) ≡ false
    at true k rest = neither (bytes_eq x y) (is_among x (filter p ys)) (different_names x y (λ e. false≢true (sym h ∙ ap p e ∙ k))) rest
    at false k rest = rest

pub among_filter : (p : List ℕ → Bool) (x : List ℕ) (xs : List (List ℕ)) → is_among x (filter p xs) ≡ (p x && is_among x xs)
among_filter p x xs =
    by_test (p x)
    (λ h. among_kept p x xs h ∙ sym (ap (λ (b : Bool). b && is_among x xs) h))
    (λ h. among_dropped p x xs h ∙ sym (ap (λ (b : Bool). b && is_among x xs) h))
