-- Lists that ascend by a strict order: what they have fixes them, and each element counts once.
use Rattle.std.proofs.Common.{◌≡◌, Bool, true, false, cond, ◌&&◌, ◌||◌, List, [], ◌∷◌, filter, refl, sym, ap, ◌∙◌, subst, ⊎_elim}
use Rattle.std.specs.List.{list_any, list_all}
use Rattle.std.proofs.lemmas.Bool.{or_cases, false≢true, true≢false}
use Rattle.evm_cells.specs.Booleans.{xor}
use Rattle.evm_cells.proofs.Xor.{xsum, xor-false, false-xor, and_first, and_second, and_both, and-false}

-- what both directions of a test give
pub same_tests : (a b : Bool) → (a ≡ true → b ≡ true) → (b ≡ true → a ≡ true) → a ≡ b
same_tests true b f g = sym (f refl)
same_tests false true f g = g refl
same_tests false false f g = refl

pub refuted : (a : Bool) → (a ≡ true → ⊥) → a ≡ false
refuted true f = absurd (f refl)
refuted false f = refl

-- eq is equality, and no two elements are below one another
pub record IsStrict {X : Type 0} (eq lt : X → X → Bool) : Type 0 where
  pub equal : (x y : X) → eq x y ≡ true → x ≡ y
  pub itself : (x : X) → eq x x ≡ true
  pub one_way : (x y : X) → lt x y ≡ true → lt y x ≡ true → ⊥

unfoldable pub rising : {X : Type 0} → (X → X → Bool) → List X → Bool
rising lt [] = true
rising lt (x ∷ xs) = list_all (lt x) xs && rising lt xs

module _ {X : Type 0} (eq lt : X → X → Bool) (strict : IsStrict eq lt) where
  -- what passes a test with all of a list
  pub at_member : (p : X → Bool) (c : X) (xs : List X) → list_any (eq c) xs ≡ true → list_all p xs ≡ true → p c ≡ true
  at_member p c [] h a = absurd (false≢true h)
  at_member p c (x ∷ xs) h a =
      ⊎_elim
      (λ e. subst (λ y. p y ≡ true) (sym (strict.equal c x e)) (and_first (p x) (list_all p xs) a))
      (λ m. at_member p c xs m (and_second (p x) (list_all p xs) a))
      (or_cases (eq c x) (list_any (eq c) xs) h)

  not_below_itself : (x : X) → lt x x ≡ true → ⊥
  not_below_itself x h = strict.one_way x x h h

  -- the first is not among those that it is below
  pub first_only : (x : X) (xs : List X) → list_all (lt x) xs ≡ true → list_any (eq x) xs ≡ false
  first_only x xs a = refuted (list_any (eq x) xs) (λ m. not_below_itself x (at_member (lt x) x xs m a))

  pub eq-false : (x y : X) → (x ≡ y → ⊥) → eq x y ≡ false
  eq-false x y h = refuted (eq x y) (λ e. h (strict.equal x y e))

  first_same : (x : X) (xs : List X) (y : X) (ys : List X) → list_all (lt x) xs ≡ true → list_all (lt y) ys ≡ true → list_any (eq y) (x ∷ xs) ≡ true → list_any (eq x) (y ∷ ys) ≡ true → x ≡ y
  first_same x xs y ys a b m n =
      ⊎_elim
      (λ e. sym (strict.equal y x e))
      (λ in_xs. ⊎_elim
      (λ e. strict.equal x y e)
      (λ in_ys. absurd (strict.one_way x y (at_member (lt x) y xs in_xs a) (at_member (lt y) x ys in_ys b)))
      (or_cases (eq x y) (list_any (eq x) ys) n))
      (or_cases (eq y x) (list_any (eq y) xs) m)

  here : (x : X) (xs : List X) → list_any (eq x) (x ∷ xs) ≡ true
  here x xs = ap (λ b. b || list_any (eq x) xs) (strict.itself x)

  rest_same : (x : X) (xs ys : List X) → list_all (lt x) xs ≡ true → list_all (lt x) ys ≡ true → ((c : X) → list_any (eq c) (x ∷ xs) ≡ list_any (eq c) (x ∷ ys)) → (c : X) → list_any (eq c) xs ≡ list_any (eq c) ys
  rest_same x xs ys a b e c = at_test (eq c x) refl
    where
      at_test : (t : Bool) → eq c x ≡ t → list_any (eq c) xs ≡ list_any (eq c) ys
      at_test true q =
          let s : c ≡ x = strict.equal c x q in
          ap (λ z. list_any (eq z) xs) s ∙ first_only x xs a ∙ sym (first_only x ys b) ∙ ap (λ z. list_any (eq z) ys) (sym s)
      at_test false q =
          ap (λ t. t || list_any (eq c) xs) (sym q) ∙ e c ∙ ap (λ t. t || list_any (eq c) ys) q

  -- two lists that ascend and have the same elements are the same
  pub same_lists : (xs ys : List X) → rising lt xs ≡ true → rising lt ys ≡ true → ((c : X) → list_any (eq c) xs ≡ list_any (eq c) ys) → xs ≡ ys
  unfolding rising
  same_lists [] [] a b e = refl
  same_lists [] (y ∷ ys) a b e = absurd (false≢true (e y ∙ here y ys))
  same_lists (x ∷ xs) [] a b e = absurd (true≢false (sym (here x xs) ∙ e x))
  same_lists (x ∷ xs) (y ∷ ys) a b e =
      let ax : list_all (lt x) xs ≡ true = and_first (list_all (lt x) xs) (rising lt xs) a in
      let by : list_all (lt y) ys ≡ true = and_first (list_all (lt y) ys) (rising lt ys) b in
      let q : x ≡ y = first_same x xs y ys ax by (e y ∙ here y ys) (sym (e x) ∙ here x xs) in
      let bx : list_all (lt x) ys ≡ true = ap (λ z. list_all (lt z) ys) q ∙ by in
      let e' : (c : X) → list_any (eq c) (x ∷ xs) ≡ list_any (eq c) (x ∷ ys) = λ c. e c ∙ ap (λ z. list_any (eq c) (z ∷ ys)) (sym q) in
      let r : xs ≡ ys = same_lists xs ys (and_second (list_all (lt x) xs) (rising lt xs) a) (and_second (list_all (lt y) ys) (rising lt ys) b) (rest_same x xs ys ax bx e') in
      λ i. q i ∷ r i

  -- the element c counts once, with the weight f
  pub sift : (c : X) (f : X → Bool) (xs : List X) → rising lt xs ≡ true → xsum (λ x. eq c x && f x) xs ≡ (list_any (eq c) xs && f c)
  unfolding xsum rising
  sift c f [] a = refl
  sift c f (x ∷ xs) a = at_test (eq c x) refl (sift c f xs (and_second (list_all (lt x) xs) (rising lt xs) a))
    where
      at_test : (t : Bool) → eq c x ≡ t → xsum (λ y. eq c y && f y) xs ≡ (list_any (eq c) xs && f c) → xor (eq c x && f x) (xsum (λ y. eq c y && f y) xs) ≡ ((eq c x || list_any (eq c) xs) && f c)
      at_test true q h =
          let s : c ≡ x = strict.equal c x q in
          let out : list_any (eq c) xs ≡ false = ap (λ z. list_any (eq z) xs) s ∙ first_only x xs (and_first (list_all (lt x) xs) (rising lt xs) a) in
          ap (λ t. xor (t && f x) (xsum (λ y. eq c y && f y) xs)) q
          ∙ ap (xor (f x)) (h ∙ ap (λ t. t && f c) out) ∙ xor-false (f x) ∙ ap f (sym s) ∙ ap (λ t. (t || list_any (eq c) xs) && f c) (sym q)
      at_test false q h =
          ap (λ t. xor (t && f x) (xsum (λ y. eq c y && f y) xs)) q ∙ false-xor (xsum (λ y. eq c y && f y) xs) ∙ h ∙ ap (λ t. (t || list_any (eq c) xs) && f c) (sym q)

  -- a filter of a list that ascends
  pub all-filter : (p t : X → Bool) (xs : List X) → list_all p xs ≡ true → list_all p (filter t xs) ≡ true
  all-filter p t [] a = refl
  all-filter p t (x ∷ xs) a = at_test (t x) (all-filter p t xs (and_second (p x) (list_all p xs) a))
    where
      at_test : (b : Bool) → list_all p (filter t xs) ≡ true → list_all p (cond b (x ∷ filter t xs) (filter t xs)) ≡ true
      at_test true h = and_both (p x) (list_all p (filter t xs)) (and_first (p x) (list_all p xs) a) h
      at_test false h = h

  pub rising-filter : (t : X → Bool) (xs : List X) → rising lt xs ≡ true → rising lt (filter t xs) ≡ true
  unfolding rising
  rising-filter t [] a = refl
  rising-filter t (x ∷ xs) a = at_test (t x) (rising-filter t xs (and_second (list_all (lt x) xs) (rising lt xs) a))
    where
      at_test : (b : Bool) → rising lt (filter t xs) ≡ true → rising lt (cond b (x ∷ filter t xs) (filter t xs)) ≡ true
      at_test true h = and_both (list_all (lt x) (filter t xs)) (rising lt (filter t xs)) (all-filter (lt x) t xs (and_first (list_all (lt x) xs) (rising lt xs) a)) h
      at_test false h = h

  pub any-filter : (t : X → Bool) (c : X) (xs : List X) → list_any (eq c) (filter t xs) ≡ (list_any (eq c) xs && t c)
  any-filter t c [] = refl
  any-filter t c (x ∷ xs) = at_tests (t x) (eq c x) refl refl (any-filter t c xs)
    where
      at_tests : (b e : Bool) → t x ≡ b → eq c x ≡ e → list_any (eq c) (filter t xs) ≡ (list_any (eq c) xs && t c) → list_any (eq c) (cond b (x ∷ filter t xs) (filter t xs)) ≡ ((eq c x || list_any (eq c) xs) && t c)
      at_tests true true p q h =
          ap (λ z. z || list_any (eq c) (filter t xs)) q ∙ sym p ∙ ap t (sym (strict.equal c x q)) ∙ ap (λ z. (z || list_any (eq c) xs) && t c) (sym q)
      at_tests true false p q h =
          ap (λ z. z || list_any (eq c) (filter t xs)) q ∙ h ∙ ap (λ z. (z || list_any (eq c) xs) && t c) (sym q)
      at_tests false true p q h =
          let no : t c ≡ false = ap t (strict.equal c x q) ∙ p in
          h ∙ ap (λ z. list_any (eq c) xs && z) no ∙ and-false (list_any (eq c) xs) ∙ sym no ∙ ap (λ z. (z || list_any (eq c) xs) && t c) (sym q)
      at_tests false false p q h = h ∙ ap (λ z. (z || list_any (eq c) xs) && t c) (sym q)
