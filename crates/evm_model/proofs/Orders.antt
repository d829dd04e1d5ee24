-- Orders of names, operands first, after a change of what some names read.
use Rattle.std.proofs.Common.{◌≡◌, ℕ, Bool, true, false, cond, ◌||◌, List, [], ◌∷◌, ◌++◌, refl, sym, ap, ◌∙◌, subst, bytes_eq, filter}
use Rattle.std.proofs.lemmas.Bool.{false≢true}
use Rattle.evm_model.specs.Orders.{is_among, AllSeen, Ordered}
use Rattle.evm_model.proofs.Names.{by_test, by_among, or_none, or_second, neither, or-false, among_here, among_later}

-- only what was seen counts, in whatever order
pub ordered_seen : (reads : List ℕ → List (List ℕ)) (s u xs : List (List ℕ)) → ((x : List ℕ) → is_among x s ≡ is_among x u) → Ordered reads s xs → Ordered reads u xs
ordered_seen reads s u [] e h = tt
ordered_seen reads s u (y ∷ ys) e h =
    (sym (e y) ∙ h.0, λ o m. sym (e o) ∙ h.1 o m, ordered_seen reads (y ∷ s) (y ∷ u) ys (λ x. ap (λ (b : Bool). bytes_eq x y || b) (e x)) h.2)

-- one order behind another
pub ordered_join : (reads : List ℕ → List (List ℕ)) (s xs u ys : List (List ℕ)) → ((x : List ℕ) → is_among x u ≡ (is_among x s || is_among x xs))
    → Ordered reads s xs → Ordered reads u ys → Ordered reads s (xs ++ ys)
ordered_join reads s [] u ys e h k = ordered_seen reads u s ys (λ x. e x ∙ or-false (is_among x s)) k
ordered_join reads s (y ∷ xs) u ys e h k = (h.0, h.1, ordered_join reads (y ∷ s) xs u ys (λ x. e x ∙ turn (is_among x s) (bytes_eq x y) (is_among x xs)) h.2 k)
  where
    turn : (a b c : Bool) → (a || (b || c)) ≡ ((b || a) || c)
    turn true true c = refl
    turn true false c = refl
    turn false true c = refl
    turn false false c = refl

-- the same order where each name of it reads no more
pub ordered_less : (r q : List ℕ → List (List ℕ)) (s xs : List (List ℕ)) → ((x : List ℕ) → is_among x xs ≡ true → (o : List ℕ) → is_among o (q x) ≡ true → is_among o (r x) ≡ true)
    → Ordered r s xs → Ordered q s xs
ordered_less r q s [] less h = tt
ordered_less r q s (y ∷ ys) less h =
    (h.0, λ o m. h.1 o (less y (among_here y ys) o m), ordered_less r q (y ∷ s) ys (λ x m. less x (among_later x y ys m)) h.2)

-- a new name at the end
pub ordered_push : (reads : List ℕ → List (List ℕ)) (s xs : List (List ℕ)) (y : List ℕ) → Ordered reads s xs → is_among y s ≡ false → is_among y xs ≡ false
    → ((o : List ℕ) → is_among o (reads y) ≡ true → (is_among o s || is_among o xs) ≡ true) → Ordered reads s (xs ++ y ∷ [])
ordered_push reads s [] y h a b r = (a, λ o m. sym (or-false (is_among o s)) ∙ r o m, tt)
ordered_push reads s (x ∷ xs) y h a b r =
    let p = or_none (bytes_eq y x) (is_among y xs) b in
    (h.0, h.1, ordered_push reads (x ∷ s) xs y h.2 (neither (bytes_eq y x) (is_among y s) p.0 a) p.1 (λ o m. turn (is_among o s) (bytes_eq o x) (is_among o xs) (r o m)))
  where
    turn : (a b c : Bool) → (a || (b || c)) ≡ true → ((b || a) || c) ≡ true
    turn true true c e = refl
    turn true false c e = refl
    turn false true c e = refl
    turn false false c e = e

-- the names of an order that pass a test, whose operands pass it too or were seen before
pub ordered_filter : (r q : List ℕ → List (List ℕ)) (p : List ℕ → Bool) (base s u xs : List (List ℕ))
    → ((x : List ℕ) → is_among x xs ≡ true → p x ≡ true → (o : List ℕ) → is_among o (q x) ≡ true → (is_among o (r x) ≡ true) × ((p o || is_among o base) ≡ true))
    → ((x : List ℕ) → p x ≡ true → is_among x s ≡ true → is_among x u ≡ true)
    → ((x : List ℕ) → is_among x base ≡ true → is_among x u ≡ true)
    → ((x : List ℕ) → p x ≡ true → is_among x s ≡ false → is_among x u ≡ false)
    → Ordered r s xs → Ordered q u (filter p xs)
ordered_filter r q p base s u [] closed more old out h = tt
ordered_filter r q p base s u (y ∷ ys) closed more old out h =
    at (p y) refl
    (λ k. ordered_filter r q p base (y ∷ s) (y ∷ u) ys later wider (λ x m. among_later x y u (old x m)) outer h.2)
    (λ k. ordered_filter r q p base (y ∷ s) u ys later (narrow k) old (λ x t m. out x t (or_none (bytes_eq x y) (is_among x s) m).1) h.2)
  where
    later : (x : List ℕ) → is_among x ys ≡ true → p x ≡ true → (o : List ℕ) → is_among o (q x) ≡ true → (is_among o (r x) ≡ true) × ((p o || is_among o base) ≡ true)
    later x m t = closed x (among_later x y ys m) t

    wider : (x : List ℕ) → p x ≡ true → is_among x (y ∷ s) ≡ true → is_among x (y ∷ u) ≡ true
    wider x t m =
        by_among x y s m
        (λ e. subst (λ (z : List ℕ). is_among z (y ∷ u) ≡ true) (sym e) (among_here y u))
        (λ d k. among_later x y u (more x t k))

    outer : (x : List ℕ) → p x ≡ true → is_among x (y ∷ s) ≡ false → is_among x (y ∷ u) ≡ false
    outer x t m =
        let parts = or_none (bytes_eq x y) (is_among x s) m in
        neither (bytes_eq x y) (is_among x u) parts.0 (out x t parts.1)

    narrow : p y ≡ false → (x : List ℕ) → p x ≡ true → is_among x (y ∷ s) ≡ true → is_among x u ≡ true
    narrow k x t m = by_among x y s m (λ e. absurd (false≢true (sym k ∙ sym (ap p e) ∙ t))) (λ d n. more x t n)

    seen_now : p y ≡ true → AllSeen u (q y)
    seen_now k o m =
        let both = closed y (among_here y ys) k o m in
        by_test (p o) (λ t. more o t (h.1 o both.0)) (λ t. old o (or_second (p o) (is_among o base) both.1 t))

    at : (b : Bool) → p y ≡ b → (p y ≡ true → Ordered q (y ∷ u) (filter p ys)) → (p y ≡ false → Ordered q u (filter p ys)) → Ordered q u (cond b (y ∷ filter p ys) (filter p ys))
    at true k kept gone = (out y k h.0, seen_now k, kept k)
    at false k kept gone = gone k
