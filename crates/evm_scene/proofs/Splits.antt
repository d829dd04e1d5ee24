-- Orders that are cut at a name.
use Rattle.std.proofs.Common.{◌≡◌, ℕ, ◌<◌, ◌+◌, Bool, true, false, ◌||◌, List, [], ◌∷◌, ◌++◌, refl, sym, ap, subst, ◌∙◌, true≢false, is_some, length, drop, get_or, drop-cons, add-one, bytes_eq}
use Rattle.evm_model.specs.Orders.{is_among, Ordered}
use Rattle.evm_model.proofs.Names.{or_none, or-false, among-append}
use Rattle.evm_model.proofs.Orders.{ordered_seen}
use Rattle.evm_scene.specs.Tables.{Table, node_at, reads_at}
use Rattle.evm_scene.specs.Orders.{IsKept}

-- the rest of a list from a place on
pub drop_item : (xs : List (List ℕ)) (i : ℕ) (x : List ℕ) → i < length xs → x ≡ get_or xs i x → drop i xs ≡ x ∷ drop (i + 1) xs
drop_item xs i x h e = subst (λ (y : List ℕ). drop i xs ≡ y ∷ drop (i + 1) xs) (sym e) (rw (add-one, drop-cons xs i x))

or_turn : (a b c : Bool) → ((a || b) || c) ≡ (b || (a || c))
or_turn true true c = refl
or_turn true false c = refl
or_turn false b c = refl

pub ordered_front : (reads : List ℕ → List (List ℕ)) (seen xs ys : List (List ℕ)) → Ordered reads seen (xs ++ ys) → Ordered reads seen xs
ordered_front reads seen [] ys h = tt
ordered_front reads seen (x ∷ xs) ys h = (h.0, h.1, ordered_front reads (x ∷ seen) xs ys h.2)

-- the rest of an order, after a front
pub ordered_rest : (reads : List ℕ → List (List ℕ)) (seen xs ys : List (List ℕ)) → Ordered reads seen (xs ++ ys)
    → (s : List (List ℕ)) × ((x : List ℕ) → is_among x s ≡ (is_among x seen || is_among x xs)) × Ordered reads s ys
ordered_rest reads seen [] ys h = (seen, λ x. sym (or-false (is_among x seen)), h)
ordered_rest reads seen (y ∷ xs) ys h =
    let r = ordered_rest reads (y ∷ seen) xs ys h.2 in
    (r.0, λ x. r.1 x ∙ or_turn (bytes_eq x y) (is_among x seen) (is_among x xs), r.2)

module _ (t : Table) (order front : List (List ℕ)) (name : List ℕ) (later : List (List ℕ)) (k : IsKept t order) (parts : order ≡ front ++ name ∷ later) where
  whole_order : Ordered (reads_at t) [] (front ++ name ∷ later)
  whole_order = subst (λ l. Ordered (reads_at t) [] l) parts k.ordered

  pub cut_front : Ordered (reads_at t) [] front
  cut_front = ordered_front (reads_at t) [] front (name ∷ later) whole_order

  pub cut_rest : Ordered (reads_at t) front (name ∷ later)
  cut_rest =
      let r = ordered_rest (reads_at t) [] front (name ∷ later) whole_order in
      ordered_seen (reads_at t) r.0 front (name ∷ later) r.1 r.2

  pub cut_alone : is_among name front ≡ false
  cut_alone = cut_rest.0

  pub cut_later : Ordered (reads_at t) (name ∷ front) later
  cut_later = cut_rest.2

  pub cut_whole : (x : List ℕ) → is_some (node_at t x) ≡ true → is_among x (name ∷ front) ≡ false → is_among x later ≡ true
  cut_whole x there out =
      let p = or_none (bytes_eq x name) (is_among x front) out in
      drop_first (is_among x front) (bytes_eq x name) (is_among x later) p.1 p.0
      (sym (ap (λ l. is_among x l) parts ∙ among-append x front (name ∷ later)) ∙ k.whole x ∙ there)
    where
      drop_first : (a b c : Bool) → a ≡ false → b ≡ false → (a || (b || c)) ≡ true → c ≡ true
      drop_first true b c e f h = absurd (true≢false e)
      drop_first false true c e f h = absurd (true≢false f)
      drop_first false false c e f h = h
