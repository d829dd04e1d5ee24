-- An order is parted into the names that do not reach a name and, after them, that name and those that do.
use Rattle.std.proofs.Common.{◌≡◌, ℕ, Bool, true, false, ◌||◌, List, [], ◌∷◌, ◌++◌, refl, sym, ap, subst, ◌∙◌, true≢false, length, drop, get_or, ◌<◌, ◌+◌, length-append, bytes_eq, arith}
use Rattle.evm_model.specs.Orders.{is_among, AllSeen, Ordered}
use Rattle.evm_model.proofs.Names.{same_name, name_itself, or_left, or_right, or_none, or-false, neither, among_here, among_later, among-append, apart, apart_back}
use Rattle.evm_model.proofs.Levels.{ordered_reads}
use Rattle.evm_model.proofs.Orders.{ordered_join, ordered_push}
use Rattle.evm_scene.specs.Orders.{meets, Parted}
use Rattle.evm_scene.proofs.Splits.{drop_item}

-- names of an order were not seen before it
pub later_out : (r : List ℕ → List (List ℕ)) (seen zs : List (List ℕ)) → Ordered r seen zs → (x : List ℕ) → is_among x zs ≡ true → is_among x seen ≡ false
later_out r seen [] h x e = absurd (true≢false (sym e))
later_out r seen (z ∷ zs) h x e = by (bytes_eq x z) refl (λ d. (or_none (bytes_eq x z) (is_among x seen) (later_out r (z ∷ seen) zs h.2 x (sym (ap (λ b. b || is_among x zs) d) ∙ e))).1)
  where
    by : (b : Bool) → bytes_eq x z ≡ b → (bytes_eq x z ≡ false → is_among x seen ≡ false) → is_among x seen ≡ false
    by true d rest = ap (λ (k : List ℕ). is_among k seen) (same_name x z d) ∙ h.0
    by false d rest = rest d

-- more may have been seen, but no name of the order
pub ordered_widen : (r : List ℕ → List (List ℕ)) (s u xs : List (List ℕ)) → ((x : List ℕ) → is_among x s ≡ true → is_among x u ≡ true) → ((x : List ℕ) → is_among x xs ≡ true → is_among x u ≡ false) → Ordered r s xs → Ordered r u xs
ordered_widen r s u [] more out h = tt
ordered_widen r s u (y ∷ ys) more out h =
    (out y (among_here y ys), λ o m. more o (h.1 o m), ordered_widen r (y ∷ s) (y ∷ u) ys wider outer h.2)
  where
    wider : (x : List ℕ) → is_among x (y ∷ s) ≡ true → is_among x (y ∷ u) ≡ true
    wider x = by (bytes_eq x y)
      where
        by : (b : Bool) → (b || is_among x s) ≡ true → (b || is_among x u) ≡ true
        by true e = refl
        by false e = more x e

    outer : (x : List ℕ) → is_among x ys ≡ true → is_among x (y ∷ u) ≡ false
    outer x e =
        ap (λ b. b || is_among x u) (or_none (bytes_eq x y) (is_among x s) (later_out r (y ∷ s) ys h.2 x e)).0 ∙ out x (among_later x y ys e)

pub meets_none : (reach names : List (List ℕ)) → meets reach names ≡ false → (o : List ℕ) → is_among o names ≡ true → is_among o reach ≡ false
meets_none reach [] h o m = absurd (true≢false (sym m))
meets_none reach (x ∷ xs) h o m = by (bytes_eq o x) refl (λ d. meets_none reach xs (or_none (is_among x reach) (meets reach xs) h).1 o (sym (ap (λ b. b || is_among o xs) d) ∙ m))
  where
    by : (b : Bool) → bytes_eq o x ≡ b → (bytes_eq o x ≡ false → is_among o reach ≡ false) → is_among o reach ≡ false
    by true d rest = ap (λ k. is_among k reach) (same_name o x d) ∙ (or_none (is_among x reach) (meets reach xs) h).0
    by false d rest = rest d

meets_same : (s u names : List (List ℕ)) → ((o : List ℕ) → is_among o names ≡ true → is_among o s ≡ is_among o u) → meets s names ≡ meets u names
meets_same s u [] e = refl
meets_same s u (x ∷ xs) e = ap (λ b. b || meets s xs) (e x (among_here x xs)) ∙ ap (λ b. is_among x u || b) (meets_same s u xs (λ o m. e o (among_later o x xs m)))

module _ (r : List ℕ → List (List ℕ)) (name : List ℕ) (order front later : List (List ℕ)) (cut : order ≡ front ++ name ∷ later) (ordered : Ordered r [] front) (own : Ordered r front (name ∷ later)) where
  front_closed : (x : List ℕ) → is_among x front ≡ true → AllSeen front (r x)
  front_closed x m o k = ordered_reads r [] front ordered x m o k

  front_apart : (x : List ℕ) → is_among x front ≡ true → bytes_eq x name ≡ false
  front_apart x m = apart_back name x front own.0 m

  alone : (x : List ℕ) → bytes_eq x name ≡ false → is_among x (name ∷ []) ≡ false
  alone x d = (or-false (bytes_eq x name)) ∙ d

  none_meets : (names : List (List ℕ)) → AllSeen front names → meets (name ∷ []) names ≡ false
  none_meets [] a = refl
  none_meets (x ∷ xs) a = ap (λ b. b || meets (name ∷ []) xs) (alone x (front_apart x (a x (among_here x xs)))) ∙ none_meets xs (λ o m. a o (among_later o x xs m))

  pub part_start : Parted r order name front (name ∷ []) later
  part_start = record {
    seen = name ∷ front;
    left = own.2;
    whole = λ x. ap (λ l. is_among x l) cut ∙ among-append x front (name ∷ later) ∙ turn_whole (is_among x front) (bytes_eq x name) (is_among x later);
    size = omega (arith, ap length cut, length-append front (name ∷ later));
    members = λ x. turn (bytes_eq x name) (is_among x front);
    disjoint = λ x m. alone x (front_apart x m);
    tail = [];
    starts = refl;
    named = among_here name [];
    closed = λ x m o k. among_later o name front (at_closed x (bytes_eq x name) refl m o k);
    exact = λ x m. at_exact x (bytes_eq x name) refl m;
    first = ordered;
    after = (own.0, own.1, tt);
  }
    where
      turn_whole : (a b c : Bool) → (a || (b || c)) ≡ ((b || a) || c)
      turn_whole true true c = refl
      turn_whole true false c = refl
      turn_whole false true c = refl
      turn_whole false false c = refl

      turn : (a b : Bool) → (a || b) ≡ (b || (a || false))
      turn true true = refl
      turn true false = refl
      turn false true = refl
      turn false false = refl

      at_closed : (x : List ℕ) (b : Bool) → bytes_eq x name ≡ b → is_among x (name ∷ front) ≡ true → AllSeen front (r x)
      at_closed x true d m o k = own.1 o (subst (λ z. is_among o (r z) ≡ true) (same_name x name d) k)
      at_closed x false d m o k = front_closed x (sym (ap (λ b. b || is_among x front) d) ∙ m) o k

      at_exact : (x : List ℕ) (b : Bool) → bytes_eq x name ≡ b → is_among x (name ∷ front) ≡ true → is_among x (name ∷ []) ≡ (bytes_eq x name || meets (name ∷ []) (r x))
      at_exact x true d m = or_left (bytes_eq x name) false d ∙ sym (or_left (bytes_eq x name) (meets (name ∷ []) (r x)) d)
      at_exact x false d m =
          alone x d ∙ sym (ap (λ b. b || meets (name ∷ []) (r x)) d ∙ none_meets (r x) (front_closed x (sym (ap (λ b. b || is_among x front) d) ∙ m)))

module _ (r : List ℕ → List (List ℕ)) (order : List (List ℕ)) (name : List ℕ) (front reach : List (List ℕ)) (x : List ℕ) (rest : List (List ℕ)) (p : Parted r order name front reach (x ∷ rest)) where
  outside : (is_among x front || is_among x reach) ≡ false
  outside = sym (p.members x) ∙ p.left.0

  not_front : is_among x front ≡ false
  not_front = (or_none (is_among x front) (is_among x reach) outside).0

  not_reach : is_among x reach ≡ false
  not_reach = (or_none (is_among x front) (is_among x reach) outside).1

  name_seen : is_among name p.seen ≡ true
  name_seen = p.members name ∙ or_right (is_among name front) (is_among name reach) p.named

  other_name : bytes_eq x name ≡ false
  other_name = apart x name p.seen p.left.0 name_seen

  reads_in : (o : List ℕ) → is_among o (r x) ≡ true → (is_among o front || is_among o reach) ≡ true
  reads_in o m = sym (p.members o) ∙ p.left.1 o m

  closed_more : (y : List ℕ) (b : Bool) → bytes_eq y x ≡ b → is_among y (x ∷ p.seen) ≡ true → AllSeen (x ∷ p.seen) (r y)
  closed_more y true d m o k = among_later o x p.seen (p.left.1 o (subst (λ z. is_among o (r z) ≡ true) (same_name y x d) k))
  closed_more y false d m o k = among_later o x p.seen (p.closed y (sym (ap (λ b. b || is_among y p.seen) d) ∙ m) o k)

  more_whole : (y : List ℕ) → is_among y order ≡ (is_among y (x ∷ p.seen) || is_among y rest)
  more_whole y = p.whole y ∙ turn_over (is_among y p.seen) (bytes_eq y x) (is_among y rest)
    where
      turn_over : (a b c : Bool) → (a || (b || c)) ≡ ((b || a) || c)
      turn_over true true c = refl
      turn_over true false c = refl
      turn_over false true c = refl
      turn_over false false c = refl

  end_is : (y : List ℕ) (xs : List (List ℕ)) → is_among y (xs ++ x ∷ []) ≡ (is_among y xs || bytes_eq y x)
  end_is y xs = among-append y xs (x ∷ []) ∙ ap (λ b. is_among y xs || b) ((or-false (bytes_eq y x)))

  end_old : (y : List ℕ) (xs : List (List ℕ)) → is_among y p.seen ≡ true → is_among y (xs ++ x ∷ []) ≡ is_among y xs
  end_old y xs m = end_is y xs ∙ ap (λ b. is_among y xs || b) (apart_back x y p.seen p.left.0 m) ∙ (or-false (is_among y xs))

  end_new : (xs : List (List ℕ)) → is_among x (xs ++ x ∷ []) ≡ true
  end_new xs = end_is x xs ∙ or_right (is_among x xs) (bytes_eq x x) (name_itself x)

  -- a name that reads one that reaches `name` reaches it
  pub part_hit : meets reach (r x) ≡ true → Parted r order name front (reach ++ x ∷ []) rest
  part_hit hit = record {
    seen = x ∷ p.seen;
    left = p.left.2;
    whole = more_whole;
    size = omega (arith, p.size, length-append reach (x ∷ []));
    members = λ y. ap (λ b. bytes_eq y x || b) (p.members y) ∙ turn (bytes_eq y x) (is_among y front) (is_among y reach) ∙ ap (λ b. is_among y front || b) (sym (end_is y reach));
    disjoint = λ y m. end_old y reach (front_seen y m) ∙ p.disjoint y m;
    tail = p.tail ++ x ∷ [];
    starts = ap (λ l. l ++ x ∷ []) p.starts;
    named = end_old name reach name_seen ∙ p.named;
    closed = λ y m. closed_more y (bytes_eq y x) refl m;
    exact = λ y m. at_exact y (bytes_eq y x) refl m;
    first = p.first;
    after = ordered_push r front reach x p.after not_front not_reach reads_in;
  }
    where
      turn : (a b c : Bool) → (a || (b || c)) ≡ (b || (c || a))
      turn true true c = refl
      turn true false true = refl
      turn true false false = refl
      turn false true c = refl
      turn false false true = refl
      turn false false false = refl

      front_seen : (y : List ℕ) → is_among y front ≡ true → is_among y p.seen ≡ true
      front_seen y m = p.members y ∙ or_left (is_among y front) (is_among y reach) m

      at_exact : (y : List ℕ) (b : Bool) → bytes_eq y x ≡ b → is_among y (x ∷ p.seen) ≡ true → is_among y (reach ++ x ∷ []) ≡ (bytes_eq y name || meets (reach ++ x ∷ []) (r y))
      at_exact y true d m =
          subst (λ z. is_among z (reach ++ x ∷ []) ≡ (bytes_eq z name || meets (reach ++ x ∷ []) (r z))) (sym (same_name y x d))
          (end_new reach ∙ sym (or_right (bytes_eq x name) (meets (reach ++ x ∷ []) (r x))
          (meets_same (reach ++ x ∷ []) reach (r x) (λ o k. end_old o reach (p.left.1 o k)) ∙ hit)))
      at_exact y false d m =
          let old : is_among y p.seen ≡ true = sym (ap (λ b. b || is_among y p.seen) d) ∙ m in
          end_old y reach old ∙ p.exact y old
          ∙ ap (λ b. bytes_eq y name || b) (sym (meets_same (reach ++ x ∷ []) reach (r y) (λ o k. end_old o reach (p.closed y old o k))))

  -- and another one does not
  pub part_miss : meets reach (r x) ≡ false → Parted r order name (front ++ x ∷ []) reach rest
  part_miss miss = record {
    seen = x ∷ p.seen;
    left = p.left.2;
    whole = more_whole;
    size = omega (arith, p.size, length-append front (x ∷ []));
    members = λ y. ap (λ b. bytes_eq y x || b) (p.members y) ∙ turn (bytes_eq y x) (is_among y front) (is_among y reach) ∙ ap (λ b. b || is_among y reach) (sym (end_is y front));
    disjoint = λ y m. at_disjoint y (bytes_eq y x) refl (sym (end_is y front) ∙ m);
    tail = p.tail;
    starts = p.starts;
    named = p.named;
    closed = λ y m. closed_more y (bytes_eq y x) refl m;
    exact = λ y m. at_exact y (bytes_eq y x) refl m;
    first = ordered_push r [] front x p.first refl not_front (λ o m. in_front (is_among o front) (is_among o reach) (reads_in o m) (meets_none reach (r x) miss o m));
    after = ordered_widen r front (front ++ x ∷ []) reach
        (λ y m. end_is y front ∙ or_left (is_among y front) (bytes_eq y x) m)
        (λ y m. end_is y front ∙ neither (is_among y front) (bytes_eq y x) (out_front y m) (apart_back x y p.seen p.left.0 (p.members y ∙ or_right (is_among y front) (is_among y reach) m)))
        p.after;
  }
    where
      turn : (a b c : Bool) → (a || (b || c)) ≡ ((b || a) || c)
      turn true true c = refl
      turn true false c = refl
      turn false true c = refl
      turn false false c = refl

      in_front : (a b : Bool) → (a || b) ≡ true → b ≡ false → a ≡ true
      in_front true b h d = refl
      in_front false b h d = absurd (true≢false (sym h ∙ d))

      out_front : (y : List ℕ) → is_among y reach ≡ true → is_among y front ≡ false
      out_front y m = by (is_among y front) refl
        where
          by : (b : Bool) → is_among y front ≡ b → is_among y front ≡ false
          by true d = absurd (true≢false (sym m ∙ p.disjoint y d))
          by false d = d

      at_disjoint : (y : List ℕ) (b : Bool) → bytes_eq y x ≡ b → (is_among y front || bytes_eq y x) ≡ true → is_among y reach ≡ false
      at_disjoint y true d m = ap (λ z. is_among z reach) (same_name y x d) ∙ not_reach
      at_disjoint y false d m = p.disjoint y (sym (or-false (is_among y front)) ∙ ap (λ b. is_among y front || b) (sym d) ∙ m)

      at_exact : (y : List ℕ) (b : Bool) → bytes_eq y x ≡ b → is_among y (x ∷ p.seen) ≡ true → is_among y reach ≡ (bytes_eq y name || meets reach (r y))
      at_exact y true d m =
          subst (λ z. is_among z reach ≡ (bytes_eq z name || meets reach (r z))) (sym (same_name y x d))
          (not_reach ∙ sym (neither (bytes_eq x name) (meets reach (r x)) other_name miss))
      at_exact y false d m = p.exact y (sym (ap (λ b. b || is_among y p.seen) d) ∙ m)

-- at a place of a list
module _ (r : List ℕ → List (List ℕ)) (order : List (List ℕ)) (name : List ℕ) (front reach xs : List (List ℕ)) (i : ℕ) (x : List ℕ) (within : i < length xs) (item : x ≡ get_or xs i x)
    (p : Parted r order name front reach (drop i xs)) where
  at_place : Parted r order name front reach (x ∷ drop (i + 1) xs)
  at_place = subst (λ l. Parted r order name front reach l) (drop_item xs i x within item) p

  pub part_hit_at : meets reach (r x) ≡ true → Parted r order name front (reach ++ x ∷ []) (drop (i + 1) xs)
  part_hit_at h = part_hit r order name front reach x (drop (i + 1) xs) at_place h

  pub part_miss_at : meets reach (r x) ≡ false → Parted r order name (front ++ x ∷ []) reach (drop (i + 1) xs)
  part_miss_at h = part_miss r order name front reach x (drop (i + 1) xs) at_place h

  pub part_new : is_among x reach ≡ false
  part_new = not_reach r order name front reach x (drop (i + 1) xs) at_place

-- the same order for other reads, where they agree on the list
pub ordered_on : (r q : List ℕ → List (List ℕ)) (s xs : List (List ℕ)) → ((x : List ℕ) → is_among x xs ≡ true → r x ≡ q x) → Ordered r s xs → Ordered q s xs
ordered_on r q s [] e h = tt
ordered_on r q s (y ∷ ys) e h =
    (h.0, λ o m. h.1 o (subst (λ l. is_among o l ≡ true) (sym (e y (among_here y ys))) m), ordered_on r q (y ∷ s) ys (λ x m. e x (among_later x y ys m)) h.2)

module _ (r q : List ℕ → List (List ℕ)) (order : List (List ℕ)) (name : List ℕ) (front reach : List (List ℕ)) (p : Parted r order name front reach [])
    (other : (x : List ℕ) → bytes_eq x name ≡ false → r x ≡ q x)
    (stand : (o : List ℕ) → is_among o (q name) ≡ true → is_among o order ≡ true)
    (free : (o : List ℕ) → is_among o (q name) ≡ true → is_among o reach ≡ false) where
  after_tail : Ordered r front (name ∷ p.tail)
  after_tail = subst (λ l. Ordered r front l) p.starts p.after

  name_out : is_among name front ≡ false
  name_out = after_tail.0

  pub seen_all : (x : List ℕ) → is_among x order ≡ (is_among x front || is_among x reach)
  seen_all x = p.whole x ∙ (or-false (is_among x p.seen)) ∙ p.members x

  pub reads_front : (o : List ℕ) → is_among o (q name) ≡ true → is_among o front ≡ true
  reads_front o m = in_front (is_among o front) (is_among o reach) (sym (seen_all o) ∙ stand o m) (free o m)
    where
      in_front : (a b : Bool) → (a || b) ≡ true → b ≡ false → a ≡ true
      in_front true b h d = refl
      in_front false b h d = absurd (true≢false (sym h ∙ d))

  not_name : (xs : List (List ℕ)) (x : List ℕ) → is_among name xs ≡ false → is_among x xs ≡ true → bytes_eq x name ≡ false
  not_name xs x out m = apart_back name x xs out m

  new_front : Ordered q [] front
  new_front = ordered_on r q [] front (λ x m. other x (not_name front x name_out m)) p.first

  tail_other : (x : List ℕ) → is_among x p.tail ≡ true → bytes_eq x name ≡ false
  tail_other x m = (or_none (bytes_eq x name) (is_among x front) (later_out r (name ∷ front) p.tail after_tail.2 x m)).0

  new_reach : Ordered q front reach
  new_reach =
      subst (λ l. Ordered q front l) (sym p.starts)
      (name_out, reads_front, ordered_on r q (name ∷ front) p.tail (λ x m. other x (tail_other x m)) after_tail.2)

  pub new_order : Ordered q [] (front ++ reach)
  new_order = ordered_join q [] front front reach (λ x. refl) new_front new_reach

  pub new_whole : (x : List ℕ) → is_among x (front ++ reach) ≡ is_among x order
  new_whole x = among-append x front reach ∙ sym (seen_all x)

  pub new_size : length (front ++ reach) ≡ length order
  new_size = omega (arith, length-append front reach, p.size)

  pub tail_order : Ordered r (name ∷ front) p.tail
  tail_order = after_tail.2

  pub tail_whole : (x : List ℕ) → is_among x order ≡ true → is_among x (name ∷ front) ≡ false → is_among x p.tail ≡ true
  tail_whole x m out =
      let parts = or_none (bytes_eq x name) (is_among x front) out in
      rest (is_among x front) (bytes_eq x name) (is_among x p.tail) parts.1 parts.0
      (sym (seen_all x ∙ ap (λ l. is_among x front || is_among x l) p.starts) ∙ m)
    where
      rest : (a b c : Bool) → a ≡ false → b ≡ false → (a || (b || c)) ≡ true → c ≡ true
      rest true b c e f h = absurd (true≢false e)
      rest false true c e f h = absurd (true≢false f)
      rest false false c e f h = h

pub seen_of : (r : List ℕ → List (List ℕ)) (order : List (List ℕ)) (name : List ℕ) (front reach : List (List ℕ)) (p : Parted r order name front reach []) (x : List ℕ) → is_among x order ≡ true → is_among x p.seen ≡ true
seen_of r order name front reach p x m = sym (or-false (is_among x p.seen)) ∙ sym (p.whole x) ∙ m
