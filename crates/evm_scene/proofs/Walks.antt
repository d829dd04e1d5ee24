-- A walk over an order that carries a change: what holds while it goes on.
use Rattle.std.proofs.Common.{◌≡◌, ℕ, ◌+◌, Bool, true, false, cond, ◌||◌, List, [], ◌∷◌, Option, None, Some, refl, sym, ap, subst, ◌∙◌, true≢false, is_some, drop, get_or, length, ◌<◌, ◌≤◌, drop-cons, add-one, bytes_eq}
use Rattle.std.proofs.lemmas.Bool.{both_ways}
use Rattle.std.proofs.lemmas.List.{drop_all}
use Rattle.evm_model.specs.Orders.{is_among, AllSeen, Ordered}
use Rattle.evm_model.proofs.Names.{same_name, equal_names, different_names, name_itself, or_none, among_here, among_later, among_none, apart, apart_back}
use Rattle.evm_model.proofs.Levels.{along, ordered_reads}
use Rattle.evm_model.specs.Figures.{Figure}
use Rattle.evm_scene.specs.declared.node.Node.{Node}
use Rattle.evm_formulas.specs.declared.changes.Change.{Change}
use Rattle.evm_scene.specs.Tables.{Table, node_at, reads_at, node_value, node_stays, node_figure, kept}
use Rattle.evm_formulas.specs.Changes.{after_of, IsChange}
use Rattle.evm_scene.specs.Changes.{Pending, change_at, moved, MovesNode, IsCarried, IsCarriedTo, IsHalted}
use Rattle.evm_scene.specs.Works.{IsOutcome}
use Rattle.evm_scene.proofs.Views.{value_same, stays_same}

pub record Walk (t : Table) (front : List (List ℕ)) (name : List ℕ) (old p : Pending) (rest : List (List ℕ)) : Type 0 where
  pub seen : List (List ℕ)
  pub left : Ordered (reads_at t) seen rest
  pub named : is_among name seen ≡ true
  pub first : (x : List ℕ) → is_among x front ≡ true → (is_among x seen ≡ true) × (change_at p x ≡ None)
  pub fresh : (x : List ℕ) → is_among x seen ≡ false → change_at p x ≡ None
  pub closed : (x : List ℕ) → is_among x seen ≡ true → bytes_eq x name ≡ false → AllSeen seen (reads_at t x)
  pub fixed : (x : List ℕ) → is_among x seen ≡ true → bytes_eq x name ≡ false → moved t p x ≡ node_value (node_at t x) (moved t p)
  pub stays : (x : List ℕ) → is_among x seen ≡ true → bytes_eq x name ≡ false → node_stays (node_at t x) (moved t p) ≡ true
  pub all : (x : List ℕ) → is_some (node_at t x) ≡ true → is_among x seen ≡ false → is_among x rest ≡ true
  pub seed : change_at p name ≡ change_at old name
  pub change : (x : List ℕ) → IsChange (change_at p x) (kept t x)
  pub moves : (x : List ℕ) → bytes_eq x name ≡ false → MovesNode (change_at p x) (node_at t x)
  pub same : (V : List ℕ → Figure) → IsOutcome t name (moved t old name) V → (x : List ℕ) → is_among x seen ≡ true → moved t p x ≡ V x

-- one name is done, with its change or without one
module _ (t : Table) (front : List (List ℕ)) (name : List ℕ) (old p q : Pending) (x : List ℕ) (rest : List (List ℕ)) (c : Option Change)
    (w : Walk t front name old p (x ∷ rest))
    (put : (y : List ℕ) → change_at q y ≡ cond (bytes_eq x y) c (change_at p y))
    (after : after_of c (kept t x) ≡ node_value (node_at t x) (moved t p))
    (stay : node_stays (node_at t x) (moved t p) ≡ true)
    (change : IsChange c (kept t x)) (moves : MovesNode c (node_at t x)) where
  new : is_among x w.seen ≡ false
  new = w.left.0

  put_here : change_at q x ≡ c
  put_here = put x ∙ ap (λ b. cond b c (change_at p x)) (name_itself x)

  put_else : (y : List ℕ) → bytes_eq x y ≡ false → change_at q y ≡ change_at p y
  put_else y e = put y ∙ ap (λ b. cond b c (change_at p y)) e

  else_seen : (y : List ℕ) → is_among y w.seen ≡ true → change_at q y ≡ change_at p y
  else_seen y h = put_else y (apart x y w.seen new h)

  moved_seen : (y : List ℕ) → is_among y w.seen ≡ true → moved t p y ≡ moved t q y
  moved_seen y h = ap (λ o. after_of o (kept t y)) (sym (else_seen y h))

  moved_here : moved t q x ≡ node_value (node_at t x) (moved t p)
  moved_here = ap (λ o. after_of o (kept t x)) put_here ∙ after

  at_change : (y : List ℕ) (b : Bool) → bytes_eq x y ≡ b → IsChange (change_at q y) (kept t y)
  at_change y true e = subst (λ k. IsChange (change_at q k) (kept t k)) (same_name x y e) (subst (λ o. IsChange o (kept t x)) (sym put_here) change)
  at_change y false e = subst (λ o. IsChange o (kept t y)) (sym (put_else y e)) (w.change y)

  at_moves : (y : List ℕ) (b : Bool) → bytes_eq x y ≡ b → bytes_eq y name ≡ false → MovesNode (change_at q y) (node_at t y)
  at_moves y true e other = subst (λ k. MovesNode (change_at q k) (node_at t k)) (same_name x y e) (subst (λ o. MovesNode o (node_at t x)) (sym put_here) moves)
  at_moves y false e other = subst (λ o. MovesNode o (node_at t y)) (sym (put_else y e)) (w.moves y other)

  at_closed : (y : List ℕ) (b : Bool) → bytes_eq y x ≡ b → is_among y (x ∷ w.seen) ≡ true → bytes_eq y name ≡ false → AllSeen (x ∷ w.seen) (reads_at t y)
  at_closed y true e there other o r = among_later o x w.seen (w.left.1 o (subst (λ k. is_among o (reads_at t k) ≡ true) (same_name y x e) r))
  at_closed y false e there other o r = among_later o x w.seen (w.closed y (sym (ap (λ b. b || is_among y w.seen) e) ∙ there) other o r)

  at_fixed : (y : List ℕ) (b : Bool) → bytes_eq y x ≡ b → is_among y (x ∷ w.seen) ≡ true → bytes_eq y name ≡ false → moved t q y ≡ node_value (node_at t y) (moved t q)
  at_fixed y true e there other =
      subst (λ k. moved t q k ≡ node_value (node_at t k) (moved t q)) (sym (same_name y x e))
      (moved_here ∙ value_same (node_at t x) (moved t p) (moved t q) (λ o r. moved_seen o (w.left.1 o r)))
  at_fixed y false e there other =
      let seen_y : is_among y w.seen ≡ true = sym (ap (λ b. b || is_among y w.seen) e) ∙ there in
      sym (moved_seen y seen_y) ∙ w.fixed y seen_y other
      ∙ value_same (node_at t y) (moved t p) (moved t q) (λ o r. moved_seen o (w.closed y seen_y other o r))

  at_stays : (y : List ℕ) (b : Bool) → bytes_eq y x ≡ b → is_among y (x ∷ w.seen) ≡ true → bytes_eq y name ≡ false → node_stays (node_at t y) (moved t q) ≡ true
  at_stays y true e there other =
      subst (λ k. node_stays (node_at t k) (moved t q) ≡ true) (sym (same_name y x e))
      (sym (stays_same (node_at t x) (moved t p) (moved t q) (λ o r. moved_seen o (w.left.1 o r))) ∙ stay)
  at_stays y false e there other =
      let seen_y : is_among y w.seen ≡ true = sym (ap (λ b. b || is_among y w.seen) e) ∙ there in
      sym (stays_same (node_at t y) (moved t p) (moved t q) (λ o r. moved_seen o (w.closed y seen_y other o r))) ∙ w.stays y seen_y other

  at_fresh : (y : List ℕ) → is_among y (x ∷ w.seen) ≡ false → change_at q y ≡ None
  at_fresh y out =
      let parts = or_none (bytes_eq y x) (is_among y w.seen) out in
      put_else y (different_names x y (λ e. both_ways (bytes_eq y x) parts.0 (equal_names y x (sym e)))) ∙ w.fresh y parts.1

  at_all : (y : List ℕ) → is_some (node_at t y) ≡ true → is_among y (x ∷ w.seen) ≡ false → is_among y rest ≡ true
  at_all y there out =
      let parts = or_none (bytes_eq y x) (is_among y w.seen) out in
      sym (ap (λ b. b || is_among y rest) parts.0) ∙ w.all y there parts.1

  at_same : (V : List ℕ → Figure) → IsOutcome t name (moved t old name) V → (y : List ℕ) (b : Bool) → bytes_eq y x ≡ b → is_among y (x ∷ w.seen) ≡ true → moved t q y ≡ V y
  at_same V out y true e there =
      subst (λ k. moved t q k ≡ V k) (sym (same_name y x e))
      (moved_here ∙ value_same (node_at t x) (moved t p) V (λ o r. w.same V out o (w.left.1 o r)) ∙ sym (out.fixed x (apart x name w.seen new w.named)))
  at_same V out y false e there =
      let seen_y : is_among y w.seen ≡ true = sym (ap (λ b. b || is_among y w.seen) e) ∙ there in
      sym (moved_seen y seen_y) ∙ w.same V out y seen_y

  pub walk_step : Walk t front name old q rest
  walk_step = record {
    seen = x ∷ w.seen;
    left = w.left.2;
    named = among_later name x w.seen w.named;
    first = λ y h. (among_later y x w.seen (w.first y h).0, else_seen y (w.first y h).0 ∙ (w.first y h).1);
    fresh = at_fresh;
    closed = λ y h other. at_closed y (bytes_eq y x) refl h other;
    fixed = λ y h other. at_fixed y (bytes_eq y x) refl h other;
    stays = λ y h other. at_stays y (bytes_eq y x) refl h other;
    all = at_all;
    seed = else_seen name w.named ∙ w.seed;
    change = λ y. at_change y (bytes_eq x y) refl;
    moves = λ y other. at_moves y (bytes_eq x y) refl other;
    same = λ V out y h. at_same V out y (bytes_eq y x) refl h;
  }

-- the walk's start: just the name that is edited has a change
module _ (t : Table) (front : List (List ℕ)) (name : List ℕ) (p : Pending) (later : List (List ℕ))
    (kept_fixed : (x : List ℕ) → kept t x ≡ node_value (node_at t x) (kept t))
    (kept_stays : (x : List ℕ) → node_stays (node_at t x) (kept t) ≡ true)
    (ordered : Ordered (reads_at t) [] front) (alone : is_among name front ≡ false)
    (left : Ordered (reads_at t) (name ∷ front) later)
    (whole : (x : List ℕ) → is_some (node_at t x) ≡ true → is_among x (name ∷ front) ≡ false → is_among x later ≡ true)
    (others : (x : List ℕ) → bytes_eq x name ≡ false → change_at p x ≡ None)
    (seed_change : IsChange (change_at p name) (kept t name)) where
  in_front : (x : List ℕ) → is_among x (name ∷ front) ≡ true → bytes_eq x name ≡ false → is_among x front ≡ true
  in_front x there other = sym (ap (λ b. b || is_among x front) other) ∙ there

  front_reads : (x : List ℕ) → is_among x (name ∷ front) ≡ true → bytes_eq x name ≡ false → AllSeen front (reads_at t x)
  front_reads x there other o r = ordered_reads (reads_at t) [] front ordered x (in_front x there other) o r

  still : (x : List ℕ) → bytes_eq x name ≡ false → moved t p x ≡ kept t x
  still x other = ap (λ o. after_of o (kept t x)) (others x other)

  front_other : (x : List ℕ) → is_among x front ≡ true → bytes_eq x name ≡ false
  front_other x there = apart_back name x front alone there

  start_change : (x : List ℕ) (b : Bool) → bytes_eq x name ≡ b → IsChange (change_at p x) (kept t x)
  start_change x true e = subst (λ k. IsChange (change_at p k) (kept t k)) (sym (same_name x name e)) seed_change
  start_change x false e = subst (λ o. IsChange o (kept t x)) (sym (others x e)) tt

  front_same : (V : List ℕ → Figure) → IsOutcome t name (moved t p name) V → (x : List ℕ) → is_among x front ≡ true → kept t x ≡ V x
  front_same V out x there = along (reads_at t) (λ y. is_among y front ≡ true → kept t y ≡ V y) from_reads [] front ordered (λ y m. among_none y m) x there there
    where
      from_reads : (y : List ℕ) → ((o : List ℕ) → is_among o (reads_at t y) ≡ true → is_among o front ≡ true → kept t o ≡ V o) → is_among y front ≡ true → kept t y ≡ V y
      from_reads y below m =
          kept_fixed y ∙ value_same (node_at t y) (kept t) V (λ o r. below o r (ordered_reads (reads_at t) [] front ordered y m o r)) ∙ sym (out.fixed y (front_other y m))

  start_same : (V : List ℕ → Figure) → IsOutcome t name (moved t p name) V → (x : List ℕ) (b : Bool) → bytes_eq x name ≡ b → is_among x (name ∷ front) ≡ true → moved t p x ≡ V x
  start_same V out x true e there = subst (λ k. moved t p k ≡ V k) (sym (same_name x name e)) (sym out.seed)
  start_same V out x false e there = still x e ∙ front_same V out x (in_front x there e)

  pub walk_start : Walk t front name p p later
  walk_start = record {
    seen = name ∷ front;
    left = left;
    named = among_here name front;
    first = λ x h. (among_later x name front h, others x (front_other x h));
    fresh = λ x h. others x (or_none (bytes_eq x name) (is_among x front) h).0;
    closed = λ x there other o r. among_later o name front (front_reads x there other o r);
    fixed = λ x there other. still x other ∙ kept_fixed x
        ∙ value_same (node_at t x) (kept t) (moved t p) (λ o r. sym (still o (front_other o (front_reads x there other o r))));
    stays = λ x there other. sym (stays_same (node_at t x) (kept t) (moved t p) (λ o r. sym (still o (front_other o (front_reads x there other o r))))) ∙ kept_stays x;
    all = whole;
    seed = refl;
    change = λ x. start_change x (bytes_eq x name) refl;
    moves = λ x other. subst (λ o. MovesNode o (node_at t x)) (sym (others x other)) tt;
    same = λ V out x h. start_same V out x (bytes_eq x name) refl h;
  }

  -- where the name's own change is none, all is carried
  stays_at : moved t p name ≡ kept t name → (x : List ℕ) (b : Bool) → bytes_eq x name ≡ b → moved t p x ≡ kept t x
  stays_at own x true e = subst (λ k. moved t p k ≡ kept t k) (sym (same_name x name e)) own
  stays_at own x false e = still x e

  pub carried_still : moved t p name ≡ kept t name → IsCarried t front name p p
  carried_still own = record {
    fixed = λ x other. still x other ∙ kept_fixed x ∙ value_same (node_at t x) (kept t) (moved t p) (λ o r. sym (stays_at own o (bytes_eq o name) refl));
    stays = λ x other. sym (stays_same (node_at t x) (kept t) (moved t p) (λ o r. sym (stays_at own o (bytes_eq o name) refl))) ∙ kept_stays x;
    early = λ x h. others x (front_other x h);
    seed = refl;
    change = λ x. start_change x (bytes_eq x name) refl;
    moves = λ x other. subst (λ o. MovesNode o (node_at t x)) (sym (others x other)) tt;
  }

-- the walk's end: each other name's value is its formula at the values of its operands
module _ (t : Table) (front : List (List ℕ)) (name : List ℕ) (old p : Pending) (w : Walk t front name old p []) where
  absent : (n : Option Node) → is_some n ≡ false → n ≡ None
  absent None h = refl
  absent (Some n) h = absurd (true≢false h)

  unseen : (x : List ℕ) → is_among x w.seen ≡ false → node_at t x ≡ None
  unseen x out = by (is_some (node_at t x)) refl
    where
      by : (b : Bool) → is_some (node_at t x) ≡ b → node_at t x ≡ None
      by true e = absurd (true≢false (sym (w.all x e out)))
      by false e = absent (node_at t x) e

  pub walk_fixed : (x : List ℕ) → bytes_eq x name ≡ false → moved t p x ≡ node_value (node_at t x) (moved t p)
  walk_fixed x other = by (is_among x w.seen) refl
    where
      by : (b : Bool) → is_among x w.seen ≡ b → moved t p x ≡ node_value (node_at t x) (moved t p)
      by true e = w.fixed x e other
      by false e = ap (λ o. after_of o (kept t x)) (w.fresh x e) ∙ ap node_figure (unseen x e) ∙ sym (ap (λ n. node_value n (moved t p)) (unseen x e))

  pub walk_stays : (x : List ℕ) → bytes_eq x name ≡ false → node_stays (node_at t x) (moved t p) ≡ true
  walk_stays x other = by (is_among x w.seen) refl
    where
      by : (b : Bool) → is_among x w.seen ≡ b → node_stays (node_at t x) (moved t p) ≡ true
      by true e = w.stays x e other
      by false e = ap (λ n. node_stays n (moved t p)) (unseen x e)

module _ (t : Table) (front : List (List ℕ)) (name : List ℕ) (old p q : Pending) (x : List ℕ) (rest : List (List ℕ)) where
  pub walk_to : Walk t front name old p (x ∷ rest) → IsCarriedTo t x p q → Walk t front name old q rest
  walk_to w h = walk_step t front name old p q x rest h.made w h.put h.after h.stays h.change h.moves

  pub walk_new : Walk t front name old p (x ∷ rest) → change_at p x ≡ None
  walk_new w = w.fresh x w.left.0

  -- where the next name's formula moves a cell out of the limits, the walk ends
  pub walk_halted : Walk t front name old p (x ∷ rest) → node_stays (node_at t x) (moved t p) ≡ false → IsHalted t name old
  walk_halted w out = record {
    pending = p;
    seen = w.seen;
    last = x;
    seed = w.seed;
    closed = w.closed;
    fixed = w.fixed;
    other = apart x name w.seen w.left.0 w.named;
    reads = w.left.1;
    out = out;
  }

pub walk_end : (t : Table) (front : List (List ℕ)) (name : List ℕ) (old p : Pending) → Walk t front name old p [] → IsCarried t front name old p
walk_end t front name old p w = record {
  fixed = walk_fixed t front name old p w;
  stays = walk_stays t front name old p w;
  early = λ x h. (w.first x h).1;
  seed = w.seed;
  change = w.change;
  moves = w.moves;
}

-- where no change is noted at a name, putting none leaves all as it is
pub put_none : (p : Pending) (name : List ℕ) → change_at p name ≡ None → (x : List ℕ) → change_at p x ≡ cond (bytes_eq name x) None (change_at p x)
put_none p name e x = by (bytes_eq name x) refl
  where
    by : (b : Bool) → bytes_eq name x ≡ b → change_at p x ≡ cond b None (change_at p x)
    by true d = subst (λ k. change_at p k ≡ None) (same_name name x d) e
    by false d = refl

pub drop_here : (xs : List (List ℕ)) (i : ℕ) (d : List ℕ) → i < length xs → drop i xs ≡ get_or xs i d ∷ drop (i + 1) xs
drop_here xs i d h = rw (add-one, drop-cons xs i d)

-- the same, in a walk over a list by its places
module _ (t : Table) (front : List (List ℕ)) (name : List ℕ) (old p q : Pending) (xs : List (List ℕ)) (i : ℕ) (x : List ℕ)
    (within : i < length xs) (here : x ≡ get_or xs i x) (w : Walk t front name old p (drop i xs)) where
  pub walk_at : Walk t front name old p (x ∷ drop (i + 1) xs)
  walk_at = subst (λ r. Walk t front name old p r) (drop_here xs i x within ∙ ap (λ y. y ∷ drop (i + 1) xs) (sym here)) w

  pub walk_new_at : change_at p x ≡ None
  walk_new_at = walk_new t front name old p q x (drop (i + 1) xs) walk_at

  pub walk_more : IsCarriedTo t x p q → Walk t front name old q (drop (i + 1) xs)
  walk_more h = walk_to t front name old p q x (drop (i + 1) xs) walk_at h

  pub walk_halted_at : node_stays (node_at t x) (moved t p) ≡ false → IsHalted t name old
  walk_halted_at out = walk_halted t front name old p q x (drop (i + 1) xs) walk_at out

-- the walk is done past the end of the list
pub walk_done : (t : Table) (front : List (List ℕ)) (name : List ℕ) (old p : Pending) (xs : List (List ℕ)) (i : ℕ) → length xs ≤ i → Walk t front name old p (drop i xs) → IsCarried t front name old p
walk_done t front name old p xs i past w = walk_end t front name old p (subst (λ r. Walk t front name old p r) (drop_all i xs past) w)
