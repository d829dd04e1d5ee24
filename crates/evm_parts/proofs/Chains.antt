-- Chains of neighbours, and parents that keep to them.
use Rattle.std.proofs.Common.{◌≡◌, ◌≢◌, ℕ, ◌+◌, ◌<◌, ◌≤◌, ◌⊎◌, ⊎_elim, ◌&&◌, ◌||◌, List, [], ◌∷◌, ℤ, int_lt, length, get_or, set, refl, sym, ap, ap₂, ◌∙◌, subst, arith}
use Rattle.std.specs.List.{range_with_len}
use Rattle.std.proofs.lemmas.Bool.{cases_lt}
use Rattle.std.proofs.lemmas.List.{get_or-set_same, get_or-set_other}
use Rattle.std.proofs.lemmas.List.Elements.{All-contains}
use Rattle.std.proofs.lemmas.List.FromFn.{get_or-range_with_len}
use Rattle.std.proofs.Math.ListN.{length-set}
use Rattle.std.proofs.Math.Bool.{or_comm}
use Rattle.std.specs.Ordering.{int_eq}
use Rattle.evm_cells.specs.Unions.{Ends}
use Rattle.evm_cells.proofs.Xor.{and_comm}
use Rattle.evm_parts.specs.Neighbours.{overlapping, touching}
use Rattle.evm_parts.specs.Labels.{box_at, label_at, AreLinked, IsChained, here, onward, AreLabels}
use Rattle.evm_parts.specs.Links.{IsLink, AreLinks}
use Rattle.evm_parts.specs.Parents as parents
use Rattle.evm_parts.specs.Parents.{parent_at, AreParents, IsAbove, up, IsAlike, AreHigher}
use Rattle.evm_parts.specs.declared.neighbours.Link.{Link}
use Rattle.evm_parts.proofs.Parents.{by_box, above_low, above_top, alike_above, higher_parents}

-- ---- neighbours, both ways

overlapping_sym : (lo hi low high : List ℤ) → overlapping lo hi low high ≡ overlapping low high lo hi
unfolding overlapping
overlapping_sym (a ∷ lo) (b ∷ hi) (c ∷ low) (d ∷ high) = ap₂ (λ u v. u && v) (and_comm (int_lt a d) (int_lt c b)) (overlapping_sym lo hi low high)
overlapping_sym [] [] [] [] = refl
overlapping_sym [] [] [] (d ∷ high) = refl
overlapping_sym [] [] (c ∷ low) [] = refl
overlapping_sym [] [] (c ∷ low) (d ∷ high) = refl
overlapping_sym [] (b ∷ hi) [] [] = refl
overlapping_sym [] (b ∷ hi) [] (d ∷ high) = refl
overlapping_sym [] (b ∷ hi) (c ∷ low) [] = refl
overlapping_sym [] (b ∷ hi) (c ∷ low) (d ∷ high) = refl
overlapping_sym (a ∷ lo) [] [] [] = refl
overlapping_sym (a ∷ lo) [] [] (d ∷ high) = refl
overlapping_sym (a ∷ lo) [] (c ∷ low) [] = refl
overlapping_sym (a ∷ lo) [] (c ∷ low) (d ∷ high) = refl
overlapping_sym (a ∷ lo) (b ∷ hi) [] [] = refl
overlapping_sym (a ∷ lo) (b ∷ hi) [] (d ∷ high) = refl
overlapping_sym (a ∷ lo) (b ∷ hi) (c ∷ low) [] = refl

touching_sym : (lo hi low high : List ℤ) → touching lo hi low high ≡ touching low high lo hi
unfolding touching
touching_sym (a ∷ lo) (b ∷ hi) (c ∷ low) (d ∷ high) =
    ap₂ (λ u v. u || v)
    (ap₂ (λ u v. u && v) (or_comm (int_eq b c) (int_eq d a)) (overlapping_sym lo hi low high))
    (ap₂ (λ u v. u && v) (and_comm (int_lt a d) (int_lt c b)) (touching_sym lo hi low high))
touching_sym [] [] [] [] = refl
touching_sym [] [] [] (d ∷ high) = refl
touching_sym [] [] (c ∷ low) [] = refl
touching_sym [] [] (c ∷ low) (d ∷ high) = refl
touching_sym [] (b ∷ hi) [] [] = refl
touching_sym [] (b ∷ hi) [] (d ∷ high) = refl
touching_sym [] (b ∷ hi) (c ∷ low) [] = refl
touching_sym [] (b ∷ hi) (c ∷ low) (d ∷ high) = refl
touching_sym (a ∷ lo) [] [] [] = refl
touching_sym (a ∷ lo) [] [] (d ∷ high) = refl
touching_sym (a ∷ lo) [] (c ∷ low) [] = refl
touching_sym (a ∷ lo) [] (c ∷ low) (d ∷ high) = refl
touching_sym (a ∷ lo) (b ∷ hi) [] [] = refl
touching_sym (a ∷ lo) (b ∷ hi) [] (d ∷ high) = refl
touching_sym (a ∷ lo) (b ∷ hi) (c ∷ low) [] = refl

pub linked_sym : (boxes : List Ends) (i j : ℕ) → AreLinked boxes i j → AreLinked boxes j i
linked_sym boxes i j h = record {
  first = h.second;
  second = h.first;
  near = touching_sym (box_at boxes j).lo (box_at boxes j).hi (box_at boxes i).lo (box_at boxes i).hi ∙ h.near;
}

-- ---- chains

pub chain_then : (boxes : List Ends) (i j k : ℕ) → IsChained boxes i j → IsChained boxes j k → IsChained boxes i k
chain_then boxes i j k (here m) next = next
chain_then boxes i j k (onward m o p step way) next = onward m o k step (chain_then boxes o p k way next)

pub chain_back : (boxes : List Ends) (i j : ℕ) → IsChained boxes i j → IsChained boxes j i
chain_back boxes i j (here m) = here m
chain_back boxes i j (onward m o p step way) =
    chain_then boxes p o m (chain_back boxes o p way) (onward o m m (linked_sym boxes m o step) (here m))

-- ---- parents that keep to chains

-- each parent is chained to its box, and each of the first links joins two boxes alike
pub record AreTied (boxes : List Ends) (links : List Link) (count : ℕ) (ps : List ℕ) : Type 0 where
  pub many : length ps ≡ length boxes
  pub low : AreParents ps
  pub chained : (i : ℕ) → i < length ps → IsChained boxes i (parent_at ps i)
  pub joined : (f : ℕ → ℕ) → IsAlike ps f → (k : ℕ) (d : Link) → k < count → f (get_or links k d).first ≡ f (get_or links k d).second

chained_above : (boxes : List Ends) (ps : List ℕ) (i j : ℕ) → ((k : ℕ) → k < length ps → IsChained boxes k (parent_at ps k)) → IsAbove ps i j → IsChained boxes i j
chained_above boxes ps i j c (parents.here k) = here k
chained_above boxes ps i j c (up k m within way) = chain_then boxes k (parent_at ps k) m (c k within) (chained_above boxes ps (parent_at ps k) m c way)

pub joined_start : (boxes : List Ends) (links : List Link) (ps : List ℕ) → ps ≡ range_with_len 0 (length boxes) → length ps ≡ length boxes → AreTied boxes links 0 ps
joined_start boxes links ps e n = record {
  many = n;
  low = record { low = λ i l. let q = itself i l in omega (arith, q) };
  chained = λ i l. subst (IsChained boxes i) (sym (itself i l)) (here i);
  joined = λ f a k d l. absurd (omega (arith, l));
}
  where
    itself : (i : ℕ) → i < length ps → parent_at ps i ≡ i
    itself i l = ap (λ qs. get_or qs i 0) e ∙ get_or-range_with_len 0 (length boxes) i 0 (omega arith) ∙ (let z : 0 + i ≡ i = omega arith in z)

pub joined_higher : (boxes : List Ends) (links : List Link) (count : ℕ) (old new : List ℕ) → AreTied boxes links count old → AreHigher old new → AreTied boxes links count new
joined_higher boxes links count old new h m = record {
  many = m.many ∙ h.many;
  low = higher_parents old new h.low m;
  chained = λ i l. chained_above boxes old i (parent_at new i) h.chained (m.above i (subst (λ k. i < k) m.many l));
  joined = λ f a. h.joined f (m.kept f a);
}

-- a top gets a parent below it that is chained to it
alike_before : (ps : List ℕ) (high low : ℕ) (f : ℕ → ℕ) → parent_at ps high ≡ high → IsAlike (set ps high low) f → IsAlike ps f
alike_before ps high low f top a = record {
  alike = λ i l.
      let m : i < length (set ps high low) = subst (λ k. i < k) (sym (length-set ps high low)) l in
      by_box i high
      (λ s. ap f (s ∙ sym top ∙ ap (parent_at ps) (sym s)))
      (λ o. a.alike i m ∙ ap f (get_or-set_other ps high i low 0 o));
}

alike_now : (ps : List ℕ) (high low : ℕ) (f : ℕ → ℕ) → high < length ps → IsAlike (set ps high low) f → f high ≡ f low
alike_now ps high low f within a =
    let n = length-set ps high low in
    a.alike high (omega (arith, n, within)) ∙ ap f (get_or-set_same ps high low 0 within)

joined_lower : (boxes : List Ends) (links : List Link) (count : ℕ) (ps : List ℕ) (high low : ℕ) → AreTied boxes links count ps → high < length ps → low ≤ high → parent_at ps high ≡ high
    → IsChained boxes high low → AreTied boxes links count (set ps high low)
joined_lower boxes links count ps high low h within below top way = record {
  many = length-set ps high low ∙ h.many;
  low = record {
    low = λ i l.
        by_box i high
        (λ s. let q = at_high i s in omega (arith, q, s, below))
        (λ o. let q = at_other i o in let r = h.low.low i (inside i l) in omega (arith, q, r));
  };
  chained = λ i l.
      by_box i high
      (λ s. subst (λ (j : ℕ). IsChained boxes j (parent_at (set ps high low) i)) (sym s) (subst (IsChained boxes high) (sym (at_high i s)) way))
      (λ o. subst (IsChained boxes i) (sym (at_other i o)) (h.chained i (inside i l)));
  joined = λ f a. h.joined f (alike_before ps high low f top a);
}
  where
    inside : (i : ℕ) → i < length (set ps high low) → i < length ps
    inside i l = subst (λ k. i < k) (length-set ps high low) l

    at_high : (i : ℕ) → i ≡ high → parent_at (set ps high low) i ≡ low
    at_high i s = ap (parent_at (set ps high low)) s ∙ get_or-set_same ps high low 0 within

    at_other : (i : ℕ) → i ≢ high → parent_at (set ps high low) i ≡ parent_at ps i
    at_other i o = get_or-set_other ps high i low 0 o

-- ---- one more link

-- the tops of the two boxes of a link, as they are found one after the other
pub record AreTops (ps qs rs : List ℕ) (first second a b : ℕ) : Type 0 where
  pub top_first : parent_at qs a ≡ a
  pub above_first : IsAbove ps first a
  pub higher_first : AreHigher ps qs
  pub top_second : parent_at rs b ≡ b
  pub above_second : IsAbove qs second b
  pub higher_second : AreHigher qs rs

pub joined_more : (boxes : List Ends) (links : List Link) (k : ℕ) (ps qs rs : List ℕ) (link : Link) (a b high low : ℕ) → AreTied boxes links k ps → AreLinks boxes links
    → k < length links → ((d : Link) → link ≡ get_or links k d) → AreTops ps qs rs link.first link.second a b
    → ((high ≡ a) × (low ≡ b)) ⊎ ((high ≡ b) × (low ≡ a)) → low ≤ high → AreTied boxes links (k + 1) (set rs high low)
joined_more boxes links k ps qs rs link a b high low h s within e t way below = record {
  many = base.many;
  low = base.low;
  chained = base.chained;
  joined = λ f x j d l.
      by_box j k
      (λ u. subst (λ (m : ℕ). f (get_or links m d).first ≡ f (get_or links m d).second) (sym u) (subst (λ (m : Link). f m.first ≡ f m.second) (e d) (now f x)))
      (λ o. base.joined f x j d (omega (arith, l, o)));
}
  where
    is_link : IsLink boxes link
    is_link = subst (IsLink boxes) (sym (e link)) (s.sound k link within)

    joined_qs : AreTied boxes links k qs
    joined_qs = joined_higher boxes links k ps qs h t.higher_first

    joined_rs : AreTied boxes links k rs
    joined_rs = joined_higher boxes links k qs rs joined_qs t.higher_second

    first_within : link.first < length ps
    first_within = let l = is_link.linked.first in let n = h.many in omega (arith, l, n)

    second_within : link.second < length qs
    second_within = let l = is_link.linked.second in let n = joined_qs.many in omega (arith, l, n)

    a_within : a < length rs
    a_within =
        let q = above_low ps link.first a h.low first_within t.above_first in
        let m = joined_rs.many in
        let n = h.many in
        let l = first_within in
        omega (arith, q, m, n, l)

    b_within : b < length rs
    b_within =
        let q = above_low qs link.second b joined_qs.low second_within t.above_second in
        let m = joined_rs.many in
        let n = joined_qs.many in
        let l = second_within in
        omega (arith, q, m, n, l)

    -- the first top is still one
    still : parent_at rs a ≡ a
    still =
        let m = t.higher_second.many in
        let l = a_within in
        above_top qs a (parent_at rs a) t.top_first (t.higher_second.above a (omega (arith, m, l)))

    chain : IsChained boxes a b
    chain =
        chain_then boxes a link.first b (chain_back boxes link.first a (chained_above boxes ps link.first a h.chained t.above_first))
        (onward link.first link.second b is_link.linked (chained_above boxes qs link.second b joined_qs.chained t.above_second))

    high_within : high < length rs
    high_within = ⊎_elim (λ u. subst (λ z. z < length rs) (sym u.0) a_within) (λ u. subst (λ z. z < length rs) (sym u.0) b_within) way

    high_top : parent_at rs high ≡ high
    high_top =
        ⊎_elim (λ u. subst (λ (z : ℕ). parent_at rs z ≡ z) (sym u.0) still) (λ u. subst (λ (z : ℕ). parent_at rs z ≡ z) (sym u.0) t.top_second) way

    high_chain : IsChained boxes high low
    high_chain =
        ⊎_elim
        (λ u. subst (λ (z : ℕ). IsChained boxes z low) (sym u.0) (subst (IsChained boxes a) (sym u.1) chain))
        (λ u. subst (λ (z : ℕ). IsChained boxes z low) (sym u.0) (subst (IsChained boxes b) (sym u.1) (chain_back boxes a b chain)))
        way

    base : AreTied boxes links k (set rs high low)
    base = joined_lower boxes links k rs high low joined_rs high_within below high_top high_chain

    now : (f : ℕ → ℕ) → IsAlike (set rs high low) f → f link.first ≡ f link.second
    now f x =
        let y : IsAlike rs f = alike_before rs high low f high_top x in
        let z : IsAlike qs f = t.higher_second.kept f y in
        let w : IsAlike ps f = t.higher_first.kept f z in
        let one : f high ≡ f low = alike_now rs high low f high_within x in
        let both : f a ≡ f b =
        ⊎_elim (λ u. ap f (sym u.0) ∙ one ∙ ap f u.1) (λ u. ap f (sym u.1) ∙ sym one ∙ ap f u.0) way in
        alike_above ps f link.first a w t.above_first ∙ both ∙ sym (alike_above qs f link.second b z t.above_second)

-- ---- the labels

pub labels_are : (boxes : List Ends) (links : List Link) (ps ls : List ℕ) → AreLinks boxes links → AreTied boxes links (length links) ps → AreHigher ps ls → IsAlike ps (λ i. parent_at ls i) → AreLabels boxes ls
labels_are boxes links ps ls s h m a = record {
  many = m.many ∙ h.many;
  reached = λ i l. chained_above boxes ps i (label_at ls i) h.chained (m.above i (omega (arith, l, n)));
  low = λ i l. above_low ps i (label_at ls i) h.low (omega (arith, l, n)) (m.above i (omega (arith, l, n)));
  alike = in_order;
}
  where
    n : length ps ≡ length boxes
    n = h.many

    upward : (i j : ℕ) → i < j → AreLinked boxes i j → label_at ls i ≡ label_at ls j
    upward i j l w =
        All-contains (λ (link : Link). label_at ls link.first ≡ label_at ls link.second) links (record { first = i; second = j })
        (λ k d q. h.joined (label_at ls) a k d q) (s.complete i j l w)

    in_order : (i j : ℕ) → AreLinked boxes i j → label_at ls i ≡ label_at ls j
    in_order i j w =
        by_box i j (λ e. ap (label_at ls) e)
        (λ o. ⊎_elim (λ l. upward i j l w) (λ l. sym (upward j i (omega (arith, l, o)) (linked_sym boxes i j w))) (cases_lt i j))
