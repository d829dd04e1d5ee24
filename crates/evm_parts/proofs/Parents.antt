-- Ways over parents, and what they keep when parents are moved up.
use Rattle.std.proofs.Common.{◌≡◌, ◌≢◌, ℕ, ◌+◌, ◌<◌, ◌≤◌, ⊎_elim, List, length, set, refl, sym, ap, ◌∙◌, subst, arith}
use Rattle.std.proofs.lemmas.Bool.Decides.{eqb_tells}
use Rattle.std.proofs.lemmas.List.{get_or-set_same, get_or-set_other}
use Rattle.std.proofs.Math.ListN.{length-set}
use Rattle.evm_parts.specs.Parents.{parent_at, AreParents, IsAbove, here, up, IsAlike, AreHigher}

-- one box or another
pub by_box : {P : Type 0} (i j : ℕ) → (i ≡ j → P) → (i ≢ j → P) → P
by_box i j f g = ⊎_elim (λ u. f u.1) (λ u. g u.1) (eqb_tells i j)

-- ---- ways

pub above_low : (ps : List ℕ) (i j : ℕ) → AreParents ps → i < length ps → IsAbove ps i j → j ≤ i
above_low ps i j low l (here k) = omega arith
above_low ps i j low l (up k m within way) =
    let q = low.low k within in
    let ih = above_low ps (parent_at ps k) m low (omega (arith, q, within)) way in
    omega (arith, q, ih)

pub above_then : (ps : List ℕ) (i j k : ℕ) → IsAbove ps i j → IsAbove ps j k → IsAbove ps i k
above_then ps i j k (here m) next = next
above_then ps i j k (up m o within way) next = up m k within (above_then ps (parent_at ps m) o k way next)

pub above_one : (ps : List ℕ) (i : ℕ) → i < length ps → IsAbove ps i (parent_at ps i)
above_one ps i l = up i (parent_at ps i) l (here (parent_at ps i))

-- from a top one comes no further
pub above_top : (ps : List ℕ) (i j : ℕ) → parent_at ps i ≡ i → IsAbove ps i j → j ≡ i
above_top ps i j top (here k) = refl
above_top ps i j top (up k m within way) = above_top ps (parent_at ps k) m (ap (parent_at ps) top) way ∙ top

pub alike_above : (ps : List ℕ) (f : ℕ → ℕ) (i j : ℕ) → IsAlike ps f → IsAbove ps i j → f i ≡ f j
alike_above ps f i j a (here k) = refl
alike_above ps f i j a (up k m within way) = a.alike k within ∙ alike_above ps f (parent_at ps k) m a way

-- ---- parents that are moved up

pub higher_start : (ps : List ℕ) → AreHigher ps ps
higher_start ps = record { many = refl; above = above_one ps; kept = λ f a. a }

pub higher_parents : (old new : List ℕ) → AreParents old → AreHigher old new → AreParents new
higher_parents old new low h = record {
  low = λ i l.
      let m : i < length old = subst (λ k. i < k) h.many l in
      above_low old i (parent_at new i) low m (h.above i m);
}

-- a box gets the parent of its parent
pub higher_more : (old ps new : List ℕ) (at : ℕ) → AreParents old → AreHigher old ps → at < length ps → new ≡ set ps at (parent_at ps (parent_at ps at)) → AreHigher old new
higher_more old ps new at low h within e = subst (AreHigher old) (sym e) (record { many = many; above = above; kept = λ f a. h.kept f (before f a) })
  where
    next : ℕ
    next = parent_at ps (parent_at ps at)

    many : length (set ps at next) ≡ length old
    many = length-set ps at next ∙ h.many

    one : IsAbove old at (parent_at ps at)
    one = h.above at (subst (λ k. at < k) h.many within)

    two : IsAbove old at next
    two =
        let l : at < length old = subst (λ k. at < k) h.many within in
        let q = above_low old at (parent_at ps at) low l one in
        above_then old at (parent_at ps at) next one (h.above (parent_at ps at) (omega (arith, q, l)))

    above : (i : ℕ) → i < length old → IsAbove old i (parent_at (set ps at next) i)
    above i l = by_box i at
        (λ s. subst (λ (j : ℕ). IsAbove old j (parent_at (set ps at next) j)) (sym s) (subst (IsAbove old at) (sym (get_or-set_same ps at next 0 within)) two))
        (λ o. subst (IsAbove old i) (sym (get_or-set_other ps at i next 0 o)) (h.above i l))

    turn : (f : ℕ → ℕ) → IsAlike (set ps at next) f → f at ≡ f (parent_at ps at)
    turn f a =
        let q = higher_parents old ps low h in
        let b = q.low at within in
        let many_new : length (set ps at next) ≡ length ps = length-set ps at next in
        let l : at < length (set ps at next) = omega (arith, many_new, within) in
        let m : parent_at ps at < length (set ps at next) = omega (arith, many_new, within, b) in
        by_box (parent_at ps at) at
        (λ s. ap f (sym s))
        (λ o. a.alike at l ∙ ap f (get_or-set_same ps at next 0 within)
        ∙ sym (a.alike (parent_at ps at) m ∙ ap f (get_or-set_other ps at (parent_at ps at) next 0 o)))

    before : (f : ℕ → ℕ) → IsAlike (set ps at next) f → IsAlike ps f
    before f a = record {
      alike = λ i l.
          let m : i < length (set ps at next) = subst (λ k. i < k) (sym (length-set ps at next)) l in
          by_box i at
          (λ s. subst (λ (j : ℕ). f j ≡ f (parent_at ps j)) (sym s) (turn f a))
          (λ o. a.alike i m ∙ ap f (get_or-set_other ps at i next 0 o));
    }

-- ---- each box, in order, gets the parent of its parent, which has its top already
pub record IsFlatTo (old ps : List ℕ) (i : ℕ) : Type 0 where
  pub higher : AreHigher old ps
  pub done : (k : ℕ) → k < i → parent_at ps k ≡ parent_at ps (parent_at old k)
  pub left : (k : ℕ) → i ≤ k → parent_at ps k ≡ parent_at old k

pub flat_start : (ps : List ℕ) → IsFlatTo ps ps 0
flat_start ps = record { higher = higher_start ps; done = λ k l. absurd (omega (arith, l)); left = λ k l. refl }

pub flat_more : (old ps new : List ℕ) (i : ℕ) → AreParents old → IsFlatTo old ps i → i < length ps → new ≡ set ps i (parent_at ps (parent_at ps i)) → IsFlatTo old new (i + 1)
flat_more old ps new i low h within e = subst (λ (qs : List ℕ). IsFlatTo old qs (i + 1)) (sym e) (record {
  higher = higher_more old ps (set ps i next) i low h.higher within refl;
  done = done;
  left = λ k l. let o : k ≢ i = omega (arith, l) in let m : i ≤ k = omega (arith, l) in get_or-set_other ps i k next 0 o ∙ h.left k m;
})
  where
    next : ℕ
    next = parent_at ps (parent_at ps i)

    first : parent_at (set ps i next) i ≡ parent_at ps (parent_at old i)
    first = get_or-set_same ps i next 0 within ∙ ap (parent_at ps) (h.left i (omega arith))

    done : (k : ℕ) → k < i + 1 → parent_at (set ps i next) k ≡ parent_at (set ps i next) (parent_at old k)
    done k l = by_box k i
        (λ s. subst (λ (j : ℕ). parent_at (set ps i next) j ≡ parent_at (set ps i next) (parent_at old j)) (sym s)
        (by_box (parent_at old i) i (λ t. ap (parent_at (set ps i next)) (sym t)) (λ t. first ∙ sym (get_or-set_other ps i (parent_at old i) next 0 t))))
        (λ o.
        let m : k < length old = let q = h.higher.many in omega (arith, q, within, l, o) in
        let q = low.low k m in
        let r : parent_at old k ≢ i = omega (arith, q, l, o) in
        get_or-set_other ps i k next 0 o ∙ h.done k (omega (arith, l, o)) ∙ sym (get_or-set_other ps i (parent_at old k) next 0 r))
