-- The vote for the label that most boxes have.
use Rattle.std.proofs.Common.{◌≡◌, ◌≢◌, ℕ, zero, suc, Bool, true, false, Option, Some, None, ◌+◌, ◌-◌, ◌<◌, ◌≤◌, ◌==◌, ⊎_elim, List, [], ◌∷◌, length, take, refl, sym, ap, ◌∙◌, subst, arith, eq-eqb}
use Rattle.std.proofs.lemmas.Bool.{true≢false}
use Rattle.std.proofs.lemmas.List.{take_all}
use Rattle.std.proofs.lemmas.List.Sums.{count_by_more_yes, count_by_more_no}
use Rattle.std.proofs.lemmas.Bool.Decides.{eqb_tells}
use Rattle.evm_parts.specs.Labels.{label_at, votes_for, IsMost}

-- the votes for a label among the first ones
abbrev pub votes_to : List ℕ → ℕ → ℕ → ℕ
votes_to labels i label = votes_for label (take i labels)

pub no_votes : (labels : List ℕ) (label : ℕ) → votes_to labels 0 label ≡ 0
no_votes [] label = refl
no_votes (x ∷ labels) label = refl

-- the next one is for the label
pub next_for : (labels : List ℕ) (i label : ℕ) → i < length labels → label_at labels i ≡ label → votes_to labels (i + 1) label ≡ votes_to labels i label + 1
next_for labels i label l e = count_by_more_yes (λ other. other == label) labels i 0 l (eq-eqb (label_at labels i) label e)

-- or for another
pub next_against : (labels : List ℕ) (i label : ℕ) → i < length labels → label_at labels i ≢ label → votes_to labels (i + 1) label ≡ votes_to labels i label
next_against labels i label l o =
    ⊎_elim
    (λ u. absurd (o u.1))
    (λ u. count_by_more_no (λ other. other == label) labels i 0 l u.0)
    (eqb_tells (label_at labels i) label)

-- of the first labels, those for the voted one and those against it are paired but for the votes that it has left
pub record IsVoted (labels : List ℕ) (i voted votes : ℕ) : Type 0 where
  pub few : votes ≤ i
  pub own : votes_to labels i voted + votes_to labels i voted ≤ i + votes
  pub others : (label : ℕ) → voted ≢ label → votes_to labels i label + votes_to labels i label + votes ≤ i

pub voted_start : (labels : List ℕ) → IsVoted labels 0 0 0
voted_start labels = record {
  few = omega arith;
  own = let e = no_votes labels 0 in omega (arith, e);
  others = λ label o. let e = no_votes labels label in omega (arith, e);
}

pub voted_for : (labels : List ℕ) (i voted votes : ℕ) → i < length labels → IsVoted labels i voted votes → label_at labels i ≡ voted → IsVoted labels (i + 1) voted (votes + 1)
voted_for labels i voted votes l h e = record {
  few = let f = h.few in omega (arith, f);
  own = let g = next_for labels i voted l e in let f = h.own in omega (arith, f, g);
  others = λ label o.
      let g = next_against labels i label l (λ u. o (sym e ∙ u)) in
      let f = h.others label o in
      omega (arith, f, g);
}

pub voted_new : (labels : List ℕ) (i voted votes : ℕ) → i < length labels → IsVoted labels i voted votes → label_at labels i ≢ voted → votes ≡ 0
    → IsVoted labels (i + 1) (label_at labels i) 1
voted_new labels i voted votes l h o z = record {
  few = omega arith;
  own = let g = next_for labels i (label_at labels i) l refl in let f = h.others (label_at labels i) (λ u. o (sym u)) in omega (arith, f, g, z);
  others = λ label p.
      let g = next_against labels i label l p in
      ⊎_elim
      (λ u. let f = h.own in let q = ap (votes_to labels i) u.1 in omega (arith, f, g, q, z))
      (λ u. let f = h.others label u.1 in omega (arith, f, g, z))
      (eqb_tells voted label);
}

above_none : (votes : ℕ) → votes ≢ 0 → 0 < votes
above_none zero left = absurd (left refl)
above_none (suc votes) left = omega arith

pub voted_against : (labels : List ℕ) (i voted votes : ℕ) → i < length labels → IsVoted labels i voted votes → label_at labels i ≢ voted → votes ≢ 0
    → IsVoted labels (i + 1) voted (votes - 1)
voted_against labels i voted votes l h o left = record {
  few = let f = h.few in omega (arith, f);
  own = let some = above_none votes left in let g = next_against labels i voted l o in let f = h.own in omega (arith, f, g, some);
  others = λ label p.
      let some = above_none votes left in
      let f = h.others label p in
      ⊎_elim
      (λ u. let g = next_for labels i label l u.1 in omega (arith, f, g, some))
      (λ u. let g = next_against labels i label l u.1 in omega (arith, f, g, some))
      (eqb_tells (label_at labels i) label);
}

-- the label that most have is voted
pub voted_most : (labels : List ℕ) (i voted votes label : ℕ) → length labels ≤ i → i ≤ length labels → IsVoted labels i voted votes → IsMost labels label → voted ≡ label
voted_most labels i voted votes label end to h m =
    ⊎_elim
    (λ u. u.1)
    (λ u.
    let f = h.others label u.1 in
    let q = ap (votes_for label) (take_all i labels end) in
    let most = m.most in
    absurd (omega (arith, f, q, most, end, to)))
    (eqb_tells voted label)

-- ---- the label, if there is one

abbrev given : Option ℕ → ℕ
given None = 0
given (Some label) = label

abbrev is_given : Option ℕ → Bool
is_given None = false
is_given (Some label) = true

pub most_have_it : (labels : List ℕ) (voted votes label : ℕ) → votes ≡ votes_for voted labels → length labels - votes < votes → (IsMost labels label → voted ≡ label)
    → (Some voted ≡ Some label → IsMost labels label) × (IsMost labels label → Some voted ≡ Some label)
most_have_it labels voted votes label e more only =
    let most : IsMost labels voted = record { most = omega (arith, e, more) } in
    (λ same. subst (IsMost labels) (ap given same) most, λ m. ap Some (only m))

pub none_has_most : (labels : List ℕ) (voted votes label : ℕ) → votes ≡ votes_for voted labels → votes ≤ length labels - votes → (IsMost labels label → voted ≡ label)
    → (None ≡ Some label → IsMost labels label) × (IsMost labels label → None ≡ Some label)
none_has_most labels voted votes label e few only = (
  λ same. absurd (true≢false (sym (ap is_given same))),
  λ m. let most = m.most in let q = ap (λ v. votes_for v labels) (only m) in absurd (omega (arith, e, few, most, q)),
)
