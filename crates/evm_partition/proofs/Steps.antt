-- Between neighbouring cuts the section stays, and at each cut it changes.
use Rattle.std.proofs.Common.{◌≡◌, ◌≢◌, ℕ, zero, suc, ◌+◌, ◌*◌, Bool, true, false, not, List, [], ◌∷◌, filter, ℤ, pos, neg_ℤ, ◌+ℤ◌, ◌-ℤ◌, ◌≤ℤ◌, ◌<ℤ◌, refl, sym, ap, ◌∙◌, arith, ⊎_elim}
use Rattle.std.proofs.lemmas.Int.{ints as int_facts, by_lt_z}
use Rattle.std.proofs.lemmas.Bool.{true≢false, cases_Bool}
use Rattle.evm_cells.specs.Places.{is_empty}
use Rattle.evm_cells.specs.Limits.{limit, ints, point_coords, is_cell_coord, IsCellSet}
use Rattle.evm_cells.specs.Sections.{slice, couplet, cuts}
use Rattle.evm_cells.proofs.Order.{refuted}
use Rattle.evm_cells.proofs.Coords.{cell_is}
use Rattle.evm_cells.proofs.Layers.{slice_outside, no_couplet, same_section}

-- from the cut `low` up over further cuts: the section `F` stays up to the next, changes there, and is empty from the last on
abbrev pub Steps : (ℤ → List (List ℤ)) → ℤ → List ℤ → Type 0
Steps F low [] = (k : ℤ) → low ≤ℤ k → F k ≡ []
Steps F low (high ∷ hs) =
    (low <ℤ high) × ((k : ℤ) → low ≤ℤ k → k <ℤ high → F k ≡ F low) × (F (high -ℤ pos 1) ≢ F high) × Steps F high hs

-- the same over all cuts: below the first the section is empty
abbrev pub AllSteps : (ℤ → List (List ℤ)) → List ℤ → Type 0
AllSteps F [] = (k : ℤ) → F k ≡ []
AllSteps F (low ∷ hs) = ((k : ℤ) → k <ℤ low → F k ≡ []) × (F (low -ℤ pos 1) ≢ F low) × Steps F low hs

module _ (F : ℤ → List (List ℤ)) (cut : ℤ → Bool) (yes : (h : ℤ) → cut h ≡ true → F (h -ℤ pos 1) ≢ F h) (no : (h : ℤ) → cut h ≡ false → F (h -ℤ pos 1) ≡ F h) where
  one_more : (a k : ℤ) → k <ℤ (a +ℤ pos 1) → a ≤ℤ k → k ≡ a
  one_more a k l m = omega (arith, int_facts)

  steps_from : (low a : ℤ) (m : ℕ) → low <ℤ a → ((k : ℤ) → low ≤ℤ k → k <ℤ a → F k ≡ F low) → ((k : ℤ) → (a +ℤ pos m) ≤ℤ (k +ℤ pos 1) → F k ≡ [])
      → Steps F low (filter cut (ints a m))
  unfolding ints
  steps_from low a zero lt same out = λ k le. by_lt_z k a
      (λ l. same k le l ∙ sym (same (a -ℤ pos 1) (omega (arith, int_facts)) (omega (arith, int_facts))) ∙ out (a -ℤ pos 1) (omega (arith, int_facts)))
      (λ l. out k (omega (arith, int_facts)))
  steps_from low a (suc m) lt same out =
      let later : (k : ℤ) → (a +ℤ pos 1 +ℤ pos m) ≤ℤ (k +ℤ pos 1) → F k ≡ [] = λ k l. out k (omega (arith, int_facts)) in
      ⊎_elim
      (λ (e : cut a ≡ true). rw e (
        lt,
        same,
        yes a e,
        steps_from a (a +ℤ pos 1) m (omega (arith, int_facts)) (λ k l u. ap F (one_more a k u l)) later,
      ))
      (λ (e : cut a ≡ false). rw e (steps_from low (a +ℤ pos 1) m (omega (arith, int_facts))
      (λ k l u. by_lt_z k a (λ v. same k l v)
      (λ v. ap F (one_more a k u v) ∙ sym (no a e) ∙ same (a -ℤ pos 1) (omega (arith, int_facts)) (omega (arith, int_facts)))) later))
      (cases_Bool (cut a))

  steps_over : (a : ℤ) (m : ℕ) → ((k : ℤ) → k <ℤ a → F k ≡ []) → ((k : ℤ) → (a +ℤ pos m) ≤ℤ (k +ℤ pos 1) → F k ≡ []) → AllSteps F (filter cut (ints a m))
  unfolding ints
  steps_over a zero none out = λ k. by_lt_z k a (none k) (λ l. out k (omega (arith, int_facts)))
  steps_over a (suc m) none out =
      let later : (k : ℤ) → (a +ℤ pos 1 +ℤ pos m) ≤ℤ (k +ℤ pos 1) → F k ≡ [] = λ k l. out k (omega (arith, int_facts)) in
      ⊎_elim
      (λ (e : cut a ≡ true). rw e (
        none,
        yes a e,
        steps_from a (a +ℤ pos 1) m (omega (arith, int_facts)) (λ k l u. ap F (one_more a k u l)) later,
      ))
      (λ (e : cut a ≡ false). rw e (steps_over (a +ℤ pos 1) m
      (λ k l. by_lt_z k a (none k) (λ v. ap F (one_more a k l v) ∙ sym (no a e) ∙ none (a -ℤ pos 1) (omega (arith, int_facts)))) later))
      (cases_Bool (cut a))

not_empty : (S : List (List ℤ)) → not (is_empty S) ≡ true → S ≡ [] → ⊥
unfolding is_empty
not_empty [] h e = true≢false (sym h)
not_empty (c ∷ S) h e = cc

empty : (S : List (List ℤ)) → not (is_empty S) ≡ false → S ≡ []
unfolding is_empty
empty [] h = refl
empty (c ∷ S) h = absurd (true≢false h)

outside : (n : ℕ) (S : List (List ℤ)) (k : ℤ) → IsCellSet (suc n) S → ((neg_ℤ (pos (limit (suc n))) ≤ℤ k) → (k <ℤ pos (limit (suc n))) → ⊥) → slice n 0 k S ≡ []
outside n S k s f = slice_outside n 0 k S s (refuted (is_cell_coord (suc n) k) (λ m. let (a, b) = cell_is (suc n) k m in f a b))

-- the sections of a cell set over its cuts
pub steps : (n : ℕ) (S : List (List ℤ)) → IsCellSet (suc n) S → AllSteps (λ k. slice n 0 k S) (cuts n 0 S)
unfolding cuts point_coords
steps n S s =
    let m = limit (suc n) in
    steps_over (λ k. slice n 0 k S) (λ h. not (is_empty (couplet n 0 h S)))
    (λ h e q. not_empty (couplet n 0 h S) e (no_couplet n 0 h S q))
    (λ h e. same_section n 0 h S (empty (couplet n 0 h S) e))
    (neg_ℤ (pos m)) (2 * m + 1)
    (λ k l. outside n S k s (λ a b. omega (arith, int_facts)))
    (λ k l. outside n S k s (λ a b. omega (arith, int_facts)))
