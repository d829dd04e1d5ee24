-- A line of runs, to which runs are added in the order in which they begin.
use Rattle.std.proofs.Common.{◌≡◌, ℕ, suc, ◌+◌, ◌-◌, ◌≤ℤ◌, ◌<ℤ◌, Bool, true, false, not, ◌&&◌, ◌||◌, ◌==◌, List, [], ◌∷◌, ◌++◌, length, get_or, set, ℤ, pos, int_le, int_lt, refl, sym, ap, ap₂, ◌∙◌, subst, arith, length-append, append_assoc, ◌⊎◌, inr, ⊎_elim}
use Rattle.std.specs.Int.{int_max}
use Rattle.std.specs.Bool.{MatchBool}
use Rattle.std.specs.List.{list_all}
use Rattle.std.proofs.lemmas.Bool.{false≢true, true≢false}
use Rattle.std.proofs.lemmas.Bool.Decides.{Decides-eqb}
use Rattle.std.proofs.lemmas.Int.{ints as int_facts}
use Rattle.std.proofs.lemmas.List.{get_or_at, set_at}
use Rattle.evm_cells.specs.Booleans.{xor}
use Rattle.evm_cells.specs.Vertices.{odd}
use Rattle.evm_cells.proofs.Xor.{and_both, odd-more, odd-zero}
use Rattle.evm_cells.proofs.Order.{rising, refuted}
use Rattle.evm_cells.proofs.Lists.{all-append, all_weaker, rising-append}
use Rattle.evm_cells.proofs.Coords.{by_order, le_yes, le_no, lt_yes, lt_no, le_is, lt_is}
use Rattle.evm_sections.proofs.Lines.{par, par-cons, par-append, par-nil, par-under, all_le, rises-over}
use Rattle.evm_boxes.specs.Fills.{last_of, reaches, IsWithRun}
use Rattle.evm_boxes.proofs.Cuts.{max_le, max_over}

-- w has an even number of ascending numbers, of which all but the last are at most l, and fills the places F
pub record Run (l : ℤ) (F : ℤ → Bool) (w : List ℤ) : Type 0 where
  pub front : List ℤ
  pub end : ℤ
  pub is : w ≡ front ++ end ∷ []
  pub rises : rising int_lt front ≡ true
  pub odd_many : odd (length front) ≡ true
  pub low : list_all (λ y. int_le y l) front ≡ true
  pub under : list_all (λ y. int_lt y end) front ≡ true
  pub fills : (x : ℤ) → xor (par front x) (int_le end x) ≡ F x

-- or it has none, and fills none
abbrev pub Runs : ℤ → (ℤ → Bool) → List ℤ → Type 0
Runs l F w = ((w ≡ []) × ((x : ℤ) → F x ≡ false)) ⊎ Run l F w

lt_not : (x b : ℤ) → int_lt x b ≡ not (int_le b x)
lt_not x b = by_order x b
    (λ h. lt_yes x b h ∙ sym (ap not (le_no b x h)))
    (λ h. lt_no x b (omega (arith, int_facts)) ∙ sym (ap not (le_yes b x (omega (arith, int_facts)))))
    (λ h. lt_no x b (omega (arith, int_facts)) ∙ sym (ap not (le_yes b x (omega (arith, int_facts)))))

le_step : (a b x : ℤ) → a ≤ℤ b → int_le b x ≡ true → int_le a x ≡ true
le_step a b x l h = let m : b ≤ℤ x = le_is b x h in le_yes a x (omega (arith, int_facts))

-- a run alone, one that is longer, and one more: by whether the place is at or above the old end e, the begin a and the end b
alone : (A B : Bool) → (B ≡ true → A ≡ true) → xor (xor A false) B ≡ (A && not B)
unfolding xor
alone true true f = refl
alone true false f = refl
alone false true f = absurd (false≢true (f refl))
alone false false f = refl

longer : (P E A B : Bool) → (A ≡ true → P ≡ true) → (E ≡ true → A ≡ true) → (B ≡ true → A ≡ true) → xor P (E && B) ≡ (xor P E || (A && not B))
unfolding xor
longer true true true true f g h = refl
longer true true true false f g h = refl
longer true false true true f g h = refl
longer true false true false f g h = refl
longer true false false false f g h = refl
longer false false false false f g h = refl
longer false E true B f g h = absurd (false≢true (f refl))
longer P true false B f g h = absurd (false≢true (g refl))
longer P false false true f g h = absurd (false≢true (h refl))

one_more : (P E A B : Bool) → (A ≡ true → P ≡ true) → (A ≡ true → E ≡ true) → (B ≡ true → A ≡ true) → xor (xor P (xor E (xor A false))) B ≡ (xor P E || (A && not B))
unfolding xor
one_more true true true true f g h = refl
one_more true true true false f g h = refl
one_more true true false false f g h = refl
one_more true false false false f g h = refl
one_more false true false false f g h = refl
one_more false false false false f g h = refl
one_more false E true B f g h = absurd (false≢true (f refl))
one_more P false true B f g h = absurd (false≢true (g refl))
one_more P E false true f g h = absurd (false≢true (h refl))

odd-suc : (n : ℕ) → odd (suc n) ≡ not (odd n)
odd-suc n = ap odd (let q : suc n ≡ 1 + n = omega arith in q) ∙ odd-more n

-- the front is below the places from l on
front_full : (l : ℤ) (F : ℤ → Bool) (w : List ℤ) (a x : ℤ) (r : Run l F w) → l ≤ℤ a → int_le a x ≡ true → par r.front x ≡ true
front_full l F w a x r m h = par-under r.front x (all_le l x r.front (let k : a ≤ℤ x = le_is a x h in omega (arith, int_facts)) r.low) ∙ r.odd_many

from_none : (a b : ℤ) (G : ℤ → Bool) (grown : List ℤ) → a <ℤ b → grown ≡ a ∷ b ∷ [] → ((x : ℤ) → G x ≡ (int_le a x && int_lt x b)) → Run a G grown
unfolding rising
from_none a b G grown m e f = record {
  front = a ∷ [];
  end = b;
  is = e;
  rises = refl;
  odd_many = odd-suc 0 ∙ ap not odd-zero;
  low = and_both (int_le a a) true (le_yes a a (omega (arith, int_facts))) refl;
  under = and_both (int_lt a b) true (lt_yes a b m) refl;
  fills = λ x. ap (λ t. xor t (int_le b x)) (par-cons a [] x ∙ ap (xor (int_le a x)) (par-nil x))
      ∙ alone (int_le a x) (int_le b x) (le_step a b x (omega (arith, int_facts))) ∙ ap (λ t. int_le a x && t) (sym (lt_not x b)) ∙ sym (f x);
}

run_longer : (l : ℤ) (F : ℤ → Bool) (w : List ℤ) (a b : ℤ) (G : ℤ → Bool) (grown : List ℤ) (r : Run l F w) → l ≤ℤ a → a ≤ℤ r.end → a <ℤ b
    → grown ≡ r.front ++ int_max r.end b ∷ [] → ((x : ℤ) → G x ≡ (F x || (int_le a x && int_lt x b))) → Run a G grown
run_longer l F w a b G grown r m n o e f = record {
  front = r.front;
  end = int_max r.end b;
  is = e;
  rises = r.rises;
  odd_many = r.odd_many;
  low = all_le l a r.front m r.low;
  under = let up : r.end ≤ℤ int_max r.end b = max_over r.end b in
      all_weaker (λ y. int_lt y r.end) (λ y. int_lt y (int_max r.end b)) (λ y k. let i : y <ℤ r.end = lt_is y r.end k in lt_yes y (int_max r.end b) (omega (arith, int_facts))) r.front r.under;
  fills = λ x. ap (xor (par r.front x)) (max_le x r.end b)
      ∙ longer (par r.front x) (int_le r.end x) (int_le a x) (int_le b x) (front_full l F w a x r m) (le_step a r.end x n) (le_step a b x (omega (arith, int_facts)))
      ∙ ap₂ (λ s t. s || (int_le a x && t)) (r.fills x) (sym (lt_not x b)) ∙ sym (f x);
}

run_more : (l : ℤ) (F : ℤ → Bool) (w : List ℤ) (a b : ℤ) (G : ℤ → Bool) (grown : List ℤ) (r : Run l F w) → l ≤ℤ a → r.end <ℤ a → a <ℤ b
    → grown ≡ w ++ a ∷ b ∷ [] → ((x : ℤ) → G x ≡ (F x || (int_le a x && int_lt x b))) → Run a G grown
unfolding rising
run_more l F w a b G grown r m n o e f =
    let v = r.front in
    let two = r.end ∷ a ∷ [] in
    let long : length (v ++ two) ≡ suc (suc (length v)) = omega (arith, length-append v two) in
    record {
      front = v ++ two;
      end = b;
      is = e ∙ ap (λ (u : List ℤ). u ++ a ∷ b ∷ []) r.is ∙ append_assoc v (r.end ∷ []) (a ∷ b ∷ []) ∙ sym (append_assoc v two (b ∷ []));
      rises = rising-append int_lt v two r.rises
          (and_both (list_all (int_lt r.end) (a ∷ [])) true (and_both (int_lt r.end a) true (lt_yes r.end a n) refl) refl)
          (all_weaker (λ y. int_lt y r.end) (λ y. list_all (int_lt y) two)
          (λ y k. let i : y <ℤ r.end = lt_is y r.end k in and_both (int_lt y r.end) (int_lt y a && true) k (and_both (int_lt y a) true (lt_yes y a (omega (arith, int_facts))) refl)) v r.under);
      odd_many = ap odd long ∙ odd-suc (suc (length v)) ∙ ap not (odd-suc (length v) ∙ ap not r.odd_many);
      low = all-append (λ y. int_le y a) v two ∙ and_both (list_all (λ y. int_le y a) v) (int_le r.end a && (int_le a a && true)) (all_le l a v m r.low)
          (and_both (int_le r.end a) (int_le a a && true) (le_yes r.end a (omega (arith, int_facts))) (and_both (int_le a a) true (le_yes a a (omega (arith, int_facts))) refl));
      under = all-append (λ y. int_lt y b) v two ∙ and_both (list_all (λ y. int_lt y b) v) (int_lt r.end b && (int_lt a b && true))
          (all_weaker (λ y. int_lt y r.end) (λ y. int_lt y b) (λ y k. let i : y <ℤ r.end = lt_is y r.end k in lt_yes y b (omega (arith, int_facts))) v r.under)
          (and_both (int_lt r.end b) (int_lt a b && true) (lt_yes r.end b (omega (arith, int_facts))) (and_both (int_lt a b) true (lt_yes a b o) refl));
      fills = λ x. ap (λ t. xor t (int_le b x)) (par-append v two x ∙ ap (xor (par v x)) (par-cons r.end (a ∷ []) x ∙ ap (xor (int_le r.end x)) (par-cons a [] x ∙ ap (xor (int_le a x)) (par-nil x))))
          ∙ one_more (par v x) (int_le r.end x) (int_le a x) (int_le b x) (front_full l F w a x r m) (le_step r.end a x (omega (arith, int_facts))) (le_step a b x (omega (arith, int_facts)))
          ∙ ap₂ (λ s t. s || (int_le a x && t)) (r.fills x) (sym (lt_not x b)) ∙ sym (f x);
    }

last_is : (v w : List ℤ) (e : ℤ) → w ≡ v ++ e ∷ [] → (last_of w ≡ e) × (length w - 1 ≡ length v) × (length w ≡ suc (length v))
last_is v w e q =
    let long : length w ≡ suc (length v) = ap length q ∙ omega (arith, length-append v (e ∷ [])) in
    let place : length w - 1 ≡ length v = omega arith in
    (ap₂ (λ (u : List ℤ) (i : ℕ). get_or u i (pos 0)) q place ∙ get_or_at v e [] (pos 0) (length v) refl, place, long)

-- a run more, from a up to b
pub runs_more : (l : ℤ) (F : ℤ → Bool) (w : List ℤ) (a b : ℤ) (G : ℤ → Bool) (grown : List ℤ) → Runs l F w → l ≤ℤ a → a <ℤ b → IsWithRun w a b grown
    → ((x : ℤ) → G x ≡ (F x || (int_le a x && int_lt x b))) → Runs a G grown
runs_more l F w a b G grown rs m o h f =
    ⊎_elim
    (λ (n : (w ≡ []) × ((x : ℤ) → F x ≡ false)).
    let g : grown ≡ a ∷ b ∷ [] = subst (λ (u : List ℤ). IsWithRun u a b grown) n.0 h in
    inr (from_none a b G grown o g (λ x. f x ∙ ap (λ t. t || (int_le a x && int_lt x b)) (n.1 x))))
    (λ (r : Run l F w). inr (at r (int_le a r.end) refl))
    rs
  where
    use_last : (r : Run l F w) → reaches w a ≡ int_le a r.end
    use_last r =
        let q = last_is r.front w r.end r.is in
        ap₂ (λ (n : ℕ) (z : ℤ). not (n == 0) && int_le a z) q.2 q.0
        ∙ ap (λ t. not t && int_le a r.end) (refuted (suc (length r.front) == 0) (λ e. absurd (let z : suc (length r.front) ≡ 0 = (Decides-eqb (suc (length r.front)) 0).0 e in omega arith)))

    at : (r : Run l F w) (t : Bool) → int_le a r.end ≡ t → Run a G grown
    at r true e =
        let q = last_is r.front w r.end r.is in
        let g : grown ≡ set w (length w - 1) (int_max (last_of w) b) =
        subst (λ (t : Bool). MatchBool t (grown ≡ set w (length w - 1) (int_max (last_of w) b)) (grown ≡ w ++ a ∷ b ∷ [])) (use_last r ∙ e) h in
        run_longer l F w a b G grown r m (le_is a r.end e) o
        (g ∙ ap₂ (λ (i : ℕ) (z : ℤ). set w i (int_max z b)) q.1 q.0 ∙ ap (λ (u : List ℤ). set u (length r.front) (int_max r.end b)) r.is
        ∙ set_at r.front r.end [] (int_max r.end b) (length r.front) refl) f
    at r false e =
        let g : grown ≡ w ++ a ∷ b ∷ [] =
        subst (λ (t : Bool). MatchBool t (grown ≡ set w (length w - 1) (int_max (last_of w) b)) (grown ≡ w ++ a ∷ b ∷ [])) (use_last r ∙ e) h in
        run_more l F w a b G grown r m
        (by_order r.end a (λ k. k) (λ k. absurd (true≢false (sym (le_yes a r.end (omega (arith, int_facts))) ∙ e))) (λ k. absurd (true≢false (sym (le_yes a r.end (omega (arith, int_facts))) ∙ e)))) o g f

-- the numbers ascend, and fill the places
pub runs_rise : (l : ℤ) (F : ℤ → Bool) (w : List ℤ) → Runs l F w → rising int_lt w ≡ true
unfolding rising
runs_rise l F w rs =
    ⊎_elim
    (λ (n : (w ≡ []) × ((x : ℤ) → F x ≡ false)). ap (rising int_lt) n.0)
    (λ (r : Run l F w).
    ap (rising int_lt) r.is
    ∙ rising-append int_lt r.front (r.end ∷ []) r.rises refl
    (all_weaker (λ y. int_lt y r.end) (λ y. list_all (int_lt y) (r.end ∷ [])) (λ y k. and_both (int_lt y r.end) true k refl) r.front r.under))
    rs

pub runs_fill : (l : ℤ) (F : ℤ → Bool) (w : List ℤ) → Runs l F w → (x : ℤ) → par w x ≡ F x
unfolding xor
runs_fill l F w rs x =
    ⊎_elim
    (λ (n : (w ≡ []) × ((x : ℤ) → F x ≡ false)). ap (λ (u : List ℤ). par u x) n.0 ∙ par-nil x ∙ sym (n.1 x))
    (λ (r : Run l F w).
    ap (λ (u : List ℤ). par u x) r.is ∙ par-append r.front (r.end ∷ []) x ∙ ap (xor (par r.front x)) (par-cons r.end [] x ∙ ap (xor (int_le r.end x)) (par-nil x) ∙ xor-none (int_le r.end x)) ∙ r.fills x)
    rs
  where
    xor-none : (b : Bool) → xor b false ≡ b
    xor-none true = refl
    xor-none false = refl
