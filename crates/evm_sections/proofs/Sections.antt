-- From one section of a cell set to the next, over the couplets that are left
use Rattle.std.proofs.Common.{◌≡◌, ℕ, suc, ◌+◌, Bool, true, false, cond, List, [], ◌∷◌, Some, None, ℤ, pos, negsuc, neg_ℤ, ◌-ℤ◌, ◌+ℤ◌, ◌<ℤ◌, ◌≤ℤ◌, refl, sym, ap, ap₂, ◌∙◌, arith, int_lt}
use Rattle.std.specs.List.{list_all}
use Rattle.std.proofs.lemmas.Int.{ints as int_facts, by_lt_z}
use Rattle.evm_cells.specs.Limits.{limit, is_point_coord, is_cell_coord, IsCellSet}
use Rattle.evm_cells.specs.Booleans.{xor, xor_cells, combine}
use Rattle.evm_cells.specs.Vertices.{evm, cells, IsVertexList}
use Rattle.evm_cells.specs.Sections.{couplet, slice}
use Rattle.evm_cells.proofs.Xor.{and_first, and_second, and_both}
use Rattle.evm_cells.proofs.Order.{refuted}
use Rattle.evm_cells.proofs.Lists.{all_weaker}
use Rattle.evm_cells.proofs.Coords.{eq_yes, eq_no, lt_is, lt_yes, point_is, cell_is}
use Rattle.evm_cells.proofs.Universe.{cell_set-cells}
use Rattle.evm_cells.proofs.Core.{cells-evm}
use Rattle.evm_cells.proofs.Slices.{cell_set-couplet, cell_set-slice, next_slice}
use Rattle.evm_cells.proofs.Layers.{rows-evm, still, slice_outside, evm-empty}
use Rattle.evm_rows.specs.Rows.{combined_rows, xor_rows}
use Rattle.evm_sections.specs.Couplets.{couplets_of, first_height, rise, rise_above, slabs_from, slabs_over, slabs_in, slabs_above, slabs_left}
use Rattle.evm_sections.proofs.Heights.{couplet_at, heights, couplet_at-high, couplet_at-is, couplets_rise, points-heights, cuts-heights}

-- what a Boolean of rows is on cells
pub combined_rows-evm : (op : Bool → Bool → Bool) (n : ℕ) (A B : List (List ℤ)) → IsCellSet n A → IsCellSet n B → combined_rows op n (evm n A) (evm n B) ≡ evm n (combine op n A B)
unfolding combined_rows
combined_rows-evm op n A B a b = ap₂ (λ X Y. evm n (combine op n X Y)) (cells-evm n A a) (cells-evm n B b)

pub xor_rows-evm : (n : ℕ) (A B : List (List ℤ)) → IsCellSet n A → IsCellSet n B → xor_rows n (evm n A) (evm n B) ≡ evm n (xor_cells n A B)
unfolding xor_rows xor_cells
xor_rows-evm n A B a b = combined_rows-evm xor n A B a b

-- between two heights no couplet stands: the section stays
pub calm : (n : ℕ) (S : List (List ℤ)) (l k : ℤ) → IsCellSet (suc n) S → l ≤ℤ k → ((h : ℤ) → l <ℤ h → h ≤ℤ k → evm n (couplet n 0 h S) ≡ []) → slice n 0 k S ≡ slice n 0 l S
calm n S l k s le none = at (k -ℤ l) refl
  where
    at : (d : ℤ) → k -ℤ l ≡ d → slice n 0 k S ≡ slice n 0 l S
    at (pos m) e =
        ap (λ z. slice n 0 z S) (let q : k ≡ l +ℤ pos m = omega (arith, int_facts) in q)
        ∙ still n 0 l m S s (omega arith) (λ j b. rows-evm n 0 (l +ℤ pos (suc j)) S s (omega arith) ∙ none (l +ℤ pos (suc j)) (omega (arith, int_facts)) (omega (arith, int_facts)))
    at (negsuc m) e = absurd (omega (arith, int_facts))

-- s is the section above the height l, and cs are the couplets above it
pub record Above (n : ℕ) (S : List (List ℤ)) (l : ℤ) (s : List (List ℤ)) (cs : List (ℤ × List (List ℤ))) : Type 0 where
  pub set : IsCellSet (suc n) S
  pub rising : rise_above l cs ≡ true
  pub section : s ≡ evm n (slice n 0 l S)
  pub couplets : (h : ℤ) → l <ℤ h → evm n (couplet n 0 h S) ≡ couplet_at h cs

pub none_between : (n : ℕ) (S : List (List ℤ)) (l k : ℤ) (s : List (List ℤ)) (cs : List (ℤ × List (List ℤ))) → Above n S l s cs → rise_above k cs ≡ true → (h : ℤ) → l <ℤ h → h ≤ℤ k → evm n (couplet n 0 h S) ≡ []
none_between n S l k s cs a up h b c = a.couplets h b ∙ couplet_at-high k h cs up c

-- below the next couplet the section stays
pub stays : (n : ℕ) (S : List (List ℤ)) (l k : ℤ) (s : List (List ℤ)) (cs : List (ℤ × List (List ℤ))) → Above n S l s cs → l ≤ℤ k → rise_above k cs ≡ true → slice n 0 k S ≡ slice n 0 l S
stays n S l k s cs a le up = calm n S l k a.set le (none_between n S l k s cs a up)

pub waits : (n : ℕ) (S : List (List ℤ)) (l k : ℤ) (s : List (List ℤ)) (cs : List (ℤ × List (List ℤ))) → Above n S l s cs → l ≤ℤ k → rise_above k cs ≡ true → Above n S k s cs
waits n S l k s cs a le up = record {
  set = a.set;
  rising = up;
  section = a.section ∙ ap (evm n) (sym (stays n S l k s cs a le up));
  couplets = λ h b. a.couplets h (omega (arith, int_facts));
}

-- a couplet takes the section to the next
pub steps : (n : ℕ) (S : List (List ℤ)) (l h : ℤ) (s c : List (List ℤ)) (cs : List (ℤ × List (List ℤ))) → Above n S l s ((h, c) ∷ cs) → Above n S h (xor_rows n s c) cs
steps n S l h s c cs a =
    let m : l <ℤ h = lt_is l h (and_first (int_lt l h) (rise_above h cs) a.rising) in
    let up : rise_above h cs ≡ true = and_second (int_lt l h) (rise_above h cs) a.rising in
    let under : rise_above (h -ℤ pos 1) ((h, c) ∷ cs) ≡ true = and_both (int_lt (h -ℤ pos 1) h) (rise_above h cs) (lt_yes (h -ℤ pos 1) h (omega (arith, int_facts))) up in
    let b : Above n S (h -ℤ pos 1) s ((h, c) ∷ cs) = waits n S l (h -ℤ pos 1) s ((h, c) ∷ cs) a (omega (arith, int_facts)) under in
    let here : c ≡ evm n (couplet n 0 h S) = sym (a.couplets h m ∙ ap (λ t. cond t c (couplet_at h cs)) (eq_yes h h refl)) in
    record {
      set = a.set;
      rising = up;
      section = ap₂ (xor_rows n) b.section here
          ∙ xor_rows-evm n (slice n 0 (h -ℤ pos 1) S) (couplet n 0 h S) (cell_set-slice n 0 (h -ℤ pos 1) S) (cell_set-couplet n 0 h S)
          ∙ ap (evm n) (sym (next_slice n 0 h S));
      couplets = λ k l2. a.couplets k (omega (arith, int_facts)) ∙ ap (λ t. cond t c (couplet_at k cs)) (eq_no h k (λ e. omega (arith, int_facts)));
    }

rises-from : (l : ℤ) (cs : List (ℤ × List (List ℤ))) → rise cs ≡ true → list_all (int_lt l) (heights cs) ≡ true → rise_above l cs ≡ true
rises-from l [] e a = refl
rises-from l ((h, c) ∷ cs) e a = and_both (int_lt l h) (rise_above h cs) (and_first (int_lt l h) (list_all (int_lt l) (heights cs)) a) e

-- below all points
pub bottom : ℕ → ℤ
bottom n = neg_ℤ (pos (limit n)) -ℤ pos 1

pub bottom_is : (n : ℕ) → bottom n ≡ neg_ℤ (pos (limit n)) -ℤ pos 1
unfolding bottom
bottom_is n = refl

pub outside : (n : ℕ) (S : List (List ℤ)) (k : ℤ) → IsCellSet (suc n) S → is_cell_coord (suc n) k ≡ false → evm n (slice n 0 k S) ≡ []
outside n S k s e = ap (evm n) (slice_outside n 0 k S s e) ∙ evm-empty n

pub low_outside : (n : ℕ) (k : ℤ) → k ≤ℤ bottom n → is_cell_coord n k ≡ false
low_outside n k l = refuted (is_cell_coord n k) (λ m. let (a, b) = cell_is n k m in let e = bottom_is n in omega (arith, int_facts))

pub starts : (n : ℕ) (V : List (List ℤ)) → IsVertexList (suc n) V → Above n (cells (suc n) V) (bottom (suc n)) [] (couplets_of V)
starts n V v = record {
  set = cell_set-cells (suc n) V;
  rising = rises-from (bottom (suc n)) (couplets_of V) (couplets_rise (suc n) V v)
      (all_weaker (is_point_coord (suc n)) (int_lt (bottom (suc n)))
      (λ h p. let (a, b) = point_is (suc n) h p in let e = bottom_is (suc n) in lt_yes (bottom (suc n)) h (omega (arith, int_facts)))
      (heights (couplets_of V)) (points-heights (suc n) V v.points));
  section = sym (outside n (cells (suc n) V) (bottom (suc n)) (cell_set-cells (suc n) V) (low_outside (suc n) (bottom (suc n)) (let z : bottom (suc n) ≤ℤ bottom (suc n) = omega (arith, int_facts) in z)));
  couplets = λ h l. sym (couplet_at-is n V h v);
}

high_outside : (n : ℕ) (k : ℤ) → pos (limit n) ≤ℤ k → is_cell_coord n k ≡ false
high_outside n k l = refuted (is_cell_coord n k) (λ m. let (a, b) = cell_is n k m in omega (arith, int_facts))

-- after the last couplet the section is empty
pub ends : (n : ℕ) (S : List (List ℤ)) (l : ℤ) (s : List (List ℤ)) → Above n S l s [] → s ≡ []
ends n S l s a = by_lt_z l (pos (limit (suc n)))
    (λ m. let b : Above n S (pos (limit (suc n))) s [] = waits n S l (pos (limit (suc n))) s [] a (omega (arith, int_facts)) refl in
    b.section ∙ outside n S (pos (limit (suc n))) a.set (high_outside (suc n) (pos (limit (suc n))) (let z : pos (limit (suc n)) ≤ℤ pos (limit (suc n)) = omega (arith, int_facts) in z)))
    (λ m. a.section ∙ outside n S l a.set (high_outside (suc n) l m))

-- ---- slabs

slabs_above-are : (n : ℕ) (S : List (List ℤ)) (l : ℤ) (s : List (List ℤ)) (cs : List (ℤ × List (List ℤ))) → Above n S l s cs → slabs_above n s l cs ≡ slabs_from n S l (heights cs)
unfolding slabs_above slabs_from
slabs_above-are n S l s [] a = refl
slabs_above-are n S l s ((h, c) ∷ cs) a =
    ap₂ (λ t zs. (l, (h, t)) ∷ zs) a.section (slabs_above-are n S h (xor_rows n s c) cs (steps n S l h s c cs a))

slabs_left-are : (n : ℕ) (S : List (List ℤ)) (l : ℤ) (s : List (List ℤ)) (cs : List (ℤ × List (List ℤ))) → Above n S l s cs → slabs_left n s cs ≡ slabs_over n S (heights cs)
unfolding slabs_left slabs_over
slabs_left-are n S l s [] a = refl
slabs_left-are n S l s ((h, c) ∷ cs) a = slabs_above-are n S h (xor_rows n s c) cs (steps n S l h s c cs a)

-- the slabs of a vertex list are those of its cells
pub slabs_are : (n : ℕ) (V : List (List ℤ)) → IsVertexList (suc n) V → slabs_left n [] (couplets_of V) ≡ slabs_in n (cells (suc n) V)
unfolding slabs_in
slabs_are n V v = slabs_left-are n (cells (suc n) V) (bottom (suc n)) [] (couplets_of V) (starts n V v) ∙ ap (slabs_over n (cells (suc n) V)) (sym (cuts-heights n V v))

pub slabs_are_at : (m n : ℕ) (V : List (List ℤ)) → n + 1 ≡ m → IsVertexList m V → slabs_left n [] (couplets_of V) ≡ slabs_in n (cells m V)
slabs_are_at m n V e v =
    let q : m ≡ suc n = omega arith in
    let w : IsVertexList (suc n) V = rw (← q) v in
    slabs_are n V w ∙ ap (λ k. slabs_in n (cells k V)) (sym q)

-- ---- the steps of a sweep

pub slabs_none : (n : ℕ) (s : List (List ℤ)) (left : List (ℤ × List (List ℤ))) → left ≡ [] → slabs_left n s left ≡ []
unfolding slabs_left
slabs_none n s left e = rw e refl

pub slabs_last : (n : ℕ) (s : List (List ℤ)) (h : ℤ) (c : List (List ℤ)) (left later : List (ℤ × List (List ℤ))) → left ≡ (h, c) ∷ later → None ≡ first_height later → slabs_left n s left ≡ []
unfolding slabs_left slabs_above
slabs_last n s h c left [] e f = rw e refl
slabs_last n s h c left ((k, d) ∷ later) e f = cc

pub later_none : (later : List (ℤ × List (List ℤ))) → None ≡ first_height later → later ≡ []
later_none [] f = refl
later_none ((k, d) ∷ later) f = cc

pub slabs_more : (n : ℕ) (s t : List (List ℤ)) (h k : ℤ) (c : List (List ℤ)) (left later : List (ℤ × List (List ℤ))) → left ≡ (h, c) ∷ later → Some k ≡ first_height later → t ≡ xor_rows n s c
    → slabs_left n s left ≡ (h, (k, t)) ∷ slabs_left n t later
unfolding slabs_left slabs_above
slabs_more n s t h k c left [] e f g = cc
slabs_more n s t h k c left ((j, d) ∷ later) e f g =
    let q : k ≡ j = cc in
    rw (e, g, q) refl
