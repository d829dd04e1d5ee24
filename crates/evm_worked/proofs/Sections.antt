-- Cuts of cell sets of the plane, by where their cells agree, and the cuts of a box.
use Rattle.std.proofs.Common.{◌≡◌, ℕ, Bool, true, false, not, ◌&&◌, ◌||◌, ◌==◌, List, [], ◌∷◌, length, ℤ, pos, ◌-ℤ◌, ◌<ℤ◌, ◌≤ℤ◌, refl, sym, ap, ap₂, ◌∙◌, arith, int_le, int_lt, int_eq}
use Rattle.std.specs.List.{list_any, list_all}
use Rattle.std.proofs.lemmas.Bool.{false≢true}
use Rattle.std.proofs.lemmas.Int.{ints as int_facts}
use Rattle.evm_cells.specs.Places.{ascending, has, each, is_empty, with_at}
use Rattle.evm_cells.specs.Limits.{is_cell, is_cell_coord, is_point_coord, cells_where, IsCellSet}
use Rattle.evm_cells.specs.Booleans.{xor, xor_cells}
use Rattle.evm_cells.specs.Boxes.{IsBox, box_cells}
use Rattle.evm_cells.specs.Sections.{slice, couplet, cuts}
use Rattle.evm_cells.specs.Heights.{is_cut}
use Rattle.evm_cells.proofs.Xor.{xor_self, and-false, and-true, and_first, and_second, and_both}
use Rattle.evm_cells.proofs.Order.{rising}
use Rattle.evm_cells.proofs.Coords.{le_yes, le_no, lt_yes, lt_no, lt_is, le_is, eq_yes, eq_no, by_order, point_is, cell_yes}
use Rattle.evm_cells.proofs.Places.{has-any}
use Rattle.evm_cells.proofs.Universe.{absorb, point_parts, same_sets}
use Rattle.evm_cells.proofs.Combine.{has-combine, has-xor_cells, cell_set-xor}
use Rattle.evm_cells.proofs.Corners.{cell_set-box, has-box_cells}
use Rattle.evm_cells.proofs.Boxes.{box_has_low}
use Rattle.evm_cells.proofs.Slices.{has-slice_of, cell_set-slice}
use Rattle.evm_worked.proofs.Heights.{just_heights}

-- ---- cuts, by where cells agree

-- two cell sets with the same cells at two heights have the same sections there
sections_agree : (n : ℕ) (k l : ℤ) (S T : List (List ℤ)) → ((c : List ℤ) → has S (k ∷ c) ≡ has T (l ∷ c)) → slice n 0 k S ≡ slice n 0 l T
unfolding slice with_at
sections_agree n k l S T e = λ i. cells_where n (λ c. e c i)

pub cuts_agree : (h : ℤ) (S T : List (List ℤ)) → ((c : List ℤ) → has S ((h -ℤ pos 1) ∷ c) ≡ has T ((h -ℤ pos 1) ∷ c)) → ((c : List ℤ) → has S (h ∷ c) ≡ has T (h ∷ c)) → is_cut 2 S h ≡ is_cut 2 T h
unfolding couplet
cuts_agree h S T e f =
    ap₂ (λ A B. not (is_empty (xor_cells 1 A B))) (sections_agree 1 (h -ℤ pos 1) (h -ℤ pos 1) S T e) (sections_agree 1 h h S T f)

pub xor_itself : (n : ℕ) (A : List (List ℤ)) → xor_cells n A A ≡ []
unfolding xor_cells ascending
xor_itself n A =
    same_sets (xor_cells n A A) [] (cell_set-xor n A A).ascends refl
    (λ c. has-combine xor n A A c ∙ ap (λ b. is_cell n c && b) (xor_self (has A c)) ∙ and-false (is_cell n c) ∙ sym (has-any [] c))

-- where the cells just below and just above a height are the same, it is no cut
pub no_cut : (h : ℤ) (S : List (List ℤ)) → ((c : List ℤ) → has S ((h -ℤ pos 1) ∷ c) ≡ has S (h ∷ c)) → is_cut 2 S h ≡ false
unfolding couplet is_empty
no_cut h S e =
    ap (λ A. not (is_empty (xor_cells 1 A (slice 1 0 h S)))) (sections_agree 1 (h -ℤ pos 1) h S S e)
    ∙ ap (λ A. not (is_empty A)) (xor_itself 1 (slice 1 0 h S))

pub has_some : (S : List (List ℤ)) (c : List ℤ) → has S c ≡ true → is_empty S ≡ false
unfolding is_empty
has_some [] c m = absurd (false≢true (sym (has-any [] c) ∙ m))
has_some (x ∷ S) c m = refl

-- where just one of them is there, it is a cut
pub cut_here : (h : ℤ) (S : List (List ℤ)) (c : List ℤ) → IsCellSet 2 S → xor (has S ((h -ℤ pos 1) ∷ c)) (has S (h ∷ c)) ≡ true → is_cut 2 S h ≡ true
unfolding couplet with_at
cut_here h S c s e =
    ap not (has_some (couplet 1 0 h S) c
    (has-xor_cells 1 (slice 1 0 (h -ℤ pos 1) S) (slice 1 0 h S) c (cell_set-slice 1 0 (h -ℤ pos 1) S) (cell_set-slice 1 0 h S)
    ∙ ap₂ xor (has-slice_of 1 0 (h -ℤ pos 1) S c s) (has-slice_of 1 0 h S c s)
    ∙ e))

-- ---- the cuts of a box

-- two coordinates that the ends of a box have on an axis
pub record AreEnds (x y : ℤ) : Type 0 where
  pub below : x <ℤ y
  pub low : is_point_coord 2 x ≡ true
  pub high : is_point_coord 2 y ≡ true

pub ends_of : (x w y z : ℤ) → IsBox 2 (x ∷ w ∷ []) (y ∷ z ∷ []) → AreEnds x y
unfolding each
ends_of x w y z b =
    let (m, p) = point_parts 2 (x ∷ w ∷ []) b.low in
    let (n, q) = point_parts 2 (y ∷ z ∷ []) b.high in
    record {
      below = lt_is x y (and_first (int_lt x y) (each int_lt (w ∷ []) (z ∷ [])) b.room);
      low = and_first (is_point_coord 2 x) (list_all (is_point_coord 2) (w ∷ [])) p;
      high = and_first (is_point_coord 2 y) (list_all (is_point_coord 2) (z ∷ [])) q;
    }

pub ends_rise : (x y : ℤ) → AreEnds x y → rising int_lt (x ∷ y ∷ []) ≡ true
unfolding rising
ends_rise x y e = and_both (int_lt x y && true) true (and_both (int_lt x y) true (lt_yes x y e.below) refl) refl

pub ends_are_points : (x y : ℤ) → AreEnds x y → list_all (is_point_coord 2) (x ∷ y ∷ []) ≡ true
ends_are_points x y e = and_both (is_point_coord 2 x) (is_point_coord 2 y && true) e.low (and_both (is_point_coord 2 y) true e.high refl)

-- whether a cell between the ends may be at this height, and whether a place without its height is in a row of the box
abbrev is_between : ℤ → ℤ → ℤ → Bool
is_between x y k = int_le x k && int_lt k y

abbrev is_in_row : ℤ → ℤ → List ℤ → Bool
is_in_row w z c = (length (pos 0 ∷ c) == 2 && list_all (is_cell_coord 2) c) && (each int_le (w ∷ []) c && each int_lt c (z ∷ []))

regroup : (l a r p q s t : Bool) → ((l && (a && r)) && ((p && q) && (s && t))) ≡ ((a && (p && s)) && ((l && r) && (q && t)))
regroup false true r true q true t = refl
regroup false false r p q s t = refl
regroup false true r true q false t = refl
regroup false true r false q s t = refl
regroup true false r p q s t = refl
regroup true true false true q true t = refl
regroup true true false true q false t = refl
regroup true true false false q s t = refl
regroup true true true false q s t = refl
regroup true true true true false true t = refl
regroup true true true true false false t = refl
regroup true true true true true s t = refl

box_at : (x w y z k : ℤ) (c : List ℤ) → AreEnds x y → has (box_cells 2 (x ∷ w ∷ []) (y ∷ z ∷ [])) (k ∷ c) ≡ (is_between x y k && is_in_row w z c)
unfolding each is_cell
box_at x w y z k c e =
    has-box_cells 2 (x ∷ w ∷ []) (y ∷ z ∷ []) (k ∷ c)
    ∙ regroup (length (k ∷ c) == 2) (is_cell_coord 2 k) (list_all (is_cell_coord 2) c) (int_le x k) (each int_le (w ∷ []) c) (int_lt k y) (each int_lt c (z ∷ []))
    ∙ ap (λ b. b && is_in_row w z c) (absorb (is_cell_coord 2 k) (is_between x y k) in_limits)
  where
    in_limits : is_between x y k ≡ true → is_cell_coord 2 k ≡ true
    in_limits h =
        let (p, q) = point_is 2 x e.low in
        let (u, v) = point_is 2 y e.high in
        let l = le_is x k (and_first (int_le x k) (int_lt k y) h) in
        let m = lt_is k y (and_second (int_le x k) (int_lt k y) h) in
        cell_yes 2 k (omega (arith, int_facts)) (omega (arith, int_facts))

between : (x y k : ℤ) → x ≤ℤ k → k <ℤ y → is_between x y k ≡ true
between x y k l m = and_both (int_le x k) (int_lt k y) (le_yes x k l) (lt_yes k y m)

before_it : (x y k : ℤ) → k <ℤ x → is_between x y k ≡ false
before_it x y k l = ap (λ b. b && int_lt k y) (le_no x k l)

after_it : (x y k : ℤ) → y ≤ℤ k → is_between x y k ≡ false
after_it x y k l = ap (λ b. int_le x k && b) (lt_no k y l) ∙ and-false (int_le x k)

-- whether a height is an end
pub neither_end : (x y h : ℤ) → (h ≡ x → ⊥) → (h ≡ y → ⊥) → list_any (int_eq h) (x ∷ y ∷ []) ≡ false
neither_end x y h p q = ap₂ (λ a b. a || (b || false)) (eq_no h x p) (eq_no h y q)

low_end : (x y h : ℤ) → h ≡ x → list_any (int_eq h) (x ∷ y ∷ []) ≡ true
low_end x y h p = ap (λ a. a || (int_eq h y || false)) (eq_yes h x p)

high_end : (x y h : ℤ) → (h ≡ x → ⊥) → h ≡ y → list_any (int_eq h) (x ∷ y ∷ []) ≡ true
high_end x y h p q = ap₂ (λ a b. a || (b || false)) (eq_no h x p) (eq_yes h y q)

-- where the heights just below and just above are both between the ends, or neither, there is no cut; else there is one
even_there : (x w y z h : ℤ) → AreEnds x y → is_between x y (h -ℤ pos 1) ≡ is_between x y h → is_cut 2 (box_cells 2 (x ∷ w ∷ []) (y ∷ z ∷ [])) h ≡ false
even_there x w y z h e q =
    no_cut h (box_cells 2 (x ∷ w ∷ []) (y ∷ z ∷ []))
    (λ c. box_at x w y z (h -ℤ pos 1) c e ∙ ap (λ b. b && is_in_row w z c) q ∙ sym (box_at x w y z h c e))

odd_there : (x w y z h : ℤ) → IsBox 2 (x ∷ w ∷ []) (y ∷ z ∷ []) → xor (is_between x y (h -ℤ pos 1)) (is_between x y h) ≡ true → is_cut 2 (box_cells 2 (x ∷ w ∷ []) (y ∷ z ∷ [])) h ≡ true
odd_there x w y z h b q =
    cut_here h (box_cells 2 (x ∷ w ∷ []) (y ∷ z ∷ [])) (w ∷ []) (cell_set-box 2 (x ∷ w ∷ []) (y ∷ z ∷ [])) (ap₂ xor (at (h -ℤ pos 1)) (at h) ∙ q)
  where
    in_row : is_in_row w z (w ∷ []) ≡ true
    in_row =
        and_second (is_between x y x) (is_in_row w z (w ∷ []))
        (sym (box_at x w y z x (w ∷ []) (ends_of x w y z b)) ∙ box_has_low 2 (x ∷ w ∷ []) (y ∷ z ∷ []) b)

    at : (k : ℤ) → has (box_cells 2 (x ∷ w ∷ []) (y ∷ z ∷ [])) (k ∷ w ∷ []) ≡ is_between x y k
    at k = box_at x w y z k (w ∷ []) (ends_of x w y z b) ∙ ap (λ t. is_between x y k && t) in_row ∙ and-true (is_between x y k)

-- its cuts are its two ends
pub cut_of_box : (x w y z : ℤ) → IsBox 2 (x ∷ w ∷ []) (y ∷ z ∷ []) → (h : ℤ) → is_cut 2 (box_cells 2 (x ∷ w ∷ []) (y ∷ z ∷ [])) h ≡ list_any (int_eq h) (x ∷ y ∷ [])
unfolding xor
cut_of_box x w y z b h =
    let e : AreEnds x y = ends_of x w y z b in
    let r : x <ℤ y = e.below in
    let k : ℤ = h -ℤ pos 1 in
    by_order h x
    (λ l. even_there x w y z h e (before_it x y k (omega (arith, int_facts)) ∙ sym (before_it x y h l))
    ∙ sym (neither_end x y h (λ q. omega (arith, int_facts)) (λ q. omega (arith, int_facts))))
    (λ q. odd_there x w y z h b (ap₂ xor (before_it x y k (omega (arith, int_facts))) (between x y h (omega (arith, int_facts)) (omega (arith, int_facts))))
    ∙ sym (low_end x y h q))
    (λ l. by_order h y
    (λ m. even_there x w y z h e (between x y k (omega (arith, int_facts)) (omega (arith, int_facts)) ∙ sym (between x y h (omega (arith, int_facts)) m))
    ∙ sym (neither_end x y h (λ q. omega (arith, int_facts)) (λ q. omega (arith, int_facts))))
    (λ q. odd_there x w y z h b (ap₂ xor (between x y k (omega (arith, int_facts)) (omega (arith, int_facts))) (after_it x y h (omega (arith, int_facts))))
    ∙ sym (high_end x y h (λ p. omega (arith, int_facts)) q))
    (λ m. even_there x w y z h e (after_it x y k (omega (arith, int_facts)) ∙ sym (after_it x y h (omega (arith, int_facts))))
    ∙ sym (neither_end x y h (λ q. omega (arith, int_facts)) (λ q. omega (arith, int_facts)))))

pub cuts_of_box : (x w y z : ℤ) → IsBox 2 (x ∷ w ∷ []) (y ∷ z ∷ []) → cuts 1 0 (box_cells 2 (x ∷ w ∷ []) (y ∷ z ∷ [])) ≡ x ∷ y ∷ []
unfolding cuts
cuts_of_box x w y z b =
    let e : AreEnds x y = ends_of x w y z b in
    just_heights (λ h. is_cut 2 (box_cells 2 (x ∷ w ∷ []) (y ∷ z ∷ [])) h) (x ∷ y ∷ []) (ends_rise x y e) (ends_are_points x y e) (λ h p. cut_of_box x w y z b h)
