-- Vertex lists of dimension 1 by the places that they fill: a place is filled if an odd number of vertices stand at or below it
use Rattle.std.proofs.Common.{◌≡◌, suc, ◌+◌, Bool, true, false, not, cond, ◌&&◌, ◌||◌, Some, List, [], ◌∷◌, ◌++◌, length, ℤ, pos, ◌-ℤ◌, ◌<ℤ◌, ◌≤ℤ◌, refl, sym, ap, ap₂, ◌∙◌, arith, int_lt, int_le, int_eq, append-nil}
use Rattle.std.specs.List.{list_any, list_all}
use Rattle.std.proofs.lemmas.Bool.{false≢true}
use Rattle.std.proofs.lemmas.Int.{ints as int_facts, by_lt_z}
use Rattle.evm_cells.specs.Places.{each, before, has}
use Rattle.evm_cells.specs.Limits.{is_cell, IsCellSet}
use Rattle.evm_cells.specs.Booleans.{xor, combine}
use Rattle.evm_cells.specs.Vertices.{cells, IsVertexList, odd}
use Rattle.evm_cells.proofs.Xor.{xsum, xsum-cons, xsum-same, xor-false, xor_assoc, and-true, and-false, and_first, and_second, and_both, odd-more, odd-zero}
use Rattle.evm_cells.proofs.Sum.{xsum-append, xsum-xor, xsum-map}
use Rattle.evm_cells.proofs.Order.{rising, same_lists, sift}
use Rattle.evm_cells.proofs.Lists.{all_weaker, all-append, rising-append}
use Rattle.evm_cells.proofs.Coords.{strict_ints, eq_is, eq_yes, eq_no, lt_is, lt_yes, le_is, le_yes, le_no, by_order}
use Rattle.evm_cells.proofs.Places.{ascending-rising}
use Rattle.evm_cells.proofs.Universe.{cell_set-cells, member_passes}
use Rattle.evm_cells.proofs.Combine.{cell_set-combine, has-combine}
use Rattle.evm_cells.proofs.Core.{cells-evm, has-cells_even}
use Rattle.evm_rows.specs.Rows.{rows_of, flat_of, combined_rows, xor_rows}
use Rattle.evm_rows.proofs.RowsOrder.{Wide, rows_of-flat_of}
use Rattle.evm_rows.proofs.Bridge.{vertices-op, wide-points}
use Rattle.evm_sections.specs.Lines.{firsts, ones, head_of, past, stands, if_any}

-- whether the place x is filled
abbrev pub par : List ℤ → ℤ → Bool
par w x = xsum (λ y. int_le y x) w

pub par-cons : (y : ℤ) (w : List ℤ) (x : ℤ) → par (y ∷ w) x ≡ xor (int_le y x) (par w x)
par-cons y w x = xsum-cons (λ z. int_le z x) y w

pub par-append : (v w : List ℤ) (x : ℤ) → par (v ++ w) x ≡ xor (par v x) (par w x)
par-append v w x = xsum-append (λ y. int_le y x) v w

pub par-nil : (x : ℤ) → par [] x ≡ false
unfolding xsum
par-nil x = refl

-- ---- the places fix the vertices

last_place : (x y : ℤ) → xor (int_le y x) (int_le y (x -ℤ pos 1)) ≡ (int_eq x y && true)
unfolding xor
last_place x y = by_order y x
    (λ l. rw (le_yes y x (omega (arith, int_facts)), le_yes y (x -ℤ pos 1) (omega (arith, int_facts)), eq_no x y (λ e. omega (arith, int_facts))) refl)
    (λ e. rw (le_yes y x (omega (arith, int_facts)), le_no y (x -ℤ pos 1) (omega (arith, int_facts)), eq_yes x y (sym e)) refl)
    (λ l. rw (le_no y x (omega (arith, int_facts)), le_no y (x -ℤ pos 1) (omega (arith, int_facts)), eq_no x y (λ e. omega (arith, int_facts))) refl)

any-par : (w : List ℤ) (x : ℤ) → rising int_lt w ≡ true → list_any (int_eq x) w ≡ xor (par w x) (par w (x -ℤ pos 1))
any-par w x a =
    sym (and-true (list_any (int_eq x) w))
    ∙ sym (sift int_eq int_lt strict_ints x (λ y. true) w a)
    ∙ sym (xsum-same (λ y. xor (int_le y x) (int_le y (x -ℤ pos 1))) (λ y. int_eq x y && true) (last_place x) w)
    ∙ xsum-xor (λ y. int_le y x) (λ y. int_le y (x -ℤ pos 1)) w

pub same_line : (v w : List ℤ) → rising int_lt v ≡ true → rising int_lt w ≡ true → ((x : ℤ) → par v x ≡ par w x) → v ≡ w
same_line v w a b e = same_lists int_eq int_lt strict_ints v w a b (λ x. any-par v x a ∙ ap₂ xor (e x) (e (x -ℤ pos 1)) ∙ sym (any-par w x b))

-- ---- rows of one number

pub ones-firsts : (V : List (List ℤ)) → Wide 1 V → ones (firsts V) ≡ V
ones-firsts [] w = refl
ones-firsts ([] ∷ V) w = let bad : 0 ≡ 1 = w.0 in absurd (omega arith)
ones-firsts ((x ∷ []) ∷ V) w = ap (λ zs. (x ∷ []) ∷ zs) (ones-firsts V w.1)
ones-firsts ((x ∷ y ∷ r) ∷ V) w = let bad : length (x ∷ y ∷ r) ≡ 1 = w.0 in absurd (omega arith)

pub wide-ones : (w : List ℤ) → Wide 1 (ones w)
wide-ones [] = tt
wide-ones (x ∷ w) = (refl, wide-ones w)

pub flat_of-ones : (w : List ℤ) → flat_of (ones w) ≡ w
flat_of-ones [] = refl
flat_of-ones (x ∷ w) = ap (λ zs. x ∷ zs) (flat_of-ones w)

pub firsts-ones : (w : List ℤ) → firsts (ones w) ≡ w
firsts-ones [] = refl
firsts-ones (x ∷ w) = ap (λ zs. x ∷ zs) (firsts-ones w)

-- the rows of numbers one by one
pub rows_of-ones : (w : List ℤ) → rows_of w 1 0 ≡ ones w
rows_of-ones w = ap (λ f. rows_of f 1 0) (sym (flat_of-ones w)) ∙ rows_of-flat_of 1 (ones w) (omega arith) (wide-ones w)

before-one : (x y : ℤ) → before (x ∷ []) (y ∷ []) ≡ int_lt x y
unfolding before
before-one x y = ap (λ b. int_lt x y || b) (and-false (int_eq x y)) ∙ or-false (int_lt x y)
  where
    or-false : (b : Bool) → (b || false) ≡ b
    or-false true = refl
    or-false false = refl

all_before-ones : (x : ℤ) (w : List ℤ) → list_all (before (x ∷ [])) (ones w) ≡ list_all (int_lt x) w
all_before-ones x [] = refl
all_before-ones x (y ∷ w) = ap₂ (λ a b. a && b) (before-one x y) (all_before-ones x w)

pub rising-ones : (w : List ℤ) → rising before (ones w) ≡ rising int_lt w
unfolding rising
rising-ones [] = refl
rising-ones (x ∷ w) = ap₂ (λ a b. a && b) (all_before-ones x w) (rising-ones w)

-- the numbers of a vertex list ascend
pub rising-firsts : (V : List (List ℤ)) → IsVertexList 1 V → rising int_lt (firsts V) ≡ true
rising-firsts V v =
    sym (rising-ones (firsts V)) ∙ ap (rising before) (ones-firsts V (wide-points 1 V v.points)) ∙ sym (ascending-rising V) ∙ v.ascends

below-one : (x : ℤ) (w : List ℤ) → xsum (λ q. each int_le q (x ∷ [])) (ones w) ≡ par w x
unfolding each
below-one x w = xsum-map (λ q. each int_le q (x ∷ [])) (λ y. y ∷ []) w ∙ xsum-same (λ y. int_le y x && true) (λ y. int_le y x) (λ y. and-true (int_le y x)) w

-- and fill the places of its cells
pub par-cells : (V : List (List ℤ)) (x : ℤ) → IsVertexList 1 V → par (firsts V) x ≡ has (cells 1 V) (x ∷ [])
par-cells V x v =
    sym (below-one x (firsts V)) ∙ ap (xsum (λ q. each int_le q (x ∷ []))) (ones-firsts V (wide-points 1 V v.points)) ∙ sym (has-cells_even 1 V (x ∷ []) v refl)

held : (op : Bool → Bool → Bool) → op false false ≡ false → (t x y : Bool) → (x ≡ true → t ≡ true) → (y ≡ true → t ≡ true) → (t && op x y) ≡ op x y
held op z true x y f g = refl
held op z false true y f g = absurd (false≢true (f refl))
held op z false false true f g = absurd (false≢true (g refl))
held op z false false false f g = sym z

-- a Boolean of the cells of two lines holds a place by whether each line fills it
pub has-op : (op : Bool → Bool → Bool) (V W : List (List ℤ)) (x : ℤ) → op false false ≡ false → IsVertexList 1 V → IsVertexList 1 W
    → has (combine op 1 (cells 1 V) (cells 1 W)) (x ∷ []) ≡ op (par (firsts V) x) (par (firsts W) x)
has-op op V W x z v w =
    let A : List (List ℤ) = cells 1 V in
    let B : List (List ℤ) = cells 1 W in
    let a : IsCellSet 1 A = cell_set-cells 1 V in
    let b : IsCellSet 1 B = cell_set-cells 1 W in
    has-combine op 1 A B (x ∷ [])
    ∙ held op z (is_cell 1 (x ∷ [])) (has A (x ∷ [])) (has B (x ∷ [])) (member_passes (is_cell 1) A (x ∷ []) a.cells) (member_passes (is_cell 1) B (x ∷ []) b.cells)
    ∙ ap₂ op (sym (par-cells V x v)) (sym (par-cells W x w))

pub par-op : (op : Bool → Bool → Bool) (V W : List (List ℤ)) (x : ℤ) → op false false ≡ false → IsVertexList 1 V → IsVertexList 1 W → par (firsts (combined_rows op 1 V W)) x ≡ op (par (firsts V) x) (par (firsts W) x)
unfolding combined_rows
par-op op V W x z v w =
    par-cells (combined_rows op 1 V W) x (vertices-op op 1 V W)
    ∙ ap (λ S. has S (x ∷ [])) (cells-evm 1 (combine op 1 (cells 1 V) (cells 1 W)) (cell_set-combine op 1 (cells 1 V) (cells 1 W)))
    ∙ has-op op V W x z v w

pub par-xor : (V W : List (List ℤ)) (x : ℤ) → IsVertexList 1 V → IsVertexList 1 W → par (firsts (xor_rows 1 V W)) x ≡ xor (par (firsts V) x) (par (firsts W) x)
unfolding xor_rows xor
par-xor V W x v w = par-op xor V W x refl v w

-- ascending numbers that fill the places of a vertex list are its own
pub by_places : (T : List (List ℤ)) (w : List ℤ) → IsVertexList 1 T → rising int_lt w ≡ true → ((x : ℤ) → par w x ≡ par (firsts T) x) → ones w ≡ T
by_places T w t a e = ap ones (same_line w (firsts T) a (rising-firsts T t) e) ∙ ones-firsts T (wide-points 1 T t.points)

-- ---- numbers above a place, and below it

pub par-above : (w : List ℤ) (x : ℤ) → list_all (int_lt x) w ≡ true → par w x ≡ false
unfolding xsum xor
par-above [] x a = refl
par-above (y ∷ w) x a =
    let l : x <ℤ y = lt_is x y (and_first (int_lt x y) (list_all (int_lt x) w) a) in
    rw (le_no y x l) (par-above w x (and_second (int_lt x y) (list_all (int_lt x) w) a))

pub par-under : (w : List ℤ) (x : ℤ) → list_all (λ y. int_le y x) w ≡ true → par w x ≡ odd (length w)
unfolding xsum xor
par-under [] x a = sym odd-zero
par-under (y ∷ w) x a =
    rw (and_first (int_le y x) (list_all (λ z. int_le z x) w) a)
    (ap not (par-under w x (and_second (int_le y x) (list_all (λ z. int_le z x) w) a)) ∙ sym (odd-more (length w)) ∙ ap odd (let q : 1 + length w ≡ suc (length w) = omega arith in q))

pub all_le : (l x : ℤ) (w : List ℤ) → l ≤ℤ x → list_all (λ y. int_le y l) w ≡ true → list_all (λ y. int_le y x) w ≡ true
all_le l x w m a = all_weaker (λ y. int_le y l) (λ y. int_le y x) (λ y k. let i : y ≤ℤ l = le_is y l k in le_yes y x (omega (arith, int_facts))) w a

pub all_lt : (x h : ℤ) (w : List ℤ) → x <ℤ h → list_all (int_le h) w ≡ true → list_all (int_lt x) w ≡ true
all_lt x h w m a = all_weaker (int_le h) (int_lt x) (λ y k. let i : h ≤ℤ y = le_is h y k in lt_yes x y (omega (arith, int_facts))) w a

-- ---- a line that is walked along

-- from the place `level` on, F says what is filled by the vertices that are left, where `on` says whether `level` is filled
pub record Ahead (F : ℤ → Bool) (level : ℤ) (on : Bool) (left : List ℤ) : Type 0 where
  pub ahead : (x : ℤ) → level ≤ℤ x → F x ≡ xor on (par left x)
  pub above : rising int_lt (level ∷ left) ≡ true

pub higher : (l : ℤ) (left : List ℤ) → rising int_lt (l ∷ left) ≡ true → list_all (int_lt l) left ≡ true
unfolding rising
higher l left a = and_first (list_all (int_lt l) left) (rising int_lt left) a

pub rest_rises : (l : ℤ) (left : List ℤ) → rising int_lt (l ∷ left) ≡ true → rising int_lt left ≡ true
unfolding rising
rest_rises l left a = and_second (list_all (int_lt l) left) (rising int_lt left) a

pub rises-over : (l : ℤ) (left : List ℤ) → list_all (int_lt l) left ≡ true → rising int_lt left ≡ true → rising int_lt (l ∷ left) ≡ true
unfolding rising
rises-over l left a b = and_both (list_all (int_lt l) left) (rising int_lt left) a b

pub line_stays : (F : ℤ → Bool) (l x h : ℤ) (on : Bool) (left : List ℤ) → Ahead F l on left → l ≤ℤ x → x <ℤ h → list_all (int_le h) left ≡ true → F x ≡ on
line_stays F l x h on left a m n b = a.ahead x m ∙ ap (xor on) (par-above left x (all_lt x h left n b)) ∙ xor-false on

pub line_passes : (F : ℤ → Bool) (l h : ℤ) (on : Bool) (left : List ℤ) → Ahead F l on left → l <ℤ h → list_all (int_le h) left ≡ true → Ahead F h (xor on (stands h left)) (past h left)
line_passes F l h on [] a m b = record {
  ahead = λ x k. a.ahead x (omega (arith, int_facts)) ∙ ap (λ t. xor t (par [] x)) (sym (xor-false on));
  above = rises-over h [] refl (rest_rises l [] a.above);
}
line_passes F l h on (y ∷ ys) a m b = at (int_eq y h) refl
  where
    low : h ≤ℤ y
    low = le_is h y (and_first (int_le h y) (list_all (int_le h) ys) b)

    up : rising int_lt (y ∷ ys) ≡ true
    up = rest_rises l (y ∷ ys) a.above

    at : (t : Bool) → int_eq y h ≡ t → Ahead F h (xor on (int_eq y h)) (cond (int_eq y h) ys (y ∷ ys))
    at true e =
        let q : y ≡ h = eq_is y h e in
        rw e (record {
          ahead = λ x k. a.ahead x (omega (arith, int_facts)) ∙ ap (xor on) (par-cons y ys x ∙ ap (λ t. xor t (par ys x)) (le_yes y x (omega (arith, int_facts)))) ∙ sym (xor_assoc on true (par ys x));
          above = ap (λ z. rising int_lt (z ∷ ys)) (sym q) ∙ up;
        })
    at false e =
        let ne : y ≡ h → ⊥ = λ q. let bad : false ≡ true = sym e ∙ eq_yes y h q in cc in
        let n : h <ℤ y = by_lt_z h y (λ z. z) (λ z. let k : h ≤ℤ y = low in let s : y ≡ h = omega (arith, int_facts) in absurd (ne s)) in
        rw e (record {
          ahead = λ x k. a.ahead x (omega (arith, int_facts)) ∙ ap (λ t. xor t (par (y ∷ ys) x)) (sym (xor-false on));
          above = rises-over h (y ∷ ys)
              (and_both (int_lt h y) (list_all (int_lt h) ys) (lt_yes h y n)
              (all_weaker (int_lt y) (int_lt h) (λ z k. let i : y <ℤ z = lt_is y z k in lt_yes h z (omega (arith, int_facts))) ys (higher y ys up))) up;
        })

-- at the place itself
pub line_now : (F : ℤ → Bool) (l : ℤ) (on : Bool) (left : List ℤ) → Ahead F l on left → F l ≡ on
line_now F l on left a = a.ahead l (let z : l ≤ℤ l = omega (arith, int_facts) in z) ∙ ap (xor on) (par-above left l (higher l left a.above)) ∙ xor-false on

-- the lowest of what is left
pub from_first : (h : ℤ) (left : List ℤ) → rising int_lt left ≡ true → ((y : ℤ) → head_of left ≡ Some y → h ≤ℤ y) → list_all (int_le h) left ≡ true
from_first h [] a f = refl
from_first h (y ∷ ys) a f =
    let low : h ≤ℤ y = f y refl in
    and_both (int_le h y) (list_all (int_le h) ys) (le_yes h y low)
    (all_weaker (int_lt y) (int_le h) (λ z k. let i : y <ℤ z = lt_is y z k in le_yes h z (omega (arith, int_facts))) ys (higher y ys a))

pub head_above : (l y : ℤ) (left : List ℤ) → rising int_lt (l ∷ left) ≡ true → head_of left ≡ Some y → l <ℤ y
head_above l y [] a e = cc
head_above l y (z ∷ left) a e = let q : z ≡ y = cc in lt_is l y (ap (int_lt l) (sym q) ∙ and_first (int_lt l z) (list_all (int_lt l) left) (higher l (z ∷ left) a))

-- ---- a line that is being built

-- w fills what G says up to the place `level`, which is filled if `on`
pub record Built (G : ℤ → Bool) (level : ℤ) (w : List ℤ) (on : Bool) : Type 0 where
  pub rises : rising int_lt w ≡ true
  pub under : list_all (λ y. int_le y level) w ≡ true
  pub done : (x : ℤ) → x ≤ℤ level → par w x ≡ G x
  pub now : on ≡ G level

pub built_stays : (G : ℤ → Bool) (l x : ℤ) (w : List ℤ) (on : Bool) → Built G l w on → l ≤ℤ x → par w x ≡ on
built_stays G l x w on b m =
    par-under w x (all_le l x w m b.under) ∙ sym (par-under w l b.under) ∙ b.done l (let z : l ≤ℤ l = omega (arith, int_facts) in z) ∙ sym b.now

par-itself : (h : ℤ) → par (h ∷ []) h ≡ true
unfolding xsum xor
par-itself h = rw (le_yes h h (let z : h ≤ℤ h = omega (arith, int_facts) in z)) refl

flip : (a b : Bool) → xor a b ≡ true → xor a true ≡ b
unfolding xor
flip true true e = e
flip true false e = refl
flip false true e = refl
flip false false e = sym e

same : (a b : Bool) → xor a b ≡ false → a ≡ b
unfolding xor
same true true e = refl
same true false e = e
same false true e = sym e
same false false e = refl

up_to : (G : ℤ → Bool) (l h x : ℤ) (w : List ℤ) (on : Bool) → Built G l w on → l <ℤ h → x <ℤ h → ((y : ℤ) → l ≤ℤ y → y <ℤ h → G y ≡ on) → par w x ≡ G x
up_to G l h x w on b m n calm = by_lt_z l x (λ k. built_stays G l x w on b (omega (arith, int_facts)) ∙ sym (calm x (omega (arith, int_facts)) n)) (λ k. b.done x k)

pub built_more : (G : ℤ → Bool) (l h : ℤ) (w : List ℤ) (on next : Bool) → Built G l w on → l <ℤ h → ((y : ℤ) → l ≤ℤ y → y <ℤ h → G y ≡ on) → next ≡ G h → Built G h (w ++ if_any (xor on next) h) next
unfolding rising
built_more G l h w on next b m calm e = at (xor on next) refl
  where
    quiet : (z : ℤ) → z <ℤ h → list_all (int_lt z) (h ∷ []) ≡ true
    quiet z k = and_both (int_lt z h) true (lt_yes z h k) refl

    at : (t : Bool) → xor on next ≡ t → Built G h (w ++ if_any t h) next
    at true q = record {
      rises = rising-append int_lt w (h ∷ []) b.rises (rises-over h [] refl refl)
          (all_weaker (λ y. int_le y l) (λ y. list_all (int_lt y) (h ∷ [])) (λ y k. let i : y ≤ℤ l = le_is y l k in quiet y (omega (arith, int_facts))) w b.under);
      under = all-append (λ y. int_le y h) w (h ∷ []) ∙ and_both (list_all (λ y. int_le y h) w) (int_le h h && true) (all_le l h w (omega (arith, int_facts)) b.under)
          (and_both (int_le h h) true (le_yes h h (let z : h ≤ℤ h = omega (arith, int_facts) in z)) refl);
      done = λ x k. par-append w (h ∷ []) x ∙ by_lt_z x h
          (λ n. ap₂ xor (up_to G l h x w on b m n calm) (par-above (h ∷ []) x (quiet x n)) ∙ xor-false (G x))
          (λ n. let s : x ≡ h = omega (arith, int_facts) in
          ap (λ z. xor (par w z) (par (h ∷ []) z)) s ∙ ap₂ xor (built_stays G l h w on b (omega (arith, int_facts))) (par-itself h)
          ∙ flip on next q ∙ e ∙ ap G (sym s));
      now = e;
    }
    at false q = record {
      rises = ap (rising int_lt) (append-nil w) ∙ b.rises;
      under = ap (list_all (λ y. int_le y h)) (append-nil w) ∙ all_le l h w (omega (arith, int_facts)) b.under;
      done = λ x k. ap (λ v. par v x) (append-nil w) ∙ by_lt_z x h
          (λ n. up_to G l h x w on b m n calm)
          (λ n. let s : x ≡ h = omega (arith, int_facts) in
          ap (par w) s ∙ built_stays G l h w on b (omega (arith, int_facts)) ∙ same on next q ∙ e ∙ ap G (sym s));
      now = e;
    }
