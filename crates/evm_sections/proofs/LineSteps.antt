-- The steps of a walk along a line
use Rattle.std.proofs.Common.{◌≡◌, ℕ, ◌+◌, ◌<◌, ◌≤◌, ◌%◌, Bool, true, false, not, Option, Some, None, List, [], ◌∷◌, length, take, drop, ℤ, refl, sym, ap, ◌∙◌, arith, int_eq, int_lt, ◌==◌, ◌-◌, get_or, pos, ◌<ℤ◌, add-one, inl, inr, subst, ◌⊎◌, ⊎_elim}
use Rattle.evm_cells.specs.Booleans.{xor}
use Rattle.evm_cells.specs.Vertices.{odd, IsVertexList}
use Rattle.evm_cells.proofs.Xor.{xor-false}
use Rattle.evm_cells.proofs.Order.{rising}
use Rattle.evm_cells.proofs.Coords.{eq_yes, eq_no}
use Rattle.evm_rows.specs.Rows.{rows_of, flat_of, xor_rows, AreRows}
use Rattle.evm_rows.proofs.Bridge.{are_rows-flat, are_rows-nil, vertices-xor}
use Rattle.evm_rows.proofs.RowsOrder.{Wide, rows_of-wide}
use Rattle.evm_sections.proofs.Single.{wide-one}
use Rattle.evm_sections.proofs.LineChanges.{all_lower}
use Rattle.std.specs.List.{list_all}
use Rattle.evm_sections.specs.Lines.{firsts, ones, head_of, past, stands, least, LineRest, passed}
use Rattle.std.proofs.lemmas.Bool.{cases_Bool}
use Rattle.evm_sections.proofs.Lines.{rows_of-ones, firsts-ones, ones-firsts, flat_of-ones, rising-firsts}

pub firsts-first : (rs : List (List ℤ)) (row : List ℤ) (rest : List (List ℤ)) (h : ℤ) → rs ≡ row ∷ rest → row ≡ h ∷ drop 1 row → firsts rs ≡ h ∷ firsts rest
firsts-first rs row rest h e f = rw (e, f) refl

pub firsts-none : (rs : List (List ℤ)) → rs ≡ [] → firsts rs ≡ []
firsts-none rs e = rw e refl

pub firsts-numbers : (w : List ℤ) → firsts (rows_of w 1 0) ≡ w
firsts-numbers w = ap firsts (rows_of-ones w) ∙ firsts-ones w

pub head-first : (w : List ℤ) (x : ℤ) (xs : List ℤ) → w ≡ x ∷ xs → head_of w ≡ Some x
head-first w x xs e = rw e refl

pub head-none : (w : List ℤ) → w ≡ [] → head_of w ≡ None
head-none w e = rw e refl

turned_on : (a : Bool) → not a ≡ xor a true
unfolding xor
turned_on true = refl
turned_on false = refl

pub passed-none : (h : ℤ) (l : LineRest) → l.left ≡ [] → l ≡ passed h l
passed-none h l e =
    let p : l.left ≡ past h l.left = e ∙ ap (past h) (sym e) in
    let q : l.on ≡ xor l.on (stands h l.left) = sym (xor-false l.on) ∙ ap (λ w. xor l.on (stands h w)) (sym e) in
    λ i. record { left = p i; on = q i }

pub passed-yes : (h x : ℤ) (l : LineRest) (xs : List ℤ) → l.left ≡ x ∷ xs → x ≡ h → record { left = xs; on = not l.on } ≡ passed h l
passed-yes h x l xs e s =
    let t : int_eq x h ≡ true = eq_yes x h s in
    let p : xs ≡ past h l.left = rw (e, t) refl in
    let q : not l.on ≡ xor l.on (stands h l.left) = rw (e, t) (turned_on l.on) in
    λ i. record { left = p i; on = q i }

pub passed-no : (h x : ℤ) (l : LineRest) (xs : List ℤ) → l.left ≡ x ∷ xs → (x ≡ h → ⊥) → l ≡ passed h l
passed-no h x l xs e s =
    let t : int_eq x h ≡ false = eq_no x h s in
    let p : l.left ≡ past h l.left = rw (e, t) refl in
    let q : l.on ≡ xor l.on (stands h l.left) = sym (rw (e, t) (xor-false l.on)) in
    λ i. record { left = p i; on = q i }

pub odd_is : (n : ℕ) → (n % 2 == 1) ≡ odd n
unfolding odd
odd_is n = refl

-- the numbers of a view of dimension 1 ascend
pub numbers-rise : (w : List ℤ) → AreRows w 1 0 → rising int_lt w ≡ true
numbers-rise w a =
    let v : IsVertexList 1 (rows_of w 1 0) = a.vertices in
    ap (rising int_lt) (sym (firsts-numbers w)) ∙ rising-firsts (rows_of w 1 0) v

-- the rows of one number, one after another
pub flat_of-firsts : (rs : List (List ℤ)) → Wide 1 rs → flat_of rs ≡ firsts rs
flat_of-firsts rs w = ap flat_of (sym (ones-firsts rs w)) ∙ flat_of-ones (firsts rs)

pub left-flat : (flat : List ℤ) (w s : ℕ) → s + 1 ≡ w → length flat % w ≡ 0 → flat_of (rows_of flat w s) ≡ firsts (rows_of flat w s)
left-flat flat w s one whole = flat_of-firsts (rows_of flat w s) (wide-one (w - s) (rows_of flat w s) (omega arith) (rows_of-wide flat w s (omega arith) whole))

pub left-numbers : (flat : List ℤ) (w s : ℕ) → w ≡ 1 → s + 1 ≡ w → flat ≡ firsts (rows_of flat w s)
left-numbers flat w s one e = let z : s ≡ 0 = omega arith in rw (one, z) (sym (firsts-numbers flat))

pub below-more : (w : List ℤ) (i : ℕ) (low : ℤ) → rising int_lt w ≡ true → i < length w → get_or w i (pos 0) <ℤ low → list_all (λ y. int_lt y low) (take (i + 1) w) ≡ true
below-more w i low a l m = ap (λ k. list_all (λ y. int_lt y low) (take k w)) (add-one i) ∙ all_lower w i low a l m

-- ---- each step leaves fewer numbers

pub past-le : (h : ℤ) (w : List ℤ) → length (past h w) ≤ length w
past-le h [] = omega arith
past-le h (x ∷ w) = ⊎_elim (λ (t : int_eq x h ≡ true). rw t (omega arith)) (λ (t : int_eq x h ≡ false). rw t (omega arith)) (cases_Bool (int_eq x h))

pub past-lt : (h : ℤ) (w : List ℤ) → head_of w ≡ Some h → length (past h w) < length w
past-lt h [] e = cc
past-lt h (x ∷ w) e = let q : x ≡ h = cc in rw (eq_yes x h q) (omega arith)

pub least-one : (x h : ℤ) (o : Option ℤ) → h ≡ least x o → (h ≡ x) ⊎ (o ≡ Some h)
least-one x h None e = inl e
least-one x h (Some y) e = ⊎_elim
    (λ (t : int_lt y x ≡ true). let f : h ≡ y = rw t at e in inr (ap Some (sym f)))
    (λ (t : int_lt y x ≡ false). let f : h ≡ x = rw t at e in inl f)
    (cases_Bool (int_lt y x))

pub two-fall : (n h : ℤ) (a c : List ℤ) → Some n ≡ head_of c → h ≡ least n (head_of a) → length (past h a) + length (past h c) < length a + length c
two-fall n h a c low pick =
    let la = past-le h a in
    let lc = past-le h c in
    ⊎_elim
    (λ (e : h ≡ n). let f = past-lt h c (sym low ∙ ap Some (sym e)) in omega arith)
    (λ (e : head_of a ≡ Some h). let f = past-lt h a e in omega arith)
    (least-one n h (head_of a) pick)

pub left-past : (h : ℤ) (a b : LineRest) → b ≡ passed h a → length b.left ≡ length (past h a.left)
left-past h a b e = ap (λ (l : LineRest). length l.left) e

-- the numbers of an exclusive or of two lines
pub line_rows : (V C : List (List ℤ)) (w : List ℤ) → ones w ≡ xor_rows 1 V C → AreRows w 1 0
line_rows V C w e =
    let q : flat_of (xor_rows 1 V C) ≡ w = ap flat_of (sym e) ∙ flat_of-ones w in
    let P : List ℤ → Type 0 = λ f. AreRows f 1 0 in
    subst P q (are_rows-flat 1 (xor_rows 1 V C) (omega arith) (omega arith) (vertices-xor 1 V C))

-- no numbers
pub none_rows : (w : List ℤ) → length w ≡ 0 → AreRows w 1 0
none_rows [] e = are_rows-nil 1 (omega arith) (omega arith)
none_rows (x ∷ w) e = absurd (omega arith)
