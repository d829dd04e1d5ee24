-- A line after a change: the numbers that are left, where they begin, and what is written
use Rattle.std.proofs.Common.{◌≡◌, ℕ, zero, suc, ◌<◌, ◌≤◌, Bool, true, false, Option, Some, None, List, [], ◌∷◌, ◌++◌, length, take, drop, get_or, ℤ, pos, ◌-ℤ◌, ◌<ℤ◌, ◌≤ℤ◌, refl, sym, ap, ap₂, ◌∙◌, subst, arith, int_lt, int_le, ⊎_elim}
use Rattle.std.specs.List.{list_all}
use Rattle.std.proofs.lemmas.Bool.{cases_Bool}
use Rattle.std.proofs.lemmas.Int.{ints as int_facts, by_lt_z}
use Rattle.std.proofs.lemmas.List.{take-append-drop, length-take-le}
use Rattle.std.specs.Prelude.{unwrap_or}
use Rattle.evm_cells.specs.Places.{has}
use Rattle.evm_cells.specs.Limits.{limit, is_cell, is_cell_coord, IsCellSet}
use Rattle.evm_cells.specs.Booleans.{xor}
use Rattle.evm_cells.specs.Vertices.{cells, IsVertexList, odd}
use Rattle.evm_cells.proofs.Xor.{xor-false, false-xor, xor_assoc, xor_comm, and_first, and_second, and_both}
use Rattle.evm_cells.proofs.Order.{rising, refuted}
use Rattle.evm_cells.proofs.Lists.{all_weaker, rising-append}
use Rattle.evm_cells.proofs.Coords.{lt_is, lt_yes, le_is, le_yes, cell_is}
use Rattle.evm_cells.proofs.Universe.{cell_set-cells, member_passes, cell_parts}
use Rattle.evm_rows.specs.Rows.{xor_rows}
use Rattle.evm_rows.proofs.Bridge.{vertices-xor}
use Rattle.evm_sections.specs.Lines.{firsts, ones, head_of, least, if_any, LineRest, passed}
use Rattle.evm_sections.proofs.Lines.{par, par-nil, par-append, par-above, par-under, par-cells, par-xor, by_places, all_le, all_lt, higher, rest_rises, rises-over, Ahead, line_stays, line_passes, from_first, line_now, head_above, Built, built_stays, built_more}

-- ---- the lowest number that is left

pub least-le : (x : ℤ) (o : Option ℤ) → least x o ≤ℤ x
least-le x None = omega (arith, int_facts)
least-le x (Some y) = ⊎_elim
    (λ (t : int_lt y x ≡ true). let k : y <ℤ x = lt_is y x t in rw t (omega (arith, int_facts)))
    (λ (t : int_lt y x ≡ false). rw t (omega (arith, int_facts)))
    (cases_Bool (int_lt y x))

pub not_lt : (y x : ℤ) → int_lt y x ≡ false → x ≤ℤ y
not_lt y x e = by_lt_z y x (λ k. let bad : false ≡ true = sym e ∙ lt_yes y x k in cc) (λ k. k)

pub least-some : (x y : ℤ) → least x (Some y) ≤ℤ y
least-some x y = ⊎_elim
    (λ (t : int_lt y x ≡ true). rw t (let z : y ≤ℤ y = omega (arith, int_facts) in z))
    (λ (t : int_lt y x ≡ false). rw t (not_lt y x t))
    (cases_Bool (int_lt y x))

pub least-above : (l x : ℤ) (left : List ℤ) → l <ℤ x → rising int_lt (l ∷ left) ≡ true → l <ℤ least x (head_of left)
least-above l x [] m a = m
least-above l x (y ∷ left) m a = ⊎_elim
    (λ (t : int_lt y x ≡ true). rw t (head_above l y (y ∷ left) a refl))
    (λ (t : int_lt y x ≡ false). rw t m)
    (cases_Bool (int_lt y x))

-- what is left is not below the least
pub least-from : (x h : ℤ) (left : List ℤ) → rising int_lt left ≡ true → h ≤ℤ least x (head_of left) → list_all (int_le h) left ≡ true
least-from x h left a m = from_first h left a (λ y e. let k : least x (head_of left) ≤ℤ y = rw e (least-some x y) in omega (arith, int_facts))

pub one_from : (low : ℤ) (u : List ℤ) → rising int_lt u ≡ true → low ≡ unwrap_or (head_of u) (pos 0) → list_all (int_le low) u ≡ true
one_from low u a e = from_first low u a (λ y q. let f : low ≡ y = rw q at e in omega (arith, int_facts))

pub rising-drop : (p : ℕ) (w : List ℤ) → rising int_lt w ≡ true → rising int_lt (drop p w) ≡ true
unfolding rising
rising-drop zero w a = a
rising-drop (suc p) [] a = a
rising-drop (suc p) (x ∷ w) a = rising-drop p w (and_second (list_all (int_lt x) w) (rising int_lt w) a)

rising-take : (p : ℕ) (w : List ℤ) → rising int_lt w ≡ true → rising int_lt (take p w) ≡ true
unfolding rising
rising-take zero w a = refl
rising-take (suc p) [] a = a
rising-take (suc p) (x ∷ w) a =
    and_both (list_all (int_lt x) (take p w)) (rising int_lt (take p w)) (all-take (int_lt x) p w (and_first (list_all (int_lt x) w) (rising int_lt w) a))
    (rising-take p w (and_second (list_all (int_lt x) w) (rising int_lt w) a))
  where
    all-take : (t : ℤ → Bool) (p : ℕ) (w : List ℤ) → list_all t w ≡ true → list_all t (take p w) ≡ true
    all-take t zero w a = refl
    all-take t (suc p) [] a = a
    all-take t (suc p) (y ∷ w) a = and_both (t y) (list_all t (take p w)) (and_first (t y) (list_all t w) a) (all-take t p w (and_second (t y) (list_all t w) a))

-- ---- the start of a line

-- the numbers from the place p on, where those before it are below `low`
pub starts_at : (w : List ℤ) (p : ℕ) (low : ℤ) → p ≤ length w → rising int_lt w ≡ true → list_all (λ y. int_lt y low) (take p w) ≡ true → list_all (int_le low) (drop p w) ≡ true
    → Ahead (par w) (low -ℤ pos 1) (odd p) (drop p w)
starts_at w p low m a b c =
    let under : list_all (λ y. int_le y (low -ℤ pos 1)) (take p w) ≡ true =
    all_weaker (λ y. int_lt y low) (λ y. int_le y (low -ℤ pos 1)) (λ y k. let i : y <ℤ low = lt_is y low k in le_yes y (low -ℤ pos 1) (omega (arith, int_facts))) (take p w) b in
    let size : length (take p w) ≡ p = length-take-le p w m in
    record {
      ahead = λ x k.
          ap (λ v. par v x) (sym (take-append-drop p w)) ∙ par-append (take p w) (drop p w) x
          ∙ ap (λ t. xor t (par (drop p w) x)) (par-under (take p w) x (all_le (low -ℤ pos 1) x (take p w) k under) ∙ ap odd size);
      above = rises-over (low -ℤ pos 1) (drop p w) (all_lt (low -ℤ pos 1) low (drop p w) (omega (arith, int_facts)) c) (rising-drop p w a);
    }

-- a whole line, above the place before its first number
pub starts_whole : (w : List ℤ) (low : ℤ) → rising int_lt w ≡ true → list_all (int_le low) w ≡ true → Ahead (par w) (low -ℤ pos 1) false w
starts_whole w low a b = record {
  ahead = λ x k. sym (false-xor (par w x));
  above = rises-over (low -ℤ pos 1) w (all_lt (low -ℤ pos 1) low w (omega (arith, int_facts)) b) a;
}

pub passes-to : (F : ℤ → Bool) (l h : ℤ) (a b : LineRest) → Ahead F l a.on a.left → l <ℤ h → list_all (int_le h) a.left ≡ true → b ≡ passed h a → Ahead F h b.on b.left
passes-to F l h a b s m f e =
    let P : LineRest → Type 0 = λ c. Ahead F h c.on c.left in
    subst P (sym e) (line_passes F l h a.on a.left s m f)

pub no_head : (w : List ℤ) → None ≡ head_of w → w ≡ []
no_head [] e = refl
no_head (x ∷ w) e = cc

-- beyond its last vertex a line is empty
pub even_end : (C : List (List ℤ)) (l : ℤ) (on : Bool) (left : List ℤ) → IsVertexList 1 C → Ahead (par (firsts C)) l on left → left ≡ [] → on ≡ false
even_end C l on left v a e = by_lt_z l (pos (limit 1)) (λ k. far (pos (limit 1)) (omega (arith, int_facts)) (let z : pos (limit 1) ≤ℤ pos (limit 1) = omega (arith, int_facts) in z)) (λ k. far l (let z : l ≤ℤ l = omega (arith, int_facts) in z) k)
  where
    none : (x : ℤ) → pos (limit 1) ≤ℤ x → has (cells 1 C) (x ∷ []) ≡ false
    none x k = refuted (has (cells 1 C) (x ∷ [])) (λ m.
        let s : IsCellSet 1 (cells 1 C) = cell_set-cells 1 C in
        let (u, w) = cell_parts 1 (x ∷ []) (member_passes (is_cell 1) (cells 1 C) (x ∷ []) s.cells m) in
        let (y, z) = cell_is 1 x (and_first (is_cell_coord 1 x) true w) in
        omega (arith, int_facts))

    far : (x : ℤ) → l ≤ℤ x → pos (limit 1) ≤ℤ x → on ≡ false
    far x k m = sym (xor-false on) ∙ ap (xor on) (sym (par-nil x) ∙ ap (λ w. par w x) (sym e)) ∙ sym (a.ahead x k) ∙ par-cells C x v ∙ none x m

-- ---- a line after a change

-- the numbers `out` fill what A and C fill one of, up to some place
pub record Turning (A C out : List ℤ) (a c : LineRest) : Type 0 where
  pub level : ℤ
  pub built : Built (λ x. xor (par A x) (par C x)) level out (xor a.on c.on)
  pub at_a : Ahead (par A) level a.on a.left
  pub at_c : Ahead (par C) level c.on c.left

pub turning_start : (A C : List ℤ) (low : ℤ) (p : ℕ) (out : List ℤ) (a c : LineRest) → p ≤ length A → rising int_lt A ≡ true → list_all (λ y. int_lt y low) (take p A) ≡ true → list_all (int_le low) C ≡ true
    → Ahead (par A) (low -ℤ pos 1) a.on a.left → Ahead (par C) (low -ℤ pos 1) c.on c.left → a.on ≡ odd p → a.left ≡ drop p A → c.on ≡ false → out ≡ take p A
    → Turning A C out a c
turning_start A C low p out a c m r b f sa sc ea la ec eo =
    let l : ℤ = low -ℤ pos 1 in
    let under : list_all (λ y. int_le y (low -ℤ pos 1)) (take p A) ≡ true =
    all_weaker (λ y. int_lt y low) (λ y. int_le y (low -ℤ pos 1)) (λ y k. let i : y <ℤ low = lt_is y low k in le_yes y (low -ℤ pos 1) (omega (arith, int_facts))) (take p A) b in
    let high : list_all (int_lt (low -ℤ pos 1)) (drop p A) ≡ true = ap (list_all (int_lt (low -ℤ pos 1))) (sym la) ∙ higher (low -ℤ pos 1) a.left sa.above in
    let done : (x : ℤ) → x ≤ℤ (low -ℤ pos 1) → par (take p A) x ≡ xor (par A x) (par C x) =
    λ x k. sym (ap₂ xor (ap (λ v. par v x) (sym (take-append-drop p A)) ∙ par-append (take p A) (drop p A) x
    ∙ ap (xor (par (take p A) x)) (par-above (drop p A) x (all_weaker (int_lt (low -ℤ pos 1)) (int_lt x) (λ y i. let j : (low -ℤ pos 1) <ℤ y = lt_is (low -ℤ pos 1) y i in lt_yes x y (omega (arith, int_facts))) (drop p A) high))
    ∙ xor-false (par (take p A) x)) (par-above C x (all_lt x low C (omega (arith, int_facts)) f)) ∙ xor-false (par (take p A) x)) in
    record {
      level = low -ℤ pos 1;
      built = rw eo (record {
        rises = rising-take p A r;
        under = under;
        done = done;
        now = ap₂ xor ea ec ∙ xor-false (odd p) ∙ ap odd (sym (length-take-le p A m)) ∙ sym (par-under (take p A) (low -ℤ pos 1) under)
            ∙ done (low -ℤ pos 1) (let z : (low -ℤ pos 1) ≤ℤ (low -ℤ pos 1) = omega (arith, int_facts) in z);
      });
      at_a = sa;
      at_c = sc;
    }

-- a step from the place l to `at`, the lowest number that is left of both: between the two the lines stay as they are
pub record Stepped (A C : List ℤ) (l at : ℤ) (a c a' c' : LineRest) : Type 0 where
  pub up : l <ℤ at
  pub on_a : (k : ℤ) → l ≤ℤ k → k <ℤ at → par A k ≡ a.on
  pub on_c : (k : ℤ) → l ≤ℤ k → k <ℤ at → par C k ≡ c.on
  pub at_a : Ahead (par A) at a'.on a'.left
  pub at_c : Ahead (par C) at c'.on c'.left

pub stepped : (A C : List ℤ) (l n at : ℤ) (a c a' c' : LineRest) → Ahead (par A) l a.on a.left → Ahead (par C) l c.on c.left
    → Some n ≡ head_of c.left → at ≡ least n (head_of a.left) → a' ≡ passed at a → c' ≡ passed at c
    → Stepped A C l at a c a' c'
stepped A C l n at a c a' c' sa sc first pick pa pc =
    let ra : rising int_lt a.left ≡ true = rest_rises l a.left sa.above in
    let rc : rising int_lt c.left ≡ true = rest_rises l c.left sc.above in
    let up_n : l <ℤ n = head_above l n c.left sc.above (sym first) in
    let up_m : l <ℤ least n (head_of a.left) = least-above l n a.left up_n sa.above in
    let up : l <ℤ at = rw pick up_m in
    let at_n : at ≤ℤ n = rw pick (least-le n (head_of a.left)) in
    let at_m : at ≤ℤ least n (head_of a.left) = rw (← pick) (let z : at ≤ℤ at = omega (arith, int_facts) in z) in
    let fa : list_all (int_le at) a.left ≡ true = least-from n at a.left ra at_m in
    let fc : list_all (int_le at) c.left ≡ true = from_first at c.left rc (λ y e. let q : Some n ≡ Some y = first ∙ e in let r : n ≡ y = cc in omega (arith, int_facts)) in
    record {
      up = up;
      on_a = λ k u v. line_stays (par A) l k at a.on a.left sa u v fa;
      on_c = λ k u v. line_stays (par C) l k at c.on c.left sc u v fc;
      at_a = passes-to (par A) l at a a' sa up fa pa;
      at_c = passes-to (par C) l at c c' sc up fc pc;
    }

pub turning_more : (A C out grown : List ℤ) (a c a' c' : LineRest) (n at : ℤ)
    → Some n ≡ head_of c.left → at ≡ least n (head_of a.left) → a' ≡ passed at a → c' ≡ passed at c
    → grown ≡ out ++ if_any (xor (xor a.on c.on) (xor a'.on c'.on)) at
    → Turning A C out a c → Turning A C grown a' c'
turning_more A C out grown a c a' c' n at first pick pa pc wrote s =
    let G : ℤ → Bool = λ x. xor (par A x) (par C x) in
    let t : Stepped A C s.level at a c a' c' = stepped A C s.level n at a c a' c' s.at_a s.at_c first pick pa pc in
    record {
      level = at;
      built = rw wrote (built_more G s.level at out (xor a.on c.on) (xor a'.on c'.on) s.built t.up
          (λ y u v. ap₂ xor (t.on_a y u v) (t.on_c y u v))
          (sym (ap₂ xor (line_now (par A) at a'.on a'.left t.at_a) (line_now (par C) at c'.on c'.left t.at_c))));
      at_a = t.at_a;
      at_c = t.at_c;
    }

turned : (p q r : Bool) → xor (xor p q) r ≡ xor (xor p r) q
turned p q r = xor_assoc p q r ∙ ap (xor p) (xor_comm q r) ∙ sym (xor_assoc p r q)

-- at the end the numbers are those of the exclusive or
pub turning_done : (V C : List (List ℤ)) (out grown : List ℤ) (a c : LineRest) → IsVertexList 1 V → IsVertexList 1 C
    → None ≡ head_of c.left → grown ≡ out ++ a.left
    → Turning (firsts V) (firsts C) out a c
    → ones grown ≡ xor_rows 1 V C
turning_done V C out grown a c v vc none wrote s =
    let G : ℤ → Bool = λ x. xor (par (firsts V) x) (par (firsts C) x) in
    let l : ℤ = s.level in
    let ec : c.left ≡ [] = no_head c.left none in
    let high : list_all (int_lt l) a.left ≡ true = higher l a.left s.at_a.above in
    let rises : rising int_lt (out ++ a.left) ≡ true = rising-append int_lt out a.left s.built.rises (rest_rises l a.left s.at_a.above)
    (all_weaker (λ y. int_le y l) (λ y. list_all (int_lt y) a.left) (λ y k. all_weaker (int_lt l) (int_lt y) (λ z i. let j : y ≤ℤ l = le_is y l k in let m : l <ℤ z = lt_is l z i in lt_yes y z (omega (arith, int_facts))) a.left high) out s.built.under) in
    let places : (x : ℤ) → par (out ++ a.left) x ≡ xor (par (firsts V) x) (par (firsts C) x) =
    λ x. par-append out a.left x ∙ by_lt_z l x
    (λ k. let m : l ≤ℤ x = omega (arith, int_facts) in
    ap (λ t. xor t (par a.left x)) (built_stays G l x out (xor a.on c.on) s.built m) ∙ turned a.on c.on (par a.left x)
    ∙ sym (ap₂ xor (s.at_a.ahead x m) (s.at_c.ahead x m ∙ ap (xor c.on) (ap (λ r. par r x) ec ∙ par-nil x) ∙ xor-false c.on)))
    (λ k. ap₂ xor (s.built.done x k) (par-above a.left x (all_weaker (int_lt l) (int_lt x) (λ z i. let m : l <ℤ z = lt_is l z i in lt_yes x z (omega (arith, int_facts))) a.left high)) ∙ xor-false (G x)) in
    ap ones wrote ∙ by_places (xor_rows 1 V C) (out ++ a.left) (vertices-xor 1 V C) rises (λ x. places x ∙ sym (par-xor V C x v vc))

-- ---- the search for a place

pub all_lower : (w : List ℤ) (i : ℕ) (low : ℤ) → rising int_lt w ≡ true → i < length w → get_or w i (pos 0) <ℤ low → list_all (λ y. int_lt y low) (take (suc i) w) ≡ true
unfolding rising
all_lower [] i low a l m = absurd (omega arith)
all_lower (x ∷ w) zero low a l m = and_both (int_lt x low) true (lt_yes x low m) refl
all_lower (x ∷ w) (suc i) low a l m =
    let k : get_or w i (pos 0) <ℤ low = m in
    let h : x <ℤ get_or w i (pos 0) = lt_is x (get_or w i (pos 0)) (all_at (int_lt x) w i (omega arith) (and_first (list_all (int_lt x) w) (rising int_lt w) a)) in
    and_both (int_lt x low) (list_all (λ y. int_lt y low) (take (suc i) w)) (lt_yes x low (omega (arith, int_facts)))
    (all_lower w i low (and_second (list_all (int_lt x) w) (rising int_lt w) a) (omega arith) k)
  where
    all_at : (t : ℤ → Bool) (w : List ℤ) (i : ℕ) → i < length w → list_all t w ≡ true → t (get_or w i (pos 0)) ≡ true
    all_at t [] i l a = absurd (omega arith)
    all_at t (y ∷ w) zero l a = and_first (t y) (list_all t w) a
    all_at t (y ∷ w) (suc i) l a = all_at t w i (omega arith) (and_second (t y) (list_all t w) a)

pub all_higher : (w : List ℤ) (i : ℕ) (low : ℤ) → rising int_lt w ≡ true → i < length w → low ≤ℤ get_or w i (pos 0) → list_all (int_le low) (drop i w) ≡ true
unfolding rising
all_higher [] i low a l m = absurd (omega arith)
all_higher (x ∷ w) zero low a l m =
    and_both (int_le low x) (list_all (int_le low) w) (le_yes low x m)
    (all_weaker (int_lt x) (int_le low) (λ y k. let h : x <ℤ y = lt_is x y k in le_yes low y (omega (arith, int_facts))) w (and_first (list_all (int_lt x) w) (rising int_lt w) a))
all_higher (x ∷ w) (suc i) low a l m = all_higher w i low (and_second (list_all (int_lt x) w) (rising int_lt w) a) (omega arith) m
