-- The tower of two vertex lists is the vertex list of the combined cells
use Rattle.std.proofs.Common.{◌≡◌, ℕ, suc, ◌+◌, Bool, true, false, cond, ◌&&◌, Option, Some, None, List, [], ◌∷◌, ◌++◌, ℤ, pos, ◌-ℤ◌, ◌<ℤ◌, ◌≤ℤ◌, refl, sym, ap, ap₂, ◌∙◌, subst, arith, int_lt, int_eq, append-nil, ⊎_elim}
use Rattle.std.specs.List.{list_all}
use Rattle.std.proofs.lemmas.Bool.{cases_Bool, true≢false}
use Rattle.std.proofs.lemmas.Int.{ints as int_facts, by_lt_z}
use Rattle.evm_cells.specs.Places.{before, ascending, without, has}
use Rattle.evm_cells.specs.Limits.{is_point, is_cell, IsCellSet}
use Rattle.evm_cells.specs.Booleans.{xor, combine}
use Rattle.evm_cells.specs.Vertices.{evm, cells, IsVertexList}
use Rattle.evm_cells.specs.Sections.{couplet, slice, rows_at}
use Rattle.evm_cells.proofs.Xor.{and_first, and_second, and_both, and-false, xor-false}
use Rattle.evm_cells.proofs.Order.{rising}
use Rattle.evm_cells.proofs.Lists.{all-append, all-map, all_weaker, all_always, rising-append}
use Rattle.evm_cells.proofs.Coords.{eq_is, eq_yes, eq_no, lt_is, lt_yes, lt_no, by_order}
use Rattle.evm_cells.proofs.Places.{ascending-rising, rising_prefixed, before_first, has-any}
use Rattle.evm_cells.proofs.Universe.{cell_set-cells, points-evm, ascending-evm, same_sets, absorb, member_passes}
use Rattle.evm_cells.proofs.Combine.{cell_set-combine, has-combine}
use Rattle.evm_cells.proofs.Core.{evm-cells}
use Rattle.evm_cells.proofs.Slices.{cell_set-slice}
use Rattle.evm_cells.proofs.Layers.{rows-evm, slice-combine, no_couplet, evm-empty, cells-empty, vertices_by_couplets, slice_outside, no_empty_point}
use Rattle.evm_rows.specs.Rows.{combined_rows, xor_rows, raised}
use Rattle.evm_sections.specs.Couplets.{couplets_of, first_height, rise_above}
use Rattle.evm_sections.proofs.Heights.{rows_at-append, rows_at-yes, rows_at-no, rows_at-none}
use Rattle.evm_sections.proofs.Sections.{Above, stays, waits, steps, starts, bottom, outside, low_outside, combined_rows-evm, xor_rows-evm}
use Rattle.evm_boolean.specs.declared.boolean.Op2.{Op2}
use Rattle.evm_boolean.specs.declared.boolean.Op2.TheVariants.{Or, And, Sub, Xor}
use Rattle.evm_boolean.specs.Tower.{lower, after, section_at, couplet_here, fills}
use Rattle.evm_boolean.proofs.Cuts.{From, from-left, from-right, lower-one, first-above}
use Rattle.evm_boolean.proofs.TowerSteps.{cuts_of, tower, cuts_of-step, lower-none}

-- ---- vertices_of and order of the rows of one height

abbrev pub starts_above : ℤ → List ℤ → Bool
starts_above l [] = false
starts_above l (x ∷ p) = int_lt l x

points-under : (n : ℕ) (h : ℤ) (E : List (List ℤ)) → list_all (is_point (suc n)) E ≡ true → ((is_point (suc n) [] ≡ true) → ⊥) → list_all (is_point (suc n)) (raised (Some h) (rows_at 0 h E)) ≡ true
unfolding rows_at without
points-under n h [] a no_nil = refl
points-under n h ([] ∷ E) a no_nil = absurd (no_nil (and_first (is_point (suc n) []) (list_all (is_point (suc n)) E) a))
points-under n h ((x ∷ p) ∷ E) a no_nil = at (int_eq x h) refl (points-under n h E (and_second (is_point (suc n) (x ∷ p)) (list_all (is_point (suc n)) E) a) no_nil)
  where
    at : (b : Bool) → int_eq x h ≡ b → list_all (is_point (suc n)) (raised (Some h) (rows_at 0 h E)) ≡ true → list_all (is_point (suc n)) (raised (Some h) (rows_at 0 h ((x ∷ p) ∷ E))) ≡ true
    at true e r = rw e (and_both (is_point (suc n) (h ∷ p)) (list_all (is_point (suc n)) (raised (Some h) (rows_at 0 h E)))
        (ap (λ z. is_point (suc n) (z ∷ p)) (sym (eq_is x h e)) ∙ and_first (is_point (suc n) (x ∷ p)) (list_all (is_point (suc n)) E) a) r)
    at false e r = rw e r

before-starts : (h : ℤ) (r q : List ℤ) → starts_above h q ≡ true → before (h ∷ r) q ≡ true
before-starts h r [] e = cc
before-starts h r (x ∷ q) e = before_first h x r q e

starts-weaker : (l h : ℤ) (q : List ℤ) → l <ℤ h → starts_above h q ≡ true → starts_above l q ≡ true
starts-weaker l h [] m e = e
starts-weaker l h (x ∷ q) m e = let k : h <ℤ x = lt_is h x e in lt_yes l x (omega (arith, int_facts))

-- ---- a height that neither operand passes

rise_before : (l h x : ℤ) (la : List (ℤ × List (List ℤ))) → rise_above l la ≡ true → From h la → x <ℤ h → rise_above x la ≡ true
rise_before l h x [] e f m = refl
rise_before l h x ((k, c) ∷ la) e f m =
    and_both (int_lt x k) (rise_above k la)
    (⊎_elim
    (λ (t : int_eq k h ≡ true). let q : k ≡ h = eq_is k h t in lt_yes x k (omega (arith, int_facts)))
    (λ (t : int_eq k h ≡ false). let q : h <ℤ k = lt_is h k (f t) in lt_yes x k (omega (arith, int_facts)))
    (cases_Bool (int_eq k h)))
    (and_second (int_lt l k) (rise_above k la) e)

-- a walk that passes the height h, if it has a couplet there
at_height : (n : ℕ) (S : List (List ℤ)) (l h : ℤ) (s : List (List ℤ)) (cs : List (ℤ × List (List ℤ))) → Above n S l s cs → l <ℤ h → From h cs → Above n S h (section_at n h s cs) (after h cs)
at_height n S l h s [] a m f = waits n S l h s [] a (omega (arith, int_facts)) refl
at_height n S l h s ((k, c) ∷ cs) a m f =
    ⊎_elim
    (λ (t : int_eq k h ≡ true).
    let up : Above n S k (xor_rows n s c) cs = steps n S l k s c cs a in
    let P : ℤ → Type 0 = λ z. Above n S z (xor_rows n s c) cs in
    let up' : Above n S h (xor_rows n s c) cs = subst P (eq_is k h t) up in
    rw t up')
    (λ (t : int_eq k h ≡ false).
    let same : Above n S h s ((k, c) ∷ cs) = waits n S l h s ((k, c) ∷ cs) a (omega (arith, int_facts))
    (and_both (int_lt h k) (rise_above k cs) (f t) (and_second (int_lt l k) (rise_above k cs) a.rising)) in
    rw t same)
    (cases_Bool (int_eq k h))

-- the first of the cuts
cuts-first : (la lb : List (ℤ × List (List ℤ))) (h : ℤ) (hs : List ℤ) → h ∷ hs ≡ cuts_of la lb → (Some h ≡ lower (first_height la) (first_height lb)) × (hs ≡ cuts_of (after h la) (after h lb))
cuts-first la lb h hs e = at (lower (first_height la) (first_height lb)) refl
  where
    at : (o : Option ℤ) → lower (first_height la) (first_height lb) ≡ o → (Some h ≡ lower (first_height la) (first_height lb)) × (hs ≡ cuts_of (after h la) (after h lb))
    at None q = let bad : h ∷ hs ≡ [] = e ∙ lower-none la lb (sym q) in cc
    at (Some k) q =
        let f : h ∷ hs ≡ k ∷ cuts_of (after k la) (after k lb) = e ∙ cuts_of-step la lb k (sym q) in
        let s : h ≡ k = cc in
        let t : hs ≡ cuts_of (after k la) (after k lb) = cc in
        (ap Some s ∙ sym q, t ∙ ap (λ z. cuts_of (after z la) (after z lb)) (sym s))

cuts-none : (la lb : List (ℤ × List (List ℤ))) → [] ≡ cuts_of la lb → (la ≡ []) × (lb ≡ [])
cuts-none la lb e = at la lb (lower (first_height la) (first_height lb)) refl e
  where
    at : (ma mb : List (ℤ × List (List ℤ))) (o : Option ℤ) → lower (first_height ma) (first_height mb) ≡ o → [] ≡ cuts_of ma mb → (ma ≡ []) × (mb ≡ [])
    at [] [] o q e = (refl, refl)
    at [] ((k, d) ∷ mb) o q e = cc
    at ((j, c) ∷ ma) mb None q e = absurd (both ((j, c) ∷ ma) mb q refl)
      where
        both : (la lb : List (ℤ × List (List ℤ))) → lower (first_height la) (first_height lb) ≡ None → la ≡ (j, c) ∷ ma → ⊥
        both [] lb q e = cc
        both ((k, d) ∷ la) [] q e = cc
        both ((k, d) ∷ la) ((i, b) ∷ lb) q e = ⊎_elim (λ (t : int_lt i k ≡ true). let f : Some i ≡ None = rw t at q in cc) (λ (t : int_lt i k ≡ false). let f : Some k ≡ None = rw t at q in cc) (cases_Bool (int_lt i k))
    at ((j, c) ∷ ma) mb (Some k) q e = let bad : [] ≡ k ∷ cuts_of (after k ((j, c) ∷ ma)) (after k mb) = e ∙ cuts_of-step ((j, c) ∷ ma) mb k (sym q) in cc

lower-above : (l h : ℤ) (la lb : List (ℤ × List (List ℤ))) → rise_above l la ≡ true → rise_above l lb ≡ true → Some h ≡ lower (first_height la) (first_height lb) → l <ℤ h
lower-above l h la lb a b e =
    lt_is l h (⊎_elim (λ f. first-above l la h a f) (λ f. first-above l lb h b f) (lower-one (first_height la) (first_height lb) h e))

-- ---- the tower

-- W has, above the height l, the couplets of S
pub record Built (n : ℕ) (S : List (List ℤ)) (l : ℤ) (W : List (List ℤ)) : Type 0 where
  pub rows : (x : ℤ) → rows_at 0 x W ≡ cond (int_lt l x) (evm n (couplet n 0 x S)) []
  pub ascends : rising before W ≡ true
  pub points : list_all (is_point (suc n)) W ≡ true
  pub above : list_all (starts_above l) W ≡ true

module _ (op : Bool → Bool → Bool) (z : op false false ≡ false) (n : ℕ) (A B : List (List ℤ)) where
  sec : IsCellSet (suc n) A → IsCellSet (suc n) B → (k : ℤ) → evm n (slice n 0 k (combine op (suc n) A B)) ≡ combined_rows op n (evm n (slice n 0 k A)) (evm n (slice n 0 k B))
  sec a b k =
      ap (evm n) (slice-combine op n 0 k A B z a b)
      ∙ sym (combined_rows-evm op n (slice n 0 k A) (slice n 0 k B) (cell_set-slice n 0 k A) (cell_set-slice n 0 k B))

  both_stay : (l k : ℤ) (sa sb : List (List ℤ)) (la lb : List (ℤ × List (List ℤ))) → Above n A l sa la → Above n B l sb lb → l ≤ℤ k → rise_above k la ≡ true → rise_above k lb ≡ true
      → slice n 0 k (combine op (suc n) A B) ≡ slice n 0 l (combine op (suc n) A B)
  both_stay l k sa sb la lb a b le u v =
      slice-combine op n 0 k A B z a.set b.set
      ∙ ap₂ (combine op n) (stays n A l k sa la a le u) (stays n B l k sb lb b le v)
      ∙ sym (slice-combine op n 0 l A B z a.set b.set)

  no_change : (l x : ℤ) (sa sb : List (List ℤ)) (la lb : List (ℤ × List (List ℤ))) → Above n A l sa la → Above n B l sb lb → l <ℤ x → rise_above x la ≡ true → rise_above x lb ≡ true
      → rise_above (x -ℤ pos 1) la ≡ true → rise_above (x -ℤ pos 1) lb ≡ true → evm n (couplet n 0 x (combine op (suc n) A B)) ≡ []
  no_change l x sa sb la lb a b m u v u' v' =
      ap (evm n) (no_couplet n 0 x (combine op (suc n) A B)
      (both_stay l (x -ℤ pos 1) sa sb la lb a b (omega (arith, int_facts)) u' v' ∙ sym (both_stay l x sa sb la lb a b (omega (arith, int_facts)) u v)))
      ∙ evm-empty n

  built_none : (l : ℤ) (sa sb below : List (List ℤ)) (la lb : List (ℤ × List (List ℤ))) → la ≡ [] → lb ≡ [] → Above n A l sa la → Above n B l sb lb → Built n (combine op (suc n) A B) l []
  unfolding rising
  built_none l sa sb below la lb e f a b = record {
    rows = λ x. rows_at-none x ∙ at x (int_lt l x) refl;
    ascends = refl;
    points = refl;
    above = refl;
  }
    where
      at : (x : ℤ) (t : Bool) → int_lt l x ≡ t → [] ≡ cond (int_lt l x) (evm n (couplet n 0 x (combine op (suc n) A B))) []
      at x true q = rw q (sym (no_change l x sa sb la lb a b (lt_is l x q) (rw e refl) (rw f refl) (rw e refl) (rw f refl)))
      at x false q = rw q refl

  -- the rows at one height more
  built_more : (l h : ℤ) (R T : List (List ℤ)) → l <ℤ h → R ≡ evm n (couplet n 0 h (combine op (suc n) A B))
      → ((x : ℤ) → l <ℤ x → x <ℤ h → evm n (couplet n 0 x (combine op (suc n) A B)) ≡ [])
      → ((is_point (suc n) [] ≡ true) → ⊥)
      → Built n (combine op (suc n) A B) h T → Built n (combine op (suc n) A B) l (raised (Some h) R ++ T)
  built_more l h R T m r quiet no_nil t =
      let S : List (List ℤ) = combine op (suc n) A B in
      let s : IsCellSet (suc n) S = cell_set-combine op (suc n) A B in
      record {
        rows = λ x. rows_at-append x (raised (Some h) R) T ∙ by_order x h
            (λ k. rw (rows_at-no x h R (eq_no h x (λ e. omega (arith, int_facts))), t.rows x, lt_no h x (omega (arith, int_facts))) (low x k (int_lt l x) refl))
            (λ e. rw (rows_at-yes x h R (eq_yes h x (sym e)), t.rows x, lt_no h x (omega (arith, int_facts)), lt_yes l x (omega (arith, int_facts))) (append-nil R ∙ r ∙ ap (λ y. evm n (couplet n 0 y S)) (sym e)))
            (λ k. rw (rows_at-no x h R (eq_no h x (λ e. omega (arith, int_facts))), t.rows x, lt_yes h x k, lt_yes l x (omega (arith, int_facts))) refl);
        ascends = rising-append before (raised (Some h) R) T
            (rising_prefixed h R (ap (rising before) r ∙ sym (ascending-rising (evm n (couplet n 0 h S))) ∙ ascending-evm n (couplet n 0 h S)))
            t.ascends
            (all-map (λ p. list_all (before p) T) (λ q. h ∷ q) R
            ∙ all_always (λ q. list_all (before (h ∷ q)) T) (λ q. all_weaker (starts_above h) (before (h ∷ q)) (before-starts h q) T t.above) R);
        points = all-append (is_point (suc n)) (raised (Some h) R) T ∙ and_both (list_all (is_point (suc n)) (raised (Some h) R)) (list_all (is_point (suc n)) T)
            (ap (λ X. list_all (is_point (suc n)) (raised (Some h) X)) (r ∙ sym (rows-evm n 0 h S s (omega arith))) ∙ points-under n h (evm (suc n) S) (points-evm (suc n) S) no_nil) t.points;
        above = all-append (starts_above l) (raised (Some h) R) T ∙ and_both (list_all (starts_above l) (raised (Some h) R)) (list_all (starts_above l) T)
            (all-map (starts_above l) (λ q. h ∷ q) R ∙ all_always (λ q. int_lt l h) (λ q. lt_yes l h m) R)
            (all_weaker (starts_above h) (starts_above l) (λ q k. starts-weaker l h q m k) T t.above);
      }
    where
      low : (x : ℤ) → x <ℤ h → (b : Bool) → int_lt l x ≡ b → [] ≡ cond (int_lt l x) (evm n (couplet n 0 x (combine op (suc n) A B))) []
      low x k true q = rw q (sym (quiet x (lt_is l x q) k))
      low x k false q = rw q refl

  built : ((is_point (suc n) [] ≡ true) → ⊥) → (hs : List ℤ) (l : ℤ) (sa sb below : List (List ℤ)) (la lb : List (ℤ × List (List ℤ))) → hs ≡ cuts_of la lb → Above n A l sa la → Above n B l sb lb
      → below ≡ evm n (slice n 0 l (combine op (suc n) A B)) → Built n (combine op (suc n) A B) l (tower n (combined_rows op n) hs sa sb below la lb)
  unfolding couplet
  built no_nil [] l sa sb below la lb e a b d =
      let (p, q) = cuts-none la lb e in
      built_none l sa sb below la lb p q a b
  built no_nil (h ∷ hs) l sa sb below la lb e a b d =
      let S : List (List ℤ) = combine op (suc n) A B in
      let (low, rest) = cuts-first la lb h hs e in
      let m : l <ℤ h = lower-above l h la lb a.rising b.rising low in
      let fa : From h la = from-left la lb h low in
      let fb : From h lb = from-right la lb h low in
      let xa : Above n A h (section_at n h sa la) (after h la) = at_height n A l h sa la a m fa in
      let xb : Above n B h (section_at n h sb lb) (after h lb) = at_height n B l h sb lb b m fb in
      let now : combined_rows op n (section_at n h sa la) (section_at n h sb lb) ≡ evm n (slice n 0 h S) = ap₂ (combined_rows op n) xa.section xb.section ∙ sym (sec a.set b.set h) in
      let still : slice n 0 (h -ℤ pos 1) S ≡ slice n 0 l S = both_stay l (h -ℤ pos 1) sa sb la lb a b (omega (arith, int_facts))
      (rise_before l h (h -ℤ pos 1) la a.rising fa (omega (arith, int_facts))) (rise_before l h (h -ℤ pos 1) lb b.rising fb (omega (arith, int_facts))) in
      let r : xor_rows n below (combined_rows op n (section_at n h sa la) (section_at n h sb lb)) ≡ evm n (couplet n 0 h S) =
      ap₂ (xor_rows n) (d ∙ ap (evm n) (sym still)) now
      ∙ xor_rows-evm n (slice n 0 (h -ℤ pos 1) S) (slice n 0 h S) (cell_set-slice n 0 (h -ℤ pos 1) S) (cell_set-slice n 0 h S) in
      built_more l h _ _ m r
      (λ x u v. no_change l x sa sb la lb a b u (rise_before l h x la a.rising fa v) (rise_before l h x lb b.rising fb v)
      (rise_before l h (x -ℤ pos 1) la a.rising fa (omega (arith, int_facts))) (rise_before l h (x -ℤ pos 1) lb b.rising fb (omega (arith, int_facts))))
      no_nil
      (built no_nil hs h (section_at n h sa la) (section_at n h sb lb) (combined_rows op n (section_at n h sa la) (section_at n h sb lb)) (after h la) (after h lb) rest xa xb now)

  at_bottom : (k : ℤ) → (S : List (List ℤ)) → IsCellSet (suc n) S → k ≤ℤ bottom (suc n) → evm n (couplet n 0 k S) ≡ []
  at_bottom k S s l =
      ap (evm n) (no_couplet n 0 k S
      (slice_outside n 0 (k -ℤ pos 1) S s (low_outside (suc n) (k -ℤ pos 1) (omega (arith, int_facts))) ∙ sym (slice_outside n 0 k S s (low_outside (suc n) k l))))
      ∙ evm-empty n

-- the tower of two vertex lists is that of the combined cells
pub tower_is : (op : Bool → Bool → Bool) (n : ℕ) (V W : List (List ℤ)) → op false false ≡ false → IsVertexList (suc n) V → IsVertexList (suc n) W
    → tower n (combined_rows op n) (cuts_of (couplets_of V) (couplets_of W)) [] [] [] (couplets_of V) (couplets_of W) ≡ combined_rows op (suc n) V W
unfolding combined_rows
tower_is op n V W z v w =
    let A : List (List ℤ) = cells (suc n) V in
    let B : List (List ℤ) = cells (suc n) W in
    let S : List (List ℤ) = combine op (suc n) A B in
    let s : IsCellSet (suc n) S = cell_set-combine op (suc n) A B in
    let t : Built n S (bottom (suc n)) (tower n (combined_rows op n) (cuts_of (couplets_of V) (couplets_of W)) [] [] [] (couplets_of V) (couplets_of W)) =
    built op z n A B (λ m. true≢false (sym m ∙ no_empty_point n)) (cuts_of (couplets_of V) (couplets_of W)) (bottom (suc n)) [] [] [] (couplets_of V) (couplets_of W) refl (starts n V v) (starts n W w)
    (sym (outside n S (bottom (suc n)) s (low_outside (suc n) (bottom (suc n)) (let q : bottom (suc n) ≤ℤ bottom (suc n) = omega (arith, int_facts) in q)))) in
    vertices_by_couplets n S (tower n (combined_rows op n) (cuts_of (couplets_of V) (couplets_of W)) [] [] [] (couplets_of V) (couplets_of W)) s
    (ascending-rising (tower n (combined_rows op n) (cuts_of (couplets_of V) (couplets_of W)) [] [] [] (couplets_of V) (couplets_of W)) ∙ t.ascends) t.points
    (λ k. t.rows k ∙ by_lt_z (bottom (suc n)) k
    (λ l. ap (λ b. cond b (evm n (couplet n 0 k S)) []) (lt_yes (bottom (suc n)) k l))
    (λ l. ap (λ b. cond b (evm n (couplet n 0 k S)) []) (lt_no (bottom (suc n)) k l) ∙ sym (at_bottom op z n A B k S s l)))

pub tower_is_at : (op : Bool → Bool → Bool) (m n : ℕ) (V W : List (List ℤ)) (la lb : List (ℤ × List (List ℤ))) → n + 1 ≡ m → op false false ≡ false → IsVertexList m V → IsVertexList m W → la ≡ couplets_of V → lb ≡ couplets_of W
    → tower n (combined_rows op n) (cuts_of la lb) [] [] [] la lb ≡ combined_rows op m V W
tower_is_at op m n V W la lb e z v w a b =
    let q : m ≡ suc n = omega arith in
    let v' : IsVertexList (suc n) V = rw (← q) v in
    let w' : IsVertexList (suc n) W = rw (← q) w in
    rw (a, b) (tower_is op n V W z v' w' ∙ ap (λ k. combined_rows op k V W) (sym q))

-- ---- an operand without cells

none_left : (op : Bool → Bool → Bool) (n : ℕ) (B : List (List ℤ)) → IsCellSet n B → ((b : Bool) → op false b ≡ b) → combine op n [] B ≡ B
none_left op n B h e =
    let c : IsCellSet n (combine op n [] B) = cell_set-combine op n [] B in
    same_sets (combine op n [] B) B c.ascends h.ascends
    (λ r. has-combine op n [] B r ∙ ap (λ t. is_cell n r && t) (ap (λ t. op t (has B r)) (has-any [] r) ∙ e (has B r)) ∙ absorb (is_cell n r) (has B r) (member_passes (is_cell n) B r h.cells))

none_right : (op : Bool → Bool → Bool) (n : ℕ) (A : List (List ℤ)) → IsCellSet n A → ((a : Bool) → op a false ≡ a) → combine op n A [] ≡ A
none_right op n A h e =
    let c : IsCellSet n (combine op n A []) = cell_set-combine op n A [] in
    same_sets (combine op n A []) A c.ascends h.ascends
    (λ r. has-combine op n A [] r ∙ ap (λ t. is_cell n r && t) (ap (op (has A r)) (has-any [] r) ∙ e (has A r)) ∙ absorb (is_cell n r) (has A r) (member_passes (is_cell n) A r h.cells))

no_cells : (n : ℕ) (op : Bool → Bool → Bool) (A B : List (List ℤ)) → ((r : List ℤ) → op (has A r) (has B r) ≡ false) → combine op n A B ≡ []
unfolding ascending
no_cells n op A B e =
    let c : IsCellSet n (combine op n A B) = cell_set-combine op n A B in
    same_sets (combine op n A B) [] c.ascends refl
    (λ r. has-combine op n A B r ∙ ap (λ t. is_cell n r && t) (e r) ∙ and-false (is_cell n r) ∙ sym (has-any [] r))

pub op-left_none : (op : Bool → Bool → Bool) (n : ℕ) (V W : List (List ℤ)) → V ≡ [] → IsVertexList n W → ((b : Bool) → op false b ≡ b) → W ≡ combined_rows op n V W
unfolding combined_rows
op-left_none op n V W n0 w e = rw n0 (sym (ap (λ X. evm n (combine op n X (cells n W))) (cells-empty n) ∙ ap (evm n) (none_left op n (cells n W) (cell_set-cells n W) e) ∙ evm-cells n W w))

pub op-right_none : (op : Bool → Bool → Bool) (n : ℕ) (V W : List (List ℤ)) → W ≡ [] → IsVertexList n V → ((a : Bool) → op a false ≡ a) → V ≡ combined_rows op n V W
unfolding combined_rows
op-right_none op n V W n0 v e = rw n0 (sym (ap (λ X. evm n (combine op n (cells n V) X)) (cells-empty n) ∙ ap (evm n) (none_right op n (cells n V) (cell_set-cells n V) e) ∙ evm-cells n V v))

pub op-left_clear : (op : Bool → Bool → Bool) (n : ℕ) (V W : List (List ℤ)) → V ≡ [] → ((b : Bool) → op false b ≡ false) → [] ≡ combined_rows op n V W
unfolding combined_rows
op-left_clear op n V W n0 e = rw n0 (sym (ap (λ X. evm n (combine op n X (cells n W))) (cells-empty n) ∙ ap (evm n) (no_cells n op [] (cells n W) (λ r. ap (λ t. op t (has (cells n W) r)) (has-any [] r) ∙ e (has (cells n W) r))) ∙ evm-empty n))

pub op-right_clear : (op : Bool → Bool → Bool) (n : ℕ) (V W : List (List ℤ)) → W ≡ [] → ((a : Bool) → op a false ≡ false) → [] ≡ combined_rows op n V W
unfolding combined_rows
op-right_clear op n V W n0 e = rw n0 (sym (ap (λ X. evm n (combine op n (cells n V) X)) (cells-empty n) ∙ ap (evm n) (no_cells n op (cells n V) [] (λ r. ap (op (has (cells n V) r)) (has-any [] r) ∙ e (has (cells n V) r))) ∙ evm-empty n))

-- two operands without rows
pub op-both_none : (op : Bool → Bool → Bool) (n : ℕ) → op false false ≡ false → combined_rows op n [] [] ≡ []
unfolding combined_rows
op-both_none op n e =
    ap₂ (λ X Y. evm n (combine op n X Y)) (cells-empty n) (cells-empty n)
    ∙ ap (evm n) (no_cells n op [] [] (λ r. ap₂ op (has-any [] r) (has-any [] r) ∙ e)) ∙ evm-empty n

-- an empty change
pub xor-none : (n : ℕ) (V W : List (List ℤ)) → W ≡ [] → IsVertexList n V → V ≡ xor_rows n V W
unfolding xor_rows
xor-none n V W e v = op-right_none xor n V W e v xor-false

-- the section above a height by the couplet there
pub section-here : (n : ℕ) (h : ℤ) (s : List (List ℤ)) (cs : List (ℤ × List (List ℤ))) → IsVertexList n s → xor_rows n s (couplet_here h cs) ≡ section_at n h s cs
section-here n h s [] v = sym (xor-none n s [] refl v)
section-here n h s ((k, c) ∷ cs) v = ⊎_elim
    (λ (t : int_eq k h ≡ true). rw t refl)
    (λ (t : int_eq k h ≡ false). rw t (sym (xor-none n s [] refl v)))
    (cases_Bool (int_eq k h))

pub fills-none : (op : Op2) → fills op false false ≡ false
unfolding xor
fills-none Or = refl
fills-none And = refl
fills-none Sub = refl
fills-none Xor = refl
