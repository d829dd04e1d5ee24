-- The work of the toggle of a box in an input whose other cells are apart from the box.
use Rattle.std.proofs.Common.{◌≡◌, ◌+◌, Bool, true, false, not, ◌&&◌, ◌||◌, if◌then◌else◌, List, [], ◌∷◌, ◌++◌, length, filter, codes, ℤ, pos, ◌+ℤ◌, ◌-ℤ◌, ◌<ℤ◌, ◌≤ℤ◌, refl, sym, ap, ap₂, ◌∙◌, arith, int_le, int_eq}
use Rattle.std.specs.Prelude.{sum_by, is_some}
use Rattle.std.specs.List.{list_any, list_all}
use Rattle.std.proofs.lemmas.Bool.{false≢true}
use Rattle.std.proofs.lemmas.Int.{ints as int_facts}
use Rattle.evm_cells.specs.Places.{has, is_empty}
use Rattle.evm_cells.specs.Limits.{point_coords, IsCellSet}
use Rattle.evm_cells.specs.Booleans.{xor, or_cells, xor_cells}
use Rattle.evm_cells.specs.Boxes.{IsBox, is_box, box_cells}
use Rattle.evm_cells.specs.Heights.{is_cut, is_cut_of, is_spanned, spanned_cut_count}
use Rattle.evm_cells.proofs.Xor.{xor_self, xor_assoc, false-xor, and_first, and_second, and_both, and_assoc, and_comm}
use Rattle.evm_cells.proofs.Order.{refuted}
use Rattle.evm_cells.proofs.Coords.{le_yes, lt_no, le_is}
use Rattle.evm_cells.proofs.Places.{has-any}
use Rattle.evm_cells.proofs.Universe.{guarded, member_passes, same_sets}
use Rattle.evm_cells.proofs.Combine.{has-xor_cells, cell_set-xor}
use Rattle.evm_cells.proofs.Booleans.{cell_sets, by_cells}
use Rattle.evm_cells.proofs.Corners.{cell_set-box}
use Rattle.evm_cells.proofs.Boxes.{box_test, box_has_low}
use Rattle.evm_model.specs.Figures.{Figure, box_of, box_fits, or_of, xor_of}
use Rattle.evm_model.specs.Scene.{value}
use Rattle.evm_model.specs.Edits.{Range, after, first_cause, box_causes}
use Rattle.evm_model.specs.Work.{box_cuts, own_cuts, what_cuts, is_moved, work_at, entry_work, work}
use Rattle.evm_worked.specs.Beside.{input_of, either, scene_with, toggle_of_a, is_apart, WorkBeside}
use Rattle.evm_worked.proofs.Heights.{all_cuts, span_listed, listed_passes, just_heights}
use Rattle.evm_worked.proofs.Sections.{AreEnds, ends_of, ends_rise, ends_are_points, cuts_agree, no_cut, has_some, xor_itself, cut_of_box, cuts_of_box}
use Rattle.evm_worked.proofs.Squares.{set_none, cuts_none}

-- ---- what is counted where two ends are the only cuts from one to the other

-- of some cell sets, the cuts from x up to y are these two
record CutAtEnds (x y : ℤ) (Ss : List (List (List ℤ))) : Type 0 where
  pub ends : AreEnds x y
  pub cut : (h : ℤ) → int_le x h ≡ true → int_le h y ≡ true → is_cut_of 2 Ss h ≡ list_any (int_eq h) (x ∷ y ∷ [])

cut_in_range : (x y : ℤ) (Ss : List (List (List ℤ))) → CutAtEnds x y Ss → (h : ℤ) → (is_cut_of 2 Ss h && int_le x h && int_le h y) ≡ list_any (int_eq h) (x ∷ y ∷ [])
cut_in_range x y Ss e h =
    and_assoc (is_cut_of 2 Ss h) (int_le x h) (int_le h y)
    ∙ and_comm (is_cut_of 2 Ss h) (int_le x h && int_le h y)
    ∙ guarded (int_le x h && int_le h y) (is_cut_of 2 Ss h) (list_any (int_eq h) (x ∷ y ∷ []))
    (λ q. e.cut h (and_first (int_le x h) (int_le h y) q) (and_second (int_le x h) (int_le h y) q))
    (listed_passes (λ k. int_le x k && int_le k y) (x ∷ y ∷ []) h in_range)
  where
    in_range : list_all (λ k. int_le x k && int_le k y) (x ∷ y ∷ []) ≡ true
    in_range =
        let r : x <ℤ y = e.ends.below in
        and_both (int_le x x && int_le x y) ((int_le x y && int_le y y) && true)
        (and_both (int_le x x) (int_le x y) (le_yes x x (omega (arith, int_facts))) (le_yes x y (omega (arith, int_facts))))
        (and_both (int_le x y && int_le y y) true
        (and_both (int_le x y) (int_le y y) (le_yes x y (omega (arith, int_facts))) (le_yes y y (omega (arith, int_facts))))
        refl)

-- the heights that an edit by a box between them looks at
looked_at_ends : (x y : ℤ) (Ss : List (List (List ℤ))) → CutAtEnds x y Ss
    → length (filter (λ h. int_eq h x || int_eq h y || (is_cut_of 2 Ss h && int_le x h && int_le h y)) (point_coords 2)) ≡ 2
looked_at_ends x y Ss e =
    ap length (just_heights (λ h. int_eq h x || int_eq h y || (is_cut_of 2 Ss h && int_le x h && int_le h y)) (x ∷ y ∷ [])
    (ends_rise x y e.ends) (ends_are_points x y e.ends)
    (λ h p. ap (λ b. int_eq h x || int_eq h y || b) (cut_in_range x y Ss e h) ∙ twice (int_eq h x) (int_eq h y)))
  where
    twice : (a b : Bool) → (a || b || (a || (b || false))) ≡ (a || (b || false))
    twice true b = refl
    twice false true = refl
    twice false false = refl

-- a range from x up to y is that of changes with these two cuts
range_of_ends : (x y : ℤ) → AreEnds x y → (h : ℤ) → (list_any (λ k. int_le k h) (x ∷ y ∷ []) && list_any (int_le h) (x ∷ y ∷ [])) ≡ (int_le x h && int_le h y)
range_of_ends x y e h =
    let r : x <ℤ y = e.below in
    ap₂ (λ a b. a && b)
    (first_alone (int_le x h) (int_le y h) (λ q. let l = le_is y h q in le_yes x h (omega (arith, int_facts))))
    (second_alone (int_le h x) (int_le h y) (λ q. let l = le_is h x q in le_yes h y (omega (arith, int_facts))))
  where
    first_alone : (a b : Bool) → (b ≡ true → a ≡ true) → (a || (b || false)) ≡ a
    first_alone true b f = refl
    first_alone false true f = sym (f refl)
    first_alone false false f = refl

    second_alone : (a b : Bool) → (a ≡ true → b ≡ true) → (a || (b || false)) ≡ b
    second_alone true b f = sym (f refl)
    second_alone false true f = refl
    second_alone false false f = refl

-- the cuts in the range of such changes
spanned_at_ends : (x y : ℤ) (Ss Ds : List (List (List ℤ))) → CutAtEnds x y Ss → all_cuts Ds ≡ x ∷ y ∷ [] → spanned_cut_count 2 Ss Ds ≡ 2
spanned_at_ends x y Ss Ds e f =
    ap length (just_heights (λ h. is_cut_of 2 Ss h && is_spanned 2 Ds h) (x ∷ y ∷ []) (ends_rise x y e.ends) (ends_are_points x y e.ends)
    (λ h p. ap (λ b. is_cut_of 2 Ss h && b)
    (span_listed Ds h ∙ ap (λ L. list_any (λ k. int_le k h) L && list_any (int_le h) L) f ∙ range_of_ends x y e.ends h)
    ∙ sym (and_assoc (is_cut_of 2 Ss h) (int_le x h) (int_le h y))
    ∙ cut_in_range x y Ss e h))

-- ---- cells and changes

pub or-false : (a : Bool) → (a || false) ≡ a
or-false true = refl
or-false false = refl

-- a cell set and none
union_alone : (S : List (List ℤ)) → IsCellSet 2 S → or_cells 2 S [] ≡ S
union_alone S s =
    same_sets (or_cells 2 S []) S (cell_sets 2 S []).0.ascends s.ascends
    (λ c. (by_cells 2 S [] c s set_none).0 ∙ ap (λ b. has S c || b) (has-any [] c) ∙ or-false (has S c))

-- what a change changes is itself
change_is : (S B : List (List ℤ)) → IsCellSet 2 S → IsCellSet 2 B → xor_cells 2 S (xor_cells 2 S B) ≡ B
change_is S B s b =
    same_sets (xor_cells 2 S (xor_cells 2 S B)) B (cell_set-xor 2 S (xor_cells 2 S B)).ascends b.ascends
    (λ c. has-xor_cells 2 S (xor_cells 2 S B) c s (cell_set-xor 2 S B)
    ∙ ap (xor (has S c)) (has-xor_cells 2 S B c s b)
    ∙ sym (xor_assoc (has S c) (has S c) (has B c))
    ∙ ap (λ t. xor t (has B c)) (xor_self (has S c))
    ∙ false-xor (has B c))

-- no cell is at a height from x - 1 up to y
none_near : (x y k : ℤ) (S : List (List ℤ)) (c : List ℤ) → list_all (is_apart x y) S ≡ true → x ≤ℤ (k +ℤ pos 1) → k ≤ℤ y → has S (k ∷ c) ≡ false
none_near x y k S c far l m =
    refuted (has S (k ∷ c)) (λ q. false≢true (sym (ap₂ (λ a b. a || b) (lt_no (k +ℤ pos 1) x l) (lt_no y k m)) ∙ member_passes (is_apart x y) S (k ∷ c) far q))

abbrev flat : List (List ℤ) → Figure
flat S = record { dim = 2; cells = S }

-- ---- the toggle of a box apart from all cells of a

module _ (S : List (List ℤ)) (x w y z : ℤ) (s : IsCellSet 2 S) (fits : is_box 2 (x ∷ w ∷ []) (y ∷ z ∷ []) ≡ true) (far : list_all (is_apart x y) S ≡ true) where
  abbrev box : List (List ℤ)
  box = box_cells 2 (x ∷ w ∷ []) (y ∷ z ∷ [])

  abbrev toggled : List (List ℤ)
  toggled = xor_cells 2 S box

  is_a_box : IsBox 2 (x ∷ w ∷ []) (y ∷ z ∷ [])
  is_a_box = (box_test 2 (x ∷ w ∷ []) (y ∷ z ∷ [])).0 fits

  set_box : IsCellSet 2 box
  set_box = cell_set-box 2 (x ∷ w ∷ []) (y ∷ z ∷ [])

  -- near the box, the cells after the toggle are those of the box
  toggled_near : (k : ℤ) (c : List ℤ) → x ≤ℤ (k +ℤ pos 1) → k ≤ℤ y → has toggled (k ∷ c) ≡ has box (k ∷ c)
  toggled_near k c l m =
      has-xor_cells 2 S box (k ∷ c) s set_box ∙ ap (λ t. xor t (has box (k ∷ c))) (none_near x y k S c far l m) ∙ false-xor (has box (k ∷ c))

  cuts_near : (h : ℤ) → int_le x h ≡ true → int_le h y ≡ true → is_cut_of 2 (S ∷ toggled ∷ []) h ≡ list_any (int_eq h) (x ∷ y ∷ [])
  cuts_near h p q =
      let l = le_is x h p in
      let m = le_is h y q in
      ap₂ (λ a b. a || (b || false))
      (no_cut h S
      (λ c. none_near x y (h -ℤ pos 1) S c far (omega (arith, int_facts)) (omega (arith, int_facts))
      ∙ sym (none_near x y h S c far (omega (arith, int_facts)) m)))
      (cuts_agree h toggled box (λ c. toggled_near (h -ℤ pos 1) c (omega (arith, int_facts)) (omega (arith, int_facts)))
      (λ c. toggled_near h c (omega (arith, int_facts)) m)
      ∙ cut_of_box x w y z is_a_box h)
      ∙ or-false (list_any (int_eq h) (x ∷ y ∷ []))

  cut_of_a : CutAtEnds x y (S ∷ toggled ∷ [])
  cut_of_a = record { ends = ends_of x w y z is_a_box; cut = cuts_near }

  -- b has no cuts
  cut_of_operands : CutAtEnds x y (S ∷ toggled ∷ [] ∷ [] ∷ [])
  cut_of_operands = record {
    ends = ends_of x w y z is_a_box;
    cut = λ h p q. let none : is_cut 2 [] h ≡ false = no_cut h [] (λ c. has-any [] ((h -ℤ pos 1) ∷ c) ∙ sym (has-any [] (h ∷ c))) in
        ap₂ (λ a b. is_cut 2 S h || (is_cut 2 toggled h || (a || (b || false)))) none none ∙ cuts_near h p q;
  }

  change_of_a : xor_cells 2 S toggled ≡ box
  change_of_a = change_is S box s set_box

  looked_at_a : box_cuts x y (flat S) (flat toggled) ≡ 2
  looked_at_a = looked_at_ends x y (S ∷ toggled ∷ []) cut_of_a

  own_of_a : own_cuts (flat S) (flat toggled) ≡ 2
  own_of_a =
      ap (λ D. spanned_cut_count 2 (S ∷ toggled ∷ []) (D ∷ [])) change_of_a
      ∙ spanned_at_ends x y (S ∷ toggled ∷ []) (box ∷ []) cut_of_a (ap (λ L. L ++ []) (cuts_of_box x w y z is_a_box))

  work_on_a : entry_work (toggle_of_a x w y z) (value (scene_with S)) (value (scene_with toggled)) (input_of (codes "a") toggled) ≡ 40
  work_on_a = ap₂ work_at looked_at_a own_of_a

  c_before : value (scene_with S) (codes "c") ≡ flat S
  unfolding or_of
  c_before = ap flat (union_alone S s)

  c_after : value (scene_with toggled) (codes "c") ≡ flat toggled
  unfolding or_of
  c_after = ap flat (union_alone toggled (cell_set-xor 2 S box))

  c_moved : is_moved either.what (value (scene_with S)) (value (scene_with toggled)) ≡ true
  c_moved =
      ap (λ t. not t || (not (is_empty (xor_cells 2 [] [])) || false))
      (ap is_empty change_of_a ∙ has_some box (x ∷ w ∷ []) (box_has_low 2 (x ∷ w ∷ []) (y ∷ z ∷ []) is_a_box))

  looked_at_c : what_cuts either.what (value (scene_with S)) (value (scene_with toggled)) ≡ 2
  looked_at_c =
      ap₂ (λ A B. spanned_cut_count 2 (S ∷ toggled ∷ [] ∷ [] ∷ []) (A ∷ B ∷ [])) change_of_a (xor_itself 2 [])
      ∙ spanned_at_ends x y (S ∷ toggled ∷ [] ∷ [] ∷ []) (box ∷ [] ∷ []) cut_of_operands
      (ap₂ (λ L M. L ++ (M ++ [])) (cuts_of_box x w y z is_a_box) cuts_none)

  work_on_c : entry_work (toggle_of_a x w y z) (value (scene_with S)) (value (scene_with toggled)) either ≡ 40
  work_on_c =
      ap (λ t. if t then work_at (what_cuts either.what (value (scene_with S)) (value (scene_with toggled)))
      (own_cuts (value (scene_with S) (codes "c")) (value (scene_with toggled) (codes "c"))) else 0) c_moved
      ∙ ap₂ work_at looked_at_c (ap₂ own_cuts c_before c_after ∙ own_of_a)

  work_of_toggle : sum_by (entry_work (toggle_of_a x w y z) (value (scene_with S)) (value (scene_with toggled))) (scene_with toggled).entries ≡ 80
  work_of_toggle = ap₂ (λ a c. 0 + a + 0 + c) work_on_a work_on_c

  not_refused : is_some (first_cause (box_causes (scene_with S) (codes "a") (x ∷ w ∷ y ∷ z ∷ []))) ≡ false
  unfolding box_fits
  not_refused = ap (λ t. is_some (first_cause ((not t, Range) ∷ []))) fits

  scene_after : after (scene_with S) (toggle_of_a x w y z) ≡ scene_with toggled
  unfolding xor_of box_of
  scene_after = refl

  toggle_has_its_work : work (scene_with S) (toggle_of_a x w y z) ≡ 80
  toggle_has_its_work =
      ap (λ t. if t then 0 else sum_by (entry_work (toggle_of_a x w y z) (value (scene_with S)) (value (after (scene_with S) (toggle_of_a x w y z)))) (after (scene_with S) (toggle_of_a x w y z)).entries) not_refused
      ∙ ap (λ t. sum_by (entry_work (toggle_of_a x w y z) (value (scene_with S)) (value t)) t.entries) scene_after
      ∙ work_of_toggle

pub work_beside : WorkBeside
work_beside S x w y z s fits far = toggle_has_its_work S x w y z s fits far
