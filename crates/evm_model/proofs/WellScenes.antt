-- What holds in each well scene: values follow their formulas, operands stand, no name reaches itself, and values have the
-- dimension of their names and are cell sets.
use Rattle.std.proofs.Common.{◌≡◌, ℕ, zero, suc, ◌+◌, ◌-◌, ◌*◌, ◌==◌, Bool, true, false, not, cond, ◌&&◌, ◌||◌, List, [], ◌∷◌, length, take, drop, filter, map, Option, Some, None, ℤ, pos, refl, sym, ap, ◌∙◌, subst, is_some, bytes_eq, arith, suc}
use Rattle.std.specs.Prelude.{nat_abs}
use Rattle.std.specs.List.{list_any, list_all}
use Rattle.std.proofs.lemmas.Bool.Decides.{Decides-eqb}
use Rattle.std.proofs.lemmas.List.{length-take-le}
use Rattle.evm_cells.specs.Places.{ascending}
use Rattle.evm_cells.specs.Limits.{IsCellSet, is_cell}
use Rattle.evm_cells.proofs.Booleans.{cell_sets}
use Rattle.evm_cells.specs.Boxes.{box_cells}
use Rattle.evm_cells.specs.Shapes.{added, clip, shift, shift_fits}
use Rattle.evm_cells.proofs.Corners.{cell_set-box}
use Rattle.evm_cells.proofs.Slices.{cell_set-slice}
use Rattle.evm_cells.proofs.Moves.{cell_set-mirror, cell_set-swap, cell_set-shift}
use Rattle.evm_cells.proofs.Lifts.{cell_set-lift, cell_set-proj, lifted_cell, without-with_at, coord-with_at}
use Rattle.evm_cells.proofs.Universe.{absorb, has-cells}
use Rattle.evm_cells.proofs.Coords.{le_is, le_yes}
use Rattle.std.proofs.lemmas.Int.{ints as int_facts}
use Rattle.std.proofs.Common.{◌≤◌, ap₂, negsuc, int_le, int_lt, get_or}
use Rattle.evm_cells.specs.Places.{has, without, with_at}
use Rattle.evm_cells.specs.Limits.{is_point_coord}
use Rattle.evm_cells.specs.Shapes.{lift}
use Rattle.evm_cells.proofs.Xor.{and_first, and_second, and_both}
use Rattle.evm_script.specs.declared.formula.Formula.{Formula}
use Rattle.evm_script.specs.declared.formula.Formula.TheVariants as formulas
use Rattle.evm_model.specs.Formulas.{Boolean, Or, And, Sub, Xor, boolean_of, Shape, Shift, Mirror, Swap, Clip, Slice, Proj, Lift, shape_of, shape_dim, shape_fits, shape_in_range, Parts, Both, Block, Shaped, parts_of, parts_operands, parts_value, parts_dim, parts_fit, parts_are_sound}
use Rattle.evm_model.specs.Figures.{Figure, nothing, box_of, box_at, low_of, high_of, or_of, and_of, sub_of, xor_of, shift_of, shift_stays, mirror_of, swap_of, clip_of, slice_of, proj_of, lift_of, lift_stays}
use Rattle.evm_model.specs.Orders.{is_among}
use Rattle.evm_model.specs.Scene.{What, Given, Made, Entry, Scene, has_name, entry_of, stands, dim_of, dim_of_entry, what_operands, entry_operands, operands_of, what_value, what_stays, entry_value, value, reaches, is_dim, is_axis, formula_dim, formula_fits, formula_in_range, names_differ, what_is_sound, IsWell, reaches_within, IsOrderOf}
use Rattle.evm_model.proofs.Names.{by_test, not_both, same_name, name_itself, among_here, among_later, among_none, not_true, any_less, or_right, by_or}
use Rattle.evm_model.proofs.Lookups.{stands_any, none_stands, found_passes}
use Rattle.evm_model.proofs.OrderExists.{order_of}
use Rattle.std.proofs.lemmas.Bool.{false≢true}
use Rattle.evm_model.proofs.Levels.{value_step, value_unique, reaches_step, reaches_from_none, never_itself, operands_stand, fixed_agree, along}

-- the names of a well scene in an order in which operands come first
pub well_order : (scene : Scene) → IsWell scene → (order : List (List ℕ)) × IsOrderOf scene order
well_order scene well = order_of scene well.names well.stand well.acyclic

-- where the names of a scene have such an order, operands stand and no name reaches itself
pub ordered_stand : (scene : Scene) (order : List (List ℕ)) → IsOrderOf scene order
    → ((x o : List ℕ) → is_among o (operands_of scene.entries x) ≡ true → stands scene o ≡ true) × ((x : List ℕ) → reaches scene x x ≡ false)
ordered_stand scene order is = (operands_stand scene order is.ordered is.whole is.size, never_itself scene order is.ordered is.whole is.size)

pub well_value : (scene : Scene) → IsWell scene → (x : List ℕ) → value scene x ≡ entry_value (entry_of scene.entries x) (value scene)
well_value scene well x = let (order, is) = well_order scene well in value_step scene order is.ordered is.whole is.size x

pub well_unique : (scene : Scene) → IsWell scene → (f : List ℕ → Figure) → ((x : List ℕ) → f x ≡ entry_value (entry_of scene.entries x) f) → (x : List ℕ) → f x ≡ value scene x
well_unique scene well f fixed x = let (order, is) = well_order scene well in value_unique scene order is.ordered is.whole is.size f fixed x

pub well_reaches : (scene : Scene) → IsWell scene → (x y : List ℕ) → reaches scene x y ≡ list_any (λ o. bytes_eq o y || reaches scene o y) (operands_of scene.entries x)
well_reaches scene well x y = let (order, is) = well_order scene well in reaches_step scene order is.ordered is.whole is.size x y

pub well_from_none : (scene : Scene) → IsWell scene → (x y : List ℕ) → stands scene x ≡ false → reaches scene x y ≡ false
well_from_none scene well x y out = let (order, is) = well_order scene well in reaches_from_none scene order is.ordered is.whole is.size x y out

-- a name reaches what a name that it reaches does
pub well_through : (scene : Scene) → IsWell scene → (x y z : List ℕ) → reaches scene x y ≡ true → reaches scene y z ≡ true → reaches scene x z ≡ true
well_through scene well x y z h t = through (length scene.entries) x h
  where
    through : (n : ℕ) (w : List ℕ) → reaches_within n scene.entries w y ≡ true → reaches scene w z ≡ true
    through zero w k = absurd (false≢true k)
    through (suc n) w k =
        well_reaches scene well w z
        ∙ any_less (λ o. bytes_eq o y || reaches_within n scene.entries o y) (λ o. bytes_eq o z || reaches scene o z) (operands_of scene.entries w)
        (λ o r e. or_right (bytes_eq o z) (reaches scene o z) (by_or (bytes_eq o y) (reaches_within n scene.entries o y) e
        (λ q. subst (λ (v : List ℕ). reaches scene v z ≡ true) (sym (same_name o y q)) t)
        (λ q. through n o q))) k

-- the dimension of what a name stands for, at those of its operands
abbrev what_dim_at : ℕ → What → (List ℕ → ℕ) → ℕ
what_dim_at n (Given cells) g = n
what_dim_at n (Made f) g = parts_dim (parts_of f) g

abbrev entry_dim_at : Option Entry → (List ℕ → ℕ) → ℕ
entry_dim_at None g = 0
entry_dim_at (Some e) g = what_dim_at e.dim e.what g

parts_dim_same : (p : Parts) (g h : List ℕ → ℕ) → ((o : List ℕ) → is_among o (parts_operands p) ≡ true → g o ≡ h o) → parts_dim p g ≡ parts_dim p h
parts_dim_same (Both op a b) g h same = same a (among_here a (b ∷ []))
parts_dim_same (Block dim nums) g h same = refl
parts_dim_same (Shaped shape a) g h same = ap (shape_dim shape) (same a (among_here a []))

entry_dim_same : (e : Option Entry) (g h : List ℕ → ℕ) → ((o : List ℕ) → is_among o (entry_operands e) ≡ true → g o ≡ h o) → entry_dim_at e g ≡ entry_dim_at e h
entry_dim_same None g h same = refl
entry_dim_same (Some e) g h same = by e.what same
  where
    by : (what : What) → ((o : List ℕ) → is_among o (what_operands what) ≡ true → g o ≡ h o) → what_dim_at e.dim what g ≡ what_dim_at e.dim what h
    by (Given cells) k = refl
    by (Made f) k = parts_dim_same (parts_of f) g h k

-- the parts of what is sound
pub sound_fits : (scene : Scene) (n : ℕ) (f : Formula) → what_is_sound scene n (Made f) ≡ true → formula_fits scene f ≡ true
sound_fits scene n f h =
    and_first (formula_fits scene f) (formula_in_range scene f) (and_first (formula_fits scene f && formula_in_range scene f) (formula_dim scene f == n) h)

pub sound_range : (scene : Scene) (n : ℕ) (f : Formula) → what_is_sound scene n (Made f) ≡ true → formula_in_range scene f ≡ true
sound_range scene n f h =
    and_second (formula_fits scene f) (formula_in_range scene f) (and_first (formula_fits scene f && formula_in_range scene f) (formula_dim scene f == n) h)

pub sound_dim : (scene : Scene) (n : ℕ) (f : Formula) → what_is_sound scene n (Made f) ≡ true → formula_dim scene f ≡ n
sound_dim scene n f h = (Decides-eqb (formula_dim scene f) n).0 (and_second (formula_fits scene f && formula_in_range scene f) (formula_dim scene f == n) h)

pub sound_made : (scene : Scene) (n : ℕ) (f : Formula) → formula_fits scene f ≡ true → formula_in_range scene f ≡ true → formula_dim scene f ≡ n → what_is_sound scene n (Made f) ≡ true
sound_made scene n f fits range dim =
    and_both (formula_fits scene f && formula_in_range scene f) (formula_dim scene f == n)
    (and_both (formula_fits scene f) (formula_in_range scene f) fits range) ((Decides-eqb (formula_dim scene f) n).1 dim)

pub sound_cells : (n : ℕ) (S : List (List ℤ)) → IsCellSet n S → (ascending S && list_all (is_cell n) S) ≡ true
sound_cells n S s = and_both (ascending S) (list_all (is_cell n) S) s.ascends s.cells

-- the dimension of the box that numbers state
pub box_dim : (n : ℕ) (nums : List ℤ) → length nums ≡ 2 * n → (box_at n nums).dim ≡ n
unfolding box_of
box_dim n nums both = length-take-le n nums (omega arith)

-- where each moved item passes a test, the moved items that pass are all
all_moved : {X Y : Type 0} (p : Y → Bool) (f : X → Y) (xs : List X) → list_all (λ x. p (f x)) xs ≡ true → filter p (map f xs) ≡ map f xs
all_moved p f [] h = refl
all_moved {X} {Y} p f (x ∷ xs) h =
    ap (λ (b : Bool). cond b (f x ∷ filter p (map f xs)) (filter p (map f xs))) (and_first (p (f x)) (list_all (λ y. p (f y)) xs) h)
    ∙ ap (λ (ys : List Y). f x ∷ ys) (all_moved p f xs (and_second (p (f x)) (list_all (λ y. p (f y)) xs) h))

-- named solids have dimension 2 to 6
pub solid_dim : (n : ℕ) → is_dim (pos n) ≡ true → (2 ≤ n) × (n ≤ 6)
solid_dim n d =
    let low = le_is (pos 2) (pos n) (and_first (int_le (pos 2) (pos n)) (int_le (pos n) (pos 6)) d) in
    let high = le_is (pos n) (pos 6) (and_second (int_le (pos 2) (pos n)) (int_le (pos n) (pos 6)) d) in
    (omega (arith, int_facts, low), omega (arith, int_facts, high))

pub dim_solid : (n : ℕ) → 2 ≤ n → n ≤ 6 → is_dim (pos n) ≡ true
dim_solid n low high =
    and_both (int_le (pos 2) (pos n)) (int_le (pos n) (pos 6)) (le_yes (pos 2) (pos n) (omega (arith, int_facts))) (le_yes (pos n) (pos 6) (omega (arith, int_facts)))

-- an axis, as a number
axis_at : (n : ℕ) (axis : ℤ) → is_axis n axis ≡ true → nat_abs axis ≤ n
axis_at n (pos a) h = let l = le_is (pos a) (pos n) (and_second (int_le (pos 1) (pos a)) (int_le (pos a) (pos n)) h) in omega (arith, int_facts, l)
axis_at n (negsuc a) h = absurd (false≢true h)

-- Booleans have the dimension of their first figure, and shapes that of theirs
pub boolean_dim : (op : Boolean) (a b : Figure) → (boolean_of op a b).dim ≡ a.dim
unfolding or_of and_of sub_of xor_of
boolean_dim Or a b = refl
boolean_dim And a b = refl
boolean_dim Sub a b = refl
boolean_dim Xor a b = refl

shape_dim_of : (shape : Shape) (a : Figure) → (shape_of shape a).dim ≡ shape_dim shape a.dim
unfolding shift_of mirror_of swap_of clip_of slice_of proj_of lift_of
shape_dim_of (Shift nums) a = refl
shape_dim_of (Mirror axis) a = refl
shape_dim_of (Swap i j) a = refl
shape_dim_of (Clip nums) a = refl
shape_dim_of (Slice axis at) a = refl
shape_dim_of (Proj axis) a = refl
shape_dim_of (Lift axis lo hi) a = refl

-- both are cell sets
pub boolean_set : (op : Boolean) (a b : Figure) → IsCellSet (boolean_of op a b).dim (boolean_of op a b).cells
unfolding or_of and_of sub_of xor_of
boolean_set Or a b = (cell_sets a.dim a.cells b.cells).0
boolean_set And a b = (cell_sets a.dim a.cells b.cells).1
boolean_set Sub a b = (cell_sets a.dim a.cells b.cells).2
boolean_set Xor a b = (cell_sets a.dim a.cells b.cells).3

shape_set : (shape : Shape) (a : Figure) → shape_fits shape a.dim ≡ true → IsCellSet a.dim a.cells → IsCellSet (shape_of shape a).dim (shape_of shape a).cells
unfolding shift_of mirror_of swap_of clip_of slice_of proj_of lift_of clip
shape_set (Shift nums) a h set = cell_set-shift a.dim nums a.cells ((Decides-eqb (length nums) a.dim).0 h) set
shape_set (Mirror axis) a h set = cell_set-mirror a.dim (nat_abs axis - 1) a.cells
shape_set (Swap i j) a h set = cell_set-swap a.dim (nat_abs i - 1) (nat_abs j - 1) a.cells
shape_set (Clip nums) a h set = (cell_sets a.dim a.cells (box_cells a.dim (low_of a.dim nums) (high_of a.dim nums))).1
shape_set (Slice axis at) a h set = cell_set-slice (a.dim - 1) (nat_abs axis - 1) at a.cells
shape_set (Proj axis) a h set = cell_set-proj (a.dim - 1) (nat_abs axis - 1) a.cells
shape_set (Lift axis lo hi) a h set = cell_set-lift (a.dim + 1) (nat_abs axis - 1) lo hi a.cells

module _ (scene : Scene) (well : IsWell scene) where
  abbrev order_of_names : (order : List (List ℕ)) × IsOrderOf scene order
  order_of_names = well_order scene well

  pub found_sound : (x : List ℕ) (e : Entry) → entry_of scene.entries x ≡ Some e → what_is_sound scene e.dim e.what ≡ true
  found_sound x e q = found_passes (λ (y : Entry). what_is_sound scene y.dim y.what) scene.entries x e q well.sound

  -- no formula makes a place out of the limits
  pub found_stays : (x : List ℕ) (e : Entry) → entry_of scene.entries x ≡ Some e → what_stays e.what (value scene) ≡ true
  found_stays x e q = found_passes (λ (y : Entry). what_stays y.what (value scene)) scene.entries x e q well.stay

  pub found_dim : (x : List ℕ) (e : Entry) → entry_of scene.entries x ≡ Some e → is_dim (pos e.dim) ≡ true
  found_dim x e q = found_passes (λ (y : Entry). is_dim (pos y.dim)) scene.entries x e q well.dims

  dim_fixed : (x : List ℕ) → dim_of scene x ≡ entry_dim_at (entry_of scene.entries x) (dim_of scene)
  dim_fixed x = by (entry_of scene.entries x) refl
    where
      by_what : (n : ℕ) (what : What) → what_is_sound scene n what ≡ true → n ≡ what_dim_at n what (dim_of scene)
      by_what n (Given cells) h = refl
      by_what n (Made f) h = sym (sound_dim scene n f h)

      by : (o : Option Entry) → entry_of scene.entries x ≡ o → dim_of_entry o ≡ entry_dim_at o (dim_of scene)
      by None q = refl
      by (Some e) q = by_what e.dim e.what (found_sound x e q)

  value_dim_fixed : (x : List ℕ) → (value scene x).dim ≡ entry_dim_at (entry_of scene.entries x) (λ o. (value scene o).dim)
  unfolding nothing
  value_dim_fixed x = ap (λ (a : Figure). a.dim) (well_value scene well x) ∙ by (entry_of scene.entries x) refl
    where
      by_parts : (p : Parts) → parts_fit p (dim_of scene) ≡ true → (parts_value p (value scene)).dim ≡ parts_dim p (λ o. (value scene o).dim)
      by_parts (Both op a b) h = boolean_dim op (value scene a) (value scene b)
      by_parts (Block dim nums) h =
          box_dim (nat_abs dim) nums ((Decides-eqb (length nums) (2 * nat_abs dim)).0 (and_second (is_dim dim) (length nums == 2 * nat_abs dim) h))
      by_parts (Shaped shape a) h = shape_dim_of shape (value scene a)

      by_what : (n : ℕ) (what : What) → what_is_sound scene n what ≡ true → (what_value n what (value scene)).dim ≡ what_dim_at n what (λ o. (value scene o).dim)
      by_what n (Given cells) h = refl
      by_what n (Made f) h = by_parts (parts_of f) (sound_fits scene n f h)

      by : (o : Option Entry) → entry_of scene.entries x ≡ o → (entry_value o (value scene)).dim ≡ entry_dim_at o (λ o. (value scene o).dim)
      by None q = refl
      by (Some e) q = by_what e.dim e.what (found_sound x e q)

  -- the dimension of a name is that of its value
  pub value_dim : (x : List ℕ) → dim_of scene x ≡ (value scene x).dim
  value_dim x =
      by_test (stands scene x)
      (λ l. fixed_agree (operands_of scene.entries) (λ y g. entry_dim_at (entry_of scene.entries y) g) (dim_of scene) (λ y. (value scene y).dim)
      (λ y g h same. entry_dim_same (entry_of scene.entries y) g h same) order_of_names.0 order_of_names.1.ordered (λ y m. dim_fixed y) (λ y m. value_dim_fixed y) x (order_of_names.1.whole x ∙ l))
      (λ out. dim_fixed x ∙ ap (λ (o : Option Entry). entry_dim_at o (dim_of scene)) (gone out) ∙ sym (value_dim_fixed x ∙ ap (λ (o : Option Entry). entry_dim_at o (λ y. (value scene y).dim)) (gone out)))
    where
      gone : stands scene x ≡ false → entry_of scene.entries x ≡ None
      gone out = none_stands scene.entries x out

  -- each value is a cell set
  pub value_cells : (x : List ℕ) → IsCellSet (value scene x).dim (value scene x).cells
  unfolding nothing ascending box_of
  value_cells x =
      by_test (stands scene x)
      (λ l. along (operands_of scene.entries) (λ y. IsCellSet (value scene y).dim (value scene y).cells) from_operands [] order_of_names.0 order_of_names.1.ordered (λ y m. among_none y m) x (order_of_names.1.whole x ∙ l))
      (λ out. from_operands x (λ o m. among_none o (subst (λ (t : Option Entry). is_among o (entry_operands t) ≡ true) (none_stands scene.entries x out) m)))
    where
      by_parts : (p : Parts) → parts_fit p (dim_of scene) ≡ true → ((o : List ℕ) → is_among o (parts_operands p) ≡ true → IsCellSet (value scene o).dim (value scene o).cells)
          → IsCellSet (parts_value p (value scene)).dim (parts_value p (value scene)).cells
      by_parts (Both op a b) h sets = boolean_set op (value scene a) (value scene b)
      by_parts (Block dim nums) h sets = cell_set-box (length (take (nat_abs dim) nums)) (take (nat_abs dim) nums) (drop (nat_abs dim) nums)
      by_parts (Shaped shape a) h sets =
          shape_set shape (value scene a) (subst (λ (n : ℕ). shape_fits shape n ≡ true) (value_dim a) h) (sets a (among_here a []))

      by_what : (n : ℕ) (what : What) → what_is_sound scene n what ≡ true → ((o : List ℕ) → is_among o (what_operands what) ≡ true → IsCellSet (value scene o).dim (value scene o).cells)
          → IsCellSet (what_value n what (value scene)).dim (what_value n what (value scene)).cells
      by_what n (Given cells) h sets = record { ascends = and_first (ascending cells) (list_all (is_cell n) cells) h; cells = and_second (ascending cells) (list_all (is_cell n) cells) h }
      by_what n (Made f) h sets = by_parts (parts_of f) (sound_fits scene n f h) sets

      from_operands : (y : List ℕ) → ((o : List ℕ) → is_among o (operands_of scene.entries y) ≡ true → IsCellSet (value scene o).dim (value scene o).cells) → IsCellSet (value scene y).dim (value scene y).cells
      from_operands y sets = subst (λ (a : Figure). IsCellSet a.dim a.cells) (sym (well_value scene well y)) (by (entry_of scene.entries y) refl)
        where
          by : (t : Option Entry) → entry_of scene.entries y ≡ t → IsCellSet (entry_value t (value scene)).dim (entry_value t (value scene)).cells
          by None q = record { ascends = refl; cells = refl }
          by (Some e) q = by_what e.dim e.what (found_sound y e q) (λ o m. sets o (subst (λ (t : Option Entry). is_among o (entry_operands t) ≡ true) (sym q) m))

  -- a shift has each cell of its operand, moved
  pub shift_cells : (x o : List ℕ) (nums : List ℤ) (e : Entry) → entry_of scene.entries x ≡ Some e → e.what ≡ Made (formulas.Shift o nums) → (value scene x).cells ≡ map (added nums) (value scene o).cells
  unfolding shift_of shift_stays shift shift_fits
  shift_cells x o nums e q f =
      ap (λ (a : Figure). a.cells) (well_value scene well x ∙ ap (λ (t : Option Entry). entry_value t (value scene)) q ∙ ap (λ (w : What). what_value e.dim w (value scene)) f)
      ∙ all_moved (is_cell (value scene o).dim) (added nums) (value scene o).cells (sym (ap (λ (w : What). what_stays w (value scene)) f) ∙ found_stays x e q)

  -- a lift has each cell of its operand, at each of its heights
  pub lift_cells : (x o : List ℕ) (axis lo hi k : ℤ) (c : List ℤ) (e : Entry) → entry_of scene.entries x ≡ Some e → e.what ≡ Made (formulas.Lift o axis lo hi)
      → length c ≡ dim_of scene o → has (value scene x).cells (with_at (nat_abs axis - 1) k c) ≡ (has (value scene o).cells c && (int_le lo k && int_lt k hi))
  unfolding lift_of lift_stays lift
  lift_cells x o axis lo hi k c e q f long =
      ap (λ (a : Figure). has a.cells p) (well_value scene well x ∙ ap (λ (t : Option Entry). entry_value t (value scene)) q ∙ ap (λ (w : What). what_value e.dim w (value scene)) f)
      ∙ has-cells n (λ d. has S (without i d) && (int_le lo (get_or d i (pos 0)) && int_lt (get_or d i (pos 0)) hi)) p
      ∙ ap (λ (b : Bool). is_cell n p && b) (ap₂ (λ (d : List ℤ) (j : ℤ). has S d && (int_le lo j && int_lt j hi)) (without-with_at i k c inside) (coord-with_at i k c inside))
      ∙ absorb (is_cell n p) (has S c && (int_le lo k && int_lt k hi))
      (λ h. lifted_cell n i lo hi k S c (and_second (is_point_coord m lo && is_point_coord m hi) (int_lt lo hi) (sound_range scene e.dim (formulas.Lift o axis lo hi) sound))
      (sym (ap (λ (w : What). what_stays w (value scene)) f) ∙ found_stays x e q)
      (and_first (has S c) (int_le lo k && int_lt k hi) h) (and_second (has S c) (int_le lo k && int_lt k hi) h))
    where
      S : List (List ℤ)
      S = (value scene o).cells

      n : ℕ
      n = (value scene o).dim + 1

      m : ℕ
      m = dim_of scene o + 1

      i : ℕ
      i = nat_abs axis - 1

      p : List ℤ
      p = with_at i k c

      sound : what_is_sound scene e.dim (Made (formulas.Lift o axis lo hi)) ≡ true
      sound = subst (λ (w : What). what_is_sound scene e.dim w ≡ true) f (found_sound x e q)

      inside : i ≤ length c
      inside = omega (arith, long, axis_at m axis (and_second (not (dim_of scene o == 6)) (is_axis m axis) (sound_fits scene e.dim (formulas.Lift o axis lo hi) sound)))

-- what each entry that is found passes, all entries pass, where names differ
pub all_entries : (p : Entry → Bool) (es : List Entry) → names_differ es ≡ true → ((x : List ℕ) (e : Entry) → entry_of es x ≡ Some e → p e ≡ true) → list_all p es ≡ true
all_entries p [] d h = refl
all_entries p (e ∷ es) d h =
    and_both (p e) (list_all p es)
    (h e.name e (ap (λ (b : Bool). cond b (Some e) (entry_of es e.name)) (name_itself e.name)))
    (all_entries p es (and_second (not (list_any (has_name e.name) es)) (names_differ es) d) later)
  where
    later : (x : List ℕ) (f : Entry) → entry_of es x ≡ Some f → p f ≡ true
    later x f q =
        by_test (has_name x e)
        (λ k. not_both (is_some (entry_of es x)) (ap (λ (o : Option Entry). is_some o) q)
        (stands_any es x ∙ ap (λ (y : List ℕ). list_any (has_name y) es) (same_name x e.name k) ∙ not_true (list_any (has_name e.name) es) (and_first (not (list_any (has_name e.name) es)) (names_differ es) d)))
        (λ k. h x f (ap (λ (b : Bool). cond b (Some e) (entry_of es x)) k ∙ q))

both_sound : (s u : Scene) (n : ℕ) (a b : List ℕ) → ((o : List ℕ) → is_among o (a ∷ b ∷ []) ≡ true → dim_of s o ≡ dim_of u o)
    → ((dim_of s a == dim_of s b) && true && (dim_of s a == n)) ≡ ((dim_of u a == dim_of u b) && true && (dim_of u a == n))
both_sound s u n a b same =
    ap (λ (k : ℕ). (k == dim_of s b) && true && (k == n)) (same a (among_here a (b ∷ [])))
    ∙ ap (λ (k : ℕ). (dim_of u a == k) && true && (dim_of u a == n)) (same b (among_later b a (b ∷ []) (among_here b [])))

-- what is sound depends on the dimensions of the operands alone
parts_sound_same : (s u : Scene) (n : ℕ) (p : Parts) → ((o : List ℕ) → is_among o (parts_operands p) ≡ true → dim_of s o ≡ dim_of u o)
    → parts_are_sound n p (dim_of s) ≡ parts_are_sound n p (dim_of u)
parts_sound_same s u n (Both op a b) same = both_sound s u n a b same
parts_sound_same s u n (Block dim nums) same = refl
parts_sound_same s u n (Shaped shape a) same = ap (λ (k : ℕ). shape_fits shape k && shape_in_range shape k && (shape_dim shape k == n)) (same a (among_here a []))

pub what_sound_same : (s u : Scene) (n : ℕ) (what : What) → ((o : List ℕ) → is_among o (what_operands what) ≡ true → dim_of s o ≡ dim_of u o) → what_is_sound s n what ≡ what_is_sound u n what
what_sound_same s u n (Given cells) same = refl
what_sound_same s u n (Made f) same = parts_sound_same s u n (parts_of f) same
