-- Dimensions and numbers of formulas, as the table and as the scene say them, and what formulas do.
use Rattle.std.proofs.Common.{◌≡◌, ℕ, ◌+◌, ◌-◌, ◌*◌, ◌<◌, ◌≤◌, ◌==◌, Bool, true, false, not, ◌&&◌, ◌||◌, List, [], ◌∷◌, take, drop, length, ℤ, pos, negsuc, neg_ℤ, ◌≤ℤ◌, int_le, int_lt, refl, sym, ap, ◌∙◌, subst, true≢false, bytes_eq, Option, None, Some, is_some, arith}
use Rattle.std.specs.Prelude.{nat_abs}
use Rattle.std.proofs.lemmas.Int.{ints as int_facts}
use Rattle.std.proofs.lemmas.Bool.Decides.{Decides-eqb}
use Rattle.std.proofs.lemmas.Bool.{eqb-false}
use Rattle.std.proofs.lemmas.List.{length-take-le}
use Rattle.evm_cells.specs.Limits.{limit, is_cell_coord, is_point_coord}
use Rattle.evm_cells.specs.Shapes.{is_shift}
use Rattle.evm_cells.specs.Boxes.{is_box}
use Rattle.evm_cells.proofs.Xor.{and_first, and_second, and_both}
use Rattle.evm_cells.proofs.Coords.{le_is, lt_is}
use Rattle.evm_cells.proofs.Order.{refuted}
use Rattle.evm_delta.specs.declared.shapes.Op1.TheVariants as shapes
use Rattle.evm_delta.specs.Shapes.{Fits, op1_dim}
use Rattle.evm_script.specs.declared.formula.Formula.{Formula}
use Rattle.evm_script.specs.declared.formula.Formula.TheVariants.{Or, And, Sub, Xor, Box, Shift, Mirror, Swap, Clip, Slice, Proj, Lift}
use Rattle.evm_model.specs.Figures.{box_fits, low_of, high_of}
use Rattle.evm_model.specs.Orders.{is_among}
use Rattle.evm_model.specs.Scene.{Scene, Made, dim_of, is_dim, is_axis, is_range, operands, formula_dim, formula_fits, formula_in_range, what_is_sound}
use Rattle.evm_model.proofs.Names.{by_test, not_true, same_name, among_here, among_later}
use Rattle.evm_model.proofs.WellScenes.{sound_made}
use Rattle.evm_formulas.specs.declared.operations.Operation.{Operation}
use Rattle.evm_formulas.specs.declared.operations.Operation.TheVariants as does
use Rattle.evm_scene.specs.declared.node.Node.{Node}
use Rattle.evm_formulas.specs.Stated.{operand_dim}
use Rattle.evm_scene.specs.Tables.{Table, node_at, node_dim, NodeSized, MadeSized, dim_at, FormulaSized, scene_of}
use Rattle.evm_formulas.specs.Operations.{operation_of}
use Rattle.evm_scene.proofs.Views.{dim_is}
use Rattle.evm_formulas.proofs.Stated.{dim_low, dim_high}

-- ---- axes

pub axis_low : (n : ℕ) (axis : ℤ) → is_axis n axis ≡ true → pos 1 ≤ℤ axis
axis_low n axis h = le_is (pos 1) axis (and_first (int_le (pos 1) axis) (int_le axis (pos n)) h)

axis_high : (n : ℕ) (axis : ℤ) → is_axis n axis ≡ true → axis ≤ℤ pos n
axis_high n axis h = le_is axis (pos n) (and_second (int_le (pos 1) axis) (int_le axis (pos n)) h)

-- an axis as a number
axis_fits : (n : ℕ) (axis : ℤ) → is_axis n axis ≡ true → (0 < nat_abs axis) × (nat_abs axis ≤ n)
axis_fits n (pos k) h = let low = axis_low n (pos k) h in let high = axis_high n (pos k) h in (omega (arith, int_facts, low), omega (arith, int_facts, high))
axis_fits n (negsuc k) h = let low = axis_low n (negsuc k) h in absurd (omega (arith, int_facts, low))

-- where there is an axis there is a dimension
axis_some : (n : ℕ) (axis : ℤ) → is_axis n axis ≡ true → 1 ≤ n
axis_some n axis h = let low = axis_low n axis h in let high = axis_high n axis h in omega (arith, int_facts, low, high)

-- a shift states a number for each axis
shift_many : (n : ℕ) (nums : List ℤ) → is_shift n nums ≡ true → (length nums == n) ≡ true
unfolding is_shift
shift_many n nums h = and_first (length nums == n) _ h

-- ---- the dimension that the table says of a formula

both_among : (P : List ℕ → Type 0) (a b : List ℕ) → P a → P b → (o : List ℕ) → is_among o (a ∷ b ∷ []) ≡ true → P o
both_among P a b p q o m =
    by_test (bytes_eq o a) (λ e. subst P (sym (same_name o a e)) p)
    (λ d. by_test (bytes_eq o b) (λ e. subst P (sym (same_name o b e)) q) (λ e. absurd (true≢false (sym m ∙ (λ i. d i || (e i || false))))))

one_among : (P : List ℕ → Type 0) (a : List ℕ) → P a → (o : List ℕ) → is_among o (a ∷ []) ≡ true → P o
one_among P a p o m = by_test (bytes_eq o a) (λ e. subst P (sym (same_name o a e)) p) (λ d. absurd (true≢false (sym m ∙ ap (λ (b : Bool). b || false) d)))

module _ (t : Table) where
  abbrev s : Scene
  s = scene_of t

  -- a formula that fits, with its numbers in their limits, has its dimension
  both_sized : (a b : List ℕ) → (dim_of s a == dim_of s b) ≡ true → (o : List ℕ) → is_among o (a ∷ b ∷ []) ≡ true → dim_at t o ≡ dim_of s a
  both_sized a b h = both_among (λ o. dim_at t o ≡ dim_of s a) a b (sym (dim_is t a)) (sym (dim_is t b) ∙ sym ((Decides-eqb (dim_of s a) (dim_of s b)).0 h))

  one_sized : (a : List ℕ) (n : ℕ) → dim_of s a ≡ n → (o : List ℕ) → is_among o (a ∷ []) ≡ true → dim_at t o ≡ n
  one_sized a n e = one_among (λ o. dim_at t o ≡ n) a (sym (dim_is t a) ∙ e)

  no_sized : (n : ℕ) (o : List ℕ) → is_among o [] ≡ true → dim_at t o ≡ n
  no_sized n o m = absurd (true≢false (sym m))

  again : (n : ℕ) (axis : ℤ) → is_axis n axis ≡ true → n ≡ n - 1 + 1
  again n axis h = omega (arith, axis_some n axis h)

  pub formula_sized : (f : Formula) → formula_fits s f ≡ true → formula_in_range s f ≡ true → FormulaSized (formula_dim s f) f (dim_at t)
  formula_sized (Or a b) h r = (both_sized a b h, tt)
  formula_sized (And a b) h r = (both_sized a b h, tt)
  formula_sized (Sub a b) h r = (both_sized a b h, tt)
  formula_sized (Xor a b) h r = (both_sized a b h, tt)
  formula_sized (Box dim nums) h r = (
    no_sized (nat_abs dim),
    (and_first (is_dim dim) (length nums == 2 * nat_abs dim) h, refl, (Decides-eqb (length nums) (2 * nat_abs dim)).0 (and_second (is_dim dim) (length nums == 2 * nat_abs dim) h), r),
  )
  formula_sized (Shift a nums) h r = (one_sized a (dim_of s a) refl, r)
  formula_sized (Mirror a axis) h r = (one_sized a (dim_of s a) refl, h)
  formula_sized (Swap a i j) h r = (one_sized a (dim_of s a) refl, (and_first (is_axis (dim_of s a) i) (is_axis (dim_of s a) j) h, and_second (is_axis (dim_of s a) i) (is_axis (dim_of s a) j) h))
  formula_sized (Clip a nums) h r = (one_sized a (dim_of s a) refl, ((Decides-eqb (length nums) (2 * dim_of s a)).0 h, r))
  formula_sized (Slice a axis at) h r =
      let x : is_axis (dim_of s a) axis ≡ true = and_second (not (dim_of s a == 2)) (is_axis (dim_of s a) axis) h in
      let e : dim_of s a ≡ dim_of s a - 1 + 1 = again (dim_of s a) axis x in
      (one_sized a (dim_of s a - 1 + 1) e, (subst (λ (n : ℕ). is_axis n axis ≡ true) e x, subst (λ (n : ℕ). is_cell_coord n at ≡ true) e r))
  formula_sized (Proj a axis) h r =
      let x : is_axis (dim_of s a) axis ≡ true = and_second (not (dim_of s a == 2)) (is_axis (dim_of s a) axis) h in
      let e : dim_of s a ≡ dim_of s a - 1 + 1 = again (dim_of s a) axis x in
      (one_sized a (dim_of s a - 1 + 1) e, subst (λ (n : ℕ). is_axis n axis ≡ true) e x)
  formula_sized (Lift a axis lo hi) h r = (
    one_sized a (dim_of s a + 1 - 1) (omega arith),
    (and_second (not (dim_of s a == 6)) (is_axis (dim_of s a + 1) axis) h, r),
  )

  -- and the other way round: what the table says, the scene finds sound
  module _ (n : ℕ) (named : is_dim (pos n) ≡ true) where
    both_sound : (a b : List ℕ) → ((o : List ℕ) → is_among o (a ∷ b ∷ []) ≡ true → dim_at t o ≡ n) → ((dim_of s a == dim_of s b) ≡ true) × (dim_of s a ≡ n)
    both_sound a b h =
        let x : dim_of s a ≡ n = dim_is t a ∙ h a (among_here a (b ∷ [])) in
        let y : dim_of s b ≡ n = dim_is t b ∙ h b (among_later b a (b ∷ []) (among_here b [])) in
        ((Decides-eqb (dim_of s a) (dim_of s b)).1 (x ∙ sym y), x)

    one_sound : (a : List ℕ) (m : ℕ) → ((o : List ℕ) → is_among o (a ∷ []) ≡ true → dim_at t o ≡ m) → m ≡ dim_of s a
    one_sound a m h = sym (dim_is t a ∙ h a (among_here a []))

    up : n - 1 + 1 ≡ n
    up = omega (arith, dim_low n named)

    not_two : (m : ℕ) → m ≡ n + 1 → not (m == 2) ≡ true
    not_two m e = ap not (refuted (m == 2) (λ h. let k : m ≡ 2 = (Decides-eqb m 2).0 h in absurd (omega (arith, k, e, dim_low n named))))

    not_six : (m : ℕ) → m ≡ n - 1 → not (m == 6) ≡ true
    not_six m e = ap not (refuted (m == 6) (λ h. let k : m ≡ 6 = (Decides-eqb m 6).0 h in absurd (omega (arith, k, e, dim_high n named))))

    pub formula_sound : (f : Formula) → FormulaSized n f (dim_at t) → what_is_sound s n (Made f) ≡ true
    formula_sound (Or a b) h = let x = both_sound a b h.0 in sound_made s n (Or a b) x.0 refl x.1
    formula_sound (And a b) h = let x = both_sound a b h.0 in sound_made s n (And a b) x.0 refl x.1
    formula_sound (Sub a b) h = let x = both_sound a b h.0 in sound_made s n (Sub a b) x.0 refl x.1
    formula_sound (Xor a b) h = let x = both_sound a b h.0 in sound_made s n (Xor a b) x.0 refl x.1
    formula_sound (Box dim nums) h =
        sound_made s n (Box dim nums)
        (and_both (is_dim dim) (length nums == 2 * nat_abs dim) h.1.0 ((Decides-eqb (length nums) (2 * nat_abs dim)).1 (h.1.2 ∙ ap (λ (m : ℕ). 2 * m) (sym h.1.1))))
        (subst (λ (m : ℕ). box_fits (low_of m nums) (high_of m nums) ≡ true) (sym h.1.1) h.1.3)
        h.1.1
    formula_sound (Shift a nums) h =
        let e = one_sound a n h.0 in
        let r : is_shift (dim_of s a) nums ≡ true = subst (λ (m : ℕ). is_shift m nums ≡ true) e h.1 in
        sound_made s n (Shift a nums) (shift_many (dim_of s a) nums r) r (sym e)
    formula_sound (Mirror a axis) h = let e = one_sound a n h.0 in sound_made s n (Mirror a axis) (subst (λ (m : ℕ). is_axis m axis ≡ true) e h.1) refl (sym e)
    formula_sound (Swap a i j) h =
        let e = one_sound a n h.0 in
        sound_made s n (Swap a i j) (subst (λ (m : ℕ). is_axis m i && is_axis m j ≡ true) e (and_both (is_axis n i) (is_axis n j) h.1.0 h.1.1)) refl (sym e)
    formula_sound (Clip a nums) h =
        let e = one_sound a n h.0 in
        sound_made s n (Clip a nums) ((Decides-eqb (length nums) (2 * dim_of s a)).1 (h.1.0 ∙ ap (λ (m : ℕ). 2 * m) e)) (subst (λ (m : ℕ). box_fits (low_of m nums) (high_of m nums) ≡ true) e h.1.1) (sym e)
    formula_sound (Slice a axis at) h =
        let e = one_sound a (n + 1) h.0 in
        sound_made s n (Slice a axis at)
        (and_both (not (dim_of s a == 2)) (is_axis (dim_of s a) axis) (not_two (dim_of s a) (sym e)) (subst (λ (m : ℕ). is_axis m axis ≡ true) e h.1.0))
        (subst (λ (m : ℕ). is_cell_coord m at ≡ true) e h.1.1) (omega (arith, e))
    formula_sound (Proj a axis) h =
        let e = one_sound a (n + 1) h.0 in
        sound_made s n (Proj a axis)
        (and_both (not (dim_of s a == 2)) (is_axis (dim_of s a) axis) (not_two (dim_of s a) (sym e)) (subst (λ (m : ℕ). is_axis m axis ≡ true) e h.1))
        refl (omega (arith, e))
    formula_sound (Lift a axis lo hi) h =
        let e = one_sound a (n - 1) h.0 in
        let w : n ≡ dim_of s a + 1 = omega (arith, e, up) in
        sound_made s n (Lift a axis lo hi)
        (and_both (not (dim_of s a == 6)) (is_axis (dim_of s a + 1) axis) (not_six (dim_of s a) (sym e)) (subst (λ (m : ℕ). is_axis m axis ≡ true) w h.1.0))
        (subst (λ (m : ℕ). is_range m lo hi ≡ true) w h.1.1) (sym w)

-- ---- what formulas do

-- the dimensions that it asks of its operands
abbrev pub OperationSized : ℕ → Operation → (List ℕ → ℕ) → Type 0
OperationSized n (does.Both op a b) dims = (dims a ≡ n) × (dims b ≡ n)
OperationSized n (does.Shape op a) dims = Fits op (dims a) × (n ≡ op1_dim op (dims a))
OperationSized n (does.Block nums) dims = length nums ≡ 2 * n

-- a clip has a box
clip_box : (n : ℕ) (nums : List ℤ) → length nums ≡ 2 * n → box_fits (low_of n nums) (high_of n nums) ≡ true → is_box n (take n nums) (drop n nums) ≡ true
unfolding box_fits
clip_box n nums l h = subst (λ (m : ℕ). is_box m (take n nums) (drop n nums) ≡ true) (length-take-le n nums (omega (arith, l))) h

-- a prism has its heights
prism_fits : (n : ℕ) (axis lo hi : ℤ) → is_dim (pos n) ≡ true → not (n == 6) ≡ true → is_axis (n + 1) axis ≡ true → is_range (n + 1) lo hi ≡ true → Fits (shapes.Lift (nat_abs axis) lo hi) n
unfolding is_point_coord
prism_fits n axis lo hi named six x h =
    let k : n ≡ 6 → ⊥ = eqb-false n 6 (not_true (n == 6) six) in
    let points : (is_point_coord (n + 1) lo && is_point_coord (n + 1) hi) ≡ true = and_first (is_point_coord (n + 1) lo && is_point_coord (n + 1) hi) (int_lt lo hi) h in (
      omega (arith, dim_high n named, k),
      (axis_fits (n + 1) axis x).0,
      (axis_fits (n + 1) axis x).1,
      le_is (neg_ℤ (pos (limit (n + 1)))) lo (and_first (int_le (neg_ℤ (pos (limit (n + 1)))) lo) (int_le lo (pos (limit (n + 1)))) (and_first (is_point_coord (n + 1) lo) (is_point_coord (n + 1) hi) points)),
      lt_is lo hi (and_second (is_point_coord (n + 1) lo && is_point_coord (n + 1) hi) (int_lt lo hi) h),
      le_is hi (pos (limit (n + 1))) (and_second (int_le (neg_ℤ (pos (limit (n + 1)))) hi) (int_le hi (pos (limit (n + 1)))) (and_second (is_point_coord (n + 1) lo) (is_point_coord (n + 1) hi) points)),
    )

module _ (s : Scene) where
  -- what a formula does fits its operands, where the formula does and its numbers are in their limits
  pub operation_fits : (f : Formula) → ((o : List ℕ) → is_among o (operands f) ≡ true → is_dim (pos (dim_of s o)) ≡ true)
      → formula_fits s f ≡ true → formula_in_range s f ≡ true → OperationSized (formula_dim s f) (operation_of f) (dim_of s)
  operation_fits (Or a b) named h r = (refl, sym ((Decides-eqb (dim_of s a) (dim_of s b)).0 h))
  operation_fits (And a b) named h r = (refl, sym ((Decides-eqb (dim_of s a) (dim_of s b)).0 h))
  operation_fits (Sub a b) named h r = (refl, sym ((Decides-eqb (dim_of s a) (dim_of s b)).0 h))
  operation_fits (Xor a b) named h r = (refl, sym ((Decides-eqb (dim_of s a) (dim_of s b)).0 h))
  operation_fits (Box dim nums) named h r = (Decides-eqb (length nums) (2 * nat_abs dim)).0 (and_second (is_dim dim) (length nums == 2 * nat_abs dim) h)
  operation_fits (Shift a nums) named h r = (r, refl)
  operation_fits (Mirror a axis) named h r = (axis_fits (dim_of s a) axis h, refl)
  operation_fits (Swap a i j) named h r =
      let x = axis_fits (dim_of s a) i (and_first (is_axis (dim_of s a) i) (is_axis (dim_of s a) j) h) in
      let y = axis_fits (dim_of s a) j (and_second (is_axis (dim_of s a) i) (is_axis (dim_of s a) j) h) in
      ((x.0, x.1, y.0, y.1), refl)
  operation_fits (Clip a nums) named h r = let l = (Decides-eqb (length nums) (2 * dim_of s a)).0 h in ((l, clip_box (dim_of s a) nums l r), refl)
  operation_fits (Slice a axis k) named h r =
      let x = axis_fits (dim_of s a) axis (and_second (not (dim_of s a == 2)) (is_axis (dim_of s a) axis) h) in
      ((dim_low (dim_of s a) (named a (among_here a [])), x.0, x.1, r), refl)
  operation_fits (Proj a axis) named h r =
      let x = axis_fits (dim_of s a) axis (and_second (not (dim_of s a == 2)) (is_axis (dim_of s a) axis) h) in
      ((dim_low (dim_of s a) (named a (among_here a [])), x.0, x.1), refl)
  operation_fits (Lift a axis lo hi) named h r = (
    prism_fits (dim_of s a) axis lo hi (named a (among_here a [])) (and_first (not (dim_of s a == 6)) (is_axis (dim_of s a + 1) axis) h) (and_second (not (dim_of s a == 6)) (is_axis (dim_of s a + 1) axis) h) r,
    refl,
  )

-- ---- at a table

-- a name that stands has a dimension that solids have
pub named_dim : (t : Table) → ((x : List ℕ) → NodeSized (node_at t x) (dim_at t)) → (o : List ℕ) → is_some (node_at t o) ≡ true → is_dim (pos (dim_of (scene_of t) o)) ≡ true
named_dim t sized o there = subst (λ (k : ℕ). is_dim (pos k) ≡ true) (sym (dim_is t o)) (by (node_at t o) (sized o) there)
  where
    by : (n : Option Node) → NodeSized n (dim_at t) → is_some n ≡ true → is_dim (pos (node_dim n)) ≡ true
    by None h k = absurd (true≢false (sym k))
    by (Some n) h k = h.0

-- what is made of a formula
module _ (t : Table) (f : Formula) (sized : (x : List ℕ) → NodeSized (node_at t x) (dim_at t)) (present : (o : List ℕ) → is_among o (operands f) ≡ true → is_some (node_at t o) ≡ true)
    (fits : formula_fits (scene_of t) f ≡ true) (range : formula_in_range (scene_of t) f ≡ true) where
  pub operation_at : (op : Operation) → op ≡ operation_of f → OperationSized (formula_dim (scene_of t) f) op (dim_of (scene_of t))
  operation_at op e = subst (λ (o : Operation). OperationSized (formula_dim (scene_of t) f) o (dim_of (scene_of t))) (sym e) (operation_fits (scene_of t) f (λ o m. named_dim t sized o (present o m)) fits range)

-- operands have some dimension
operand_some : (n : ℕ) (f : Formula) → is_dim (pos n) ≡ true → 1 ≤ operand_dim n f
operand_some n (Or a b) h = omega (arith, dim_low n h)
operand_some n (And a b) h = omega (arith, dim_low n h)
operand_some n (Sub a b) h = omega (arith, dim_low n h)
operand_some n (Xor a b) h = omega (arith, dim_low n h)
operand_some n (Box dim nums) h = omega (arith, dim_low n h)
operand_some n (Shift a nums) h = omega (arith, dim_low n h)
operand_some n (Mirror a axis) h = omega (arith, dim_low n h)
operand_some n (Swap a i j) h = omega (arith, dim_low n h)
operand_some n (Clip a nums) h = omega (arith, dim_low n h)
operand_some n (Slice a axis at) h = omega arith
operand_some n (Proj a axis) h = omega arith
operand_some n (Lift a axis lo hi) h = omega (arith, dim_low n h)

-- what the formula of a node does
module _ (t : Table) (sized : (x : List ℕ) → NodeSized (node_at t x) (dim_at t)) (x : List ℕ) (n : Node) (f : Formula) (at : node_at t x ≡ Some n) (formula : n.formula ≡ Some f) where
  own : NodeSized (Some n) (dim_at t)
  own = subst (λ (o : Option Node). NodeSized o (dim_at t)) at (sized x)

  made : FormulaSized n.dim f (dim_at t)
  made = subst (λ (m : Option Formula). MadeSized n.dim m (dim_at t)) formula own.2

  sound : (formula_fits (scene_of t) f && formula_in_range (scene_of t) f && (formula_dim (scene_of t) f == n.dim)) ≡ true
  sound = formula_sound t n.dim own.0 f made

  front : (formula_fits (scene_of t) f && formula_in_range (scene_of t) f) ≡ true
  front = and_first (formula_fits (scene_of t) f && formula_in_range (scene_of t) f) (formula_dim (scene_of t) f == n.dim) sound

  same : formula_dim (scene_of t) f ≡ n.solid.dim
  same = (Decides-eqb (formula_dim (scene_of t) f) n.dim).0 (and_second (formula_fits (scene_of t) f && formula_in_range (scene_of t) f) (formula_dim (scene_of t) f == n.dim) sound) ∙ sym own.1

  stands_by : (o : Option Node) → 1 ≤ node_dim o → is_some o ≡ true
  stands_by None h = absurd (omega (arith, h))
  stands_by (Some m) h = refl

  pub operand_there : (o : List ℕ) → is_among o (operands f) ≡ true → is_some (node_at t o) ≡ true
  operand_there o m = stands_by (node_at t o) (subst (λ (k : ℕ). 1 ≤ k) (sym (made.0 o m)) (operand_some n.dim f own.0))

  pub node_operation : (op : Operation) → op ≡ operation_of f → OperationSized n.solid.dim op (dim_of (scene_of t))
  node_operation op e =
      subst (λ (k : ℕ). OperationSized k op (dim_of (scene_of t))) same
      (operation_at t f sized operand_there (and_first (formula_fits (scene_of t) f) (formula_in_range (scene_of t) f) front) (and_second (formula_fits (scene_of t) f) (formula_in_range (scene_of t) f) front) op e)
