-- Shapes of figures are the shapes of their cells.
use Rattle.std.proofs.Common.{◌≡◌, ◌↔◌, ℕ, Bool, true, false, List, [], ℤ, Some, Result, Ok, Err, IfOk, IsErrOf, refl, sym, ap, ◌∙◌}
use Rattle.evm_delta.specs.declared.shapes.DeltaError.{DeltaError}
use Rattle.evm_delta.specs.declared.shapes.DeltaError.TheVariants as errors
use Rattle.evm_cells.specs.Limits.{IsCellSet}
use Rattle.evm_cells.specs.Vertices.{cells}
use Rattle.evm_cells.specs.Booleans.{xor_cells}
use Rattle.evm_rows.specs.Rows.{Vertices, cells_of}
use Rattle.evm_delta.specs.declared.shapes.Op1.{Op1}
use Rattle.evm_delta.specs.declared.shapes.Op1.TheVariants.{Shift, Mirror, Swap, Clip, Slice, Proj, Lift}
use Rattle.evm_delta.specs.Shapes.{op1_dim, op1_cells, in_range, changed_cells, shape_before, shape_after}
use Rattle.evm_model.specs.Figures.{Figure, shift_of, shift_stays, mirror_of, swap_of, clip_of, slice_of, proj_of, lift_of, lift_stays, xor_of}
use Rattle.evm_formulas.specs.declared.changes.Change.{Change}
use Rattle.evm_formulas.specs.Stated.{figure_of}
use Rattle.evm_formulas.specs.Changes.{after_of, IsChange}
use Rattle.evm_formulas.specs.Operations.{shape_of, shape_stays}
use Rattle.evm_formulas.proofs.Figures.{xor_same}

pub shape_dim : (op : Op1) (a : Figure) → (shape_of op a).dim ≡ op1_dim op a.dim
unfolding shift_of mirror_of swap_of clip_of slice_of proj_of lift_of
shape_dim (Shift by) a = refl
shape_dim (Mirror axis) a = refl
shape_dim (Swap i j) a = refl
shape_dim (Clip nums) a = refl
shape_dim (Slice axis at) a = refl
shape_dim (Proj axis) a = refl
shape_dim (Lift axis lo hi) a = refl

pub shape_cells : (op : Op1) (a : Figure) → (shape_of op a).cells ≡ op1_cells op a.dim a.cells
unfolding shift_of mirror_of swap_of clip_of slice_of proj_of lift_of
shape_cells (Shift by) a = refl
shape_cells (Mirror axis) a = refl
shape_cells (Swap i j) a = refl
shape_cells (Clip nums) a = refl
shape_cells (Slice axis at) a = refl
shape_cells (Proj axis) a = refl
shape_cells (Lift axis lo hi) a = refl

pub stays_is : (op : Op1) (a : Figure) → shape_stays op a ≡ in_range op a.dim a.cells
unfolding shift_stays lift_stays
stays_is (Shift by) a = refl
stays_is (Mirror axis) a = refl
stays_is (Swap i j) a = refl
stays_is (Clip nums) a = refl
stays_is (Slice axis at) a = refl
stays_is (Proj axis) a = refl
stays_is (Lift axis lo hi) a = refl

-- a figure with the dimension and the cells of a shape is the shape
shape_is : (op : Op1) (a f : Figure) → f.dim ≡ op1_dim op a.dim → f.cells ≡ op1_cells op a.dim a.cells → f ≡ shape_of op a
shape_is op a f d c =
    let n : f.dim ≡ (shape_of op a).dim = d ∙ sym (shape_dim op a) in
    let e : f.cells ≡ (shape_of op a).cells = c ∙ sym (shape_cells op a) in
    λ i. record { dim = n i; cells = e i }

-- a solid that is the shape of another
module _ (op : Op1) (own a : Vertices) (is : figure_of own ≡ shape_of op (figure_of a)) where
  pub own_dim : own.dim ≡ op1_dim op a.dim
  own_dim = ap (λ (f : Figure). f.dim) is ∙ shape_dim op (figure_of a)

  pub own_cells : cells_of own ≡ shape_before op a
  own_cells = ap (λ (f : Figure). f.cells) is ∙ shape_cells op (figure_of a)

xor_dim : (f g : Figure) → (xor_of f g).dim ≡ f.dim
unfolding xor_of
xor_dim f g = refl

xor_parts : (f g : Figure) → (xor_of f g).cells ≡ xor_cells f.dim f.cells g.cells
unfolding xor_of
xor_parts f g = refl

-- ---- of borrowed views

module _ (op : Op1) (a va : Vertices) (ea : va ≡ a) where
  pub shape_made : (s : Vertices) → s.dim ≡ op1_dim op va.dim → cells_of s ≡ op1_cells op va.dim (cells_of va) → figure_of s ≡ shape_of op (figure_of a)
  shape_made s d c = shape_is op (figure_of a) (figure_of s) (d ∙ ap (λ (v : Vertices). op1_dim op v.dim) ea) (c ∙ ap (λ (v : Vertices). op1_cells op v.dim (cells_of v)) ea)

  pub stays_made : in_range op va.dim (cells_of va) ≡ shape_stays op (figure_of a)
  stays_made = ap (λ (v : Vertices). in_range op v.dim (cells_of v)) ea ∙ sym (stays_is op (figure_of a))

  module _ (da vda : Vertices) (eda : vda ≡ da) (same : da.dim ≡ a.dim) where
    cells_after : changed_cells va vda ≡ (xor_of (figure_of a) (figure_of da)).cells
    unfolding xor_of
    cells_after = (λ i. changed_cells (ea i) (eda i)) ∙ ap (λ (n : ℕ). xor_cells a.dim (cells_of a) (cells n da.rows)) refl

    dim_after : (xor_of (figure_of a) (figure_of da)).dim ≡ a.dim
    unfolding xor_of
    dim_after = refl

    -- whether the shape after the change stays in the limits
    pub stays_after : in_range op va.dim (changed_cells va vda) ≡ shape_stays op (xor_of (figure_of a) (figure_of da))
    stays_after =
        (λ i. in_range op (ea i).dim (cells_after i))
        ∙ ap (λ (n : ℕ). in_range op n (xor_of (figure_of a) (figure_of da)).cells) (sym dim_after)
        ∙ sym (stays_is op (xor_of (figure_of a) (figure_of da)))

    -- the change takes the shape before to the shape after
    pub shape_carries : (d : Vertices) → d.dim ≡ op1_dim op va.dim → xor_cells d.dim (shape_before op va) (cells_of d) ≡ shape_after op va vda
        → xor_of (shape_of op (figure_of a)) (figure_of d) ≡ shape_of op (xor_of (figure_of a) (figure_of da))
    shape_carries d n e =
        shape_is op (xor_of (figure_of a) (figure_of da)) (xor_of (shape_of op (figure_of a)) (figure_of d)) dim_carried cells_carried
      where
        dim_carried : (xor_of (shape_of op (figure_of a)) (figure_of d)).dim ≡ op1_dim op (xor_of (figure_of a) (figure_of da)).dim
        dim_carried = xor_dim (shape_of op (figure_of a)) (figure_of d) ∙ shape_dim op (figure_of a) ∙ ap (op1_dim op) (sym dim_after)

        cells_carried : (xor_of (shape_of op (figure_of a)) (figure_of d)).cells ≡ op1_cells op (xor_of (figure_of a) (figure_of da)).dim (xor_of (figure_of a) (figure_of da)).cells
        cells_carried =
            xor_parts (shape_of op (figure_of a)) (figure_of d)
            ∙ ap (λ (m : ℕ). xor_cells m (shape_of op (figure_of a)).cells (cells_of d)) (shape_dim op (figure_of a) ∙ sym (n ∙ ap (λ (v : Vertices). op1_dim op v.dim) ea))
            ∙ ap (λ (S : List (List ℤ)). xor_cells d.dim S (cells_of d)) (shape_cells op (figure_of a) ∙ sym (ap (λ (v : Vertices). shape_before op v) ea))
            ∙ e
            ∙ (λ i. op1_cells op (ea i).dim (cells_after i))
            ∙ ap (λ (m : ℕ). op1_cells op m (xor_of (figure_of a) (figure_of da)).cells) (sym dim_after)

-- what a call answers
pub range_by : (P : Type 0) (x y : Bool) → x ≡ y → P ↔ (x ≡ false) → P ↔ (y ≡ false)
range_by P x y e h = (λ p. sym e ∙ h.0 p, λ q. h.1 (e ∙ q))

pub stays_by : {A : Type 0} (r : Result A DeltaError) (x y : Bool) → x ≡ y → IsErrOf r errors.Range ↔ (x ≡ false) → IfOk r (λ _. y ≡ true)
stays_by (Ok a) true y e h = sym e
stays_by (Ok a) false y e h = absurd (let clash = h.1 refl in cc)
stays_by (Err d) x y e h = tt

pub range_only : (P : Type 0) (x y : Bool) → x ≡ y → P ↔ (x ≡ false) → P → y ≡ false
range_only P x y e h p = sym e ∙ h.0 p

-- a change of the operand that does not change the shape
pub still_shape : (op : Op1) (own a : Figure) (c : Change) (d : Vertices) → IsCellSet own.dim own.cells → own ≡ shape_of op a → IsChange (Some c) a
    → xor_of (shape_of op a) (figure_of d) ≡ shape_of op (xor_of a (figure_of c.delta)) → cells d.dim d.rows ≡ [] → own ≡ shape_of op (after_of (Some c) a)
still_shape op own a c d set value change carries none =
    sym (xor_same own (figure_of d) none set) ∙ ap (λ (f : Figure). xor_of f (figure_of d)) value ∙ carries ∙ ap (shape_of op) (sym change.2)
