-- The change of a shape: what it is made of, and what it carries.
use Rattle.std.proofs.Common.{◌≡◌, ℕ, ◌+◌, ◌-◌, Bool, true, false, List, [], ℤ, ◌-ℤ◌, nat_abs, refl, sym, ap, ap₂, ◌∙◌}
use Rattle.std.specs.List.{list_all}
use Rattle.std.proofs.lemmas.Bool.{true≢false}
use Rattle.evm_cells.specs.Places.{same, before, has, with_at}
use Rattle.evm_cells.specs.Limits.{is_cell, ints, IsCellSet}
use Rattle.evm_cells.specs.Booleans.{xor, xor_cells}
use Rattle.evm_cells.specs.Shapes.{added, shift_fits, lift_fits}
use Rattle.evm_cells.specs.Vertices.{evm, cells}
use Rattle.evm_cells.proofs.Xor.{xor-false, xor_self}
use Rattle.evm_cells.proofs.Order.{same_tests}
use Rattle.evm_cells.proofs.Lists.{all_members}
use Rattle.evm_cells.proofs.Places.{strict_places, has-any}
use Rattle.evm_cells.proofs.Universe.{same_sets, member_passes, cell_set-cells}
use Rattle.evm_cells.proofs.Combine.{cell_set-xor, has-xor_cells}
use Rattle.evm_cells.proofs.Core.{cells-evm}
use Rattle.evm_cells.proofs.Layers.{cells-empty, evm-empty}
use Rattle.evm_rows.specs.Rows.{Vertices, cells_of}
use Rattle.evm_delta.specs.declared.shapes.Op1.{Op1}
use Rattle.evm_delta.specs.declared.shapes.Op1.TheVariants.{Shift, Mirror, Swap, Clip, Slice, Proj, Lift}
use Rattle.evm_delta.specs.Shapes.{Fits, op1_dim, op1_cells, in_range, shape_vertices, shape_before, shape_after, changed_cells, shape_change}
use Rattle.evm_delta.proofs.Deltas.{has-none, carries_over}
use Rattle.evm_delta.proofs.ShapeLaws.{cell_set-op1, op1_xor}

-- the shape carries the change over
change_of : (op : Op1) (n : ℕ) (S T : List (List ℤ)) → ((axis : ℕ) → op ≡ Proj axis → ⊥) → Fits op n → IsCellSet n S → IsCellSet n T
    → op1_cells op n T ≡ xor_cells (op1_dim op n) (op1_cells op n S) (op1_cells op n (xor_cells n S T))
change_of op n S T other f s t =
    let m : ℕ = op1_dim op n in
    sym (ap (xor_cells m (op1_cells op n S)) (op1_xor op n S T other f s t)
    ∙ carries_over m (op1_cells op n S) (op1_cells op n T) (cell_set-op1 op n S f s) (cell_set-op1 op n T f t))

pub carried_is : (op : Op1) (a da s : Vertices) → ((axis : ℕ) → op ≡ Proj axis → ⊥) → da.dim ≡ a.dim → Fits op a.dim → s ≡ shape_vertices op da → s ≡ shape_change op a da
unfolding shape_vertices shape_change
carried_is op a da s other same_dim f e =
    let n : ℕ = a.dim in
    let dim : s.dim ≡ op1_dim op n = ap (λ (v : Vertices). v.dim) e ∙ ap (op1_dim op) same_dim in
    let rows : s.rows ≡ evm (op1_dim op n) (xor_cells (op1_dim op n) (shape_before op a) (shape_after op a da)) =
    ap (λ (v : Vertices). v.rows) e
    ∙ ap (λ (m : ℕ). evm (op1_dim op m) (op1_cells op m (cells m da.rows))) same_dim
    ∙ ap (evm (op1_dim op n)) (change_of op n (cells_of a) (cells n da.rows) other f (cell_set-cells n a.rows) (cell_set-cells n da.rows)
    ∙ ap (λ (m : ℕ). xor_cells (op1_dim op n) (shape_before op a) (op1_cells op n (xor_cells n (cells_of a) (cells m da.rows)))) (sym same_dim)) in
    λ i. record { dim = dim i; rows = rows i }

-- ---- nothing changes

xor_itself : (n : ℕ) (S : List (List ℤ)) → IsCellSet n S → xor_cells n S S ≡ []
xor_itself n S s =
    let x : IsCellSet n (xor_cells n S S) = cell_set-xor n S S in
    let y : IsCellSet n (cells n []) = cell_set-cells n [] in
    same_sets (xor_cells n S S) (cells n []) x.ascends y.ascends
    (λ c. has-xor_cells n S S c s s ∙ xor_self (has S c) ∙ sym (has-none n c)) ∙ cells-empty n

xor_nothing : (n : ℕ) (S : List (List ℤ)) → IsCellSet n S → xor_cells n S [] ≡ S
xor_nothing n S s =
    let x : IsCellSet n (xor_cells n S (cells n [])) = cell_set-xor n S (cells n []) in
    ap (xor_cells n S) (sym (cells-empty n))
    ∙ same_sets (xor_cells n S (cells n [])) S x.ascends s.ascends
    (λ c. has-xor_cells n S (cells n []) c s (cell_set-cells n []) ∙ ap (xor (has S c)) (has-none n c) ∙ xor-false (has S c))

-- the cells stay where nothing changes
pub stays : (a da : Vertices) → da.rows ≡ [] → changed_cells a da ≡ cells_of a
stays a da none =
    ap (xor_cells a.dim (cells_of a)) (ap (cells da.dim) none ∙ cells-empty da.dim)
    ∙ xor_nothing a.dim (cells_of a) (cell_set-cells a.dim a.rows)

pub nothing_is : (op : Op1) (a da s : Vertices) → Fits op a.dim → da.rows ≡ [] → s.dim ≡ op1_dim op a.dim → s.rows ≡ [] → s ≡ shape_change op a da
unfolding shape_change
nothing_is op a da s f none dim r =
    let m : ℕ = op1_dim op a.dim in
    let X : List (List ℤ) = shape_before op a in
    let rows : s.rows ≡ evm m (xor_cells m X (shape_after op a da)) =
    r ∙ sym (ap (λ S. evm m (xor_cells m X (op1_cells op a.dim S))) (stays a da none)
    ∙ ap (evm m) (xor_itself m X (cell_set-op1 op a.dim (cells_of a) f (cell_set-cells a.dim a.rows))) ∙ evm-empty m) in
    λ i. record { dim = dim i; rows = rows i }

-- ---- what the vertices of the change say of its cells

pub shape_change_dim : (op : Op1) (a da s : Vertices) → s ≡ shape_change op a da → s.dim ≡ op1_dim op a.dim
unfolding shape_change
shape_change_dim op a da s e = ap (λ (v : Vertices). v.dim) e

pub shape_change_cells : (op : Op1) (a da s : Vertices) → s ≡ shape_change op a da → cells_of s ≡ xor_cells s.dim (shape_before op a) (shape_after op a da)
unfolding shape_change
shape_change_cells op a da s e =
    let m : ℕ = op1_dim op a.dim in
    ap cells_of e ∙ cells-evm m (xor_cells m (shape_before op a) (shape_after op a da)) (cell_set-xor m (shape_before op a) (shape_after op a da))
    ∙ ap (λ (v : Vertices). xor_cells v.dim (shape_before op a) (shape_after op a da)) (sym e)

pub shape_change_carries : (op : Op1) (a da s : Vertices) → Fits op a.dim → s ≡ shape_change op a da → xor_cells s.dim (shape_before op a) (cells_of s) ≡ shape_after op a da
shape_change_carries op a da s f e =
    let d : s.dim ≡ op1_dim op a.dim = shape_change_dim op a da s e in
    ap (xor_cells s.dim (shape_before op a)) (shape_change_cells op a da s e)
    ∙ ap (λ (m : ℕ). xor_cells m (shape_before op a) (xor_cells m (shape_before op a) (shape_after op a da))) d
    ∙ carries_over (op1_dim op a.dim) (shape_before op a) (shape_after op a da) (cell_set-op1 op a.dim (cells_of a) f (cell_set-cells a.dim a.rows)) (cell_set-op1 op a.dim (changed_cells a da) f (cell_set-xor a.dim (cells_of a) (cells_of da)))

-- ---- range

-- where all of S pass, all of S xor T pass exactly where all of T do
all_range : (n : ℕ) (passes : List ℤ → Bool) (S T : List (List ℤ)) → IsCellSet n S → IsCellSet n T → list_all passes S ≡ true → list_all passes T ≡ list_all passes (xor_cells n S T)
unfolding xor
all_range n passes S T s t fits =
    same_tests (list_all passes T) (list_all passes (xor_cells n S T))
    (λ h. all_members same before strict_places passes (xor_cells n S T)
    (λ c m. by_place c (has S c) refl (λ e. member_passes passes T c h (other (has S c) (has T c) e (sym (has-xor_cells n S T c s t) ∙ has-any (xor_cells n S T) c ∙ m)))))
    (λ h. all_members same before strict_places passes T
    (λ c m. by_place c (has S c) refl (λ e. member_passes passes (xor_cells n S T) c h (has-xor_cells n S T c s t ∙ ap₂ xor e (has-any T c ∙ m)))))
  where
    other : (x y : Bool) → x ≡ false → xor x y ≡ true → y ≡ true
    other true y e h = absurd (true≢false e)
    other false y e h = h

    by_place : (c : List ℤ) (b : Bool) → has S c ≡ b → (has S c ≡ false → passes c ≡ true) → passes c ≡ true
    by_place c true e f = member_passes passes S c fits e
    by_place c false e f = f e

shift_range : (n : ℕ) (d : List ℤ) (S T : List (List ℤ)) → IsCellSet n S → IsCellSet n T → shift_fits n d S ≡ true → shift_fits n d T ≡ shift_fits n d (xor_cells n S T)
unfolding shift_fits
shift_range n d S T s t fits = all_range n (λ c. is_cell n (added d c)) S T s t fits

lift_range : (n i : ℕ) (lo hi : ℤ) (S T : List (List ℤ)) → IsCellSet n S → IsCellSet n T → lift_fits (n + 1) i lo hi S ≡ true
    → lift_fits (n + 1) i lo hi T ≡ lift_fits (n + 1) i lo hi (xor_cells n S T)
unfolding lift_fits
lift_range n i lo hi S T s t fits = all_range n (λ c. list_all (λ k. is_cell (n + 1) (with_at i k c)) (ints lo (nat_abs (hi -ℤ lo)))) S T s t fits

pub range_is : (op : Op1) (a da : Vertices) → da.dim ≡ a.dim → in_range op a.dim (cells_of a) ≡ true → in_range op da.dim (cells_of da) ≡ in_range op a.dim (changed_cells a da)
range_is (Shift by) a da same_dim fits =
    ap (λ (m : ℕ). shift_fits m by (cells m da.rows)) same_dim
    ∙ shift_range a.dim by (cells_of a) (cells a.dim da.rows) (cell_set-cells a.dim a.rows) (cell_set-cells a.dim da.rows) fits
    ∙ ap (λ (m : ℕ). shift_fits a.dim by (xor_cells a.dim (cells_of a) (cells m da.rows))) (sym same_dim)
range_is (Mirror axis) a da same_dim fits = refl
range_is (Swap i j) a da same_dim fits = refl
range_is (Clip nums) a da same_dim fits = refl
range_is (Slice axis at) a da same_dim fits = refl
range_is (Proj axis) a da same_dim fits = refl
range_is (Lift axis lo hi) a da same_dim fits =
    ap (λ (m : ℕ). lift_fits (m + 1) (axis - 1) lo hi (cells m da.rows)) same_dim
    ∙ lift_range a.dim (axis - 1) lo hi (cells_of a) (cells a.dim da.rows) (cell_set-cells a.dim a.rows) (cell_set-cells a.dim da.rows) fits
    ∙ ap (λ (m : ℕ). lift_fits (a.dim + 1) (axis - 1) lo hi (xor_cells a.dim (cells_of a) (cells m da.rows))) (sym same_dim)
