-- The shapes of an exclusive or are the exclusive or of the shapes.
use Rattle.std.proofs.Common.{◌≡◌, ℕ, ◌+◌, ◌-◌, Bool, true, false, ◌&&◌, ◌==◌, List, length, map, filter, get_or, ℤ, pos, int_le, int_lt, refl, sym, ap, ap₂, ◌∙◌, eqb-true, eq-eqb}
use Rattle.std.specs.Prelude.{swap}
use Rattle.std.specs.List.{list_all}
use Rattle.evm_cells.specs.Places.{has, without, with_at}
use Rattle.evm_cells.specs.Limits.{every_cell, is_cell, IsCellSet}
use Rattle.evm_cells.specs.Booleans.{xor, combine, xor_cells, and_cells}
use Rattle.evm_cells.specs.Boxes.{box_cells}
use Rattle.evm_cells.specs.Sections.{slice}
use Rattle.evm_cells.specs.Shapes.{added, is_shift, shift, mirrored, mirror, swap_axes, clip, lift}
use Rattle.evm_cells.proofs.Xor.{xor-and, and_first}
use Rattle.evm_cells.proofs.Lists.{all_weaker}
use Rattle.evm_cells.proofs.Universe.{same_sets, cell_parts, has-cells, has-filter}
use Rattle.evm_cells.proofs.Combine.{cell_set-filter, cell_set-combine, cell_set-xor, has-xor_cells}
use Rattle.evm_cells.proofs.Slices.{cell_set-slice}
use Rattle.evm_cells.proofs.Moves.{negs, has-added, cell_set-shift, cell_set-mirror, cell_set-swap}
use Rattle.evm_cells.proofs.Lifts.{cell_set-lift, cell_set-proj}
use Rattle.evm_delta.specs.declared.shapes.Op1.{Op1}
use Rattle.evm_delta.specs.declared.shapes.Op1.TheVariants.{Shift, Mirror, Swap, Clip, Slice, Proj, Lift}
use Rattle.evm_delta.specs.Shapes.{Fits, op1_dim, op1_cells}

at_cells : (b u s t : Bool) → u ≡ xor s t → (b && u) ≡ xor (b && s) (b && t)
unfolding xor
at_cells true u s t f = f
at_cells false u s t f = refl

-- cells that pass a test which is the exclusive or of two
where_xor : (n : ℕ) (s t u : List ℤ → Bool) → ((c : List ℤ) → u c ≡ xor (s c) (t c)) → filter u (every_cell n) ≡ xor_cells n (filter s (every_cell n)) (filter t (every_cell n))
where_xor n s t u e =
    let S : List (List ℤ) = filter s (every_cell n) in
    let T : List (List ℤ) = filter t (every_cell n) in
    let a : IsCellSet n (filter u (every_cell n)) = cell_set-filter n u in
    let x : IsCellSet n (xor_cells n S T) = cell_set-xor n S T in
    same_sets (filter u (every_cell n)) (xor_cells n S T) a.ascends x.ascends
    (λ c. has-cells n u c ∙ at_cells (is_cell n c) (u c) (s c) (t c) (e c)
    ∙ sym (has-xor_cells n S T c (cell_set-filter n s) (cell_set-filter n t) ∙ ap₂ xor (has-cells n s c) (has-cells n t c)))

mirror_xor : (n i : ℕ) (S T : List (List ℤ)) → IsCellSet n S → IsCellSet n T → mirror n i (xor_cells n S T) ≡ xor_cells n (mirror n i S) (mirror n i T)
unfolding mirror
mirror_xor n i S T s t =
    where_xor n (λ c. has S (mirrored i c)) (λ c. has T (mirrored i c)) (λ c. has (xor_cells n S T) (mirrored i c)) (λ c. has-xor_cells n S T (mirrored i c) s t)

swap_xor : (n i j : ℕ) (S T : List (List ℤ)) → IsCellSet n S → IsCellSet n T → swap_axes n i j (xor_cells n S T) ≡ xor_cells n (swap_axes n i j S) (swap_axes n i j T)
unfolding swap_axes
swap_xor n i j S T s t =
    where_xor n (λ c. has S (swap c i j)) (λ c. has T (swap c i j)) (λ c. has (xor_cells n S T) (swap c i j)) (λ c. has-xor_cells n S T (swap c i j) s t)

clip_xor : (n : ℕ) (lo hi : List ℤ) (S T : List (List ℤ)) → IsCellSet n S → IsCellSet n T → clip n lo hi (xor_cells n S T) ≡ xor_cells n (clip n lo hi S) (clip n lo hi T)
unfolding clip and_cells combine
clip_xor n lo hi S T s t =
    let B : List (List ℤ) = box_cells n lo hi in
    where_xor n (λ c. has S c && has B c) (λ c. has T c && has B c) (λ c. has (xor_cells n S T) c && has B c)
    (λ c. ap (λ b. b && has B c) (has-xor_cells n S T c s t) ∙ xor-and (has S c) (has T c) (has B c))

slice_xor : (m n i : ℕ) (k : ℤ) (S T : List (List ℤ)) → IsCellSet m S → IsCellSet m T → slice n i k (xor_cells m S T) ≡ xor_cells n (slice n i k S) (slice n i k T)
unfolding slice
slice_xor m n i k S T s t =
    where_xor n (λ c. has S (with_at i k c)) (λ c. has T (with_at i k c)) (λ c. has (xor_cells m S T) (with_at i k c)) (λ c. has-xor_cells m S T (with_at i k c) s t)

lift_xor : (m n i : ℕ) (lo hi : ℤ) (S T : List (List ℤ)) → IsCellSet m S → IsCellSet m T → lift n i lo hi (xor_cells m S T) ≡ xor_cells n (lift n i lo hi S) (lift n i lo hi T)
unfolding lift
lift_xor m n i lo hi S T s t =
    let within : List ℤ → Bool = λ c. int_le lo (get_or c i (pos 0)) && int_lt (get_or c i (pos 0)) hi in
    where_xor n (λ c. has S (without i c) && within c) (λ c. has T (without i c) && within c) (λ c. has (xor_cells m S T) (without i c) && within c)
    (λ c. ap (λ b. b && within c) (has-xor_cells m S T (without i c) s t) ∙ xor-and (has S (without i c)) (has T (without i c)) (within c))

-- a shift as the cells that come from a cell
shift_where : (n : ℕ) (d : List ℤ) (S : List (List ℤ)) → length d ≡ n → IsCellSet n S → shift n d S ≡ filter (λ c. has S (added (negs d) c)) (every_cell n)
unfolding shift
shift_where n d S l s =
    let a : IsCellSet n (filter (is_cell n) (map (added d) S)) = cell_set-shift n d S l s in
    let b : IsCellSet n (filter (λ c. has S (added (negs d) c)) (every_cell n)) = cell_set-filter n (λ c. has S (added (negs d) c)) in
    same_sets (filter (is_cell n) (map (added d) S)) (filter (λ c. has S (added (negs d) c)) (every_cell n)) a.ascends b.ascends
    (λ c. has-filter (is_cell n) (map (added d) S) c
    ∙ step (is_cell n c) (has (map (added d) S) c) (has S (added (negs d) c)) (λ h. let (e, w) = cell_parts n c h in has-added n d S c l lengths s.ascends e)
    ∙ sym (has-cells n (λ z. has S (added (negs d) z)) c))
  where
    lengths : list_all (λ q. length q == n) S ≡ true
    lengths = all_weaker (is_cell n) (λ q. length q == n) (λ q k. let (f, b) = cell_parts n q k in eq-eqb (length q) n f) S s.cells

    step : (b x y : Bool) → (b ≡ true → x ≡ y) → (x && b) ≡ (b && y)
    step true true y f = f refl
    step true false y f = f refl
    step false true y f = refl
    step false false y f = refl

shift_xor : (n : ℕ) (d : List ℤ) (S T : List (List ℤ)) → length d ≡ n → IsCellSet n S → IsCellSet n T → shift n d (xor_cells n S T) ≡ xor_cells n (shift n d S) (shift n d T)
shift_xor n d S T l s t =
    shift_where n d (xor_cells n S T) l (cell_set-xor n S T)
    ∙ where_xor n (λ c. has S (added (negs d) c)) (λ c. has T (added (negs d) c)) (λ c. has (xor_cells n S T) (added (negs d) c)) (λ c. has-xor_cells n S T (added (negs d) c) s t)
    ∙ sym (ap₂ (xor_cells n) (shift_where n d S l s) (shift_where n d T l t))

-- a shift has as many numbers as the dimension
pub shift_length : (n : ℕ) (d : List ℤ) → is_shift n d ≡ true → length d ≡ n
unfolding is_shift
shift_length n d h = eqb-true (length d) n (and_first (length d == n) _ h)

-- ---- the shape of any name

pub cell_set-clip : (n : ℕ) (lo hi : List ℤ) (S : List (List ℤ)) → IsCellSet n (clip n lo hi S)
unfolding clip and_cells
cell_set-clip n lo hi S = cell_set-combine (λ a b. a && b) n S (box_cells n lo hi)

pub cell_set-op1 : (op : Op1) (n : ℕ) (S : List (List ℤ)) → Fits op n → IsCellSet n S → IsCellSet (op1_dim op n) (op1_cells op n S)
cell_set-op1 (Shift by) n S f s = cell_set-shift n by S (shift_length n by f) s
cell_set-op1 (Mirror axis) n S f s = cell_set-mirror n (axis - 1) S
cell_set-op1 (Swap i j) n S f s = cell_set-swap n (i - 1) (j - 1) S
cell_set-op1 (Clip nums) n S f s = cell_set-clip n _ _ S
cell_set-op1 (Slice axis at) n S f s = cell_set-slice (n - 1) (axis - 1) at S
cell_set-op1 (Proj axis) n S f s = cell_set-proj (n - 1) (axis - 1) S
cell_set-op1 (Lift axis lo hi) n S f s = cell_set-lift (n + 1) (axis - 1) lo hi S

-- every shape but the projection
pub op1_xor : (op : Op1) (n : ℕ) (S T : List (List ℤ)) → ((axis : ℕ) → op ≡ Proj axis → ⊥) → Fits op n → IsCellSet n S → IsCellSet n T
    → op1_cells op n (xor_cells n S T) ≡ xor_cells (op1_dim op n) (op1_cells op n S) (op1_cells op n T)
op1_xor (Shift by) n S T other f s t = shift_xor n by S T (shift_length n by f) s t
op1_xor (Mirror axis) n S T other f s t = mirror_xor n (axis - 1) S T s t
op1_xor (Swap i j) n S T other f s t = swap_xor n (i - 1) (j - 1) S T s t
op1_xor (Clip nums) n S T other f s t = clip_xor n _ _ S T s t
op1_xor (Slice axis at) n S T other f s t = slice_xor n (n - 1) (axis - 1) at S T s t
op1_xor (Proj axis) n S T other f s t = absurd (other axis refl)
op1_xor (Lift axis lo hi) n S T other f s t = lift_xor n (n + 1) (axis - 1) lo hi S T s t
