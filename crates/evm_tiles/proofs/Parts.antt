-- The exclusive or of parts, and what is inside a box.
use Rattle.evm_cells.proofs.Insides.{clip_of_xor}
use Rattle.evm_cells.proofs.Insides.{cell_set-clip}
use Rattle.evm_cells.specs.Windows.{is_under, is_over}
use Rattle.std.proofs.Common.{◌≡◌, ℕ, ◌<◌, ◌≤ℤ◌, Bool, true, false, List, [], length, ℤ, refl, sym, ap, ap₂, ◌∙◌, subst}
use Rattle.std.specs.List.{list_all}
use Rattle.std.proofs.lemmas.Bool.{true≢false}
use Rattle.evm_cells.specs.Places.{same, before, has}
use Rattle.evm_cells.specs.Limits.{IsCellSet}
use Rattle.evm_cells.specs.Booleans.{xor, xor_cells}
use Rattle.evm_cells.specs.Shapes.{clip}
use Rattle.evm_cells.specs.Vertices.{cells}
use Rattle.evm_cells.proofs.Xor.{xor-false, false-xor, xor_assoc, xor_comm, xor_swap}
use Rattle.evm_cells.proofs.Lists.{all_members}
use Rattle.evm_cells.proofs.Places.{strict_places, has-any}
use Rattle.evm_cells.proofs.Universe.{same_sets, cell_set-cells, member_passes}
use Rattle.evm_cells.proofs.Combine.{cell_set-xor, has-xor_cells}
use Rattle.evm_cells.proofs.Layers.{cells-empty}
use Rattle.evm_cells.proofs.Slices.{coord}
use Rattle.evm_rows.specs.Rows.{Vertices, cells_of}
use Rattle.evm_shapes.proofs.Missed.{over_none, under_none}
use Rattle.evm_cutting.specs.Cuts.{cells_under, cells_over}
use Rattle.evm_cutting.specs.Splits.{IsSplitAt}
use Rattle.evm_cutting.specs.declared.halves.Split.{Split}

-- a change of the first of two parts
pub change_first : (n : ℕ) (A B D : List (List ℤ)) → IsCellSet n A → IsCellSet n B → IsCellSet n D → xor_cells n (xor_cells n A D) B ≡ xor_cells n (xor_cells n A B) D
change_first n A B D a b d =
    let p : IsCellSet n (xor_cells n A D) = cell_set-xor n A D in
    let q : IsCellSet n (xor_cells n A B) = cell_set-xor n A B in
    let x : IsCellSet n (xor_cells n (xor_cells n A D) B) = cell_set-xor n (xor_cells n A D) B in
    let y : IsCellSet n (xor_cells n (xor_cells n A B) D) = cell_set-xor n (xor_cells n A B) D in
    same_sets (xor_cells n (xor_cells n A D) B) (xor_cells n (xor_cells n A B) D) x.ascends y.ascends
    (λ c. has-xor_cells n (xor_cells n A D) B c p b ∙ ap (λ t. xor t (has B c)) (has-xor_cells n A D c a d)
    ∙ xor_assoc (has A c) (has D c) (has B c) ∙ ap (xor (has A c)) (xor_comm (has D c) (has B c)) ∙ sym (xor_assoc (has A c) (has B c) (has D c))
    ∙ sym (has-xor_cells n (xor_cells n A B) D c q d ∙ ap (λ t. xor t (has D c)) (has-xor_cells n A B c a b)))

-- of the second
pub change_second : (n : ℕ) (A B D : List (List ℤ)) → IsCellSet n A → IsCellSet n B → IsCellSet n D → xor_cells n A (xor_cells n B D) ≡ xor_cells n (xor_cells n A B) D
change_second n A B D a b d =
    let p : IsCellSet n (xor_cells n B D) = cell_set-xor n B D in
    let q : IsCellSet n (xor_cells n A B) = cell_set-xor n A B in
    let x : IsCellSet n (xor_cells n A (xor_cells n B D)) = cell_set-xor n A (xor_cells n B D) in
    let y : IsCellSet n (xor_cells n (xor_cells n A B) D) = cell_set-xor n (xor_cells n A B) D in
    same_sets (xor_cells n A (xor_cells n B D)) (xor_cells n (xor_cells n A B) D) x.ascends y.ascends
    (λ c. has-xor_cells n A (xor_cells n B D) c a p ∙ ap (xor (has A c)) (has-xor_cells n B D c b d)
    ∙ sym (xor_assoc (has A c) (has B c) (has D c))
    ∙ sym (has-xor_cells n (xor_cells n A B) D c q d ∙ ap (λ t. xor t (has D c)) (has-xor_cells n A B c a b)))

-- of both
pub change_both : (n : ℕ) (A B D E : List (List ℤ)) → IsCellSet n A → IsCellSet n B → IsCellSet n D → IsCellSet n E → xor_cells n (xor_cells n A D) (xor_cells n B E) ≡ xor_cells n (xor_cells n A B) (xor_cells n D E)
change_both n A B D E a b d e =
    let p : IsCellSet n (xor_cells n A D) = cell_set-xor n A D in
    let q : IsCellSet n (xor_cells n B E) = cell_set-xor n B E in
    let r : IsCellSet n (xor_cells n A B) = cell_set-xor n A B in
    let s : IsCellSet n (xor_cells n D E) = cell_set-xor n D E in
    let x : IsCellSet n (xor_cells n (xor_cells n A D) (xor_cells n B E)) = cell_set-xor n (xor_cells n A D) (xor_cells n B E) in
    let y : IsCellSet n (xor_cells n (xor_cells n A B) (xor_cells n D E)) = cell_set-xor n (xor_cells n A B) (xor_cells n D E) in
    same_sets (xor_cells n (xor_cells n A D) (xor_cells n B E)) (xor_cells n (xor_cells n A B) (xor_cells n D E)) x.ascends y.ascends
    (λ c. has-xor_cells n (xor_cells n A D) (xor_cells n B E) c p q ∙ ap₂ xor (has-xor_cells n A D c a d) (has-xor_cells n B E c b e)
    ∙ xor_swap (has A c) (has D c) (has B c) (has E c)
    ∙ sym (has-xor_cells n (xor_cells n A B) (xor_cells n D E) c r s ∙ ap₂ xor (has-xor_cells n A B c a b) (has-xor_cells n D E c d e)))

-- what holds of all cells of two sets holds of those of their exclusive or
pub all-xor : (n : ℕ) (t : List ℤ → Bool) (A B : List (List ℤ)) → IsCellSet n A → IsCellSet n B → list_all t A ≡ true → list_all t B ≡ true → list_all t (xor_cells n A B) ≡ true
unfolding xor
all-xor n t A B a b h k =
    all_members same before strict_places t (xor_cells n A B)
    (λ c m. at c (has A c) (has B c) refl refl (sym (has-xor_cells n A B c a b) ∙ has-any (xor_cells n A B) c ∙ m))
  where
    at : (c : List ℤ) (x y : Bool) → has A c ≡ x → has B c ≡ y → xor (has A c) (has B c) ≡ true → t c ≡ true
    at c true y e f m = member_passes t A c h e
    at c false true e f m = member_passes t B c k f
    at c false false e f m = absurd (true≢false (sym m ∙ ap₂ xor e f))

-- ---- boxes

pub xor_right_none : (n : ℕ) (S : List (List ℤ)) → IsCellSet n S → xor_cells n S [] ≡ S
unfolding has
xor_right_none n S s =
    let x : IsCellSet n (xor_cells n S (cells n [])) = cell_set-xor n S (cells n []) in
    ap (xor_cells n S) (sym (cells-empty n))
    ∙ same_sets (xor_cells n S (cells n [])) S x.ascends s.ascends
    (λ c. has-xor_cells n S (cells n []) c s (cell_set-cells n []) ∙ ap (xor (has S c)) (ap (λ (T : List (List ℤ)). has T c) (cells-empty n)) ∙ xor-false (has S c))

xor_left_none : (n : ℕ) (S : List (List ℤ)) → IsCellSet n S → xor_cells n [] S ≡ S
unfolding has
xor_left_none n S s =
    let x : IsCellSet n (xor_cells n (cells n []) S) = cell_set-xor n (cells n []) S in
    ap (λ T. xor_cells n T S) (sym (cells-empty n))
    ∙ same_sets (xor_cells n (cells n []) S) S x.ascends s.ascends
    (λ c. has-xor_cells n (cells n []) S c (cell_set-cells n []) s ∙ ap (λ t. xor t (has S c)) (ap (λ (T : List (List ℤ)). has T c) (cells-empty n)) ∙ false-xor (has S c))

pub xor_other : (n : ℕ) (A B : List (List ℤ)) → IsCellSet n A → IsCellSet n B → xor_cells n A B ≡ xor_cells n B A
xor_other n A B a b =
    sym (ap (λ X. xor_cells n X B) (xor_left_none n A a))
    ∙ change_first n [] B A (subst (IsCellSet n) (cells-empty n) (cell_set-cells n [])) b a
    ∙ ap (λ X. xor_cells n X A) (xor_left_none n B b)

-- the three ways that a box stands to a plane
pub window_below : (n i : ℕ) (at : ℤ) (lo hi : List ℤ) (A B : List (List ℤ)) → i < n → IsCellSet n A → IsCellSet n B → list_all (is_over i at) B ≡ true → coord i hi ≤ℤ at → clip n lo hi A ≡ clip n lo hi (xor_cells n A B)
window_below n i at lo hi A B l a b h e =
    sym (clip_of_xor n lo hi A B a b ∙ ap (xor_cells n (clip n lo hi A)) (over_none n i at lo hi B l b h e) ∙ xor_right_none n (clip n lo hi A) (cell_set-clip n lo hi A))

pub window_above : (n i : ℕ) (at : ℤ) (lo hi : List ℤ) (A B : List (List ℤ)) → i < n → length lo ≡ n → IsCellSet n A → IsCellSet n B → list_all (is_under i at) A ≡ true → at ≤ℤ coord i lo → clip n lo hi B ≡ clip n lo hi (xor_cells n A B)
window_above n i at lo hi A B l f a b h e =
    sym (clip_of_xor n lo hi A B a b ∙ ap (λ T. xor_cells n T (clip n lo hi B)) (under_none n i at lo hi A l f a h e) ∙ xor_left_none n (clip n lo hi B) (cell_set-clip n lo hi B))

pub window_both : (n : ℕ) (lo hi : List ℤ) (A B : List (List ℤ)) → IsCellSet n A → IsCellSet n B → xor_cells n (clip n lo hi A) (clip n lo hi B) ≡ clip n lo hi (xor_cells n A B)
window_both n lo hi A B a b = sym (clip_of_xor n lo hi A B a b)

-- the two sides that a plane has of a solid, cut as a view of it
pub sides_of : (v d : Vertices) (axis : ℕ) (z at : ℤ) (s : Split) → v ≡ d → z ≡ at → IsSplitAt v axis z s
    → (s.low.dim ≡ d.dim) × (cells_of s.low ≡ cells_under axis at d) × (s.high.dim ≡ d.dim) × (cells_of s.high ≡ cells_over axis at d)
sides_of v d axis z at s shown e c = (
  c.split.low_dim ∙ ap (λ (u : Vertices). u.dim) shown,
  c.split.low_cells ∙ ap₂ (λ (i : ℕ) (y : ℤ). cells_under i y v) c.axis_is (c.at_is ∙ e) ∙ ap (cells_under axis at) shown,
  c.split.high_dim ∙ ap (λ (u : Vertices). u.dim) shown,
  c.split.high_cells ∙ ap₂ (λ (i : ℕ) (y : ℤ). cells_over i y v) c.axis_is (c.at_is ∙ e) ∙ ap (cells_over axis at) shown,
)
