-- All cells and all points of a dimension: what is among them, and lists cut out of them.
use Rattle.std.proofs.Common.{◌≡◌, ℕ, Bool, true, false, ◌&&◌, ◌==◌, List, length, filter, count_by, ℤ, refl, sym, ap, ◌∙◌, int_le, eqb-true, eq-eqb}
use Rattle.std.specs.List.{list_any, list_all}
use Rattle.evm_cells.specs.Places.{same, before, ascending, has, each}
use Rattle.evm_cells.specs.Limits.{every_cell, every_point, is_cell, is_point, is_cell_coord, is_point_coord, cell_coords, point_coords, IsCellSet}
use Rattle.evm_cells.specs.Vertices.{evm, cells, around, touches, touch, below, odd}
use Rattle.evm_cells.proofs.Xor.{xsum, xsum-same, and_first, and_second, and_both, and-true, odd-count}
use Rattle.evm_cells.proofs.Sum.{xsum-filter, xsum-weigh}
use Rattle.evm_cells.proofs.Order.{rising, same_tests, same_lists, sift, rising-filter, any-filter, at_member, all-filter}
use Rattle.evm_cells.proofs.Lists.{all_weaker, all_members}
use Rattle.evm_cells.proofs.Coords.{rising-cell_coords, rising-point_coords, any-cell_coords, any-point_coords, cell-point}
use Rattle.evm_cells.proofs.Places.{strict_places, any-tuples, rising-tuples, ascending-rising, has-any}

pub point_parts : (n : ℕ) (p : List ℤ) → is_point n p ≡ true → (length p ≡ n) × (list_all (is_point_coord n) p ≡ true)
unfolding is_point
point_parts n p h = (eqb-true (length p) n (and_first (length p == n) (list_all (is_point_coord n) p) h), and_second (length p == n) (list_all (is_point_coord n) p) h)

pub point_from : (n : ℕ) (p : List ℤ) → length p ≡ n → list_all (is_point_coord n) p ≡ true → is_point n p ≡ true
unfolding is_point
point_from n p e h = and_both (length p == n) (list_all (is_point_coord n) p) (eq-eqb (length p) n e) h

pub cell_parts : (n : ℕ) (c : List ℤ) → is_cell n c ≡ true → (length c ≡ n) × (list_all (is_cell_coord n) c ≡ true)
unfolding is_cell
cell_parts n c h = (eqb-true (length c) n (and_first (length c == n) (list_all (is_cell_coord n) c) h), and_second (length c == n) (list_all (is_cell_coord n) c) h)

pub cell_from : (n : ℕ) (c : List ℤ) → length c ≡ n → list_all (is_cell_coord n) c ≡ true → is_cell n c ≡ true
unfolding is_cell
cell_from n c e h = and_both (length c == n) (list_all (is_cell_coord n) c) (eq-eqb (length c) n e) h

pub cell_is_point : (n : ℕ) (c : List ℤ) → is_cell n c ≡ true → is_point n c ≡ true
cell_is_point n c h = let (e, a) = cell_parts n c h in point_from n c e (all_weaker (is_cell_coord n) (is_point_coord n) (cell-point n) c a)

pub has-every_point : (n : ℕ) (p : List ℤ) → list_any (same p) (every_point n) ≡ is_point n p
unfolding every_point is_point
has-every_point n p = any-tuples (point_coords n) n p ∙ ap (λ f. length p == n && list_all f p) (λ i x. any-point_coords n x i)

pub has-every_cell : (n : ℕ) (c : List ℤ) → list_any (same c) (every_cell n) ≡ is_cell n c
unfolding every_cell is_cell
has-every_cell n c = any-tuples (cell_coords n) n c ∙ ap (λ f. length c == n && list_all f c) (λ i x. any-cell_coords n x i)

pub rising-every_point : (n : ℕ) → rising before (every_point n) ≡ true
unfolding every_point
rising-every_point n = rising-tuples (point_coords n) n (rising-point_coords n)

pub rising-every_cell : (n : ℕ) → rising before (every_cell n) ≡ true
unfolding every_cell
rising-every_cell n = rising-tuples (cell_coords n) n (rising-cell_coords n)

pub all-every_point : (n : ℕ) → list_all (is_point n) (every_point n) ≡ true
all-every_point n = all_members same before strict_places (is_point n) (every_point n) (λ c m. sym (has-every_point n c) ∙ m)

pub all-every_cell : (n : ℕ) → list_all (is_cell n) (every_cell n) ≡ true
all-every_cell n = all_members same before strict_places (is_cell n) (every_cell n) (λ c m. sym (has-every_cell n c) ∙ m)

pub same_sym : (p q : List ℤ) → same p q ≡ same q p
same_sym p q = same_tests (same p q) (same q p)
    (λ h. ap (λ z. same q z) (strict_places.equal p q h) ∙ strict_places.itself q)
    (λ h. ap (λ z. same p z) (strict_places.equal q p h) ∙ strict_places.itself p)

-- lists of places that ascend are fixed by what they have
pub same_sets : (S T : List (List ℤ)) → ascending S ≡ true → ascending T ≡ true → ((c : List ℤ) → has S c ≡ has T c) → S ≡ T
same_sets S T a b e =
    same_lists same before strict_places S T (sym (ascending-rising S) ∙ a) (sym (ascending-rising T) ∙ b) (λ c. sym (has-any S c) ∙ e c ∙ has-any T c)

pub ascending-filter : (t : List ℤ → Bool) (S : List (List ℤ)) → ascending S ≡ true → ascending (filter t S) ≡ true
ascending-filter t S a = ascending-rising (filter t S) ∙ rising-filter same before strict_places t S (sym (ascending-rising S) ∙ a)

pub has-filter : (t : List ℤ → Bool) (S : List (List ℤ)) (c : List ℤ) → has (filter t S) c ≡ (has S c && t c)
unfolding has
has-filter t S c = any-filter same before strict_places t c S

pub ascending-every_point : (n : ℕ) → ascending (every_point n) ≡ true
ascending-every_point n = ascending-rising (every_point n) ∙ rising-every_point n

pub ascending-every_cell : (n : ℕ) → ascending (every_cell n) ≡ true
ascending-every_cell n = ascending-rising (every_cell n) ∙ rising-every_cell n

-- what the filters of all points and of all cells have
pub has-points : (n : ℕ) (t : List ℤ → Bool) (p : List ℤ) → has (filter t (every_point n)) p ≡ (is_point n p && t p)
has-points n t p = has-filter t (every_point n) p ∙ ap (λ b. b && t p) (has-any (every_point n) p ∙ has-every_point n p)

pub has-cells : (n : ℕ) (t : List ℤ → Bool) (c : List ℤ) → has (filter t (every_cell n)) c ≡ (is_cell n c && t c)
has-cells n t c = has-filter t (every_cell n) c ∙ ap (λ b. b && t c) (has-any (every_cell n) c ∙ has-every_cell n c)

-- a member passes what all pass
pub member_passes : (p : List ℤ → Bool) (S : List (List ℤ)) (c : List ℤ) → list_all p S ≡ true → has S c ≡ true → p c ≡ true
member_passes p S c a m = at_member same before strict_places p c S (sym (has-any S c) ∙ m) a

pub absorb : (a b : Bool) → (b ≡ true → a ≡ true) → (a && b) ≡ b
absorb true b f = refl
absorb false true f = f refl
absorb false false f = refl

-- a test that is y where a passes, and y passes only where a does
pub guarded : (a x y : Bool) → (a ≡ true → x ≡ y) → (y ≡ true → a ≡ true) → (a && x) ≡ y
guarded true x y f g = f refl
guarded false x true f g = g refl
guarded false x false f g = refl

-- a list of points that ascends is cut out of all points by what it has
pub points_are : (n : ℕ) (V : List (List ℤ)) → ascending V ≡ true → list_all (is_point n) V ≡ true → filter (has V) (every_point n) ≡ V
points_are n V a h =
    same_sets (filter (has V) (every_point n)) V (ascending-filter (has V) (every_point n) (ascending-every_point n)) a
    (λ p. has-points n (has V) p ∙ absorb (is_point n p) (has V p) (member_passes (is_point n) V p h))

pub cells_are : (n : ℕ) (S : List (List ℤ)) → ascending S ≡ true → list_all (is_cell n) S ≡ true → filter (has S) (every_cell n) ≡ S
cells_are n S a h =
    same_sets (filter (has S) (every_cell n)) S (ascending-filter (has S) (every_cell n) (ascending-every_cell n)) a
    (λ c. has-cells n (has S) c ∙ absorb (is_cell n c) (has S c) (member_passes (is_cell n) S c h))

-- the cells are the points with coordinates of cells
pub cells_among_points : (n : ℕ) → every_cell n ≡ filter (list_all (is_cell_coord n)) (every_point n)
unfolding is_cell is_point
cells_among_points n =
    same_sets (every_cell n) (filter (list_all (is_cell_coord n)) (every_point n)) (ascending-every_cell n) (ascending-filter (list_all (is_cell_coord n)) (every_point n) (ascending-every_point n))
    (λ c. has-any (every_cell n) c ∙ has-every_cell n c ∙ sym (has-points n (list_all (is_cell_coord n)) c ∙ step (length c == n) (list_all (is_point_coord n) c) (list_all (is_cell_coord n) c) (all_weaker (is_cell_coord n) (is_point_coord n) (cell-point n) c)))
  where
    step : (l p k : Bool) → (k ≡ true → p ≡ true) → ((l && p) && k) ≡ (l && k)
    step true p k f = absorb p k f
    step false p k f = refl

-- the two tests as sums by exclusive or
pub odd-below : (V : List (List ℤ)) (c : List ℤ) → odd (count_by (below c) V) ≡ xsum (λ q. each int_le q c) V
unfolding below
odd-below V c = odd-count (λ q. each int_le q c) V

pub odd-around : (S : List (List ℤ)) (p : List ℤ) → odd (around S p) ≡ xsum (λ s. each touch s p) S
unfolding around touches
odd-around S p = odd-count (λ s. each touch s p) S

pub has-evm : (n : ℕ) (S : List (List ℤ)) (p : List ℤ) → has (evm n S) p ≡ (is_point n p && xsum (λ s. each touch s p) S)
unfolding evm
has-evm n S p = has-points n (λ q. odd (around S q)) p ∙ ap (λ b. is_point n p && b) (odd-around S p)

pub has-cells_of : (n : ℕ) (V : List (List ℤ)) (c : List ℤ) → has (cells n V) c ≡ (is_cell n c && xsum (λ q. each int_le q c) V)
unfolding cells
has-cells_of n V c = has-cells n (λ d. odd (count_by (below d) V)) c ∙ ap (λ b. is_cell n c && b) (odd-below V c)

pub ascending-evm : (n : ℕ) (S : List (List ℤ)) → ascending (evm n S) ≡ true
unfolding evm
ascending-evm n S = ascending-filter (λ q. odd (around S q)) (every_point n) (ascending-every_point n)

pub ascending-cells : (n : ℕ) (V : List (List ℤ)) → ascending (cells n V) ≡ true
unfolding cells
ascending-cells n V = ascending-filter (λ d. odd (count_by (below d) V)) (every_cell n) (ascending-every_cell n)

pub points-evm : (n : ℕ) (S : List (List ℤ)) → list_all (is_point n) (evm n S) ≡ true
unfolding evm
points-evm n S = all-filter same before strict_places (is_point n) (λ q. odd (around S q)) (every_point n) (all-every_point n)

pub cells-cells : (n : ℕ) (V : List (List ℤ)) → list_all (is_cell n) (cells n V) ≡ true
unfolding cells
cells-cells n V = all-filter same before strict_places (is_cell n) (λ d. odd (count_by (below d) V)) (every_cell n) (all-every_cell n)

pub cell_set-cells : (n : ℕ) (V : List (List ℤ)) → IsCellSet n (cells n V)
cell_set-cells n V = record { ascends = ascending-cells n V; cells = cells-cells n V }

-- sums over the extreme vertices, and over the cells of a vertex list
pub xsum-evm : (n : ℕ) (S : List (List ℤ)) (g : List ℤ → Bool) → xsum g (evm n S) ≡ xsum (λ s. xsum (λ p. each touch s p && g p) (every_point n)) S
unfolding evm
xsum-evm n S g =
    xsum-filter g (λ p. odd (around S p)) (every_point n)
    ∙ xsum-same (λ p. odd (around S p) && g p) (λ p. xsum (λ s. each touch s p) S && g p) (λ p. ap (λ b. b && g p) (odd-around S p)) (every_point n)
    ∙ xsum-weigh (λ s p. each touch s p) g S (every_point n)

-- each place of a list that ascends counts once
pub xsum-same_place : (S : List (List ℤ)) (c : List ℤ) → ascending S ≡ true → xsum (λ s. same s c) S ≡ has S c
xsum-same_place S c a =
    xsum-same (λ s. same s c) (λ s. same c s && true) (λ s. same_sym s c ∙ sym (and-true (same c s))) S
    ∙ sift same before strict_places c (λ s. true) S (sym (ascending-rising S) ∙ a) ∙ and-true (list_any (same c) S) ∙ sym (has-any S c)
