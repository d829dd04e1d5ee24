-- A lift is in range exactly where the vertices of its base are within the limit of its dimension.
use Rattle.std.proofs.Common.{◌≡◌, ℕ, zero, suc, ◌<◌, ◌≤ℤ◌, ◌<ℤ◌, Bool, true, false, ◌&&◌, List, [], ◌∷◌, length, map, ℤ, pos, neg_ℤ, ◌-ℤ◌, nat_abs, int_le, int_lt, int_eq, refl, sym, ap, ap₂, ◌∙◌, arith, ⊎_elim}
use Rattle.std.specs.List.{list_all}
use Rattle.std.proofs.lemmas.Bool.{true≢false, false≢true, or_cases}
use Rattle.std.proofs.lemmas.Int.{ints as int_facts}
use Rattle.evm_cells.specs.Places.{each, has, same, before, with_at}
use Rattle.evm_cells.specs.Limits.{limit, ints, is_cell, is_point, is_cell_coord, is_point_coord, IsCellSet}
use Rattle.evm_cells.specs.Vertices.{cells, evm, touch, IsVertexList}
use Rattle.evm_cells.specs.Shapes.{lift_fits}
use Rattle.evm_cells.specs.ShapeLaws.{LiftInRange}
use Rattle.evm_cells.proofs.Xor.{xsum, xsum-same_on, and_first, and_second, and_both}
use Rattle.evm_cells.proofs.Sum.{xsum-none}
use Rattle.evm_cells.proofs.Order.{same_tests, refuted}
use Rattle.evm_cells.proofs.Lists.{all-map, all_members, all_weaker, all_always}
use Rattle.evm_cells.proofs.Places.{strict_places, has-any}
use Rattle.evm_cells.proofs.Coords.{le_yes, le_is, lt_yes, lt_is, eq_is, cell_is, cell_yes, point_is, point_yes, strict_ints, any-ints}
use Rattle.evm_cells.proofs.Universe.{point_parts, point_from, cell_parts, cell_from, has-evm, member_passes, cell_set-cells}
use Rattle.evm_cells.proofs.Core.{evm-cells}
use Rattle.evm_cells.proofs.Slices.{coord, length-with_at, all-with_at, all-coord}
use Rattle.evm_cells.proofs.Lifts.{lifted_cell, heights_are}
use Rattle.evm_cells.proofs.Sides.{rows_under, rows_over}

-- a point that a cell within a limit touches is within that limit
touched : (m : ℕ) (c p : List ℤ) → each touch c p ≡ true → list_all (is_cell_coord m) c ≡ true → list_all (is_point_coord m) p ≡ true
unfolding each touch
touched m [] [] h a = refl
touched m [] (y ∷ p) h a = absurd (false≢true h)
touched m (x ∷ c) [] h a = absurd (false≢true h)
touched m (x ∷ c) (y ∷ p) h a =
    let (u, v) = cell_is m x (and_first (is_cell_coord m x) (list_all (is_cell_coord m) c) a) in
    and_both (is_point_coord m y) (list_all (is_point_coord m) p)
    (⊎_elim
    (λ e. let q : x ≡ y -ℤ pos 1 = eq_is x (y -ℤ pos 1) e in point_yes m y (omega (arith, int_facts)) (omega (arith, int_facts)))
    (λ e. let q : x ≡ y = eq_is x y e in point_yes m y (omega (arith, int_facts)) (omega (arith, int_facts)))
    (or_cases (int_eq x (y -ℤ pos 1)) (int_eq x y) (and_first (touch x y) (each touch c p) h)))
    (touched m c p (and_second (touch x y) (each touch c p) h) (and_second (is_cell_coord m x) (list_all (is_cell_coord m) c) a))

-- where all cells are within a limit, so are the vertices
vertices_within : (m n : ℕ) (V : List (List ℤ)) → IsVertexList n V → list_all (list_all (is_cell_coord m)) (cells n V) ≡ true → list_all (list_all (is_point_coord m)) V ≡ true
vertices_within m n V v a = all_members same before strict_places (list_all (is_point_coord m)) V (λ p h. at p (list_all (is_point_coord m) p) refl (has-any V p ∙ h))
  where
    at : (p : List ℤ) (b : Bool) → list_all (is_point_coord m) p ≡ b → has V p ≡ true → list_all (is_point_coord m) p ≡ true
    at p true e h = e
    at p false e h =
        let odd_round : (is_point n p && xsum (λ s. each touch s p) (cells n V)) ≡ true = sym (has-evm n (cells n V) p) ∙ ap (λ W. has W p) (evm-cells n V v) ∙ h in
        let none : xsum (λ s. each touch s p) (cells n V) ≡ false =
        xsum-same_on (list_all (is_cell_coord m)) (λ s. each touch s p) (λ s. false) (λ s k. refuted (each touch s p) (λ t. true≢false (sym (touched m s p t k) ∙ e))) (cells n V) a ∙ xsum-none (cells n V) in
        absurd (true≢false (sym (and_second (is_point n p) (xsum (λ s. each touch s p) (cells n V)) odd_round) ∙ none))

-- a test holds of all coordinates where it holds of each
all_coords : (t : ℤ → Bool) (c : List ℤ) → ((j : ℕ) → j < length c → t (coord j c) ≡ true) → list_all t c ≡ true
all_coords t [] h = refl
all_coords t (x ∷ c) h = and_both (t x) (list_all t c) (h 0 (omega arith)) (all_coords t c (λ j l. h (suc j) (omega arith)))

-- where all vertices are within a limit, so are the cells
cells_within : (m n : ℕ) (V : List (List ℤ)) → IsVertexList n V → list_all (list_all (is_point_coord m)) V ≡ true → list_all (list_all (is_cell_coord m)) (cells n V) ≡ true
cells_within m n V v a = all_members same before strict_places (list_all (is_cell_coord m)) (cells n V) (λ c h. found c (has-any (cells n V) c ∙ h))
  where
    side : (j : ℕ) (r : ℤ → Bool) → j < n → ((x : ℤ) → is_point_coord m x ≡ true → r x ≡ true) → list_all (λ q. r (coord j q)) V ≡ true
    side j r l w = all_members same before strict_places (λ q. r (coord j q)) V
        (λ q h. let (e, b) = point_parts n q (member_passes (is_point n) V q v.points (has-any V q ∙ h)) in
        w (coord j q) (all-coord (is_point_coord m) j q (omega arith) (member_passes (list_all (is_point_coord m)) V q a (has-any V q ∙ h))))

    found : (c : List ℤ) → has (cells n V) c ≡ true → list_all (is_cell_coord m) c ≡ true
    found c h =
        let k : IsCellSet n (cells n V) = cell_set-cells n V in
        let (e, b) = cell_parts n c (member_passes (is_cell n) (cells n V) c k.cells h) in
        all_coords (is_cell_coord m) c
        (λ j l. let high = member_passes (λ d. int_lt (coord j d) (pos (limit m))) (cells n V) c
        (rows_under n j (pos (limit m)) V (omega arith) v (side j (λ x. int_le x (pos (limit m))) (omega arith) (λ x w. let (u, t) = point_is m x w in le_yes x (pos (limit m)) t))) h in
        let low = member_passes (λ d. int_le (neg_ℤ (pos (limit m))) (coord j d)) (cells n V) c
        (rows_over n j (neg_ℤ (pos (limit m))) V (omega arith) v (side j (λ x. int_le (neg_ℤ (pos (limit m))) x) (omega arith) (λ x w. let (u, t) = point_is m x w in le_yes (neg_ℤ (pos (limit m))) x u))) h in
        cell_yes m (coord j c) (le_is (neg_ℤ (pos (limit m))) (coord j c) low) (lt_is (coord j c) (pos (limit m)) high))

-- a lift is in range exactly where its base is within the limit of its dimension
pub fits_within : (n i : ℕ) (lo hi : ℤ) (S : List (List ℤ)) → IsCellSet n S → is_point_coord (suc n) lo ≡ true → is_point_coord (suc n) hi ≡ true → int_lt lo hi ≡ true
    → lift_fits (suc n) i lo hi S ≡ list_all (list_all (is_cell_coord (suc n))) S
unfolding lift_fits
fits_within n i lo hi S s a b m = same_tests (lift_fits (suc n) i lo hi S) (list_all (list_all (is_cell_coord (suc n))) S)
    (λ f. all_members same before strict_places (list_all (is_cell_coord (suc n))) S
    (λ c h. let (e, w) = cell_parts (suc n) (with_at i lo c) (lifted_cell (suc n) i lo hi lo S c m f (has-any S c ∙ h) (and_both (int_le lo lo) (int_lt lo hi) (le_yes lo lo (omega (arith, int_facts))) m)) in
    and_second (is_cell_coord (suc n) lo) (list_all (is_cell_coord (suc n)) c) (sym (all-with_at (is_cell_coord (suc n)) i lo c) ∙ w)))
    (λ f. all_members same before strict_places (λ c. list_all (λ k. is_cell (suc n) (with_at i k c)) (ints lo (nat_abs (hi -ℤ lo)))) S
    (λ c h. all_members int_eq int_lt strict_ints (λ k. is_cell (suc n) (with_at i k c)) (ints lo (nat_abs (hi -ℤ lo)))
    (λ k g. let (e, w) = cell_parts n c (member_passes (is_cell n) S c s.cells (has-any S c ∙ h)) in
    let r : (int_le lo k && int_lt k hi) ≡ true = sym (heights_are lo hi k m) ∙ g in
    let (u, v) = point_is (suc n) lo a in
    let (x, y) = point_is (suc n) hi b in
    let p : lo ≤ℤ k = le_is lo k (and_first (int_le lo k) (int_lt k hi) r) in
    let q : k <ℤ hi = lt_is k hi (and_second (int_le lo k) (int_lt k hi) r) in
    cell_from (suc n) (with_at i k c) (length-with_at i k c ∙ ap suc e)
    (all-with_at (is_cell_coord (suc n)) i k c
    ∙ and_both (is_cell_coord (suc n) k) (list_all (is_cell_coord (suc n)) c) (cell_yes (suc n) k (omega (arith, int_facts)) (omega (arith, int_facts)))
    (member_passes (list_all (is_cell_coord (suc n))) S c f (has-any S c ∙ h))))))

-- the base with an end put in is made of points exactly where it is within the limit
pub raised_points : (n i : ℕ) (lo : ℤ) (V : List (List ℤ)) → IsVertexList n V → is_point_coord (suc n) lo ≡ true → list_all (is_point (suc n)) (map (with_at i lo) V) ≡ list_all (list_all (is_point_coord (suc n))) V
raised_points n i lo V v a = all-map (is_point (suc n)) (with_at i lo) V
    ∙ same_tests (list_all (λ q. is_point (suc n) (with_at i lo q)) V) (list_all (list_all (is_point_coord (suc n))) V)
    (all_weaker (λ q. is_point (suc n) (with_at i lo q)) (list_all (is_point_coord (suc n)))
    (λ q h. let (e, w) = point_parts (suc n) (with_at i lo q) h in and_second (is_point_coord (suc n) lo) (list_all (is_point_coord (suc n)) q) (sym (all-with_at (is_point_coord (suc n)) i lo q) ∙ w)) V)
    (λ f. all_members same before strict_places (λ q. is_point (suc n) (with_at i lo q)) V
    (λ q h. let (e, w) = point_parts n q (member_passes (is_point n) V q v.points (has-any V q ∙ h)) in
    point_from (suc n) (with_at i lo q) (length-with_at i lo q ∙ ap suc e)
    (all-with_at (is_point_coord (suc n)) i lo q ∙ and_both (is_point_coord (suc n) lo) (list_all (is_point_coord (suc n)) q) a (member_passes (list_all (is_point_coord (suc n))) V q f (has-any V q ∙ h)))))

pub lift_in_range : LiftInRange
lift_in_range n i lo hi V l v a b m =
    fits_within n i lo hi (cells n V) (cell_set-cells n V) a b m
    ∙ same_tests (list_all (list_all (is_cell_coord (suc n))) (cells n V)) (list_all (list_all (is_point_coord (suc n))) V) (vertices_within (suc n) n V v) (cells_within (suc n) n V v)
    ∙ sym (raised_points n i lo V v a)
