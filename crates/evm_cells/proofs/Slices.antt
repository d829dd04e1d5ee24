-- Sections and couplets of a cell set, and where they stand among its vertices.
use Rattle.std.proofs.Common.{◌≡◌, ℕ, zero, suc, ◌<◌, Bool, true, false, ◌&&◌, List, [], ◌∷◌, length, map, filter, get_or, ℤ, pos, ◌-ℤ◌, refl, sym, ap, ap₂, ◌∙◌, arith, int_le, int_eq}
use Rattle.std.specs.List.{list_all}
use Rattle.evm_cells.specs.Places.{same, before, has, each, without, with_at}
use Rattle.evm_cells.specs.Limits.{every_cell, is_cell, is_point, is_cell_coord, IsCellSet}
use Rattle.evm_cells.specs.Booleans.{xor, xor_cells}
use Rattle.evm_cells.specs.Vertices.{IsVertexList, evm, cells, touch}
use Rattle.evm_cells.specs.Sections.{slice, couplet}
use Rattle.evm_cells.proofs.Xor.{xsum, xsum-same, xsum-same_on, xor-and, and_first, and_second, and-false, and_assoc}
use Rattle.evm_cells.proofs.Sum.{xsum-map, xsum-and_left, xsum-filter, xsum-weigh, xsum-xor}
use Rattle.evm_cells.proofs.Order.{sift}
use Rattle.evm_cells.proofs.Coords.{split_touch, eq_sym, cell_coord-falls}
use Rattle.evm_cells.proofs.Lists.{all_weaker}
use Rattle.evm_cells.proofs.Places.{strict_places}
use Rattle.evm_cells.proofs.Universe.{absorb, guarded, member_passes, cell_set-cells, point_parts, cell_parts, cell_from, has-cells, has-cells_of, same_sets, has-every_cell, rising-every_cell, all-every_cell, ascending-cells, xsum-same_place}
use Rattle.evm_cells.proofs.Combine.{cell_set-filter, cell_set-xor, has-xor_cells, xsum-xor_cells, has-evm-xor}
use Rattle.evm_cells.proofs.Core.{length-without, all-without, has-cells_even, has-evm_of}

-- the coordinate of a place on axis i
abbrev pub coord : ℕ → List ℤ → ℤ
coord i s = get_or s i (pos 0)

swap_first : (a b c : Bool) → (a && (b && c)) ≡ (b && (a && c))
swap_first true b c = refl
swap_first false b c = sym (and-false b)

-- a relation coordinate by coordinate, with the coordinate on axis i apart
pub each-with_at : (r : ℤ → ℤ → Bool) (i : ℕ) (k : ℤ) (s c : List ℤ) → i < length s → length s ≡ suc (length c) → each r s (with_at i k c) ≡ (r (coord i s) k && each r (without i s) c)
unfolding each with_at without
each-with_at r i k [] c l e = absurd (omega arith)
each-with_at r zero k (a ∷ s) c l e = refl
each-with_at r (suc i) k (a ∷ s) [] l e = absurd (omega arith)
each-with_at r (suc i) k (a ∷ s) (b ∷ c) l e =
    ap (λ t. r a b && t) (each-with_at r i k s c (omega arith) (omega arith)) ∙ swap_first (r a b) (r (coord i s) k) (each r (without i s) c)

pub length-with_at : (i : ℕ) (k : ℤ) (c : List ℤ) → length (with_at i k c) ≡ suc (length c)
unfolding with_at
length-with_at zero k c = refl
length-with_at (suc i) k [] = refl
length-with_at (suc i) k (x ∷ c) = ap suc (length-with_at i k c)

pub all-with_at : (f : ℤ → Bool) (i : ℕ) (k : ℤ) (c : List ℤ) → list_all f (with_at i k c) ≡ (f k && list_all f c)
unfolding with_at
all-with_at f zero k c = refl
all-with_at f (suc i) k [] = refl
all-with_at f (suc i) k (x ∷ c) = ap (λ t. f x && t) (all-with_at f i k c) ∙ swap_first (f x) (f k) (list_all f c)

pub all-coord : (f : ℤ → Bool) (i : ℕ) (s : List ℤ) → i < length s → list_all f s ≡ true → f (coord i s) ≡ true
all-coord f i [] l h = absurd (omega arith)
all-coord f zero (a ∷ s) l h = and_first (f a) (list_all f s) h
all-coord f (suc i) (a ∷ s) l h = all-coord f i s (omega arith) (and_second (f a) (list_all f s) h)

pub has-slice : (n i : ℕ) (k : ℤ) (S : List (List ℤ)) (c : List ℤ) → has (slice n i k S) c ≡ (is_cell n c && has S (with_at i k c))
unfolding slice
has-slice n i k S c = has-cells n (λ d. has S (with_at i k d)) c

-- a place that goes into a cell is one of the section's
pub cell_of_with_at : (n i : ℕ) (k : ℤ) (c : List ℤ) → is_cell (suc n) (with_at i k c) ≡ true → (is_cell_coord (suc n) k ≡ true) × (is_cell n c ≡ true)
cell_of_with_at n i k c h =
    let (e, a) = cell_parts (suc n) (with_at i k c) h in
    let f = length-with_at i k c in
    let b : (is_cell_coord (suc n) k && list_all (is_cell_coord (suc n)) c) ≡ true = sym (all-with_at (is_cell_coord (suc n)) i k c) ∙ a in (
      and_first (is_cell_coord (suc n) k) (list_all (is_cell_coord (suc n)) c) b,
      cell_from n c (omega arith) (all_weaker (is_cell_coord (suc n)) (is_cell_coord n) (cell_coord-falls n) c (and_second (is_cell_coord (suc n) k) (list_all (is_cell_coord (suc n)) c) b)),
    )

pub has-slice_of : (n i : ℕ) (k : ℤ) (S : List (List ℤ)) (c : List ℤ) → IsCellSet (suc n) S → has (slice n i k S) c ≡ has S (with_at i k c)
has-slice_of n i k S c h =
    has-slice n i k S c
    ∙ absorb (is_cell n c) (has S (with_at i k c)) (λ m. let (a, b) = cell_of_with_at n i k c (member_passes (is_cell (suc n)) S (with_at i k c) h.cells m) in b)

pub cell_set-slice : (n i : ℕ) (k : ℤ) (S : List (List ℤ)) → IsCellSet n (slice n i k S)
unfolding slice
cell_set-slice n i k S = cell_set-filter n (λ d. has S (with_at i k d))

pub cell_set-couplet : (n i : ℕ) (h : ℤ) (S : List (List ℤ)) → IsCellSet n (couplet n i h S)
unfolding couplet
cell_set-couplet n i h S = cell_set-xor n (slice n i (h -ℤ pos 1) S) (slice n i h S)

cell-without : (n i : ℕ) (s : List ℤ) → i < suc n → is_cell (suc n) s ≡ true → is_cell n (without i s) ≡ true
cell-without n i s l h =
    let (e, a) = cell_parts (suc n) s h in
    let e' : suc (length (without i s)) ≡ length s = length-without i s (omega arith) in
    cell_from n (without i s) (omega arith) (all_weaker (is_cell_coord (suc n)) (is_cell_coord n) (cell_coord-falls n) (without i s) (all-without (is_cell_coord (suc n)) i s a))

-- the cells of the section below s on axis i
slice_at : (n i : ℕ) (k : ℤ) (g : List ℤ → Bool) → i < suc n → (s : List ℤ) → is_cell (suc n) s ≡ true → xsum (λ c. same s (with_at i k c) && g c) (every_cell n) ≡ (int_eq (coord i s) k && g (without i s))
unfolding same
slice_at n i k g l s h =
    let (e, a) = cell_parts (suc n) s h in
    xsum-same_on (is_cell n) (λ c. each int_eq s (with_at i k c) && g c) (λ c. int_eq (coord i s) k && (each int_eq (without i s) c && g c))
    (λ c m. let (f, b) = cell_parts n c m in
    ap (λ t. t && g c) (each-with_at int_eq i k s c (omega arith) (omega arith)) ∙ and_assoc (int_eq (coord i s) k) (each int_eq (without i s) c) (g c))
    (every_cell n) (all-every_cell n)
    ∙ xsum-and_left (int_eq (coord i s) k) (λ c. each int_eq (without i s) c && g c) (every_cell n)
    ∙ ap (λ t. int_eq (coord i s) k && t)
    (sift same before strict_places (without i s) g (every_cell n) (rising-every_cell n)
    ∙ ap (λ t. t && g (without i s)) (has-every_cell n (without i s) ∙ cell-without n i s l h))

pub xsum-slice : (n i : ℕ) (k : ℤ) (S : List (List ℤ)) (g : List ℤ → Bool) → IsCellSet (suc n) S → i < suc n → xsum g (slice n i k S) ≡ xsum (λ s. int_eq (coord i s) k && g (without i s)) S
unfolding slice
xsum-slice n i k S g h l =
    xsum-filter g (λ c. has S (with_at i k c)) (every_cell n)
    ∙ xsum-same (λ c. has S (with_at i k c) && g c) (λ c. xsum (λ s. same s (with_at i k c)) S && g c)
    (λ c. ap (λ t. t && g c) (sym (xsum-same_place S (with_at i k c) h.ascends))) (every_cell n)
    ∙ xsum-weigh (λ s c. same s (with_at i k c)) g S (every_cell n)
    ∙ xsum-same_on (is_cell (suc n)) (λ s. xsum (λ c. same s (with_at i k c) && g c) (every_cell n)) (λ s. int_eq (coord i s) k && g (without i s)) (slice_at n i k g l) S h.cells

-- round a point of the couplet
around_couplet : (n i : ℕ) (k : ℤ) (S : List (List ℤ)) (r : List ℤ) → IsCellSet (suc n) S → i < suc n → length r ≡ n → xsum (λ c. each touch c r) (couplet n i k S) ≡ xsum (λ s. each touch s (with_at i k r)) S
unfolding couplet
around_couplet n i k S r h l e =
    xsum-xor_cells n (slice n i (k -ℤ pos 1) S) (slice n i k S) (λ c. each touch c r) (cell_set-slice n i (k -ℤ pos 1) S) (cell_set-slice n i k S)
    ∙ ap₂ xor (xsum-slice n i (k -ℤ pos 1) S (λ c. each touch c r) h l) (xsum-slice n i k S (λ c. each touch c r) h l)
    ∙ sym (xsum-xor (λ s. int_eq (coord i s) (k -ℤ pos 1) && each touch (without i s) r) (λ s. int_eq (coord i s) k && each touch (without i s) r) S)
    ∙ xsum-same_on (is_cell (suc n))
    (λ s. xor (int_eq (coord i s) (k -ℤ pos 1) && each touch (without i s) r) (int_eq (coord i s) k && each touch (without i s) r))
    (λ s. each touch s (with_at i k r))
    (λ s m. let (f, b) = cell_parts (suc n) s m in
    sym (xor-and (int_eq (coord i s) (k -ℤ pos 1)) (int_eq (coord i s) k) (each touch (without i s) r))
    ∙ ap (λ t. t && each touch (without i s) r) (ap₂ xor (eq_sym (coord i s) (k -ℤ pos 1)) (eq_sym (coord i s) k) ∙ sym (split_touch (coord i s) k))
    ∙ sym (each-with_at touch i k s r (omega arith) (omega arith)))
    S h.cells

-- the vertices of a couplet are those of the whole on its height
pub couplet_vertices : (n i : ℕ) (k : ℤ) (S : List (List ℤ)) (r : List ℤ) → IsCellSet (suc n) S → i < suc n → length r ≡ n → has (evm n (couplet n i k S)) r ≡ has (evm (suc n) S) (with_at i k r)
couplet_vertices n i k S r h l e =
    has-evm_of n (couplet n i k S) r (cell_set-couplet n i k S) e
    ∙ around_couplet n i k S r h l e
    ∙ sym (has-evm_of (suc n) S (with_at i k r) h (let f = length-with_at i k r in omega arith))

-- from one section to the next
pub next_slice : (n i : ℕ) (k : ℤ) (S : List (List ℤ)) → slice n i k S ≡ xor_cells n (slice n i (k -ℤ pos 1) S) (couplet n i k S)
unfolding xor couplet
next_slice n i k S =
    let c : IsCellSet n (slice n i k S) = cell_set-slice n i k S in
    let d : IsCellSet n (slice n i (k -ℤ pos 1) S) = cell_set-slice n i (k -ℤ pos 1) S in
    let x : IsCellSet n (xor_cells n (slice n i (k -ℤ pos 1) S) (couplet n i k S)) = cell_set-xor n (slice n i (k -ℤ pos 1) S) (couplet n i k S) in
    same_sets (slice n i k S) (xor_cells n (slice n i (k -ℤ pos 1) S) (couplet n i k S)) c.ascends x.ascends
    (λ r. sym (has-xor_cells n (slice n i (k -ℤ pos 1) S) (couplet n i k S) r d (cell_set-couplet n i k S)
    ∙ ap (xor (has (slice n i (k -ℤ pos 1) S) r)) (at_couplet r)
    ∙ twice (has (slice n i (k -ℤ pos 1) S) r) (has (slice n i k S) r)))
  where
    at_couplet : (r : List ℤ) → has (couplet n i k S) r ≡ xor (has (slice n i (k -ℤ pos 1) S) r) (has (slice n i k S) r)
    at_couplet r = has-xor_cells n (slice n i (k -ℤ pos 1) S) (slice n i k S) r (cell_set-slice n i (k -ℤ pos 1) S) (cell_set-slice n i k S)

    twice : (a b : Bool) → xor a (xor a b) ≡ b
    twice true true = refl
    twice true false = refl
    twice false b = refl

-- the vertices of the next section
pub next_section : (n i : ℕ) (k : ℤ) (S : List (List ℤ)) (r : List ℤ) → IsCellSet (suc n) S → i < suc n → length r ≡ n → has (evm n (slice n i k S)) r ≡ xor (has (evm n (slice n i (k -ℤ pos 1) S)) r) (has (evm (suc n) S) (with_at i k r))
next_section n i k S r h l e =
    ap (λ T. has (evm n T) r) (next_slice n i k S)
    ∙ has-evm-xor n (slice n i (k -ℤ pos 1) S) (couplet n i k S) r (cell_set-slice n i (k -ℤ pos 1) S) (cell_set-couplet n i k S)
    ∙ ap (xor (has (evm n (slice n i (k -ℤ pos 1) S)) r)) (couplet_vertices n i k S r h l e)

-- the section of the cells of V is that of the points up to its height
pub slice_of_cells : (n i : ℕ) (k : ℤ) (V : List (List ℤ)) → IsVertexList (suc n) V → i < suc n → slice n i k (cells (suc n) V) ≡ cells n (map (without i) (filter (λ q. int_le (coord i q) k) V))
slice_of_cells n i k V h l =
    let S : List (List ℤ) = cells (suc n) V in
    let W : List (List ℤ) = map (without i) (filter (λ q. int_le (coord i q) k) V) in
    let c : IsCellSet n (slice n i k S) = cell_set-slice n i k S in
    same_sets (slice n i k S) (cells n W) c.ascends (ascending-cells n W)
    (λ r. sym (has-cells_of n W r
    ∙ guarded (is_cell n r) (xsum (λ q. each int_le q r) W) (has (slice n i k S) r)
    (λ p. let (e, a) = cell_parts n r p in
    sym (has-slice_of n i k S r (cell_set-cells (suc n) V)
    ∙ has-cells_even (suc n) V (with_at i k r) h (let f = length-with_at i k r in omega arith)
    ∙ up_to r e))
    (member_passes (is_cell n) (slice n i k S) r c.cells)))
  where
    up_to : (r : List ℤ) → length r ≡ n → xsum (λ q. each int_le q (with_at i k r)) V ≡ xsum (λ q. each int_le q r) (map (without i) (filter (λ q. int_le (coord i q) k) V))
    up_to r e =
        xsum-same_on (is_point (suc n)) (λ q. each int_le q (with_at i k r)) (λ q. int_le (coord i q) k && each int_le (without i q) r)
        (λ q p. let (f, b) = point_parts (suc n) q p in each-with_at int_le i k q r (omega arith) (omega arith)) V h.points
        ∙ sym (xsum-map (λ q. each int_le q r) (without i) (filter (λ q. int_le (coord i q) k) V)
        ∙ xsum-filter (λ q. each int_le (without i q) r) (λ q. int_le (coord i q) k) V)
