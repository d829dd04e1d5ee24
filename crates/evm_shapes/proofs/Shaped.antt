-- What rows that were moved and put in order are on cells.
use Rattle.std.proofs.Common.{◌≡◌, ℕ, zero, suc, ◌-◌, ◌<◌, ◌≤◌, ◌%◌, List, [], ◌∷◌, length, map, count_by, ℤ, int_eq, sym, ap, ap₂, ◌∙◌, subst, arith}
use Rattle.std.specs.Prelude.{swap}
use Rattle.std.proofs.lemmas.List.Edits.{length-swap}
use Rattle.evm_cells.specs.Places.{same, has}
use Rattle.evm_cells.specs.Limits.{is_point, IsCellSet}
use Rattle.evm_cells.specs.Vertices.{odd, evm, cells, IsVertexList}
use Rattle.evm_cells.specs.Shapes.{mirror, negated, swap_axes, front, fronted, unfronted}
use Rattle.evm_cells.proofs.Xor.{xsum-same_on, odd-count}
use Rattle.evm_cells.proofs.Sum.{xsum-map}
use Rattle.evm_cells.proofs.Universe.{point_parts, xsum-same_place, cell_set-cells}
use Rattle.evm_cells.proofs.Core.{evm-cells, cells-evm, vertices-evm, length-without}
use Rattle.evm_cells.proofs.Slices.{length-with_at}
use Rattle.evm_cells.proofs.Moves.{by_place, has-mirror, cell_set-mirror, length-negated, same-negated, has-swap, cell_set-swap, each-swap}
use Rattle.evm_cells.proofs.Lifts.{has-front, cell_set-front, each-fronted}
use Rattle.evm_rows.specs.Rows.{AreRows, rows_of, flat_of}
use Rattle.evm_rows.proofs.RowsOrder.{Wide, rows_of-flat_of, length-flat_of}
use Rattle.evm_rows.proofs.Bridge.{wide-points}
use native.Mathlib.Nat.{mul-mod_left}
use Rattle.evm_shapes.specs.declared.moves.Move.{Move}
use Rattle.evm_shapes.specs.declared.moves.Move.TheVariants.{Mirror, Swap, Front, Raise}
use Rattle.evm_shapes.specs.Moves.{moved, moved_dim, IsMoveOf}
use Rattle.evm_cells.specs.Windows.{IsReduced}

-- ---- rows of one length

length-moved : (step : Move) (n : ℕ) (p : List ℤ) → IsMoveOf n step → length p ≡ n → length (moved step p) ≡ moved_dim step n
unfolding fronted
length-moved (Mirror i) n p a e = length-negated i p ∙ e
length-moved (Swap i j) n p a e = length-swap p i j ∙ e
length-moved (Front i) n p a e = length-without i p (omega arith) ∙ e
length-moved (Raise i h) n p a e = let f = length-with_at i h p in omega arith

pub wide-moved : (step : Move) (n : ℕ) (V : List (List ℤ)) → IsMoveOf n step → Wide n V → Wide (moved_dim step n) (map (moved step) V)
wide-moved step n [] a w = tt
wide-moved step n (p ∷ V) a w = (length-moved step n p a w.0, wide-moved step n V a w.1)

-- the rows of moved numbers
pub moved_rows : (step : Move) (n m : ℕ) (V : List (List ℤ)) (flat : List ℤ) → 0 < m → moved_dim step n ≡ m → IsMoveOf n step → IsVertexList n V → flat ≡ flat_of (map (moved step) V)
    → (length flat % m ≡ 0) × (rows_of flat m 0 ≡ map (moved step) V)
moved_rows step n m V flat some d a v f =
    let w : Wide m (map (moved step) V) = subst (λ (k : ℕ). Wide k (map (moved step) V)) d (wide-moved step n V a (wide-points n V v.points)) in (
      ap (λ (z : List ℤ). length z % m) f ∙ ap (λ (k : ℕ). k % m) (length-flat_of m (map (moved step) V) w) ∙ mul-mod_left (length (map (moved step) V)) m,
      ap (λ (z : List ℤ). rows_of z m 0) f ∙ rows_of-flat_of m (map (moved step) V) some w,
    )

-- the numbers of extreme vertices
pub are_rows_of : (n : ℕ) (flat : List ℤ) (T : List (List ℤ)) → 0 < n → n ≤ 6 → length flat % n ≡ 0 → IsCellSet n T → rows_of flat n 0 ≡ evm n T → AreRows flat n 0
are_rows_of n flat T some few whole t e =
    let less : n ≡ n - 0 = omega arith in
    let v : IsVertexList n (rows_of flat n 0) = subst (λ (V : List (List ℤ)). IsVertexList n V) (sym e) (vertices-evm n T t) in
    record { narrow = few; left = some; whole = whole; vertices = subst (λ (m : ℕ). IsVertexList m (rows_of flat n 0)) less v }

-- the cells of extreme vertices
pub cells_of : (m n : ℕ) (W T : List (List ℤ)) → m ≡ n → IsCellSet n T → W ≡ evm n T → cells m W ≡ T
cells_of m n W T e t w = ap₂ (λ (k : ℕ) (V : List (List ℤ)). cells k V) e w ∙ cells-evm n T t

-- ---- the moves

-- a move that may be made on either side of equality
counted : (n : ℕ) (f g : List ℤ → List ℤ) (V : List (List ℤ)) (p : List ℤ) → IsVertexList n V → ((q : List ℤ) → length q ≡ n → same (f q) p ≡ same q (g p)) → odd (count_by (λ q. same q p) (map f V)) ≡ has (evm n (cells n V)) (g p)
counted n f g V p v e =
    odd-count (λ (q : List ℤ). same q p) (map f V)
    ∙ xsum-map (λ (q : List ℤ). same q p) f V
    ∙ xsum-same_on (is_point n) (λ q. same (f q) p) (λ q. same q (g p)) (λ q m. let (l, b) = point_parts n q m in e q l) V v.points
    ∙ xsum-same_place V (g p) v.ascends
    ∙ ap (λ W. has W (g p)) (sym (evm-cells n V v))

pub mirror_are : (n i : ℕ) (V W : List (List ℤ)) → IsVertexList n V → IsReduced n (map (negated i) V) W → W ≡ evm n (mirror n i (cells n V))
mirror_are n i V W v r =
    by_place n (mirror n i (cells n V)) W (cell_set-mirror n i (cells n V)) r.ascends r.wide
    (λ p e. r.odd_times p ∙ counted n (negated i) (negated i) V p v (λ q l. same-negated i q p) ∙ sym (has-mirror n i (cells n V) p (cell_set-cells n V) e))

swap_sides : (n i j : ℕ) (q p : List ℤ) → i < n → j < n → length q ≡ n → length p ≡ n → same (swap q i j) p ≡ same q (swap p i j)
unfolding same
swap_sides n i j q p a b l e = each-swap int_eq i j q p (omega arith) (omega arith) (omega arith)

pub swap_are : (n i j : ℕ) (V W : List (List ℤ)) → i < n → j < n → IsVertexList n V → IsReduced n (map (λ p. swap p i j) V) W → W ≡ evm n (swap_axes n i j (cells n V))
swap_are n i j V W a b v r =
    by_place n (swap_axes n i j (cells n V)) W (cell_set-swap n i j (cells n V)) r.ascends r.wide
    (λ p e. r.odd_times p ∙ counted n (λ q. swap q i j) (λ q. swap q i j) V p v (λ q l. swap_sides n i j q p a b l e) ∙ sym (has-swap n i j (cells n V) p a b (cell_set-cells n V) e))

front_sides : (n i : ℕ) (q p : List ℤ) → i < n → length q ≡ n → length p ≡ n → same (fronted i q) p ≡ same q (unfronted i p)
unfolding same
front_sides n i q p a l e = sym (each-fronted int_eq i q p (omega arith) (omega arith))

pub front_are : (n i : ℕ) (V W : List (List ℤ)) → i < n → IsVertexList n V → IsReduced n (map (fronted i) V) W → W ≡ evm n (front n i (cells n V))
front_are zero i V W a v r = absurd (omega arith)
front_are (suc n) i V W a v r =
    by_place (suc n) (front (suc n) i (cells (suc n) V)) W (cell_set-front (suc n) i (cells (suc n) V)) r.ascends r.wide
    (λ p e. r.odd_times p ∙ counted (suc n) (fronted i) (unfronted i) V p v (λ q l. front_sides (suc n) i q p a l e) ∙ sym (has-front n i (cells (suc n) V) p a (cell_set-cells (suc n) V) e))
