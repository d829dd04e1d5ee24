-- The two sides of a plane, and what the vertices tell of them.
use Rattle.std.proofs.Common.{◌≡◌, ℕ, suc, ◌<◌, ◌≤ℤ◌, ◌<ℤ◌, Bool, true, false, not, cond, ◌&&◌, List, [], ◌∷◌, length, filter, ℤ, int_le, int_lt, refl, sym, ap, ap₂, ◌∙◌, arith}
use Rattle.std.specs.List.{list_all}
use Rattle.std.proofs.lemmas.Bool.{true≢false}
use Rattle.std.proofs.lemmas.Int.{ints as int_facts}
use Rattle.evm_cells.specs.Places.{same, before, each, has, without}
use Rattle.evm_cells.specs.Limits.{is_point, is_cell, IsCellSet}
use Rattle.evm_cells.specs.Booleans.{xor, xor_cells}
use Rattle.evm_cells.specs.Vertices.{cells}
use Rattle.evm_cells.specs.Windows.{is_under, is_over, TwoSides, RowsUnder, RowsOver}
use Rattle.evm_cells.proofs.Xor.{xsum, xsum-same_on, and_first, and_second, and_both}
use Rattle.evm_cells.proofs.Sum.{xsum-none}
use Rattle.evm_cells.proofs.Lists.{all_members}
use Rattle.evm_cells.proofs.Order.{all-filter}
use Rattle.evm_cells.proofs.Places.{strict_places, has-any}
use Rattle.evm_cells.proofs.Coords.{le_yes, le_no, lt_yes, lt_no, le_is, by_order}
use Rattle.evm_cells.proofs.Universe.{point_parts, cell_parts, same_sets, cell_set-cells, ascending-filter, has-filter, member_passes}
use Rattle.evm_cells.proofs.Core.{even_sum, has-cells_even, length-without}
use Rattle.evm_cells.proofs.Layers.{all_and}
use Rattle.evm_cells.proofs.Combine.{cell_set-xor, has-xor_cells}
use Rattle.evm_cells.proofs.Slices.{coord, each-with_at}
use Rattle.evm_cells.proofs.SectionSums.{with_at-without}
use Rattle.evm_cells.proofs.Clamping.{not_less, not_most}

pub cell_set-part : (n : ℕ) (t : List ℤ → Bool) (S : List (List ℤ)) → IsCellSet n S → IsCellSet n (filter t S)
cell_set-part n t S s = record { ascends = ascending-filter t S s.ascends; cells = all-filter same before strict_places (is_cell n) t S s.cells }

over_is : (at x : ℤ) → int_le at x ≡ not (int_lt x at)
over_is at x = by_order x at (λ l. le_no at x l ∙ ap not (sym (lt_yes x at l))) (λ e. le_yes at x (omega (arith, int_facts)) ∙ ap not (sym (lt_no x at (omega (arith, int_facts))))) (λ l. le_yes at x (omega (arith, int_facts)) ∙ ap not (sym (lt_no x at (omega (arith, int_facts)))))

-- a cell set is the exclusive or of its two sides of a plane
pub two_sides : TwoSides
unfolding xor
two_sides n i at S s =
    let u : IsCellSet n (filter (is_under i at) S) = cell_set-part n (is_under i at) S s in
    let o : IsCellSet n (filter (is_over i at) S) = cell_set-part n (is_over i at) S s in
    let x : IsCellSet n (xor_cells n (filter (is_under i at) S) (filter (is_over i at) S)) = cell_set-xor n (filter (is_under i at) S) (filter (is_over i at) S) in
    same_sets (xor_cells n (filter (is_under i at) S) (filter (is_over i at) S)) S x.ascends s.ascends
    (λ c. has-xor_cells n (filter (is_under i at) S) (filter (is_over i at) S) c u o
    ∙ ap₂ xor (has-filter (is_under i at) S c) (has-filter (is_over i at) S c ∙ ap (λ t. has S c && t) (over_is at (coord i c)))
    ∙ either (has S c) (int_lt (coord i c) at))
  where
    either : (a b : Bool) → xor (a && b) (a && not b) ≡ a
    either true true = refl
    either true false = refl
    either false b = refl

-- ---- sides, as the rows show them

at_axis : (i : ℕ) (q c : List ℤ) → i < length c → length q ≡ length c → each int_le q c ≡ (int_le (coord i q) (coord i c) && each int_le (without i q) (without i c))
at_axis i q c l e =
    ap (each int_le q) (sym (with_at-without i c l))
    ∙ each-with_at int_le i (coord i c) q (without i c) (omega arith) (let f : suc (length (without i c)) ≡ length c = length-without i c l in omega arith)

pub rows_under : RowsUnder
rows_under n i at V l v h =
    all_members same before strict_places (is_under i at) (cells n V)
    (λ c m. found c (member_passes (is_cell n) (cells n V) c (let k : IsCellSet n (cells n V) = cell_set-cells n V in k.cells) (has-any (cells n V) c ∙ m)) (has-any (cells n V) c ∙ m))
  where
    sees : (c : List ℤ) → length c ≡ n → at ≤ℤ coord i c → xsum (λ q. each int_le q c) V ≡ false
    sees c e b =
        xsum-same_on (λ q. is_point n q && int_le (coord i q) at) (λ q. each int_le q c) (λ q. each int_le (without i q) (without i c))
        (λ q w. let (g, a) = point_parts n q (and_first (is_point n q) (int_le (coord i q) at) w) in
        let u : coord i q ≤ℤ at = le_is (coord i q) at (and_second (is_point n q) (int_le (coord i q) at) w) in
        at_axis i q c (omega arith) (g ∙ sym e) ∙ ap (λ t. t && each int_le (without i q) (without i c)) (le_yes (coord i q) (coord i c) (omega (arith, int_facts))))
        V (all_and (is_point n) (λ q. int_le (coord i q) at) V v.points h)
        ∙ even_sum n V v.points v.even i l (λ r. each int_le r (without i c))

    found : (c : List ℤ) → is_cell n c ≡ true → has (cells n V) c ≡ true → is_under i at c ≡ true
    found c w m = decide (is_under i at c) refl
      where
        decide : (b : Bool) → is_under i at c ≡ b → is_under i at c ≡ true
        decide true e = e
        decide false e =
            let (g, a) = cell_parts n c w in
            absurd (true≢false (sym m ∙ has-cells_even n V c v g ∙ sees c g (not_less (coord i c) at e)))

pub rows_over : RowsOver
rows_over n i at V l v h =
    all_members same before strict_places (is_over i at) (cells n V)
    (λ c m. found c (member_passes (is_cell n) (cells n V) c (let k : IsCellSet n (cells n V) = cell_set-cells n V in k.cells) (has-any (cells n V) c ∙ m)) (has-any (cells n V) c ∙ m))
  where
    sees : (c : List ℤ) → length c ≡ n → coord i c <ℤ at → xsum (λ q. each int_le q c) V ≡ false
    sees c e b =
        xsum-same_on (λ q. is_point n q && int_le at (coord i q)) (λ q. each int_le q c) (λ q. false)
        (λ q w. let (g, a) = point_parts n q (and_first (is_point n q) (int_le at (coord i q)) w) in
        let u : at ≤ℤ coord i q = le_is at (coord i q) (and_second (is_point n q) (int_le at (coord i q)) w) in
        at_axis i q c (omega arith) (g ∙ sym e) ∙ ap (λ t. t && each int_le (without i q) (without i c)) (le_no (coord i q) (coord i c) (omega (arith, int_facts))))
        V (all_and (is_point n) (λ q. int_le at (coord i q)) V v.points h)
        ∙ xsum-none V

    found : (c : List ℤ) → is_cell n c ≡ true → has (cells n V) c ≡ true → is_over i at c ≡ true
    found c w m = decide (is_over i at c) refl
      where
        decide : (b : Bool) → is_over i at c ≡ b → is_over i at c ≡ true
        decide true e = e
        decide false e =
            let (g, a) = cell_parts n c w in
            absurd (true≢false (sym m ∙ has-cells_even n V c v g ∙ sees c g (not_most at (coord i c) e)))
