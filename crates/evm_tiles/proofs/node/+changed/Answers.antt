use Rattle.evm_cells.specs.Windows.{is_under, is_over}
use Rattle.evm_cells.proofs.Sides.{two_sides, cell_set-part}
use Rattle.std.proofs.Common.{arith, rules, ◌≡◌, ◌-◌, ◌<◌, ℕ, IfSome, ℤ, List, true, filter, refl, sym, ap, ap₂, ◌∙◌, subst, ltb-true, w32, to_z, of_z, SFits}
use Rattle.std.specs.List.{list_all}
use Rattle.evm_cells.specs.Booleans.{xor_cells}
use Rattle.evm_cells.proofs.Layers.{filter_all}
use Rattle.evm_cells.proofs.Universe.{cell_set-cells}
use Rattle.evm_rows.specs.Rows.{Vertices, cells_of}
use Rattle.evm_rows.specs.View.{vertices_of}
use Rattle.evm_rows.proofs.BoxTests.{same32}
use Rattle.evm_cutting.specs.Cuts.{IsBetween}
use Rattle.evm_tiles.specs.Trees.{node_cells, node_count, is_well}
use Rattle.evm_tiles.proofs.Parts.{sides_of, change_first, change_second, change_both, all-xor}
use Rattle.evm_tiles.proofs.Trees.{halves, between_of, cut_cells, leaf_dim, leaf_cells, leaf_count, low_smaller, high_smaller, cell_set-node}
use Rattle.evm_tiles.proofs.node.+changed.Goals as goal

pub opened-requires : goal.opened-requires
opened-requires t c =
    let n : ℕ = c.args.d.now.dim in
    sym (leaf_dim n c.deref.result.now c.in-Leaf.solid c.in-Leaf.most c.in-Leaf.is (ap (is_well n) c.deref.ensures ∙ c.requires))

pub changed-requires : goal.changed-requires
changed-requires t c =
    let n : ℕ = c.args.d.now.dim in
    let e : c.in-Leaf.solid.dim ≡ n = leaf_dim n c.deref.result.now c.in-Leaf.solid c.in-Leaf.most c.in-Leaf.is (ap (is_well n) c.deref.ensures ∙ c.requires) in
    let three : node_count c.in-Some.open.value ≡ 3 = subst (λ o. IfSome o (λ y. node_count y.value ≡ 3)) c.in-Some.is c.in_ok-halves-in-Leaf.ensures.count in
    let more : 0 < c.args.fuel = subst (λ o. IfSome o (λ y. 0 < c.args.fuel)) c.in-Some.is c.in_ok-halves-in-Leaf.ensures.fuel in
    let one : node_count c.deref.result.now ≡ 1 = leaf_count c.in-Leaf.solid c.in-Leaf.most c.deref.result.now c.in-Leaf.is in
    let d = c.decreases in (
      let g = ap node_count c.deref.ensures in omega (arith, three, more, one, d, g),
      ap (λ (m : ℕ). is_well m c.in-Some.open.value) (sym e) ∙ subst (λ o. IfSome o (λ y. is_well c.in-Leaf.solid.dim y.value ≡ true)) c.in-Some.is c.in_ok-halves-in-Leaf.ensures.well,
    )

pub returns-in-Some-clause-cells : goal.returns-in-Some-clause-cells
returns-in-Some-clause-cells t c =
    let n : ℕ = c.args.d.now.dim in
    let w : is_well n c.deref.result.now ≡ true = ap (is_well n) c.deref.ensures ∙ c.requires in
    let e : c.in-Leaf.solid.dim ≡ n = leaf_dim n c.deref.result.now c.in-Leaf.solid c.in-Leaf.most c.in-Leaf.is w in
    let same : node_cells c.in-Leaf.solid.dim c.in-Some.open.value ≡ cells_of c.in-Leaf.solid =
    subst (λ o. IfSome o (λ y. node_cells c.in-Leaf.solid.dim y.value ≡ cells_of c.in-Leaf.solid)) c.in-Some.is c.in_ok-halves-in-Leaf.ensures.cells in
    c.in_ok-node-in-Leaf.ensures.cells
    ∙ ap (λ X. xor_cells n X (cells_of c.args.d.now))
    (ap (λ (m : ℕ). node_cells m c.in-Some.open.value) (sym e) ∙ same ∙ sym (leaf_cells n c.deref.result.now c.in-Leaf.solid c.in-Leaf.most c.in-Leaf.is w) ∙ ap (node_cells n) c.deref.ensures)

pub leaf_changed-requires : goal.leaf_changed-requires
leaf_changed-requires t c =
    let n : ℕ = c.args.d.now.dim in
    let w : is_well n c.deref.result.now ≡ true = ap (is_well n) c.deref.ensures ∙ c.requires in
    record {
      dim = leaf_dim n c.deref.result.now c.in-Leaf.solid c.in-Leaf.most c.in-Leaf.is w;
      well = c.requires;
      cells = ap (node_cells n) (sym c.deref.ensures) ∙ leaf_cells n c.deref.result.now c.in-Leaf.solid c.in-Leaf.most c.in-Leaf.is w;
    }

pub side_of-requires : goal.side_of-requires
side_of-requires t c =
    let n : ℕ = c.args.d.now.dim in
    let h = halves n c.deref.result.now c.in-Cut.axis c.in-Cut.at c.in-Cut.low c.in-Cut.high c.in-Cut.is (ap (is_well n) c.deref.ensures ∙ c.requires) in
    let d : c.rows.result.width - c.rows.result.skip ≡ n = ap (λ (v : Vertices). v.dim) c.rows.ensures in
    let a = ltb-true c.in-Cut.axis n h.fits in
    omega (arith, a, d)

pub changed-requires-in-Below : goal.changed-requires-in-Below
changed-requires-in-Below t c =
    let n : ℕ = c.args.d.now.dim in
    let h = halves n c.deref.result.now c.in-Cut.axis c.in-Cut.at c.in-Cut.low c.in-Cut.high c.in-Cut.is (ap (is_well n) c.deref.ensures ∙ c.requires) in
    let f = low_smaller c.deref.result.now c.in-Cut.low.value c.in-Cut.axis c.in-Cut.at c.in-Cut.low c.in-Cut.high c.in-Cut.is refl in
    let d = c.decreases in
    (let g = ap node_count c.deref.ensures in omega (arith, f, d, g), h.first)

pub changed-requires-in-Above : goal.changed-requires-in-Above
changed-requires-in-Above t c =
    let n : ℕ = c.args.d.now.dim in
    let h = halves n c.deref.result.now c.in-Cut.axis c.in-Cut.at c.in-Cut.low c.in-Cut.high c.in-Cut.is (ap (is_well n) c.deref.ensures ∙ c.requires) in
    let f = high_smaller c.deref.result.now c.in-Cut.high.value c.in-Cut.axis c.in-Cut.at c.in-Cut.low c.in-Cut.high c.in-Cut.is refl in
    let d = c.decreases in
    (let g = ap node_count c.deref.ensures in omega (arith, f, d, g), h.second)

pub changed-requires-in-Both : goal.changed-requires-in-Both
changed-requires-in-Both t c =
    let n : ℕ = c.args.d.now.dim in
    let h = halves n c.deref.result.now c.in-Cut.axis c.in-Cut.at c.in-Cut.low c.in-Cut.high c.in-Cut.is (ap (is_well n) c.deref.ensures ∙ c.requires) in
    let f = low_smaller c.deref.result.now c.in-Cut.low.value c.in-Cut.axis c.in-Cut.at c.in-Cut.low c.in-Cut.high c.in-Cut.is refl in
    let fa : SFits w32 c.in-Cut.at = search rules in
    let z : ℤ = to_z w32 (of_z w32 c.in-Cut.at) in
    let e : z ≡ c.in-Cut.at = same32 c.in-Cut.at fa in
    let p = sides_of (vertices_of c.rows-in-Both.result) c.args.d.now c.in-Cut.axis z c.in-Cut.at c.in_ok-parts-in-Both.parts c.rows-in-Both.ensures e c.in_ok-parts-in-Both.ensures in
    let d = c.decreases in
    (let g = ap node_count c.deref.ensures in omega (arith, f, d, g), ap (λ (m : ℕ). is_well m c.in-Cut.low.value) p.0 ∙ h.first)

pub changed-requires-in-Both-2 : goal.changed-requires-in-Both-2
changed-requires-in-Both-2 t c =
    let n : ℕ = c.args.d.now.dim in
    let h = halves n c.deref.result.now c.in-Cut.axis c.in-Cut.at c.in-Cut.low c.in-Cut.high c.in-Cut.is (ap (is_well n) c.deref.ensures ∙ c.requires) in
    let f = high_smaller c.deref.result.now c.in-Cut.high.value c.in-Cut.axis c.in-Cut.at c.in-Cut.low c.in-Cut.high c.in-Cut.is refl in
    let fa : SFits w32 c.in-Cut.at = search rules in
    let z : ℤ = to_z w32 (of_z w32 c.in-Cut.at) in
    let e : z ≡ c.in-Cut.at = same32 c.in-Cut.at fa in
    let p = sides_of (vertices_of c.rows-in-Both.result) c.args.d.now c.in-Cut.axis z c.in-Cut.at c.in_ok-parts-in-Both.parts c.rows-in-Both.ensures e c.in_ok-parts-in-Both.ensures in
    let d = c.decreases in
    (let g = ap node_count c.deref.ensures in omega (arith, f, d, g), ap (λ (m : ℕ). is_well m c.in-Cut.high.value) p.2 ∙ h.second)

pub joined-requires-clause-between : goal.joined-requires-clause-between
joined-requires-clause-between t c =
    let n : ℕ = c.args.d.now.dim in
    let h = halves n c.deref.result.now c.in-Cut.axis c.in-Cut.at c.in-Cut.low c.in-Cut.high c.in-Cut.is (ap (is_well n) c.deref.ensures ∙ c.requires) in
    let fa : SFits w32 c.in-Cut.at = search rules in
    let z : ℤ = to_z w32 (of_z w32 c.in-Cut.at) in
    let e : z ≡ c.in-Cut.at = same32 c.in-Cut.at fa in
    let b : IsBetween n c.in-Cut.axis c.in-Cut.at = between_of n c.in-Cut.axis c.in-Cut.at c.in-Cut.low.value c.in-Cut.high.value h in
    subst (λ (m : ℕ). IsBetween m c.in-Cut.axis z) (sym c.dim.ensures) (subst (λ (y : ℤ). IsBetween n c.in-Cut.axis y) (sym e) b)

pub joined-requires-in-Above-clause-between : goal.joined-requires-in-Above-clause-between
joined-requires-in-Above-clause-between t c =
    let n : ℕ = c.args.d.now.dim in
    let h = halves n c.deref.result.now c.in-Cut.axis c.in-Cut.at c.in-Cut.low c.in-Cut.high c.in-Cut.is (ap (is_well n) c.deref.ensures ∙ c.requires) in
    let fa : SFits w32 c.in-Cut.at = search rules in
    let z : ℤ = to_z w32 (of_z w32 c.in-Cut.at) in
    let e : z ≡ c.in-Cut.at = same32 c.in-Cut.at fa in
    let b : IsBetween n c.in-Cut.axis c.in-Cut.at = between_of n c.in-Cut.axis c.in-Cut.at c.in-Cut.low.value c.in-Cut.high.value h in
    subst (λ (m : ℕ). IsBetween m c.in-Cut.axis z) (sym c.dim-in-Above.ensures) (subst (λ (y : ℤ). IsBetween n c.in-Cut.axis y) (sym e) b)

pub joined-requires-in-Both-clause-between : goal.joined-requires-in-Both-clause-between
joined-requires-in-Both-clause-between t c =
    let n : ℕ = c.args.d.now.dim in
    let h = halves n c.deref.result.now c.in-Cut.axis c.in-Cut.at c.in-Cut.low c.in-Cut.high c.in-Cut.is (ap (is_well n) c.deref.ensures ∙ c.requires) in
    let fa : SFits w32 c.in-Cut.at = search rules in
    let z : ℤ = to_z w32 (of_z w32 c.in-Cut.at) in
    let e : z ≡ c.in-Cut.at = same32 c.in-Cut.at fa in
    let b : IsBetween n c.in-Cut.axis c.in-Cut.at = between_of n c.in-Cut.axis c.in-Cut.at c.in-Cut.low.value c.in-Cut.high.value h in
    subst (λ (m : ℕ). IsBetween m c.in-Cut.axis z) (sym c.dim-in-Both.ensures) (subst (λ (y : ℤ). IsBetween n c.in-Cut.axis y) (sym e) b)

pub joined-requires-clause-under : goal.joined-requires-clause-under
joined-requires-clause-under t c =
    let n : ℕ = c.args.d.now.dim in
    let h = halves n c.deref.result.now c.in-Cut.axis c.in-Cut.at c.in-Cut.low c.in-Cut.high c.in-Cut.is (ap (is_well n) c.deref.ensures ∙ c.requires) in
    let fa : SFits w32 c.in-Cut.at = search rules in
    let z : ℤ = to_z w32 (of_z w32 c.in-Cut.at) in
    let e : z ≡ c.in-Cut.at = same32 c.in-Cut.at fa in
    let A : List (List ℤ) = node_cells n c.in-Cut.low.value in
    let B : List (List ℤ) = node_cells n c.in-Cut.high.value in
    let D : List (List ℤ) = cells_of c.args.d.now in
    let side : list_all (is_under c.in-Cut.axis c.in-Cut.at) D ≡ true =
    ap (λ (y : ℤ). list_all (is_under c.in-Cut.axis y) D) (sym e) ∙ ap (λ (v : Vertices). list_all (is_under c.in-Cut.axis z) (cells_of v)) (sym c.rows.ensures) ∙ c.in-Below.ensures in
    ap (λ (m : ℕ). list_all (is_under c.in-Cut.axis z) (node_cells m c.in_ok-below-in-Below.below.value)) c.dim.ensures
    ∙ ap (λ (y : ℤ). list_all (is_under c.in-Cut.axis y) (node_cells n c.in_ok-below-in-Below.below.value)) e
    ∙ ap (list_all (is_under c.in-Cut.axis c.in-Cut.at)) (c.in_ok-below-in-Below.ensures.cells ∙ ap (λ y. xor_cells n (node_cells n y) D) refl) ∙ all-xor n (is_under c.in-Cut.axis c.in-Cut.at) A D (cell_set-node n c.in-Cut.low.value) (cell_set-cells n c.args.d.now.rows) h.under side

pub joined-requires-clause-over : goal.joined-requires-clause-over
joined-requires-clause-over t c =
    let n : ℕ = c.args.d.now.dim in
    let h = halves n c.deref.result.now c.in-Cut.axis c.in-Cut.at c.in-Cut.low c.in-Cut.high c.in-Cut.is (ap (is_well n) c.deref.ensures ∙ c.requires) in
    let fa : SFits w32 c.in-Cut.at = search rules in
    let z : ℤ = to_z w32 (of_z w32 c.in-Cut.at) in
    let e : z ≡ c.in-Cut.at = same32 c.in-Cut.at fa in
    ap (λ (m : ℕ). list_all (is_over c.in-Cut.axis z) (node_cells m c.in_ok-above-in-Below.above.value)) c.dim.ensures
    ∙ ap (λ (y : ℤ). list_all (is_over c.in-Cut.axis y) (node_cells n c.in_ok-above-in-Below.above.value)) e
    ∙ ap (λ y. list_all (is_over c.in-Cut.axis c.in-Cut.at) (node_cells n y)) c.in_ok-above-in-Below.ensures.cases ∙ h.over

pub joined-requires-clause-high : goal.joined-requires-clause-high
joined-requires-clause-high t c =
    let n : ℕ = c.args.d.now.dim in
    let h = halves n c.deref.result.now c.in-Cut.axis c.in-Cut.at c.in-Cut.low c.in-Cut.high c.in-Cut.is (ap (is_well n) c.deref.ensures ∙ c.requires) in
    ap (λ (m : ℕ). is_well m c.in_ok-above-in-Below.above.value) c.dim.ensures ∙ ap (is_well n) c.in_ok-above-in-Below.ensures.cases ∙ h.second

pub joined-requires-in-Above-clause-under : goal.joined-requires-in-Above-clause-under
joined-requires-in-Above-clause-under t c =
    let n : ℕ = c.args.d.now.dim in
    let h = halves n c.deref.result.now c.in-Cut.axis c.in-Cut.at c.in-Cut.low c.in-Cut.high c.in-Cut.is (ap (is_well n) c.deref.ensures ∙ c.requires) in
    let fa : SFits w32 c.in-Cut.at = search rules in
    let z : ℤ = to_z w32 (of_z w32 c.in-Cut.at) in
    let e : z ≡ c.in-Cut.at = same32 c.in-Cut.at fa in
    ap (λ (m : ℕ). list_all (is_under c.in-Cut.axis z) (node_cells m c.in_ok-below-in-Above.below.value)) c.dim-in-Above.ensures
    ∙ ap (λ (y : ℤ). list_all (is_under c.in-Cut.axis y) (node_cells n c.in_ok-below-in-Above.below.value)) e
    ∙ ap (λ y. list_all (is_under c.in-Cut.axis c.in-Cut.at) (node_cells n y)) c.in_ok-below-in-Above.ensures.cases ∙ h.under

pub joined-requires-in-Above-clause-low : goal.joined-requires-in-Above-clause-low
joined-requires-in-Above-clause-low t c =
    let n : ℕ = c.args.d.now.dim in
    let h = halves n c.deref.result.now c.in-Cut.axis c.in-Cut.at c.in-Cut.low c.in-Cut.high c.in-Cut.is (ap (is_well n) c.deref.ensures ∙ c.requires) in
    ap (λ (m : ℕ). is_well m c.in_ok-below-in-Above.below.value) c.dim-in-Above.ensures ∙ ap (is_well n) c.in_ok-below-in-Above.ensures.cases ∙ h.first

pub joined-requires-in-Above-clause-over : goal.joined-requires-in-Above-clause-over
joined-requires-in-Above-clause-over t c =
    let n : ℕ = c.args.d.now.dim in
    let h = halves n c.deref.result.now c.in-Cut.axis c.in-Cut.at c.in-Cut.low c.in-Cut.high c.in-Cut.is (ap (is_well n) c.deref.ensures ∙ c.requires) in
    let fa : SFits w32 c.in-Cut.at = search rules in
    let z : ℤ = to_z w32 (of_z w32 c.in-Cut.at) in
    let e : z ≡ c.in-Cut.at = same32 c.in-Cut.at fa in
    let A : List (List ℤ) = node_cells n c.in-Cut.low.value in
    let B : List (List ℤ) = node_cells n c.in-Cut.high.value in
    let D : List (List ℤ) = cells_of c.args.d.now in
    let side : list_all (is_over c.in-Cut.axis c.in-Cut.at) D ≡ true =
    ap (λ (y : ℤ). list_all (is_over c.in-Cut.axis y) D) (sym e) ∙ ap (λ (v : Vertices). list_all (is_over c.in-Cut.axis z) (cells_of v)) (sym c.rows.ensures) ∙ c.in-Above.ensures in
    ap (λ (m : ℕ). list_all (is_over c.in-Cut.axis z) (node_cells m c.in_ok-above-in-Above.above.value)) c.dim-in-Above.ensures
    ∙ ap (λ (y : ℤ). list_all (is_over c.in-Cut.axis y) (node_cells n c.in_ok-above-in-Above.above.value)) e
    ∙ ap (list_all (is_over c.in-Cut.axis c.in-Cut.at)) (c.in_ok-above-in-Above.ensures.cells ∙ ap (λ y. xor_cells n (node_cells n y) D) refl) ∙ all-xor n (is_over c.in-Cut.axis c.in-Cut.at) B D (cell_set-node n c.in-Cut.high.value) (cell_set-cells n c.args.d.now.rows) h.over side

pub cut_at-requires : goal.cut_at-requires
cut_at-requires t c =
    let n : ℕ = c.args.d.now.dim in
    let h = halves n c.deref.result.now c.in-Cut.axis c.in-Cut.at c.in-Cut.low c.in-Cut.high c.in-Cut.is (ap (is_well n) c.deref.ensures ∙ c.requires) in
    let fa : SFits w32 c.in-Cut.at = search rules in
    let z : ℤ = to_z w32 (of_z w32 c.in-Cut.at) in
    let e : z ≡ c.in-Cut.at = same32 c.in-Cut.at fa in
    let d : c.rows-in-Both.result.width - c.rows-in-Both.result.skip ≡ n = ap (λ (v : Vertices). v.dim) c.rows-in-Both.ensures in
    let b : IsBetween n c.in-Cut.axis c.in-Cut.at = between_of n c.in-Cut.axis c.in-Cut.at c.in-Cut.low.value c.in-Cut.high.value h in
    subst (λ (m : ℕ). IsBetween m c.in-Cut.axis z) (sym d) (subst (λ (y : ℤ). IsBetween n c.in-Cut.axis y) (sym e) b)

pub joined-requires-in-Both-clause-under : goal.joined-requires-in-Both-clause-under
joined-requires-in-Both-clause-under t c =
    let n : ℕ = c.args.d.now.dim in
    let h = halves n c.deref.result.now c.in-Cut.axis c.in-Cut.at c.in-Cut.low c.in-Cut.high c.in-Cut.is (ap (is_well n) c.deref.ensures ∙ c.requires) in
    let fa : SFits w32 c.in-Cut.at = search rules in
    let z : ℤ = to_z w32 (of_z w32 c.in-Cut.at) in
    let e : z ≡ c.in-Cut.at = same32 c.in-Cut.at fa in
    let p = sides_of (vertices_of c.rows-in-Both.result) c.args.d.now c.in-Cut.axis z c.in-Cut.at c.in_ok-parts-in-Both.parts c.rows-in-Both.ensures e c.in_ok-parts-in-Both.ensures in
    let A : List (List ℤ) = node_cells n c.in-Cut.low.value in
    let B : List (List ℤ) = node_cells n c.in-Cut.high.value in
    let D : List (List ℤ) = cells_of c.args.d.now in
    let F : List (List ℤ) = filter (is_under c.in-Cut.axis c.in-Cut.at) D in
    let G : List (List ℤ) = filter (is_over c.in-Cut.axis c.in-Cut.at) D in
    let q : node_cells n c.in_ok-below-in-Both.below.value ≡ xor_cells n A F = sym (ap (λ (m : ℕ). node_cells m c.in_ok-below-in-Both.below.value) p.0) ∙ c.in_ok-below-in-Both.ensures.cells ∙ ap (λ (m : ℕ). xor_cells m (node_cells m c.in-Cut.low.value) (cells_of c.in_ok-parts-in-Both.parts.low)) p.0
    ∙ ap₂ (λ X Y. xor_cells n X Y) refl p.1 in
    ap (λ (m : ℕ). list_all (is_under c.in-Cut.axis z) (node_cells m c.in_ok-below-in-Both.below.value)) c.dim-in-Both.ensures
    ∙ ap (λ (y : ℤ). list_all (is_under c.in-Cut.axis y) (node_cells n c.in_ok-below-in-Both.below.value)) e
    ∙ ap (list_all (is_under c.in-Cut.axis c.in-Cut.at)) q ∙ all-xor n (is_under c.in-Cut.axis c.in-Cut.at) A F (cell_set-node n c.in-Cut.low.value) (cell_set-part n (is_under c.in-Cut.axis c.in-Cut.at) D (cell_set-cells n c.args.d.now.rows)) h.under (filter_all (is_under c.in-Cut.axis c.in-Cut.at) D)

pub joined-requires-in-Both-clause-over : goal.joined-requires-in-Both-clause-over
joined-requires-in-Both-clause-over t c =
    let n : ℕ = c.args.d.now.dim in
    let h = halves n c.deref.result.now c.in-Cut.axis c.in-Cut.at c.in-Cut.low c.in-Cut.high c.in-Cut.is (ap (is_well n) c.deref.ensures ∙ c.requires) in
    let fa : SFits w32 c.in-Cut.at = search rules in
    let z : ℤ = to_z w32 (of_z w32 c.in-Cut.at) in
    let e : z ≡ c.in-Cut.at = same32 c.in-Cut.at fa in
    let p = sides_of (vertices_of c.rows-in-Both.result) c.args.d.now c.in-Cut.axis z c.in-Cut.at c.in_ok-parts-in-Both.parts c.rows-in-Both.ensures e c.in_ok-parts-in-Both.ensures in
    let A : List (List ℤ) = node_cells n c.in-Cut.low.value in
    let B : List (List ℤ) = node_cells n c.in-Cut.high.value in
    let D : List (List ℤ) = cells_of c.args.d.now in
    let F : List (List ℤ) = filter (is_under c.in-Cut.axis c.in-Cut.at) D in
    let G : List (List ℤ) = filter (is_over c.in-Cut.axis c.in-Cut.at) D in
    let q : node_cells n c.in_ok-above-in-Both.above.value ≡ xor_cells n B G = sym (ap (λ (m : ℕ). node_cells m c.in_ok-above-in-Both.above.value) p.2) ∙ c.in_ok-above-in-Both.ensures.cells ∙ ap (λ (m : ℕ). xor_cells m (node_cells m c.in-Cut.high.value) (cells_of c.in_ok-parts-in-Both.parts.high)) p.2
    ∙ ap₂ (λ X Y. xor_cells n X Y) refl p.3 in
    ap (λ (m : ℕ). list_all (is_over c.in-Cut.axis z) (node_cells m c.in_ok-above-in-Both.above.value)) c.dim-in-Both.ensures
    ∙ ap (λ (y : ℤ). list_all (is_over c.in-Cut.axis y) (node_cells n c.in_ok-above-in-Both.above.value)) e
    ∙ ap (list_all (is_over c.in-Cut.axis c.in-Cut.at)) q ∙ all-xor n (is_over c.in-Cut.axis c.in-Cut.at) B G (cell_set-node n c.in-Cut.high.value) (cell_set-part n (is_over c.in-Cut.axis c.in-Cut.at) D (cell_set-cells n c.args.d.now.rows)) h.over (filter_all (is_over c.in-Cut.axis c.in-Cut.at) D)

pub returns-in_ok-node-in-Below-clause-cells : goal.returns-in_ok-node-in-Below-clause-cells
returns-in_ok-node-in-Below-clause-cells t c =
    let n : ℕ = c.args.d.now.dim in
    let A : List (List ℤ) = node_cells n c.in-Cut.low.value in
    let B : List (List ℤ) = node_cells n c.in-Cut.high.value in
    let D : List (List ℤ) = cells_of c.args.d.now in
    sym (ap (λ (m : ℕ). node_cells m c.in_ok-node-in-Below.node.value) c.dim.ensures) ∙ c.in_ok-node-in-Below.ensures.cells
    ∙ ap (λ (m : ℕ). xor_cells m (node_cells m c.in_ok-below-in-Below.below.value) (node_cells m c.in_ok-above-in-Below.above.value)) c.dim.ensures
    ∙ ap₂ (λ X Y. xor_cells n X Y) (c.in_ok-below-in-Below.ensures.cells ∙ ap (λ y. xor_cells n (node_cells n y) D) refl) (ap (node_cells n) c.in_ok-above-in-Below.ensures.cases)
    ∙ change_first n A B D (cell_set-node n c.in-Cut.low.value) (cell_set-node n c.in-Cut.high.value) (cell_set-cells n c.args.d.now.rows)
    ∙ ap (λ X. xor_cells n X D) (sym (cut_cells n c.deref.result.now c.in-Cut.axis c.in-Cut.at c.in-Cut.low c.in-Cut.high c.in-Cut.is) ∙ ap (node_cells n) c.deref.ensures)

pub returns-in_ok-node-in-Above-clause-cells : goal.returns-in_ok-node-in-Above-clause-cells
returns-in_ok-node-in-Above-clause-cells t c =
    let n : ℕ = c.args.d.now.dim in
    let A : List (List ℤ) = node_cells n c.in-Cut.low.value in
    let B : List (List ℤ) = node_cells n c.in-Cut.high.value in
    let D : List (List ℤ) = cells_of c.args.d.now in
    sym (ap (λ (m : ℕ). node_cells m c.in_ok-node-in-Above.node.value) c.dim-in-Above.ensures) ∙ c.in_ok-node-in-Above.ensures.cells
    ∙ ap (λ (m : ℕ). xor_cells m (node_cells m c.in_ok-below-in-Above.below.value) (node_cells m c.in_ok-above-in-Above.above.value)) c.dim-in-Above.ensures
    ∙ ap₂ (λ X Y. xor_cells n X Y) (ap (node_cells n) c.in_ok-below-in-Above.ensures.cases) (c.in_ok-above-in-Above.ensures.cells ∙ ap (λ y. xor_cells n (node_cells n y) D) refl)
    ∙ change_second n A B D (cell_set-node n c.in-Cut.low.value) (cell_set-node n c.in-Cut.high.value) (cell_set-cells n c.args.d.now.rows)
    ∙ ap (λ X. xor_cells n X D) (sym (cut_cells n c.deref.result.now c.in-Cut.axis c.in-Cut.at c.in-Cut.low c.in-Cut.high c.in-Cut.is) ∙ ap (node_cells n) c.deref.ensures)

pub returns-in_ok-node-in-Both-clause-cells : goal.returns-in_ok-node-in-Both-clause-cells
returns-in_ok-node-in-Both-clause-cells t c =
    let n : ℕ = c.args.d.now.dim in
    let fa : SFits w32 c.in-Cut.at = search rules in
    let z : ℤ = to_z w32 (of_z w32 c.in-Cut.at) in
    let e : z ≡ c.in-Cut.at = same32 c.in-Cut.at fa in
    let p = sides_of (vertices_of c.rows-in-Both.result) c.args.d.now c.in-Cut.axis z c.in-Cut.at c.in_ok-parts-in-Both.parts c.rows-in-Both.ensures e c.in_ok-parts-in-Both.ensures in
    let A : List (List ℤ) = node_cells n c.in-Cut.low.value in
    let B : List (List ℤ) = node_cells n c.in-Cut.high.value in
    let D : List (List ℤ) = cells_of c.args.d.now in
    let F : List (List ℤ) = filter (is_under c.in-Cut.axis c.in-Cut.at) D in
    let G : List (List ℤ) = filter (is_over c.in-Cut.axis c.in-Cut.at) D in
    let D_set = cell_set-cells n c.args.d.now.rows in
    let q : node_cells n c.in_ok-below-in-Both.below.value ≡ xor_cells n A F = sym (ap (λ (m : ℕ). node_cells m c.in_ok-below-in-Both.below.value) p.0) ∙ c.in_ok-below-in-Both.ensures.cells ∙ ap (λ (m : ℕ). xor_cells m (node_cells m c.in-Cut.low.value) (cells_of c.in_ok-parts-in-Both.parts.low)) p.0
    ∙ ap₂ (λ X Y. xor_cells n X Y) refl p.1 in
    let r : node_cells n c.in_ok-above-in-Both.above.value ≡ xor_cells n B G = sym (ap (λ (m : ℕ). node_cells m c.in_ok-above-in-Both.above.value) p.2) ∙ c.in_ok-above-in-Both.ensures.cells ∙ ap (λ (m : ℕ). xor_cells m (node_cells m c.in-Cut.high.value) (cells_of c.in_ok-parts-in-Both.parts.high)) p.2
    ∙ ap₂ (λ X Y. xor_cells n X Y) refl p.3 in
    sym (ap (λ (m : ℕ). node_cells m c.in_ok-node-in-Both.node.value) c.dim-in-Both.ensures) ∙ c.in_ok-node-in-Both.ensures.cells
    ∙ ap (λ (m : ℕ). xor_cells m (node_cells m c.in_ok-below-in-Both.below.value) (node_cells m c.in_ok-above-in-Both.above.value)) c.dim-in-Both.ensures
    ∙ ap₂ (λ X Y. xor_cells n X Y) (q) (r)
    ∙ change_both n A B F G (cell_set-node n c.in-Cut.low.value) (cell_set-node n c.in-Cut.high.value) (cell_set-part n (is_under c.in-Cut.axis c.in-Cut.at) D D_set) (cell_set-part n (is_over c.in-Cut.axis c.in-Cut.at) D D_set) ∙ ap (λ X. xor_cells n (xor_cells n A B) X) (two_sides n c.in-Cut.axis c.in-Cut.at D D_set)
    ∙ ap (λ X. xor_cells n X D) (sym (cut_cells n c.deref.result.now c.in-Cut.axis c.in-Cut.at c.in-Cut.low c.in-Cut.high c.in-Cut.is) ∙ ap (node_cells n) c.deref.ensures)
