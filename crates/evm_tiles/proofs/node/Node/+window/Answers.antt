use Rattle.evm_cells.proofs.Insides.{box_lengths}
use Rattle.std.proofs.Common.{arith, rules, ◌≡◌, ◌-◌, ◌≤ℤ◌, ℕ, ℤ, length, get_or, pos, ap, ap₂, sym, ◌∙◌, ltb-true, w32, SFits}
use Rattle.evm_cells.specs.Booleans.{xor_cells}
use Rattle.evm_cells.specs.Boxes.{is_box}
use Rattle.evm_cells.specs.Shapes.{clip}
use Rattle.evm_cells.proofs.Coords.{le_is}
use Rattle.evm_rows.specs.Rows.{Vertices, cells_of}
use Rattle.evm_rows.proofs.BoxTests.{same32}
use Rattle.evm_tiles.specs.Trees.{node_cells, is_well}
use Rattle.evm_tiles.proofs.Trees.{halves, cut_cells, leaf_dim, leaf_cells, low_smaller, high_smaller, cell_set-node}
use Rattle.evm_tiles.proofs.Parts.{window_below, window_above, window_both}
use Rattle.evm_tiles.proofs.node.Node.+window.Goals as goal

pub clip-requires : goal.clip-requires
clip-requires t c =
    let n : ℕ = length c.args.lo.now in
    let d : c.rows.result.width - c.rows.result.skip ≡ n = ap (λ (v : Vertices). v.dim) c.rows.ensures ∙ leaf_dim n c.args.self.now c.in-Leaf.solid c.in-Leaf.most c.in-Leaf.is c.requires.well in
    ap (λ (m : ℕ). is_box m c.args.lo.now c.args.hi.now) d ∙ c.requires.inside

pub bounds-hi-axis : goal.bounds-hi-axis
bounds-hi-axis t c =
    let n : ℕ = length c.args.lo.now in
    let h = halves n c.args.self.now c.in-Cut.axis c.in-Cut.at c.in-Cut.low c.in-Cut.high c.in-Cut.is c.requires.well in
    let l = box_lengths n c.args.lo.now c.args.hi.now c.requires.inside in
    let a = ltb-true c.in-Cut.axis n h.fits in
    let b = l.1 in
    omega arith

pub bounds-lo-axis : goal.bounds-lo-axis
bounds-lo-axis t c =
    let n : ℕ = length c.args.lo.now in
    let h = halves n c.args.self.now c.in-Cut.axis c.in-Cut.at c.in-Cut.low c.in-Cut.high c.in-Cut.is c.requires.well in
    ltb-true c.in-Cut.axis n h.fits

pub window-requires : goal.window-requires
window-requires t c =
    let n : ℕ = length c.args.lo.now in
    let h = halves n c.args.self.now c.in-Cut.axis c.in-Cut.at c.in-Cut.low c.in-Cut.high c.in-Cut.is c.requires.well in
    let f = low_smaller c.args.self.now c.deref.result.now c.in-Cut.axis c.in-Cut.at c.in-Cut.low c.in-Cut.high c.in-Cut.is c.deref.ensures in
    let d = c.decreases in
    (omega (arith, f, d), (c.requires.few, (ap (is_well n) c.deref.ensures ∙ h.first, c.requires.inside)))

pub window-requires-then-at-lo : goal.window-requires-then-at-lo
window-requires-then-at-lo t c =
    let n : ℕ = length c.args.lo.now in
    let h = halves n c.args.self.now c.in-Cut.axis c.in-Cut.at c.in-Cut.low c.in-Cut.high c.in-Cut.is c.requires.well in
    let f = high_smaller c.args.self.now c.deref-then-at-lo.result.now c.in-Cut.axis c.in-Cut.at c.in-Cut.low c.in-Cut.high c.in-Cut.is c.deref-then-at-lo.ensures in
    let d = c.decreases in
    (omega (arith, f, d), (c.requires.few, (ap (is_well n) c.deref-then-at-lo.ensures ∙ h.second, c.requires.inside)))

pub window-requires-else-at-lo : goal.window-requires-else-at-lo
window-requires-else-at-lo t c =
    let n : ℕ = length c.args.lo.now in
    let h = halves n c.args.self.now c.in-Cut.axis c.in-Cut.at c.in-Cut.low c.in-Cut.high c.in-Cut.is c.requires.well in
    let f = low_smaller c.args.self.now c.deref-else-at-lo.result.now c.in-Cut.axis c.in-Cut.at c.in-Cut.low c.in-Cut.high c.in-Cut.is c.deref-else-at-lo.ensures in
    let d = c.decreases in
    (omega (arith, f, d), (c.requires.few, (ap (is_well n) c.deref-else-at-lo.ensures ∙ h.first, c.requires.inside)))

pub window-requires-else-at-lo-2 : goal.window-requires-else-at-lo-2
window-requires-else-at-lo-2 t c =
    let n : ℕ = length c.args.lo.now in
    let h = halves n c.args.self.now c.in-Cut.axis c.in-Cut.at c.in-Cut.low c.in-Cut.high c.in-Cut.is c.requires.well in
    let f = high_smaller c.args.self.now c.deref-else-at-lo-2.result.now c.in-Cut.axis c.in-Cut.at c.in-Cut.low c.in-Cut.high c.in-Cut.is c.deref-else-at-lo-2.ensures in
    let d = c.decreases in
    (omega (arith, f, d), (c.requires.few, (ap (is_well n) c.deref-else-at-lo-2.ensures ∙ h.second, c.requires.inside)))

pub returns-in_ok-part-in-Leaf-clause-dim : goal.returns-in_ok-part-in-Leaf-clause-dim
returns-in_ok-part-in-Leaf-clause-dim t c =
    c.in_ok-part-in-Leaf.ensures.dim ∙ ap (λ (v : Vertices). v.dim) c.rows.ensures ∙ leaf_dim (length c.args.lo.now) c.args.self.now c.in-Leaf.solid c.in-Leaf.most c.in-Leaf.is c.requires.well

pub returns-in_ok-part-in-Leaf-clause-cells : goal.returns-in_ok-part-in-Leaf-clause-cells
returns-in_ok-part-in-Leaf-clause-cells t c =
    let n : ℕ = length c.args.lo.now in
    c.in_ok-part-in-Leaf.ensures.cells
    ∙ ap (λ (v : Vertices). clip v.dim c.args.lo.now c.args.hi.now (cells_of v)) c.rows.ensures
    ∙ ap (λ (m : ℕ). clip m c.args.lo.now c.args.hi.now (cells_of c.in-Leaf.solid)) (leaf_dim n c.args.self.now c.in-Leaf.solid c.in-Leaf.most c.in-Leaf.is c.requires.well)
    ∙ ap (clip n c.args.lo.now c.args.hi.now) (sym (leaf_cells n c.args.self.now c.in-Leaf.solid c.in-Leaf.most c.in-Leaf.is c.requires.well))

pub returns-in_ok-part-in-Cut-clause-cells : goal.returns-in_ok-part-in-Cut-clause-cells
returns-in_ok-part-in-Cut-clause-cells t c =
    let n : ℕ = length c.args.lo.now in
    let lo = c.args.lo.now in
    let hi = c.args.hi.now in
    let h = halves n c.args.self.now c.in-Cut.axis c.in-Cut.at c.in-Cut.low c.in-Cut.high c.in-Cut.is c.requires.well in
    let fa : SFits w32 c.in-Cut.at = search rules in
    let x : ℤ = get_or hi c.in-Cut.axis (pos 0) in
    let fx : SFits w32 x = search rules in
    let e : x ≤ℤ c.in-Cut.at = le_is x c.in-Cut.at (rw (same32 x fx, same32 c.in-Cut.at fa) at c.if-hi-axis.true) in
    c.in_ok-part-in-Cut.ensures.cells ∙ ap (λ y. clip n lo hi (node_cells n y)) c.deref.ensures
    ∙ window_below n c.in-Cut.axis c.in-Cut.at lo hi (node_cells n c.in-Cut.low.value) (node_cells n c.in-Cut.high.value) (ltb-true c.in-Cut.axis n h.fits) (cell_set-node n c.in-Cut.low.value) (cell_set-node n c.in-Cut.high.value) h.over e
    ∙ ap (clip n lo hi) (sym (cut_cells n c.args.self.now c.in-Cut.axis c.in-Cut.at c.in-Cut.low c.in-Cut.high c.in-Cut.is))

pub returns-in_ok-part-in-Cut-2-clause-cells : goal.returns-in_ok-part-in-Cut-2-clause-cells
returns-in_ok-part-in-Cut-2-clause-cells t c =
    let n : ℕ = length c.args.lo.now in
    let lo = c.args.lo.now in
    let hi = c.args.hi.now in
    let h = halves n c.args.self.now c.in-Cut.axis c.in-Cut.at c.in-Cut.low c.in-Cut.high c.in-Cut.is c.requires.well in
    let l = box_lengths n lo hi c.requires.inside in
    let fa : SFits w32 c.in-Cut.at = search rules in
    let x : ℤ = get_or lo c.in-Cut.axis (pos 0) in
    let fx : SFits w32 x = search rules in
    let e : c.in-Cut.at ≤ℤ x = le_is c.in-Cut.at x (rw (same32 x fx, same32 c.in-Cut.at fa) at c.if-at-lo.true) in
    c.in_ok-part-in-Cut-2.ensures.cells ∙ ap (λ y. clip n lo hi (node_cells n y)) c.deref-then-at-lo.ensures
    ∙ window_above n c.in-Cut.axis c.in-Cut.at lo hi (node_cells n c.in-Cut.low.value) (node_cells n c.in-Cut.high.value) (ltb-true c.in-Cut.axis n h.fits) l.0 (cell_set-node n c.in-Cut.low.value) (cell_set-node n c.in-Cut.high.value) h.under e
    ∙ ap (clip n lo hi) (sym (cut_cells n c.args.self.now c.in-Cut.axis c.in-Cut.at c.in-Cut.low c.in-Cut.high c.in-Cut.is))

pub returns-in_ok-part-in-Cut-3-clause-cells : goal.returns-in_ok-part-in-Cut-3-clause-cells
returns-in_ok-part-in-Cut-3-clause-cells t c =
    let n : ℕ = length c.args.lo.now in
    let lo = c.args.lo.now in
    let hi = c.args.hi.now in
    c.in_ok-part-in-Cut-3.ensures.cells
    ∙ ap (λ (m : ℕ). xor_cells m (cells_of c.in_ok-below-in-Cut.below) (cells_of c.in_ok-above-in-Cut.above)) c.in_ok-below-in-Cut.ensures.dim
    ∙ ap₂ (λ A B. xor_cells n A B) (c.in_ok-below-in-Cut.ensures.cells ∙ ap (λ y. clip n lo hi (node_cells n y)) c.deref-else-at-lo.ensures) (c.in_ok-above-in-Cut.ensures.cells ∙ ap (λ y. clip n lo hi (node_cells n y)) c.deref-else-at-lo-2.ensures)
    ∙ window_both n lo hi (node_cells n c.in-Cut.low.value) (node_cells n c.in-Cut.high.value) (cell_set-node n c.in-Cut.low.value) (cell_set-node n c.in-Cut.high.value)
    ∙ ap (clip n lo hi) (sym (cut_cells n c.args.self.now c.in-Cut.axis c.in-Cut.at c.in-Cut.low c.in-Cut.high c.in-Cut.is))

pub offset_bounds-hi-axis : goal.offset_bounds-hi-axis
offset_bounds-hi-axis t c =
    let n : ℕ = length c.args.lo.now in
    let h = halves n c.args.self.now c.in-Cut.axis c.in-Cut.at c.in-Cut.low c.in-Cut.high c.in-Cut.is c.requires.well in
    let a = ltb-true c.in-Cut.axis n h.fits in
    let b = c.requires.few in
    omega (arith, a, b)

pub offset_bounds-lo-axis : goal.offset_bounds-lo-axis
offset_bounds-lo-axis t c =
    let n : ℕ = length c.args.lo.now in
    let h = halves n c.args.self.now c.in-Cut.axis c.in-Cut.at c.in-Cut.low c.in-Cut.high c.in-Cut.is c.requires.well in
    let a = ltb-true c.in-Cut.axis n h.fits in
    let b = c.requires.few in
    omega (arith, a, b)
