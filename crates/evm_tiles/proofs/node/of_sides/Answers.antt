use Rattle.evm_cells.specs.Windows.{is_under, is_over}
use Rattle.evm_cells.proofs.Sides.{two_sides}
use Rattle.std.proofs.Common.{ℕ, ℤ, List, filter, sym, ap, ap₂, ◌∙◌, w32, to_z, of_z}
use Rattle.std.specs.List.{list_all}
use Rattle.evm_cells.specs.Booleans.{xor_cells}
use Rattle.evm_cells.proofs.Layers.{filter_all}
use Rattle.evm_cells.proofs.Universe.{cell_set-cells}
use Rattle.evm_rows.specs.Rows.{cells_of}
use Rattle.evm_rows.proofs.BoxTests.{same32}
use Rattle.evm_tiles.specs.Trees.{node_cells}
use Rattle.evm_tiles.proofs.node.of_sides.Goals as goal

pub cut-requires-clause-under : goal.cut-requires-clause-under
cut-requires-clause-under c =
    let i : ℕ = c.args.axis in
    let z : ℤ = to_z w32 (of_z w32 c.args.at) in
    let S : List (List ℤ) = cells_of c.args.solid.now in
    ap (λ (m : ℕ). list_all (is_under i z) (node_cells m c.args.low.value)) c.dim.ensures
    ∙ ap (list_all (is_under i z)) c.requires.under
    ∙ ap (λ (y : ℤ). list_all (is_under i y) (filter (is_under i c.args.at) S)) (same32 c.args.at c.ranges.at)
    ∙ filter_all (is_under i c.args.at) S

pub cut-requires-clause-over : goal.cut-requires-clause-over
cut-requires-clause-over c =
    let i : ℕ = c.args.axis in
    let z : ℤ = to_z w32 (of_z w32 c.args.at) in
    let S : List (List ℤ) = cells_of c.args.solid.now in
    ap (λ (m : ℕ). list_all (is_over i z) (node_cells m c.args.high.value)) c.dim.ensures
    ∙ ap (list_all (is_over i z)) c.requires.over
    ∙ ap (λ (y : ℤ). list_all (is_over i y) (filter (is_over i c.args.at) S)) (same32 c.args.at c.ranges.at)
    ∙ filter_all (is_over i c.args.at) S

pub returns-clause-cells : goal.returns-clause-cells
returns-clause-cells c =
    let n : ℕ = c.args.solid.now.dim in
    sym (ap (λ (m : ℕ). node_cells m c.in_ok-node.node.value) c.dim.ensures)
    ∙ c.in_ok-node.ensures.cells
    ∙ ap (λ (m : ℕ). xor_cells m (node_cells m c.args.low.value) (node_cells m c.args.high.value)) c.dim.ensures
    ∙ ap₂ (λ A B. xor_cells n A B) c.requires.under c.requires.over
    ∙ two_sides n c.args.axis c.args.at (cells_of c.args.solid.now) (cell_set-cells n c.args.solid.now.rows)
