use Rattle.std.proofs.Common.{ℕ, ℤ, IfSome, sym, ap, ◌∙◌, subst, rules, w32, SFits}
use Rattle.evm_rows.proofs.BoxTests.{same32}
use Rattle.evm_cutting.specs.Cuts.{cells_under, cells_over}
use Rattle.evm_cutting.specs.Splits.{IsSplit}
use Rattle.evm_tiles.specs.Trees.{node_cells}
use Rattle.evm_tiles.proofs.node.opened.Goals as goal

pub of_sides-requires-clause-under : goal.of_sides-requires-clause-under
of_sides-requires-clause-under c =
    let i : IsSplit c.args.solid.now c.in-Some.made = subst (λ o. IfSome o (IsSplit c.args.solid.now)) c.in-Some.is c.in_ok-halves.ensures in
    let fa : SFits w32 c.in-Some.made.at = search rules in
    ap (λ (m : ℕ). node_cells m c.in_ok-low-in-Some.low.value) (sym i.low_dim) ∙ c.in_ok-low-in-Some.ensures.cells ∙ i.low_cells
    ∙ ap (λ (y : ℤ). cells_under c.in-Some.made.axis y c.args.solid.now) (sym (same32 c.in-Some.made.at fa))

pub of_sides-requires-clause-over : goal.of_sides-requires-clause-over
of_sides-requires-clause-over c =
    let i : IsSplit c.args.solid.now c.in-Some.made = subst (λ o. IfSome o (IsSplit c.args.solid.now)) c.in-Some.is c.in_ok-halves.ensures in
    let fa : SFits w32 c.in-Some.made.at = search rules in
    ap (λ (m : ℕ). node_cells m c.in_ok-high-in-Some.high.value) (sym i.high_dim) ∙ c.in_ok-high-in-Some.ensures.cells ∙ i.high_cells
    ∙ ap (λ (y : ℤ). cells_over c.in-Some.made.axis y c.args.solid.now) (sym (same32 c.in-Some.made.at fa))
