use Rattle.std.proofs.Common.{◌≡◌, ◌-◌, ℤ, List, ℕ, ap, ◌∙◌, arith}
use Rattle.evm_cells.specs.Vertices.{evm, cells}
use Rattle.evm_cells.specs.Shapes.{swap_axes}
use Rattle.evm_cells.proofs.Moves.{cell_set-swap}
use Rattle.evm_rows.specs.Rows.{rows_of}
use Rattle.evm_shapes.proofs.Shaped.{swap_are, are_rows_of, cells_of}
use Rattle.evm_shapes.proofs.turns.swap.Goals as goal

pub from_rows-requires : goal.from_rows-requires
from_rows-requires c =
    let a = c.args.a in
    let V : List (List ℤ) = rows_of a.flat.now a.width a.skip in
    let e : rows_of c.in_ok-flat.flat.items (a.width - a.skip) 0 ≡ evm (a.width - a.skip) (swap_axes (a.width - a.skip) (c.args.i - 1) (c.args.j - 1) (cells (a.width - a.skip) V)) = swap_are (a.width - a.skip) (c.args.i - 1) (c.args.j - 1) V _ (omega (arith, c.requires.first_low, c.requires.first_high)) (omega (arith, c.requires.second_low, c.requires.second_high)) a.vertices c.in_ok-flat.ensures.rows in
    rw c.dim-dim.ensures (are_rows_of (a.width - a.skip) _ _ (omega (arith, a.left)) (omega (arith, a.narrow)) c.in_ok-flat.ensures.whole (cell_set-swap (a.width - a.skip) (c.args.i - 1) (c.args.j - 1) (cells (a.width - a.skip) V)) e)

pub returns : goal.returns
returns c =
    let a = c.args.a in
    let V : List (List ℤ) = rows_of a.flat.now a.width a.skip in
    let e : c.from_rows.result.rows ≡ evm (a.width - a.skip) (swap_axes (a.width - a.skip) (c.args.i - 1) (c.args.j - 1) (cells (a.width - a.skip) V)) =
    c.from_rows.ensures.rows ∙ ap (λ (n : ℕ). rows_of c.in_ok-flat.flat.items n 0) c.dim-dim.ensures ∙ swap_are (a.width - a.skip) (c.args.i - 1) (c.args.j - 1) V _ (omega (arith, c.requires.first_low, c.requires.first_high)) (omega (arith, c.requires.second_low, c.requires.second_high)) a.vertices c.in_ok-flat.ensures.rows in
    let d : c.from_rows.result.dim ≡ a.width - a.skip = c.from_rows.ensures.dim ∙ c.dim-dim.ensures in
    record { dim = d; rows = e; cells = cells_of _ (a.width - a.skip) _ _ d (cell_set-swap (a.width - a.skip) (c.args.i - 1) (c.args.j - 1) (cells (a.width - a.skip) V)) e }
