use Rattle.std.proofs.Common.{ap, ◌∙◌, ℕ, List, ℤ}
use Rattle.evm_cells.specs.Limits.{is_cell}
use Rattle.evm_cells.specs.Places.{has}
use Rattle.evm_rows.specs.Rows.{Vertices, cells_of}
use Rattle.evm_session.proofs.CellWindows.{kept_inside}
use Rattle.evm_session.proofs.cells.is_filled_in.Goals as goal

pub fills-filled-requires : goal.fills-filled-requires
fills-filled-requires c =
    ap (λ (v : Vertices). is_cell v.dim c.args.cell.now) c.rows.ensures ∙ ap (λ (n : ℕ). is_cell n c.args.cell.now) c.in_ok-part.ensures.dim ∙ c.requires.cell

pub returns : goal.returns
returns c =
    c.fills-filled.ensures ∙ ap (λ (v : Vertices). has (cells_of v) c.args.cell.now) c.rows.ensures
    ∙ ap (λ (S : List (List ℤ)). has S c.args.cell.now) c.in_ok-part.ensures.cells
    ∙ kept_inside c.args.tree.now c.args.cell.now c.args.end.now c.requires.cell c.requires.is_box
