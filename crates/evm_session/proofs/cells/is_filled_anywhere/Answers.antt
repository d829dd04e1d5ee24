use Rattle.std.proofs.Common.{ap, ◌∙◌}
use Rattle.evm_cells.specs.Limits.{is_cell}
use Rattle.evm_cells.specs.Places.{has}
use Rattle.evm_rows.specs.Rows.{Vertices, cells_of}
use Rattle.evm_session.proofs.cells.is_filled_anywhere.Goals as goal

pub fills-filled-requires : goal.fills-filled-requires
fills-filled-requires c = ap (λ (v : Vertices). is_cell v.dim c.args.cell.now) (c.rows.ensures ∙ c.in_ok-whole.ensures) ∙ c.requires

pub returns : goal.returns
returns c = c.fills-filled.ensures ∙ ap (λ (v : Vertices). has (cells_of v) c.args.cell.now) (c.rows.ensures ∙ c.in_ok-whole.ensures)
