-- Changes of solids that are made and not yet in place.
use Rattle.std.specs.Prelude.{◌≡◌, false, Option, None, Some}
use Rattle.evm_cells.specs.Limits.{IsCellSet}
use Rattle.evm_model.specs.Figures.{Figure, xor_of, same_figure}
use Rattle.evm_formulas.specs.declared.changes.Change.{Change}
use Rattle.evm_formulas.specs.Stated.{figure_of}

-- the figure after a change, or without one
abbrev pub after_of : Option Change → Figure → Figure
after_of None own = own
after_of (Some c) own = figure_of c.after

-- what a change says of the figure before it
abbrev pub IsChange : Option Change → Figure → Type 0
IsChange None own = Unit {0}
IsChange (Some c) own = (c.delta.dim ≡ own.dim) × (c.after.dim ≡ own.dim) × (figure_of c.after ≡ xor_of own (figure_of c.delta))

-- a change that leaves each figure that it can be one of
abbrev pub IsStill : Option Change → Type 0
IsStill c = (own : Figure) → IsCellSet own.dim own.cells → IsChange c own → after_of c own ≡ own

-- the change is one
abbrev pub Moves : Option Change → Figure → Type 0
Moves None own = Unit {0}
Moves (Some c) own = same_figure own (figure_of c.after) ≡ false
