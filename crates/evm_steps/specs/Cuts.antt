-- The cuts of a solid.
use Rattle.std.specs.Prelude.{◌-◌, ℤ, List}
use Rattle.evm_cells.specs.Sections.{cuts}
use Rattle.evm_rows.specs.Rows.{Vertices, cells_of}

-- the heights at which a solid changes along the first axis
abbrev pub cuts_of : Vertices → List ℤ
cuts_of v = cuts (v.dim - 1) 0 (cells_of v)
