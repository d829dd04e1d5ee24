-- How an answer stands to what bytes state.
use Rattle.std.specs.Prelude.{◌≡◌, ℕ, ◌⊎◌, List, ℤ, Result, Ok, Err, IsOk}
use Rattle.evm_cells.specs.Vertices.{evm}
use Rattle.evm_rows.specs.Rows.{Vertices, cells_of}
use Rattle.evm_formats.specs.declared.voxels.VoxelError.{VoxelError}
use Rattle.evm_formats.specs.declared.voxels.VoxelError.TheVariants.{NoMemory}

-- the answer is the solid of the stated cells, the stated refusal, or want of memory where no refusal is stated
abbrev pub Answers : ℕ → Result (List (List ℤ)) VoxelError → Result Vertices VoxelError → Type 0
Answers n stated (Ok s) = (s.dim ≡ n) × (stated ≡ Ok (cells_of s)) × (s.rows ≡ evm n (cells_of s))
Answers n stated (Err e) = ((e ≡ NoMemory) × IsOk stated) ⊎ (stated ≡ Err e)
