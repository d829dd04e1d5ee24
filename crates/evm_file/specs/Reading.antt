-- What the reader finds. A want of memory may stand in place of each answer.
use Rattle.std.specs.Prelude.{◌≡◌, ◌⊎◌, ℕ, List, ℤ, Result, IfOk, IfErr}
use Rattle.std.specs.Result.{IsErrOf, IsOkAnd}
use Rattle.evm_rows.specs.Rows.{Vertices, IsSolid, cells_of}
use Rattle.evm_formats.specs.File.{IsFileOf, IsFileOfCells, IsFileRefusal, IsSolidCells}
use Rattle.evm_formats.specs.declared.file.FileError.{FileError}
use Rattle.evm_formats.specs.declared.file.FileError.TheVariants.{Length, Empty, NoMemory}

-- the solid whose file the bytes are
abbrev pub FindsSolid : Result Vertices FileError → List ℕ → Type 0
FindsSolid r bytes = (s : Vertices) → IsSolid s → IsFileOf bytes s → IsOkAnd r (λ t. t ≡ s) ⊎ IsErrOf r NoMemory

-- the cell set whose file the bytes are
abbrev pub FindsCells : Result Vertices FileError → List ℕ → Type 0
FindsCells r bytes = (n : ℕ) (S : List (List ℤ)) → IsSolidCells n S → IsFileOfCells bytes n S
    → IsOkAnd r (λ t. (t.dim ≡ n) × (cells_of t ≡ S)) ⊎ IsErrOf r NoMemory

-- the first refusal of the bytes
abbrev pub FindsRefusal : Result Vertices FileError → List ℕ → Type 0
FindsRefusal r bytes = (e : FileError) → IsFileRefusal bytes e → IsErrOf r e ⊎ IsErrOf r NoMemory

-- a solid whose file the bytes are, or a first refusal of them, or want of memory
pub record Answers (r : Result Vertices FileError) (bytes : List ℕ) : Type 0 where
  pub solid : IfOk r (λ s. IsSolid s)
  pub file : IfOk r (λ s. IsFileOf bytes s)
  pub refusal : IfErr r (λ e. (e ≡ NoMemory) ⊎ IsFileRefusal bytes e)

-- these refusals come whatever memory there is
pub record IsSure (r : Result Vertices FileError) (bytes : List ℕ) : Type 0 where
  pub length : IsFileRefusal bytes Length → IsErrOf r Length
  pub empty : (k : ℕ) → IsFileRefusal bytes (Empty k) → IsErrOf r (Empty k)
