-- The box file of a solid, version 1: its stated partition, one box a line (this project's own format).
use Rattle.std.specs.Prelude.{◌≡◌, ℕ, ◌<◌, ◌≤◌, ℤ, pos, List, [], ◌∷◌, ◌++◌, map, Ok, codes}
use Rattle.std.specs.Fmt.{signed_decimal}
use Rattle.evm_cells.specs.Limits.{IsCellSet}
use Rattle.evm_cells.specs.Unions.{Ends}
use Rattle.evm_text.specs.Lines.{text_of}
use Rattle.evm_text.specs.Spaced.{spaced}
use Rattle.evm_partition.specs.Partition.{partition}
use Rattle.evm_formats.specs.BoxFile.{file_cells}

-- line 1: the two words of the format and the dimension
abbrev pub head_line : ℕ → List ℕ
head_line dim = spaced (codes "evm-boxes" ∷ codes "1" ∷ signed_decimal (pos dim) ∷ [])

-- the line of a box: the numbers of its lower corner and then those of its upper one, in plain decimal, with one space between each two
abbrev pub box_line : Ends → List ℕ
box_line b = spaced (map signed_decimal (b.lo ++ b.hi))

-- the box file of a cell set: line 1, and a line for each box of its stated partition, in order; each line is ended by a line feed
unfoldable pub box_file : ℕ → List (List ℤ) → List ℕ
box_file n S = text_of (head_line n ∷ map box_line (partition n S))

-- a box file that was written is read again: it states the cells that it was written for
abbrev pub BoxFilesAreReadAgain : Type 0
BoxFilesAreReadAgain = (n : ℕ) (S : List (List ℤ)) → 0 < n → n ≤ 6 → IsCellSet n S → file_cells n (box_file n S) ≡ Ok S
