-- What holds of each script.
use Rattle.std.specs.Prelude.{ℕ, ◌≡◌, ◌+◌, ◌<◌, ◌≤◌, ◌∷◌, ◌++◌, length, codes}
use Rattle.evm_generator.specs.Script.{low, high, first_lines, last_lines, generated_lines}

-- fourteen lines beside the edits
abbrev pub IsSoLong : Type 0
IsSoLong = (seed edits : ℕ) → length (generated_lines seed edits) ≡ edits + 14

-- a box has room along each axis, and stands from 0 to 63
abbrev pub HasRoom : Type 0
HasRoom = (k x : ℕ) → (low k x < high k x) × (high k x ≤ 63)

-- one edit of seed 0, worked out by hand: the numbers are 16807, 282475249, 1622650073, 984943658, 1144108930, 470211272,
-- 101027544 and 1457850878
abbrev pub IsWorkedOut : Type 0
IsWorkedOut = generated_lines 0 1 ≡ first_lines ++ codes "add b 53 10 24 56 11 27" ∷ last_lines
