-- What loops over a source and a sink leave of them.
use Rattle.std.specs.Prelude.{ℕ, ◌≡◌, ◌<◌, List, ◌++◌, length, take, Option}
use Rattle.std.specs.Io.KnownBytes.{Appends}

-- the most bytes of a script
abbrev pub script_limit : ℕ
script_limit = 67108864

-- the most bytes that are read at once
abbrev pub piece_max : ℕ
piece_max = 65536

-- the most bytes that are kept of a line: one that has so many is too long, whatever follows
abbrev pub line_kept : ℕ
line_kept = 4098

-- only a front of the piece, and not all of it, was appended to known bytes
abbrev pub AppendsPart : Option (List ℕ) → Option (List ℕ) → List ℕ → Type 0
AppendsPart old new piece = (n : ℕ) × (n < length piece) × Appends old new (take n piece)

-- of a piece all but the rest was appended
pub record Sent (old new : Option (List ℕ)) (piece rest : List ℕ) : Type 0 where
  pub front : List ℕ
  pub whole : piece ≡ front ++ rest
  pub gone : Appends old new front
