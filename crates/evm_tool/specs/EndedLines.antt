-- The lines of bytes that come in pieces: those that a line feed ends, and what follows the last one.
use Rattle.std.specs.Prelude.{ℕ, ◌≡◌, false, List, [], ◌∷◌, ◌++◌, All}
use Rattle.std.specs.List.{slice_split}
use Rattle.evm_text.specs.Lines.{is_lf, text_of}

-- the parts that a line feed ends, of a text that was cut at each line feed: all but the last
abbrev pub ended_parts : List (List ℕ) → List (List ℕ)
ended_parts [] = []
ended_parts (part ∷ []) = []
ended_parts (part ∷ next ∷ more) = part ∷ ended_parts (next ∷ more)

-- the lines of a text that a line feed ends: what follows the last line feed is none of them
unfoldable pub ended_lines : List ℕ → List (List ℕ)
ended_lines text = ended_parts (slice_split is_lf text)

-- no line feed is among these bytes
abbrev pub HasNoLf : List ℕ → Type 0
HasNoLf bytes = All (λ b. is_lf b ≡ false) bytes

-- a text is these lines, each with a line feed behind it, and then a rest without one
pub record IsCut (text : List ℕ) (ls : List (List ℕ)) (rest : List ℕ) : Type 0 where
  pub whole : text ≡ text_of ls ++ rest
  pub each : All HasNoLf ls
  pub behind : HasNoLf rest
