-- The lines of a text.
use Rattle.std.specs.Prelude.{ℕ, ◌-◌, Bool, nat_eq, if◌then◌else◌, List, [], ◌∷◌, ◌++◌, flat_map, length, take, slice_index}
use Rattle.std.specs.List.{slice_split}

-- a line feed
abbrev pub is_lf : ℕ → Bool
is_lf b = nat_eq b 10

-- what follows the last line feed is a line where it is not empty
abbrev pub last_line : List ℕ → List (List ℕ)
last_line [] = []
last_line (b ∷ bs) = (b ∷ bs) ∷ []

-- the lines of a text that was cut at each line feed
abbrev pub lines_of_parts : List (List ℕ) → List (List ℕ)
lines_of_parts [] = []
lines_of_parts (part ∷ []) = last_line part
lines_of_parts (part ∷ next ∷ more) = part ∷ lines_of_parts (next ∷ more)

-- the lines of a text: cut at each line feed
unfoldable pub lines : List ℕ → List (List ℕ)
lines text = lines_of_parts (slice_split is_lf text)

-- a line without the one carriage return at its end
abbrev pub without_cr : List ℕ → List ℕ
without_cr line = if nat_eq (slice_index line (length line - 1)) 13 then take (length line - 1) line else line

-- a text of lines, each with a line feed after it
abbrev pub text_of : List (List ℕ) → List ℕ
text_of ls = flat_map (λ line. line ++ 10 ∷ []) ls
