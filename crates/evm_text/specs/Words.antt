-- The words of a line.
use Rattle.std.specs.Prelude.{ℕ, Bool, false, not, ◌||◌, nat_eq, List, [], ◌∷◌, length}
use Rattle.std.specs.List.{filter, slice_split}

-- a space or a tab
abbrev pub is_blank : ℕ → Bool
is_blank b = nat_eq b 32 || nat_eq b 9

-- a word has some byte
abbrev pub is_filled : List ℕ → Bool
is_filled word = not (nat_eq (length word) 0)

-- the words: the longest runs of bytes that are not blank, in order
unfoldable pub words : List ℕ → List (List ℕ)
words line = filter is_filled (slice_split is_blank line)

-- a comment begins with a number sign
abbrev pub is_comment : List ℕ → Bool
is_comment [] = false
is_comment (b ∷ bs) = nat_eq b 35
