-- Words and numbers on a line, with one space between each two.
use Rattle.std.specs.Prelude.{ℕ, ℤ, List, ◌∷◌, map, flat_map}
use Rattle.std.specs.List.{join_with_byte}
use Rattle.std.specs.Fmt.{signed_decimal}

-- words with one space between each two
abbrev pub spaced : List (List ℕ) → List ℕ
spaced = join_with_byte 32

-- numbers in plain decimal, with one space between each two
abbrev pub spaced_numbers : List ℤ → List ℕ
spaced_numbers ns = spaced (map signed_decimal ns)

-- numbers in plain decimal, with a space before each
abbrev pub behind_spaces : List ℤ → List ℕ
behind_spaces ns = flat_map (λ n. 32 ∷ signed_decimal n) ns
