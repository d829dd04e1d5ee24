-- Shapes of what follows the first word of a form: names and numbers, each a word.
use Rattle.std.specs.Prelude.{ℕ, Bool, ◌&&◌, nat_le, if◌then◌else◌, List, [], ◌∷◌, length, Option, None, Some, ℤ, bytes_eq}
use Rattle.std.specs.Option.{option_zip}
use Rattle.evm_text.specs.Numbers.{number, numbers}
use Rattle.evm_script.specs.Words.{nums_max, is_name}

-- equal words
abbrev pub same_bytes : List ℕ → List ℕ → Bool
same_bytes = bytes_eq

-- a word as a name
abbrev pub name_of : List ℕ → Option (List ℕ)
name_of word = if is_name word then Some word else None

-- one to twelve numbers
abbrev pub some_numbers : Option (List ℤ) → Option (List ℤ)
some_numbers None = None
some_numbers (Some ns) = if nat_le 1 (length ns) && nat_le (length ns) nums_max then Some ns else None

-- no further word
abbrev pub alone : {A : Type 0} → A → List (List ℕ) → Option A
alone made [] = Some made
alone made (word ∷ rest) = None

-- the shape `NAME`
abbrev pub name_alone : List (List ℕ) → Option (List ℕ)
name_alone [] = None
name_alone (name ∷ []) = name_of name
name_alone (name ∷ word ∷ rest) = None

-- the shape `M N`
abbrev pub two_numbers : List (List ℕ) → Option (ℤ × ℤ)
two_numbers [] = None
two_numbers (m ∷ []) = None
two_numbers (m ∷ n ∷ []) = option_zip (number m) (number n)
two_numbers (m ∷ n ∷ word ∷ rest) = None

-- the shape `K M N`
abbrev pub three_numbers : List (List ℕ) → Option (ℤ × (ℤ × ℤ))
three_numbers [] = None
three_numbers (k ∷ rest) = option_zip (number k) (two_numbers rest)

-- the shape `NAME N`
abbrev pub name_number : List (List ℕ) → Option (List ℕ × ℤ)
name_number [] = None
name_number (name ∷ []) = None
name_number (name ∷ n ∷ []) = option_zip (name_of name) (number n)
name_number (name ∷ n ∷ word ∷ rest) = None

-- the shape `NAME M N`
abbrev pub name_two_numbers : List (List ℕ) → Option (List ℕ × (ℤ × ℤ))
name_two_numbers [] = None
name_two_numbers (name ∷ rest) = option_zip (name_of name) (two_numbers rest)

-- the shape `NAME K M N`
abbrev pub name_three_numbers : List (List ℕ) → Option (List ℕ × (ℤ × (ℤ × ℤ)))
name_three_numbers [] = None
name_three_numbers (name ∷ rest) = option_zip (name_of name) (three_numbers rest)

-- the shape `NAME NUMS`
abbrev pub name_numbers : List (List ℕ) → Option (List ℕ × List ℤ)
name_numbers [] = None
name_numbers (name ∷ nums) = option_zip (name_of name) (some_numbers (numbers nums))

-- the shape `A B`
abbrev pub two_names : List (List ℕ) → Option (List ℕ × List ℕ)
two_names [] = None
two_names (a ∷ []) = None
two_names (a ∷ b ∷ []) = option_zip (name_of a) (name_of b)
two_names (a ∷ b ∷ word ∷ rest) = None

-- the shape `N`
abbrev pub number_alone : List (List ℕ) → Option ℤ
number_alone [] = None
number_alone (n ∷ []) = number n
number_alone (n ∷ word ∷ rest) = None

-- the shape `N NAME`
abbrev pub number_name : List (List ℕ) → Option (ℤ × List ℕ)
number_name [] = None
number_name (n ∷ []) = None
number_name (n ∷ name ∷ []) = option_zip (number n) (name_of name)
number_name (n ∷ name ∷ word ∷ rest) = None

-- the shape `N NUMS`
abbrev pub number_numbers : List (List ℕ) → Option (ℤ × List ℤ)
number_numbers [] = None
number_numbers (n ∷ nums) = option_zip (number n) (some_numbers (numbers nums))

-- what two, three or four parts make
abbrev pub of_pair : {A B C : Type 0} → (A → B → C) → A × B → C
of_pair make parts = make parts.0 parts.1

abbrev pub of_three : {A B C D : Type 0} → (A → B → C → D) → A × (B × C) → D
of_three make parts = of_pair (make parts.0) parts.1

abbrev pub of_four : {A B C D E : Type 0} → (A → B → C → D → E) → A × (B × (C × D)) → E
of_four make parts = of_three (make parts.0) parts.1
