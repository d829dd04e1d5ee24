-- What the words of the command line ask for.
use Rattle.std.specs.Prelude.{ℕ, ◌^◌, Bool, ◌&&◌, nat_le, nat_lt, if◌then◌else◌, List, [], ◌∷◌, length, codes, bytes_eq, Option, None, Some, option_map, option_and_then}
use Rattle.std.specs.List.{list_all, list_any}
use Rattle.std.specs.Char.{digit_value}
use Rattle.std.specs.Str.Parse.{digits_value, without_leading_plus}
use Rattle.clap.specs.Lexer.{long_of}
use Rattle.evm_words.specs.declared.form.Form.{Form}
use Rattle.evm_words.specs.declared.form.Form.TheVariants.{Run, Gen}

-- the bytes of a word
abbrev pub Text : Type 0
Text = List ℕ

-- the number of an optional plus sign and one digit or more
abbrev pub number_of : Text → Option ℕ
number_of text =
    let ds = without_leading_plus text in
    if list_all (λ d. nat_lt (digit_value d) 10) ds && nat_lt 0 (length ds) then Some (digits_value 10 ds) else None

-- a seed of 64 bits and 1 to 100000 edits
abbrev pub form_of_numbers : Option ℕ → Option ℕ → Option Form
form_of_numbers None edits = None
form_of_numbers (Some seed) None = None
form_of_numbers (Some seed) (Some edits) =
    if nat_lt seed (2 ^ 64) && (nat_le 1 edits && nat_le edits 100000) then Some (Gen seed edits) else None

abbrev pub form_of_texts : Text × Text → Option Form
form_of_texts texts = form_of_numbers (number_of texts.0) (number_of texts.1)

-- the first of some words, and those behind it
abbrev pub first_word : List Text → Option (Text × List Text)
first_word [] = None
first_word (word ∷ words) = Some (word, words)

-- the value that stands in an option's word, or else is the next word; with the words behind it
abbrev pub value_of : Option Text → List Text → Option (Text × List Text)
value_of None words = first_word words
value_of (Some value) words = Some (value, words)

-- the value of the option with this name, where a word `--NAME` or `--NAME=VALUE` is read as a name and a value
abbrev pub value_in : Text → Option (Text × Option Text) → List Text → Option (Text × List Text)
value_in name None words = None
value_in name (Some long) words = if bytes_eq name long.0 then value_of long.1 words else None

-- the value of the option with this name, where the words begin with it; with the words behind it
abbrev pub take_option : Text → List Text → Option (Text × List Text)
take_option name [] = None
take_option name (word ∷ words) = value_in name (long_of word) words

-- two values, behind which no word stands
abbrev pub with_end : Text → Text → List Text → Option (Text × Text)
with_end value last [] = Some (value, last)
with_end value last (word ∷ words) = None

abbrev pub with_last : Text → Option (Text × List Text) → Option (Text × Text)
with_last value None = None
with_last value (Some last) = with_end value last.0 last.1

-- the values of two options in this order, with no other word
abbrev pub values_of : Text → Text → List Text → Option (Text × Text)
values_of name other words =
    option_and_then (λ first. with_last first.0 (take_option other first.1)) (take_option name words)

-- the values of --seed and --edits, in either order
abbrev pub either_order : Option (Text × Text) → Option (Text × Text) → Option (Text × Text)
either_order None other = option_map (λ p. (p.1, p.0)) other
either_order (Some p) other = Some p

abbrev pub texts_of : List Text → Option (Text × Text)
texts_of words = either_order (values_of (codes "seed") (codes "edits") words) (values_of (codes "edits") (codes "seed") words)

-- what the words behind `gen` ask for; a word `--` asks for nothing
abbrev pub is_end : Text → Bool
is_end word = bytes_eq word (codes "--")

abbrev pub form_of_options : List Text → Option Form
form_of_options words = if list_any is_end words then None else option_and_then form_of_texts (texts_of words)

-- a word behind which no other stands asks for a run where it is `run`
abbrev pub form_of_last : Text → List Text → Option Form
form_of_last word [] = if bytes_eq word (codes "run") then Some Run else None
form_of_last word (more ∷ words) = None

abbrev pub form_of_command : Text → List Text → Option Form
form_of_command word words = if bytes_eq word (codes "gen") then form_of_options words else form_of_last word words

-- what the words behind the program's name ask for: a run, or a generated script
abbrev pub form_behind : List Text → Option Form
form_behind [] = None
form_behind (word ∷ words) = form_of_command word words

-- what all words ask for
abbrev pub form_of_words : List Text → Option Form
form_of_words [] = None
form_of_words (program ∷ words) = form_behind words
