-- What plain words of the command line ask for.
use Rattle.std.specs.Prelude.{ℕ, ◌≡◌, ◌+◌, ◌-◌, ◌*◌, ◌^◌, ◌<◌, ◌≤◌, ◌⊎◌, Bool, true, false, ◌&&◌, nat_le, List, [], ◌∷◌, ◌++◌, length, codes, Some}
use Rattle.std.specs.List.{list_all}
use Rattle.evm_words.specs.Words.{Text, form_of_words}
use Rattle.evm_words.specs.declared.form.Form.TheVariants.{Run, Gen}

-- the byte of a digit from 0 to 9
abbrev pub is_digit : ℕ → Bool
is_digit byte = nat_le 48 byte && nat_le byte 57

-- the number of digits that stand behind those of a number: ten times what stands before, and the digit
abbrev pub number_after : ℕ → List ℕ → ℕ
number_after before [] = before
number_after before (byte ∷ bytes) = number_after (before * 10 + (byte - 48)) bytes

-- a text of one digit or more, with a plus sign (43) before them or without, that states this number
pub record StatesNumber (text : Text) (number : ℕ) : Type 0 where
  pub digits : List ℕ
  pub some : 1 ≤ length digits
  pub each : list_all is_digit digits ≡ true
  pub is : (text ≡ digits) ⊎ (text ≡ 43 ∷ digits)
  pub value : number_after 0 digits ≡ number

-- `--NAME VALUE`, or the one word `--NAME=VALUE`
abbrev pub option_words : Bool → Text → Text → List Text
option_words true name value = (codes "--" ++ name) ∷ value ∷ []
option_words false name value = (codes "--" ++ name ++ codes "=" ++ value) ∷ []

-- `gen` and these options ask for the script of a seed and a number of edits, whatever the program's name
abbrev pub AsksForScript : Text → List Text → ℕ → ℕ → Type 0
AsksForScript program options seed edits = form_of_words (program ∷ codes "gen" ∷ options) ≡ Some (Gen seed edits)

-- the two options, each in either form, ask for the script of their numbers in either order
abbrev pub PlainWordsAskForScripts : Type 0
PlainWordsAskForScripts =
    (program seed_text edits_text : Text) (seed edits : ℕ) (apart_seed apart_edits : Bool)
    → StatesNumber seed_text seed → StatesNumber edits_text edits
    → seed < 2 ^ 64 → 1 ≤ edits → edits ≤ 100000
    → let seed_words = option_words apart_seed (codes "seed") seed_text in
    let edits_words = option_words apart_edits (codes "edits") edits_text in
    AsksForScript program (seed_words ++ edits_words) seed edits
    × AsksForScript program (edits_words ++ seed_words) seed edits

-- `run` alone asks for a run
abbrev pub RunAsksForRun : Type 0
RunAsksForRun = (program : Text) → form_of_words (program ∷ codes "run" ∷ []) ≡ Some Run
