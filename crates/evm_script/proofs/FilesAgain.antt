-- Printed forms and files are read again.
use Rattle.std.proofs.Common.{◌≡◌, ℕ, ◌≤◌, Bool, true, ◌&&◌, List, [], ◌∷◌, length, refl, ap, arith, nat_lt, nat_le, Some, None, if◌then◌else◌, codes}
use Rattle.std.specs.Prelude.{slice_index, option_map}
use Rattle.std.specs.Fmt.{signed_decimal}
use Rattle.std.specs.List.{list_all}
use Rattle.std.proofs.lemmas.Bool.{and_parts, and_from}
use Rattle.std.proofs.lemmas.Bool.Decides.{nat_tests}
use Rattle.evm_outside.specs.Shelves.{is_file_name, is_file_name_byte, is_plain_byte, file_name_max}
use Rattle.evm_script.specs.Files.{file_of, form_file, save_file}
use Rattle.evm_script.specs.Printed.{load_words, save_words, FormKeepsRules}
use Rattle.evm_script.specs.declared.files.LoadForm.{LoadForm}
use Rattle.evm_script.specs.declared.files.LoadForm.TheVariants as forms
use Rattle.evm_script.specs.declared.files.SaveForm.{SaveForm}
use Rattle.evm_script.specs.declared.files.SaveForm.TheVariants as saves
use Rattle.evm_text.proofs.Spaced.{is_plain}
use Rattle.evm_text.proofs.Decimals.{number_again, plain_number}
use Rattle.evm_script.proofs.ShapesAgain.{plain_more, zip_again}

-- file names are plain words
file_bytes_plain : (w : List ℕ) → list_all is_file_name_byte w ≡ true → list_all (nat_lt 32) w ≡ true
file_bytes_plain [] h = refl
file_bytes_plain (b ∷ w) h =
    let both = and_parts (is_file_name_byte b) _ h in
    let first = both.0 in
    and_from (nat_lt 32 b) _ (grind (arith, nat_tests)) (file_bytes_plain w both.1)

plain_file : (w : List ℕ) → is_file_name w ≡ true → is_plain w ≡ true
plain_file w h =
    let three = and_parts (nat_le 1 (length w) && nat_le (length w) file_name_max && is_plain_byte (slice_index w 0)) _ h in
    let sizes = and_parts (nat_le 1 (length w) && nat_le (length w) file_name_max) _ three.0 in
    and_from (list_all (nat_lt 32) w) _ (file_bytes_plain w three.1) sizes.0

one_file : (w : List ℕ) → is_file_name w ≡ true → list_all is_plain (w ∷ []) ≡ true
one_file w h = plain_more w [] (plain_file w h) refl

file_again : (w : List ℕ) → is_file_name w ≡ true → file_of w ≡ Some w
file_again w h = ap (λ (b : Bool). if b then Some w else None) h

-- what the words of a load are to a line: plain, few, and read as its form and file
pub record WordsOfLoad (form : LoadForm) (file : List ℕ) : Type 0 where
  pub plain : list_all is_plain (load_words form file) ≡ true
  pub few : length (load_words form file) ≤ 3
  pub read : form_file (load_words form file) ≡ Some (form, file)

-- each form
pub words_of_load : (form : LoadForm) (file : List ℕ) → FormKeepsRules form → is_file_name file ≡ true → WordsOfLoad form file
words_of_load forms.Evm file h k = record {
  plain = plain_more (codes "evm") (file ∷ []) refl (one_file file k);
  few = omega arith;
  read = zip_again forms.Evm file refl (file_again file k);
}
words_of_load forms.Boxes file h k = record {
  plain = plain_more (codes "boxes") (file ∷ []) refl (one_file file k);
  few = omega arith;
  read = zip_again forms.Boxes file refl (file_again file k);
}
words_of_load (forms.Pgm threshold) file h k = record {
  plain = plain_more (codes "pgm") (signed_decimal threshold ∷ file ∷ []) refl (plain_more (signed_decimal threshold) (file ∷ []) (plain_number threshold h) (one_file file k));
  few = omega arith;
  read = zip_again (forms.Pgm threshold) file (ap (option_map forms.Pgm) (number_again threshold h)) (file_again file k);
}
words_of_load (forms.Y4m threshold) file h k = record {
  plain = plain_more (codes "y4m") (signed_decimal threshold ∷ file ∷ []) refl (plain_more (signed_decimal threshold) (file ∷ []) (plain_number threshold h) (one_file file k));
  few = omega arith;
  read = zip_again (forms.Y4m threshold) file (ap (option_map forms.Y4m) (number_again threshold h)) (file_again file k);
}

-- the same of a save
pub record WordsOfSave (form : SaveForm) (file : List ℕ) : Type 0 where
  pub plain : list_all is_plain (save_words form file) ≡ true
  pub few : length (save_words form file) ≤ 3
  pub read : save_file (save_words form file) ≡ Some (form, file)

pub words_of_save : (form : SaveForm) (file : List ℕ) → is_file_name file ≡ true → WordsOfSave form file
words_of_save saves.Evm file h = record {
  plain = plain_more (codes "evm") (file ∷ []) refl (one_file file h);
  few = omega arith;
  read = zip_again saves.Evm file refl (file_again file h);
}
words_of_save saves.Boxes file h = record {
  plain = plain_more (codes "boxes") (file ∷ []) refl (one_file file h);
  few = omega arith;
  read = zip_again saves.Boxes file refl (file_again file h);
}
words_of_save saves.Faces file h = record {
  plain = plain_more (codes "faces") (file ∷ []) refl (one_file file h);
  few = omega arith;
  read = zip_again saves.Faces file refl (file_again file h);
}
words_of_save saves.Obj file h = record {
  plain = plain_more (codes "obj") (file ∷ []) refl (one_file file h);
  few = omega arith;
  read = zip_again saves.Obj file refl (file_again file h);
}
