use Rattle.std.proofs.Common.{◌≡◌, ◌∙◌, sym, refl, true, false, map, drop, string_bytes, String, Global, List, [], ◌∷◌, Some, None}
use Rattle.std.specs.List.{list_any}
use Rattle.clap.proofs.WalkLemmas.{list_any-map}
use Rattle.evm_words.specs.Words.{Text, is_end, texts_of, form_of_options, form_of_texts}
use Rattle.evm_words.proofs.words.read_options.Goals as goal

ends_are : (words : List (String Global)) → list_any (λ word. is_end (string_bytes word)) (drop 1 words) ≡ list_any is_end (drop 1 (map string_bytes words))
ends_are [] = refl
ends_are (word ∷ words) = list_any-map is_end string_bytes words

asked : (words : List Text) (seed edits : Text) → list_any is_end words ≡ false → texts_of words ≡ Some (seed, edits) → form_of_options words ≡ form_of_texts (seed, edits)
asked words seed edits ne e = rw (ne, e) refl

stopped : (words : List Text) → list_any is_end words ≡ true → form_of_options words ≡ None
stopped words e = rw e refl

pub returns-then-has_end : goal.returns-then-has_end
returns-then-has_end c = stopped (drop 1 (map string_bytes c.args.words.now)) (sym (ends_are c.args.words.now) ∙ sym c.has_end.ensures ∙ c.if-has_end.true)

pub texts_of-requires : goal.texts_of-requires
texts_of-requires c = sym (ends_are c.args.words.now) ∙ sym c.has_end.ensures ∙ c.if-has_end.false

pub returns-in-Some : goal.returns-in-Some
returns-in-Some c =
    asked (drop 1 (map string_bytes c.args.words.now)) c.in-Ok.seed.now c.in-Ok.edits.now
    (sym (ends_are c.args.words.now) ∙ sym c.has_end.ensures ∙ c.if-has_end.false) c.in-Ok.ensures
    ∙ sym c.form_of.ensures ∙ c.in-Some.is
