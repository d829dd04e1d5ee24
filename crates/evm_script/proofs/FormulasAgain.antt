-- A printed formula is read again.
use Rattle.std.proofs.Common.{◌≡◌, ◌≤◌, true, [], ◌∷◌, length, map, refl, ◌∙◌, ap, arith, Some, codes}
use Rattle.std.specs.Prelude.{option_map}
use Rattle.std.specs.Fmt.{signed_decimal}
use Rattle.std.specs.List.{list_all}
use Rattle.evm_script.specs.Shapes.{of_pair, of_three, of_four}
use Rattle.evm_script.specs.Formulas.{formula_of, formula_by}
use Rattle.evm_script.specs.Printed.{formula_words, FormulaKeepsRules, IsFormulaAgain}
use Rattle.evm_script.specs.declared.formula.Formula.{Formula}
use Rattle.evm_script.specs.declared.formula.Formula.TheVariants as formulas
use Rattle.evm_text.proofs.Spaced.{is_plain, words_spaced}
use Rattle.evm_text.proofs.Decimals.{plain_number}
use Rattle.evm_script.proofs.ShapesAgain.{plain_name, plain_more, named_plain, one_plain, two_plain, plain_nums, few_nums, two_names_again, number_numbers_again, name_number_again, name_two_again, name_three_again, name_numbers_again}

-- what the words of a formula are to a line: plain, few, and read as this formula
pub record WordsOf (f : Formula) : Type 0 where
  pub plain : list_all is_plain (formula_words f) ≡ true
  pub few : length (formula_words f) ≤ 14
  pub read : formula_of (formula_words f) ≡ Some f

-- each formula
pub words_of_formula : (f : Formula) → FormulaKeepsRules f → WordsOf f
unfolding formula_by
words_of_formula (formulas.Or a b) h = record {
  plain = named_plain (codes "or") a (b ∷ []) refl h.0 (plain_more b [] (plain_name b h.1) refl);
  few = omega arith;
  read = ap (option_map (of_pair formulas.Or)) (two_names_again a b h.0 h.1);
}
words_of_formula (formulas.And a b) h = record {
  plain = named_plain (codes "and") a (b ∷ []) refl h.0 (plain_more b [] (plain_name b h.1) refl);
  few = omega arith;
  read = ap (option_map (of_pair formulas.And)) (two_names_again a b h.0 h.1);
}
words_of_formula (formulas.Sub a b) h = record {
  plain = named_plain (codes "sub") a (b ∷ []) refl h.0 (plain_more b [] (plain_name b h.1) refl);
  few = omega arith;
  read = ap (option_map (of_pair formulas.Sub)) (two_names_again a b h.0 h.1);
}
words_of_formula (formulas.Xor a b) h = record {
  plain = named_plain (codes "xor") a (b ∷ []) refl h.0 (plain_more b [] (plain_name b h.1) refl);
  few = omega arith;
  read = ap (option_map (of_pair formulas.Xor)) (two_names_again a b h.0 h.1);
}
words_of_formula (formulas.Box dim nums) h = record {
  plain = plain_more (codes "box") (signed_decimal dim ∷ map signed_decimal nums) refl (plain_more (signed_decimal dim) (map signed_decimal nums) (plain_number dim h.0) (plain_nums nums h.1));
  few = omega (arith, few_nums nums h.1);
  read = ap (option_map (of_pair formulas.Box)) (number_numbers_again dim nums h.0 h.1);
}
words_of_formula (formulas.Shift a nums) h = record {
  plain = named_plain (codes "shift") a (map signed_decimal nums) refl h.0 (plain_nums nums h.1);
  few = omega (arith, few_nums nums h.1);
  read = ap (option_map (of_pair formulas.Shift)) (name_numbers_again a nums h.0 h.1);
}
words_of_formula (formulas.Mirror a axis) h = record {
  plain = named_plain (codes "mirror") a (signed_decimal axis ∷ []) refl h.0 (one_plain axis h.1);
  few = omega arith;
  read = ap (option_map (of_pair formulas.Mirror)) (name_number_again a axis h.0 h.1);
}
words_of_formula (formulas.Swap a i j) h = record {
  plain = named_plain (codes "swap") a (signed_decimal i ∷ signed_decimal j ∷ []) refl h.0 (two_plain i j h.1 h.2);
  few = omega arith;
  read = ap (option_map (of_three formulas.Swap)) (name_two_again a i j h.0 h.1 h.2);
}
words_of_formula (formulas.Clip a nums) h = record {
  plain = named_plain (codes "clip") a (map signed_decimal nums) refl h.0 (plain_nums nums h.1);
  few = omega (arith, few_nums nums h.1);
  read = ap (option_map (of_pair formulas.Clip)) (name_numbers_again a nums h.0 h.1);
}
words_of_formula (formulas.Slice a axis at) h = record {
  plain = named_plain (codes "slice") a (signed_decimal axis ∷ signed_decimal at ∷ []) refl h.0 (two_plain axis at h.1 h.2);
  few = omega arith;
  read = ap (option_map (of_three formulas.Slice)) (name_two_again a axis at h.0 h.1 h.2);
}
words_of_formula (formulas.Proj a axis) h = record {
  plain = named_plain (codes "proj") a (signed_decimal axis ∷ []) refl h.0 (one_plain axis h.1);
  few = omega arith;
  read = ap (option_map (of_pair formulas.Proj)) (name_number_again a axis h.0 h.1);
}
words_of_formula (formulas.Lift a axis lo hi) h = record {
  plain = named_plain (codes "lift") a (signed_decimal axis ∷ signed_decimal lo ∷ signed_decimal hi ∷ []) refl h.0
      (plain_more (signed_decimal axis) (signed_decimal lo ∷ signed_decimal hi ∷ []) (plain_number axis h.1) (two_plain lo hi h.2 h.3));
  few = omega arith;
  read = ap (option_map (of_four formulas.Lift)) (name_three_again a axis lo hi h.0 h.1 h.2 h.3);
}

-- the text of a formula has the words of this formula
pub formula_again : (f : Formula) → FormulaKeepsRules f → IsFormulaAgain f
formula_again f h = ap formula_of (words_spaced (formula_words f) (words_of_formula f h).plain) ∙ (words_of_formula f h).read
