-- Words with one space between each two: those of a formula, and lines of few words.
use Rattle.std.proofs.Common.{◌≡◌, ◌≤◌, ℕ, true, false, List, ◌∷◌, ◌++◌, length, refl, arith, nat_lt}
use Rattle.std.specs.List.{list_all}
use Rattle.std.proofs.lemmas.Bool.{le-ltb}
use Rattle.evm_text.specs.Spaced.{spaced}
use Rattle.evm_text.proofs.Spaced.{is_plain, spaced_short}
use Rattle.evm_script.specs.Words.{line_max}
use Rattle.evm_script.specs.Printed.{formula_words}
use Rattle.evm_script.specs.declared.formula.Formula.{Formula}
use Rattle.evm_script.specs.declared.formula.Formula.TheVariants as formulas

-- a word and the words of a formula
pub spaced_formula : (w : List ℕ) (f : Formula) → spaced (w ∷ formula_words f) ≡ w ++ 32 ∷ spaced (formula_words f)
spaced_formula w (formulas.Or a b) = refl
spaced_formula w (formulas.And a b) = refl
spaced_formula w (formulas.Sub a b) = refl
spaced_formula w (formulas.Xor a b) = refl
spaced_formula w (formulas.Box dim nums) = refl
spaced_formula w (formulas.Shift a nums) = refl
spaced_formula w (formulas.Mirror a axis) = refl
spaced_formula w (formulas.Swap a i j) = refl
spaced_formula w (formulas.Clip a nums) = refl
spaced_formula w (formulas.Slice a axis at) = refl
spaced_formula w (formulas.Proj a axis) = refl
spaced_formula w (formulas.Lift a axis lo hi) = refl

-- twenty words are no long line
pub short_spaced : (ws : List (List ℕ)) → list_all is_plain ws ≡ true → length ws ≤ 20 → nat_lt line_max (length (spaced ws)) ≡ false
short_spaced ws h few = le-ltb line_max (length (spaced ws)) (omega (arith, spaced_short ws h))
