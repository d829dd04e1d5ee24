use Rattle.std.proofs.Common.{◌≡◌, ℕ, zero, suc, ◌+◌, refl, arith, length, ◌++◌}
use Rattle.evm_generator.specs.Script.{edit_lines, number_behind, last_lines, first_number}
use Rattle.std.specs.Fmt.{digits}
use Rattle.evm_generator.specs.Laws.{IsWorkedOut}
use Rattle.evm_generator.proofs.laws.generated_scripts_are_as_stated.Goals as goal

edits_count : (n x : ℕ) → length (edit_lines n x ++ last_lines) ≡ n + 6
edits_count zero x = refl
edits_count (suc n) x = omega (arith, edits_count n (number_behind 8 x))

example : IsWorkedOut
unfolding digits
example = refl

pub returns : goal.returns
returns c = record {
  count = λ seed edits. omega (arith, edits_count edits (first_number seed));
  room = λ k x. grind arith;
  example = example;
}
