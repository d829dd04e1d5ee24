use Rattle.std.proofs.Common.{◌∙◌, sym, arith, ◌≡◌, false, true}
use Rattle.evm_text.specs.Numbers.{is_digit}
use Rattle.evm_voxels.proofs.Reading.{number_next, number_found, number_over, rest_next, rest_found, rest_over}
use Rattle.evm_voxels.proofs.header.number.Goals as goal

pub returns-then-not-is_digit-clause-value : goal.returns-then-not-is_digit-clause-value
returns-then-not-is_digit-clause-value c = let h : is_digit c.in-Some.b ≡ false = sym c.is_digit.ensures ∙ c.if-not-is_digit.true in number_found c.loop-b.value c.in-Some.b c.loop-b.rest.now _ _ c.in-Some.ensures h c.loop-b.invariant.small c.loop-b.invariant.so_far

pub returns-then-not-is_digit-clause-rest : goal.returns-then-not-is_digit-clause-rest
returns-then-not-is_digit-clause-rest c = let h : is_digit c.in-Some.b ≡ false = sym c.is_digit.ensures ∙ c.if-not-is_digit.true in rest_found c.in-Some.b c.loop-b.rest.now _ _ c.in-Some.ensures h c.loop-b.invariant.left

pub loop-b-preserved : goal.loop-b-preserved
loop-b-preserved c = let h : is_digit c.in-Some.b ≡ true = sym c.is_digit.ensures ∙ c.if-not-is_digit.false in record {
  so_far = number_next c.loop-b.value _ _ c.in-Some.b c.loop-b.rest.now _ _ c.in-Some.ensures h c.saturating_mul.ensures c.saturating_add-value.ensures c.loop-b.invariant.so_far;
  small = omega (arith, c.saturating_add-value.ensures);
  left = rest_next c.in-Some.b c.loop-b.rest.now _ _ c.in-Some.ensures h c.loop-b.invariant.left;
}

pub returns-clause-value : goal.returns-clause-value
returns-clause-value c = number_over c.loop-b.value c.loop-b.rest.now _ c.in_default.ensures c.loop-b.invariant.small c.loop-b.invariant.so_far

pub returns-clause-rest : goal.returns-clause-rest
returns-clause-rest c = rest_over c.loop-b.rest.now _ c.in_default.ensures c.loop-b.invariant.left
