use Rattle.std.proofs.Common.{◌<◌, List, ℕ, length, arith, ap}
use Rattle.std.proofs.lemmas.Bool.Decides.{nat_tests}
use Rattle.evm_voxels.proofs.Params.{number_none, number_other, number_zero, number_some}
use Rattle.evm_voxels.proofs.y4m.number_of.Goals as goal

pub returns-then-is_empty : goal.returns-then-is_empty
returns-then-is_empty c = number_none c.args.digits.now (grind (arith, nat_tests))

pub returns-then-not-is_empty : goal.returns-then-not-is_empty
returns-then-not-is_empty c =
    let some : 0 < length c.number-value.result.1.now = grind (arith, nat_tests) in
    number_other c.args.digits.now (omega (arith, ap (λ (t : List ℕ). length t) c.number-value.ensures.rest))

pub returns-then-value-eq0 : goal.returns-then-value-eq0
returns-then-value-eq0 c = number_zero c.args.digits.now c.number-value.result.1.now c.number-value.result.0 c.number-value.ensures.rest (grind (arith, nat_tests)) c.number-value.ensures.value c.if-value-eq0.true

pub returns : goal.returns
returns c = number_some c.args.digits.now c.number-value.result.1.now c.number-value.result.0 (grind (arith, nat_tests)) c.number-value.ensures.rest (grind (arith, nat_tests)) c.number-value.ensures.value c.if-value-eq0.false
