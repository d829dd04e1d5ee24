use Rattle.std.proofs.Common.{refl, arith}
use Rattle.std.proofs.lemmas.Result.{err_from_is_err_and}
use Rattle.evm_tool.proofs.Stands.{front_more, front_cut}
use Rattle.evm_tool.proofs.answers.answer_ended.Goals as goal

pub returns-in_err-refused-clause-answered : goal.returns-in_err-refused-clause-answered
returns-in_err-refused-clause-answered g c =
    let p = err_from_is_err_and c.from_residual.result c.from_residual.ensures.1 in
    rw p.1 (front_cut _ _ _ _ _ _ _ _ _ c.loop-line.invariant.so_far c.in-Some.ensures c.in_err-refused.ensures.served)

pub loop-line-preserved : goal.loop-line-preserved
loop-line-preserved g c = record {
  so_far = front_more _ _ _ _ _ _ _ _ _ _ c.loop-line.invariant.so_far c.in-Some.ensures c.in_ok-refused.ensures.served refl;
  faults = omega (arith, c.in_ok-refused.ensures.cause.kept, c.loop-line.invariant.faults);
}
