use Rattle.std.proofs.Common.{arith, rules, OnErr, Result, Ok, Err}
use Rattle.evm_tool.proofs.Streams.{sent_range, sent_part}
use Rattle.evm_tool.proofs.send.send.Goals as goal

-- what holds at any rate holds at an error
at_error : {T E : Type 0} {P : Type 0} (r : Result T E) → P → OnErr r P
at_error (Ok x) p = tt
at_error (Err e) p = p

pub loop-rest-preserved : goal.loop-rest-preserved
loop-rest-preserved g c = record {
  sent = sent_range _ _ _ _ _ _ c.loop-rest.invariant.sent c.in_ok-count.ensures.bytes;
  faults = omega (arith, c.in_ok-count.ensures.cause.kept, c.loop-rest.invariant.faults);
}

pub returns-in_err-count-clause-part : goal.returns-in_err-count-clause-part
returns-in_err-count-clause-part g c =
    at_error c.from_residual.result
    (sent_part _ _ _ _ _ c.loop-rest.invariant.sent (let t = c.loop-rest-test.true in search rules) c.in_err-count.ensures.bytes)
