use Rattle.std.proofs.lemmas.Result.{err_from_is_err_and}
use Rattle.evm_tool.proofs.Served.{serves_fine, serves_cut, serves_lack, serves_lack_cut}
use Rattle.evm_tool.proofs.answers.serve.Goals as goal

pub returns-in_ok-send-in-Ok-clause-served : goal.returns-in_ok-send-in-Ok-clause-served
returns-in_ok-send-in-Ok-clause-served g c =
    serves_fine _ _ _ _ _ _ _ _ _ _ _ c.clear.ensures.items c.as_slice.ensures.value c.in-Ok.ensures c.in_ok-send-in-Ok.ensures.whole

pub returns-in_err-send-in-Ok-clause-served : goal.returns-in_err-send-in-Ok-clause-served
returns-in_err-send-in-Ok-clause-served g c =
    let p = err_from_is_err_and c.from_residual.result c.from_residual.ensures.1 in
    rw p.1 (serves_cut _ _ _ _ _ _ _ _ _ _ _ _ c.clear.ensures.items c.as_slice.ensures.value c.in-Ok.ensures c.in_err-send-in-Ok.ensures.part)

pub returns-in_ok-send-in-Err-clause-served : goal.returns-in_ok-send-in-Err-clause-served
returns-in_ok-send-in-Err-clause-served g c = serves_lack _ _ _ _ _ _ _ _ _ c.in-Err.ensures c.in_ok-send-in-Err.ensures.whole

pub returns-in_err-send-in-Err-clause-served : goal.returns-in_err-send-in-Err-clause-served
returns-in_err-send-in-Err-clause-served g c =
    let p = err_from_is_err_and c.from_residual-in_err-send-in-Err.result c.from_residual-in_err-send-in-Err.ensures.1 in
    rw p.1 (serves_lack_cut _ _ _ _ _ _ _ _ _ _ c.in-Err.ensures c.in_err-send-in-Err.ensures.part)
