use Rattle.std.proofs.Common.{◌≡◌, rules}
use Rattle.std.proofs.lemmas.Result.{err_from_is_err_and}
use Rattle.evm_session.specs.declared.refusals.Refusal.TheVariants as refusals
use Rattle.evm_session.proofs.Marks.{answered_done, answered_refused, unsaid}
use Rattle.evm_session.proofs.answers.answer.Goals as goal

pub returns-in-Ok : goal.returns-in-Ok
returns-in-Ok g c =
    answered_done c.args.line.now c.args.scene.now c.carry_out_line.new.scene c.args.out.now.items c.carry_out_line.new.out.items _ _ c.in-Ok.ensures

pub returns-in_ok-extend_from_slice-in-Err : goal.returns-in_ok-extend_from_slice-in-Err
returns-in_ok-extend_from_slice-in-Err g c =
    let other : c.in-Err.refusal ≡ refusals.NoMemory → ⊥ = search rules in
    answered_refused c.in-Err.refusal c.args.line.now c.args.scene.now c.carry_out_line.new.scene c.args.out.now.items c.carry_out_line.new.out.items c.extend_from_slice.new.self.items c.reply.result.now _ _
    other c.reply.ensures c.in_ok-extend_from_slice-in-Err.ensures.items c.in-Err.ensures

pub returns-in_err-extend_from_slice-in-Err : goal.returns-in_err-extend_from_slice-in-Err
returns-in_err-extend_from_slice-in-Err g c =
    let other : c.in-Err.refusal ≡ refusals.NoMemory → ⊥ = search rules in
    let p = err_from_is_err_and c.from_residual.result c.from_residual.ensures.1 in
    rw p.1
    (unsaid c.in-Err.refusal c.args.line.now c.args.scene.now c.carry_out_line.new.scene c.args.out.now.items c.carry_out_line.new.out.items c.extend_from_slice.new.self.items _ _
    other c.in_err-extend_from_slice-in-Err.ensures.items c.in-Err.ensures)
