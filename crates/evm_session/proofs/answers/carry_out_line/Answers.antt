use Rattle.std.proofs.Common.{sym, subst}
use Rattle.evm_session.specs.Answers.{around}
use Rattle.evm_session.specs.Requests.{Request, CarriesOver}
use Rattle.evm_session.proofs.Lines.{request_of_line}
use Rattle.evm_session.proofs.Refused.{no_command}
use Rattle.evm_session.proofs.answers.carry_out_line.Goals as goal

pub returns-in-Ok : goal.returns-in-Ok
returns-in-Ok g c =
    let before = around (g.S.Shelf.files c.args.shelf.now) (g.S.Shelf.faults c.args.shelf.now) (g.S.Shelf.misses c.args.shelf.now) c.args.steps.now in
    let after = around (g.S.Shelf.files c.carry_out.new.shelf) (g.S.Shelf.faults c.carry_out.new.shelf) (g.S.Shelf.misses c.carry_out.new.shelf) c.carry_out.new.steps in
    subst (λ (r : Request). CarriesOver c.carry_out.result c.args.scene.now c.carry_out.new.scene c.args.out.now.items c.carry_out.new.out.items before after r)
    (sym (request_of_line c.args.scene.now c.args.line.now c.in-Ok.command c.in-Ok.ensures)) c.carry_out.ensures

pub returns-in-Err : goal.returns-in-Err
returns-in-Err g c =
    no_command c.from.result c.in-Err.error c.args.scene.now c.args.out.now.items c.args.line.now _ c.from.ensures c.in-Err.ensures
