use Rattle.std.proofs.Common.{◌∙◌, sym}
use Rattle.std.proofs.lemmas.Result.{err_from_is_err_and}
use Rattle.evm_session.proofs.Filed.{figure_filed, figure_of_other, refused_file}
use Rattle.evm_session.proofs.readers.read_evm.Goals as goal

pub returns-in_err-solid : goal.returns-in_err-solid
returns-in_err-solid c =
    let p = err_from_is_err_and c.from_residual.result c.from_residual.ensures.1 in
    rw (p.1, p.2) (refused_file c.in_err-solid.field-0.0 c.args.dim c.args.bytes.now c.requires.low c.requires.high c.in_err-solid.ensures.found_cells)

pub returns-then-dim : goal.returns-then-dim
returns-then-dim c =
    figure_of_other c.in_ok-solid.solid c.args.dim c.args.bytes.now c.in_ok-solid.ensures.ok (λ e. c.if-dim.true (c.dim.ensures ∙ e)) c.requires.low c.requires.high

pub returns : goal.returns
returns c =
    figure_filed c.in_ok-solid.solid c.args.dim c.args.bytes.now c.facts.ensures.solid c.in_ok-solid.ensures.ok (sym c.dim.ensures ∙ c.if-dim.false)
