use Rattle.std.proofs.Common.{◌++◌, ap, ◌∙◌}
use Rattle.evm_sections.specs.Lines.{LineRest}
use Rattle.evm_sections.proofs.LineSteps.{left-flat, left-numbers}
use Rattle.evm_sections.proofs.line.Line.append_left.Goals as goal

pub returns-then-self-eq1 : goal.returns-then-self-eq1
returns-then-self-eq1 c =
    let r = c.self.inside in
    c.in_ok-extend_from_slice.ensures.items
    ∙ ap (λ v. c.args.out.items ++ v) (left-numbers r.flat.now r.width r.skip c.if-self-eq1.true c.self.invariant.one ∙ ap (λ (l : LineRest). l.left) c.self.view_is)

pub returns : goal.returns
returns c =
    let r = c.self.inside in
    c.in_ok-grown.ensures
    ∙ ap (λ v. c.args.out.items ++ v) (left-flat r.flat.now r.width r.skip c.self.invariant.one c.self.invariant.whole ∙ ap (λ (l : LineRest). l.left) c.self.view_is)
