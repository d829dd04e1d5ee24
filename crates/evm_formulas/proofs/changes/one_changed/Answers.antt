use Rattle.std.proofs.Common.{◌≡◌, Option, Some, sym, ap, ◌∙◌, subst}
use Rattle.std.specs.Option.{option_copied}
use Rattle.evm_formulas.specs.declared.changes.Change.{Change}
use Rattle.evm_formulas.specs.Stated.{figure_of}
use Rattle.evm_formulas.specs.Changes.{after_of, IsChange}
use Rattle.evm_formulas.specs.Operations.{shape_of}
use Rattle.evm_formulas.proofs.Figures.{figure_set}
use Rattle.evm_formulas.proofs.ShapeValues.{still_shape}
use Rattle.evm_formulas.proofs.changes.one_changed.Goals as goal

pub returns-then-is_none-clause-after : goal.returns-then-is_none-clause-after
returns-then-is_none-clause-after g c =
    let here : option_copied c.args.da ≡ Some c.in-Some.moved.now = ap option_copied c.in-Some.is in
    let change : IsChange (Some c.in-Some.moved.now) (figure_of c.args.a.now) = subst (λ (o : Option Change). IsChange o (figure_of c.args.a.now)) here c.requires.change in
    still_shape c.args.op.now (figure_of c.args.own.now) (figure_of c.args.a.now) c.in-Some.moved.now c.in_ok-delta.delta
    (figure_set c.args.own.now) c.requires.value change c.in_ok-delta.ensures.carries (c.is_none.ensures.0 c.if-is_none.true)
    ∙ ap (λ (o : Option Change). shape_of c.args.op.now (after_of o (figure_of c.args.a.now))) (sym here)
