use Rattle.std.proofs.Common.{◌-◌, false, [], refl, sym, ◌∙◌}
use Rattle.evm_rows.specs.Rows.{rows_of}
use Rattle.evm_boolean.specs.Tower.{fills}
use Rattle.evm_boolean.proofs.TowerCells.{op-right_none, op-right_clear, fills-none}
use Rattle.evm_boolean.proofs.Answer.{kept, cleared}
use Rattle.evm_boolean.proofs.boolean.of_left.Goals as goal

pub returns-then-fills-clause-rows : goal.returns-then-fills-clause-rows
returns-then-fills-clause-rows c =
    let a = c.args.a in
    c.in_ok-all.ensures.rows
    ∙ op-right_none (fills c.args.op) (a.width - a.skip) (rows_of a.flat.now a.width a.skip) [] refl a.vertices
    (kept (λ x. fills c.args.op x false) (fills-none c.args.op) (sym c.fills.ensures ∙ c.if-fills.true))

pub returns-clause-rows : goal.returns-clause-rows
returns-clause-rows c =
    let a = c.args.a in
    c.emptied.ensures.rows
    ∙ op-right_clear (fills c.args.op) (a.width - a.skip) (rows_of a.flat.now a.width a.skip) [] refl
    (cleared (λ x. fills c.args.op x false) (fills-none c.args.op) (sym c.fills.ensures ∙ c.if-fills.false))
