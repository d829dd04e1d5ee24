use Rattle.std.proofs.Common.{◌-◌, false, [], refl, sym, ◌∙◌}
use Rattle.evm_rows.specs.Rows.{rows_of}
use Rattle.evm_boolean.specs.Tower.{fills}
use Rattle.evm_boolean.proofs.TowerCells.{op-left_none, op-left_clear, fills-none}
use Rattle.evm_boolean.proofs.Answer.{kept, cleared}
use Rattle.evm_boolean.proofs.boolean.of_right.Goals as goal

pub returns-then-fills-clause-rows : goal.returns-then-fills-clause-rows
returns-then-fills-clause-rows c =
    let a = c.args.b in
    c.in_ok-all.ensures.rows
    ∙ op-left_none (fills c.args.op) (a.width - a.skip) [] (rows_of a.flat.now a.width a.skip) refl a.vertices
    (kept (λ x. fills c.args.op false x) (fills-none c.args.op) (sym c.fills.ensures ∙ c.if-fills.true))

pub returns-clause-rows : goal.returns-clause-rows
returns-clause-rows c =
    let a = c.args.b in
    c.emptied.ensures.rows
    ∙ op-left_clear (fills c.args.op) (a.width - a.skip) [] (rows_of a.flat.now a.width a.skip) refl
    (cleared (λ x. fills c.args.op false x) (fills-none c.args.op) (sym c.fills.ensures ∙ c.if-fills.false))
