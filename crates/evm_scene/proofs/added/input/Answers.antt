use Rattle.std.proofs.Common.{◌≡◌, ◌∙◌, true, false, is_some, rules, refl, ap}
use Rattle.evm_model.specs.Scene.{is_dim}
use Rattle.evm_formulas.specs.Stated.{figure_of}
use Rattle.evm_scene.specs.Tables.{node_at}
use Rattle.evm_scene.proofs.NewNames.{input_refusal, input_done}
use Rattle.evm_scene.proofs.added.input.Goals as goal

pub returns-then-contains_key-clause-applies : goal.returns-then-contains_key-clause-applies
returns-then-contains_key-clause-applies c =
    let there : is_some (node_at c.args.table.now.entries c.args.name) ≡ true = search rules in
    (input_refusal c.args.table.now.entries c.args.name c.args.dim true (is_dim c.args.dim) there refl, refl)

pub returns-in_default-clause-applies : goal.returns-in_default-clause-applies
returns-in_default-clause-applies c =
    let fresh : is_some (node_at c.args.table.now.entries c.args.name) ≡ false = search rules in
    (input_refusal c.args.table.now.entries c.args.name c.args.dim false false fresh c.in_default.ensures, refl)

pub returns-in-Ok-add-clause-applies : goal.returns-in-Ok-add-clause-applies
returns-in-Ok-add-clause-applies c =
    let fresh : is_some (node_at c.args.table.now.entries c.args.name) ≡ false = search rules in
    input_done c.args.table.now.entries c.add.new.table.entries c.args.name c.args.dim _ _ c.requires.well fresh c.in-Some.ensures.0 c.in-Some.ensures.1 (ap figure_of c.in-Ok.ensures ∙ c.none.ensures.value) c.in-Ok-add.ensures.ok
