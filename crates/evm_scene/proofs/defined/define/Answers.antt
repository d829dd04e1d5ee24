use Rattle.std.proofs.Common.{◌≡◌, Some, false, is_some, refl, sym, ◌∙◌, rules}
use Rattle.std.specs.Prelude.{option_map}
use Rattle.evm_model.specs.Edits.{lacks_operand}
use Rattle.evm_scene.specs.declared.node.Node.{Node}
use Rattle.evm_scene.specs.Tables.{node_at, scene_of}
use Rattle.evm_scene.proofs.Causes.{refused_kind}
use Rattle.evm_scene.proofs.Reformed.{given_input}
use Rattle.evm_scene.proofs.Watching.{watched_added}
use Rattle.evm_scene.proofs.defined.define.Goals as goal

pub returns-in-Some-false-clause-applies : goal.returns-in-Some-false-clause-applies
returns-in-Some-false-clause-applies g c =
    let t = c.args.table.now.entries in
    let full : lacks_operand (scene_of t) c.args.name c.args.formula ≡ false = sym c.lacks.ensures ∙ c.if-lacks.false in
    let kind : option_map (λ (n : Node). is_some n.formula) (node_at t c.args.name) ≡ Some false = search rules in
    (refused_kind (scene_of t) c.args.name c.args.formula full (given_input t c.args.name kind), refl)

pub returns-in-None-clause-watched : goal.returns-in-None-clause-watched
returns-in-None-clause-watched g c = record {
  same = refl;
  watched = watched_added c.args.table.now.entries c.make.new.table.entries c.args.slots.now c.requires.watched c.make.ensures.others;
}
