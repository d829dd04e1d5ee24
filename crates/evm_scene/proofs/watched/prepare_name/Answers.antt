use Rattle.std.proofs.Common.{sym, ap}
use Rattle.evm_scene.specs.Tables.{node_figure, kept}
use Rattle.evm_scene.proofs.Prepared.{none_prepared, unwatched, is_moved}
use Rattle.evm_scene.proofs.watched.prepare_name.Goals as goal

pub returns-in_default-clause-ok : goal.returns-in_default-clause-ok
returns-in_default-clause-ok g c =
    none_prepared c.args.name.now c.args.change.now.after c.args.slots.now
    (unwatched c.args.table.now.entries c.args.slots.now c.args.name.now c.requires.stands (sym c.in_default.ensures.value))

pub prepare-requires-clause-moved : goal.prepare-requires-clause-moved
prepare-requires-clause-moved g c =
    is_moved c.in-Some.node.now.solid (kept c.args.table.now.entries c.args.name.now) c.args.change.now (ap node_figure c.in-Some.ensures.value) c.requires.change
