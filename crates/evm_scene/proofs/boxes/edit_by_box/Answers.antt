use Rattle.evm_scene.proofs.Views.{kept_is_value}
use Rattle.evm_scene.proofs.boxes.edit_by_box.Goals as goal

pub planned-requires-clause-values : goal.planned-requires-clause-values
planned-requires-clause-values g c = kept_is_value c.args.table.now.entries c.args.order.now c.requires.kept
