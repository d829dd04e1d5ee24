use Rattle.std.proofs.Common.{rules}
use Rattle.std.proofs.lemmas.Fn.{filter_same}
use Rattle.evm_scene.specs.Orders.{is_other}
use Rattle.evm_scene.proofs.removed.take_out.Goals as goal

pub returns : goal.returns
returns c = filter_same _ (is_other c.args.name.now) _ (λ x b q h. search rules) _ _ c.retain.ensures.filtered
