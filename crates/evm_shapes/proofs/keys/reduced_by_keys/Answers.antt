use Rattle.std.proofs.Common.{◌-◌}
use Rattle.evm_shapes.proofs.Windowed.{lone_reduced}
use Rattle.evm_shapes.proofs.keys.reduced_by_keys.Goals as goal

pub returns-clause-rows : goal.returns-clause-rows
returns-clause-rows c = lone_reduced (c.args.width - c.args.skip) _ _ _ c.in_ok-keys.ensures.lone c.in_ok-rows.ensures.rows
