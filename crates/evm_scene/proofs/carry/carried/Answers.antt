use Rattle.std.proofs.Common.{rules}
use Rattle.evm_scene.specs.Changes.{IsHalted}
use Rattle.evm_scene.proofs.Halted.{halted_from}
use Rattle.evm_scene.proofs.carry.carried.Goals as goal

pub returns-in_err-carry-clause-halted : goal.returns-in_err-carry-clause-halted
returns-in_err-carry-clause-halted g c e =
    let halted : IsHalted c.args.table.now.entries c.args.name.now c.put.new.pending.entries = search rules in
    halted_from c.args.table.now.entries c.args.name.now c.args.change _ _ c.in_ok-put.ensures halted
