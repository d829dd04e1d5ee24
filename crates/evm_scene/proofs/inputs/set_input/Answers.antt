use Rattle.std.proofs.Common.{rules}
use Rattle.evm_scene.proofs.Halted.{input_halted}
use Rattle.evm_scene.proofs.Wells.{well_kept}
use Rattle.evm_scene.proofs.Placed.{placed_kept, placed_stands, placed_values, placed_scene, placed_count, placed_stay}
use Rattle.evm_scene.proofs.Watching.{all_committed}
use Rattle.evm_scene.proofs.inputs.set_input.Goals as goal

pub returns-in_err-pending-clause-range : goal.returns-in_err-pending-clause-range
returns-in_err-pending-clause-range g c e =
    input_halted c.args.table.now.entries c.args.order.now c.args.name.now c.args.change c.requires.kept
    (well_kept c.args.table.now.entries c.args.order.now c.requires.kept c.len-names.ensures.unique) c.requires.stands c.requires.change (search rules)

pub returns-clause-kept : goal.returns-clause-kept
returns-clause-kept g c =
    placed_kept _ _ _ _ _ _ _ c.requires.kept c.in_ok-pending.ensures.carried c.requires.input c.requires.stands c.requires.change c.put_in_place-names.ensures

pub returns-clause-ok : goal.returns-clause-ok
returns-clause-ok g c =
    placed_scene _ _ _ _ _ _ _ c.requires.kept c.in_ok-pending.ensures.carried c.requires.input c.requires.stands c.requires.change c.put_in_place-names.ensures

pub returns-clause-count : goal.returns-clause-count
returns-clause-count g c =
    placed_count _ _ _ _ _ _ _ c.requires.kept c.in_ok-pending.ensures.carried c.requires.input c.requires.stands c.requires.change c.put_in_place-names.ensures c.len-names.ensures.unique

pub returns-clause-stays : goal.returns-clause-stays
returns-clause-stays g c =
    placed_stay _ _ _ _ _ _ _ c.requires.kept c.in_ok-pending.ensures.carried c.requires.input c.requires.stands c.requires.change c.put_in_place-names.ensures c.len-names.ensures.unique

pub returns-clause-watched : goal.returns-clause-watched
returns-clause-watched g c =
    all_committed _ _ _ _ _ _ c.requires.watched c.in_ok-prepare.ensures.ok c.commit.ensures
    (placed_values _ _ _ _ _ _ _ c.requires.kept c.in_ok-pending.ensures.carried c.requires.input c.requires.stands c.requires.change c.put_in_place-names.ensures)
    (placed_stands _ _ _ _ _ _ _ c.requires.kept c.in_ok-pending.ensures.carried c.requires.input c.requires.stands c.requires.change c.put_in_place-names.ensures)
