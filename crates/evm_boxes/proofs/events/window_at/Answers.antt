use Rattle.std.proofs.Common.{◌≡◌, ◌-◌, ◌<◌, [], ◌∷◌, ◌++◌, List, take, length, get_or, arith, sym, subst, None, Some, ◌∙◌, w32, to_z, of_z}
use Rattle.std.proofs.lemmas.List.{take_more, take_all}
use Rattle.evm_sections.proofs.Bits.{same32}
use Rattle.evm_boxes.specs.Fills.{IsFound, IsWindow}
use Rattle.evm_boxes.specs.declared.BoxRow.{BoxRow}
use Rattle.evm_boxes.proofs.Windows.{found_none}
use Rattle.evm_boxes.proofs.events.window_at.Goals as goal

pub loop-row-preserved : goal.loop-row-preserved
loop-row-preserved c =
    let i = c.loop-row.row-index in
    let l : i < length c.args.rows.now = omega arith in
    subst (λ (rows : List BoxRow). IsFound (c.args.dim - 1) (to_z w32 (of_z w32 c.args.height)) rows c.with_event-found.result) (sym (take_more c.args.rows.now i (record { dim = 0; lo = []; hi = [] }) l))
    (c.with_event-found.ensures (take i c.args.rows.now) c.loop-row.invariant)

pub returns-in-None : goal.returns-in-None
returns-in-None c =
    found_none (c.args.dim - 1) c.args.height c.args.rows.now c.everything.result c.everything.ensures
    (rw (same32 c.args.height c.ranges.height, take_all c.loop-row.row-index c.args.rows.now (omega arith)) at (subst (IsFound (c.args.dim - 1) (to_z w32 (of_z w32 c.args.height)) (take c.loop-row.row-index c.args.rows.now)) c.in-None.is c.loop-row.invariant))
