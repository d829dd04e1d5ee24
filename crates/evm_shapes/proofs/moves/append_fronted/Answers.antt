use Rattle.std.proofs.Common.{rules, get_or, pos, SFits, w32}
use Rattle.evm_sections.proofs.Bits.{same32}
use Rattle.evm_shapes.proofs.MoveSteps.{front_done}
use Rattle.evm_shapes.proofs.moves.append_fronted.Goals as goal

pub returns : goal.returns
returns c =
    let row = c.args.row.now in
    let f : SFits w32 (get_or row c.args.axis (pos 0)) = search rules in
    front_done c.args.out.now.items _ _ _ row c.args.axis _ (same32 (get_or row c.args.axis (pos 0)) f) c.in_ok-push.ensures.items c.in_ok-extend_from_slice.ensures.items c.in_ok-extend_from_slice-2.ensures.items
