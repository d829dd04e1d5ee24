use Rattle.evm_sections.proofs.Bits.{same32}
use Rattle.evm_shapes.proofs.MoveSteps.{raise_done}
use Rattle.evm_shapes.proofs.moves.append_raised.Goals as goal

pub returns : goal.returns
returns c =
    raise_done c.args.out.now.items _ _ _ c.args.row.now c.args.axis c.args.height c.requires c.in_ok-extend_from_slice.ensures.items (rw (same32 c.args.height c.ranges.height) at c.in_ok-push.ensures.items) c.in_ok-extend_from_slice-2.ensures.items
