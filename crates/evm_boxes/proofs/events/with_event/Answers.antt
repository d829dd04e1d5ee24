use Rattle.std.proofs.Common.{◌≡◌, ◌-◌, suc, arith, sym, subst, Some, None, Option, ◌∙◌}
use Rattle.evm_sections.proofs.Bits.{same32}
use Rattle.evm_boxes.specs.Fills.{IsFound}
use Rattle.evm_boxes.specs.declared.BoxRow.{BoxRow}
use Rattle.evm_boxes.proofs.Windows.{found_still, found_first, found_more}
use Rattle.evm_boxes.proofs.events.with_event.Goals as goal

pub returns-then-not-is_event : goal.returns-then-not-is_event
returns-then-not-is_event c = λ rows f. found_still (c.args.dim - 1) c.args.height rows c.args.row.now c.args.found (rw (same32 c.args.height c.ranges.height) at (sym c.if-not-is_event.ensures)) f

pub returns-in-None : goal.returns-in-None
returns-in-None c = λ rows f. found_first c.args.dim c.args.height rows c.args.row.now c.base_of.result c.base_of.ensures (subst (IsFound (c.args.dim - 1) c.args.height rows) c.in-None.is f)

pub returns-in-Some : goal.returns-in-Some
returns-in-Some c = λ rows f.
    found_more c.args.dim (c.args.dim - 1) c.args.height rows c.args.row.now c.in-Some.field-0 c.everything.result (omega (arith, c.requires.low)) c.requires.is_box c.everything.ensures
    (subst (IsFound (c.args.dim - 1) c.args.height rows) c.in-Some.is f)
