use Rattle.std.proofs.Common.{◌≡◌, ◌-◌, suc, arith, sym, ◌∙◌}
use Rattle.evm_boxes.specs.Fills.{level_of}
use Rattle.evm_sections.proofs.Bits.{same32}
use Rattle.evm_boxes.proofs.Windows.{section_away, section_there}
use Rattle.evm_boxes.proofs.events.base_in.Goals as goal

pub returns-then-not-is_there : goal.returns-then-not-is_there
returns-then-not-is_there c =
    section_away (c.args.dim - 1) c.args.dim (level_of c.args.side c.args.height) c.args.window.now c.args.row.now (omega (arith, c.requires.low)) c.requires.is_box (rw (same32 c.args.height c.ranges.height) at (sym c.if-not-is_there.ensures))

pub returns : goal.returns
returns c =
    section_there (c.args.dim - 1) c.args.dim (level_of c.args.side c.args.height) c.args.window.now c.args.row.now c.base_of.result _ (omega (arith, c.requires.low)) c.requires.is_box (rw (same32 c.args.height c.ranges.height) at (sym c.if-not-is_there.ensures))
    c.base_of.ensures c.meet.ensures
