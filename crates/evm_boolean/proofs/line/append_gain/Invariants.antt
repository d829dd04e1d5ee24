use Rattle.std.proofs.Common.{◌+◌, length}
use Rattle.evm_rows.specs.Rows.{rows_of}
use Rattle.evm_boolean.specs.Tower.{fills}
use Rattle.evm_sections.specs.Lines.{firsts}
use Rattle.evm_boolean.proofs.Planes.{Gaining}
use Rattle.evm_boolean.proofs.line.append_gain.Given as goal

abbrev pub invariant-loop-next : goal.invariant-loop-next
invariant-loop-next l = Gaining (fills l.op) l.line_a l.line_b (firsts (rows_of l.change_a.flat.now l.change_a.width l.change_a.skip)) (firsts (rows_of l.change_b.flat.now l.change_b.width l.change_b.skip)) l.height l.initial.out.items l.out.items l.on l.a l.b l.c l.d

abbrev pub decreases-loop-next : goal.decreases-loop-next
decreases-loop-next l = (length l.a.left + length l.b.left) + (length l.c.left + length l.d.left)
