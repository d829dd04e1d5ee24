use Rattle.std.proofs.Common.{◌+◌, length}
use Rattle.evm_rows.specs.Rows.{rows_of}
use Rattle.evm_sections.specs.Lines.{firsts}
use Rattle.evm_sections.proofs.LineChanges.{Turning}
use Rattle.evm_sections.proofs.Counting.{Counting}
use Rattle.evm_sections.proofs.line.changed.Given as goal

abbrev pub invariant-loop-next : goal.invariant-loop-next
invariant-loop-next l = record {
  turning : Turning l.line (firsts (rows_of l.change.flat.now l.change.width l.change.skip)) l.out.items l.a l.c;
  counting : Counting l.line (firsts (rows_of l.change.flat.now l.change.width l.change.skip)) l.level l.a l.c l.across l.shared;
}

abbrev pub decreases-loop-next : goal.decreases-loop-next
decreases-loop-next l = length l.a.left + length l.c.left
