use Rattle.std.proofs.Common.{◌≡◌, ◌+◌, [], length}
use Rattle.evm_generator.specs.Lines.{lines_left}
use Rattle.evm_tool.specs.Generated.{SoFar}
use Rattle.evm_tool.proofs.generated.tally_of.Given as goal

abbrev pub invariant-loop-reply : goal.invariant-loop-reply
invariant-loop-reply g l = record {
  clear : l.line.items ≡ [];
  passed : l.passed_over ≡ l.edits + 8;
  so_far : SoFar l.seed l.edits (lines_left l.generator) l.session l.tally.fine l.tally.refused l.tally.last.items l.fn.steps l.steps;
}

abbrev pub decreases-loop-reply : goal.decreases-loop-reply
decreases-loop-reply g l = length (lines_left l.generator)
