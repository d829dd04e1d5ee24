use Rattle.std.proofs.Common.{◌≤◌, ◌-◌, length}
use Rattle.evm_rows.specs.View.{vertices_of}
use Rattle.evm_tool.proofs.tests.meters.RowCounterMeter.begin.Given as goal

abbrev pub invariant-loop-count : goal.invariant-loop-count
invariant-loop-count l = l.count ≤ length (vertices_of l.solid).rows

abbrev pub decreases-loop-count : goal.decreases-loop-count
decreases-loop-count l = length (vertices_of l.solid).rows - l.count
