use Rattle.std.proofs.Common.{◌≡◌}
use Rattle.evm_model.specs.Reports.{axis_end, each_axis}
use Rattle.evm_session.specs.Reported.{pick_of}
use Rattle.evm_session.proofs.reports.ends_on.Given as goal

abbrev pub invariant-loop-axis : goal.invariant-loop-axis
invariant-loop-axis l = l.ends.items ≡ each_axis (λ axis. axis_end (pick_of l.end) axis l.solid.rows) l.axis
