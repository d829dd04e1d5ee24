use Rattle.std.proofs.Common.{◌≡◌, drop}
use Rattle.evm_model.specs.Reports.{axis_end, end_from}
use Rattle.evm_session.specs.Reported.{pick_of}
use Rattle.evm_session.proofs.reports.end_on.Given as goal

abbrev pub invariant-loop-row : goal.invariant-loop-row
invariant-loop-row l =
    end_from (pick_of l.end) l.axis l.found (drop l.row l.solid.rows) ≡ axis_end (pick_of l.end) l.axis l.solid.rows
