use Rattle.std.proofs.Common.{◌≡◌, map, take}
use Rattle.serde_json.specs.View.{view}
use Rattle.evm_report.specs.Report.{coordinate}
use Rattle.evm_report.proofs.coordinates.Given as goal

abbrev pub invariant-loop-number : goal.invariant-loop-number
invariant-loop-number l = map view l.values.items ≡ map coordinate (take l.number-index l.numbers)
