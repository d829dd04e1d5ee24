use Rattle.std.proofs.Common.{◌≡◌, length}
use Rattle.evm_rows.specs.View.{vertices_of}
use Rattle.evm_cutting.specs.Hulls.{IsAround}
use Rattle.evm_cutting.proofs.hulls.hull.Given as goal

abbrev pub invariant-loop-axis : goal.invariant-loop-axis
invariant-loop-axis l = record {
  around : IsAround l.axis l.ends.lo l.ends.hi (vertices_of l.d);
  low : length l.ends.lo ≡ 6;
  high : length l.ends.hi ≡ 6;
}
