use Rattle.std.proofs.Common.{ℕ, ◌<◌}
use Rattle.evm_rows.specs.Rows.{rows_of}
use Rattle.evm_rows.specs.Check.{IsEvenOn}
use Rattle.evm_rows.proofs.check.least_odd_axis.Given as goal

abbrev pub invariant-loop-front : goal.invariant-loop-front
invariant-loop-front l = (j : ℕ) → j < l.front → IsEvenOn j (rows_of l.flat l.width 0)
