use Rattle.std.proofs.Common.{◌≡◌, ◌++◌, drop}
use Rattle.evm_rows.specs.Rows.{flat_of}
use Rattle.evm_rows.specs.Groups.{targets}
use Rattle.evm_shapes.specs.Moves.{closed}
use Rattle.evm_shapes.proofs.clips.append_closed.Given as goal

abbrev pub invariant-loop-i : goal.invariant-loop-i
invariant-loop-i l = l.out.items ++ flat_of (closed l.at (targets (drop l.i l.rows))) ≡ l.initial.out.items ++ flat_of (closed l.at (targets l.rows))
