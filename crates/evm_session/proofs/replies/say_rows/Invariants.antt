use Rattle.std.proofs.Common.{◌≡◌, ◌++◌, ◌%◌, length}
use Rattle.evm_rows.specs.Rows.{rows_of}
use Rattle.evm_model.specs.Replies.{rows_text}
use Rattle.evm_session.specs.Says.{Extends}
use Rattle.evm_session.proofs.replies.say_rows.Given as goal

abbrev pub invariant-loop-left : goal.invariant-loop-left
invariant-loop-left l =
    (length l.left % l.rows.width ≡ 0)
    × Extends l.fn.out.items l.out.items
    × (l.fn.out.items ++ rows_text (rows_of l.fn.rows.flat.now l.rows.width l.rows.skip) ≡ l.out.items ++ rows_text (rows_of l.left l.rows.width l.rows.skip))

abbrev pub decreases-loop-left : goal.decreases-loop-left
decreases-loop-left l = length l.left
