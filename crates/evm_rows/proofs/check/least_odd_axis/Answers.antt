use Rattle.std.proofs.Common.{arith, below_more}
use Rattle.evm_rows.specs.Check.{IsEvenOn}
use Rattle.evm_rows.specs.Rows.{rows_of}
use Rattle.evm_rows.proofs.Refusals.{least_odd}
use Rattle.evm_rows.proofs.check.least_odd_axis.Goals as goal

pub returns-then-branch : goal.returns-then-branch
returns-then-branch c =
    least_odd c.args.width c.loop-front.front (rows_of c.args.flat.now c.args.width 0) (let t = c.loop-front-test.true in omega arith) c.loop-front.invariant (rw c.if-branch.true at c.in_ok-has_odd_line.ensures)

pub loop-front-preserved : goal.loop-front-preserved
loop-front-preserved c =
    below_more (λ j. IsEvenOn j (rows_of c.args.flat.now c.args.width 0)) c.loop-front.front c.loop-front.invariant (rw c.if-branch.false at c.in_ok-has_odd_line.ensures)

pub returns : goal.returns
returns c = λ i line l. c.loop-front.invariant i (let e = c.loop-front-test.false in omega arith) line
