use Rattle.std.proofs.Common.{arith}
use Rattle.evm_rows.specs.Rows.{rows_of}
use Rattle.evm_rows.proofs.RowsLaws.{rows_of-none}
use Rattle.evm_rows.proofs.Lines.{odd_line_found, even_so_far, asc_left, even_at_end}
use Rattle.evm_rows.proofs.check.has_odd_line.Goals as goal

pub returns-then-branch : goal.returns-then-branch
returns-then-branch c =
    odd_line_found c.args.front c.args.width _ c.loop-rest.rest.now _ _ c.loop-rest.invariant.so_far c.first_group.ensures.group (rw c.if-branch.true at c.in_ok-has_odd_place.ensures)

pub loop-rest-preserved : goal.loop-rest-preserved
loop-rest-preserved c = record {
  whole = c.first_group.ensures.whole;
  ascends = asc_left c.args.front _ _ _ c.first_group.ensures.group c.loop-rest.invariant.ascends;
  so_far = even_so_far c.args.front c.args.width _ c.loop-rest.rest.now _ _ c.loop-rest.invariant.so_far c.first_group.ensures.group (rw c.if-branch.false at c.in_ok-has_odd_place.ensures);
}

pub returns : goal.returns
returns c =
    even_at_end c.args.front (rows_of c.args.flat.now c.args.width 0) (rows_of c.loop-rest.rest.now c.args.width 0) c.loop-rest.invariant.so_far
    (rows_of-none c.loop-rest.rest.now c.args.width 0 (let e = c.loop-rest-test.false in omega arith))
