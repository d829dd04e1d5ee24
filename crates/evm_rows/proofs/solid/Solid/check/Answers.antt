use Rattle.evm_rows.specs.Rows.{rows_of}
use Rattle.evm_rows.proofs.Solids.{are_rows-from}
use Rattle.evm_rows.specs.Check.{IsRefusal}
use Rattle.evm_rows.specs.declared.check.RowError.TheVariants.{Order, Odd}
use Rattle.evm_rows.proofs.Refusals.{refused_by, refusal_denies}
use Rattle.evm_rows.proofs.solid.Solid.check.Goals as goal

order_refused : (c : goal.After-drop-flat-in-Some-first_unordered) → IsRefusal c.args.dim (rows_of c.args.flat.items c.args.dim 0) (Order c.in-Some-first_unordered.row)
order_refused c = (rw c.as_slice.ensures.value at c.in_default.ensures, rw c.as_slice-2.ensures.value at c.in-Some-first_unordered.ensures)

pub returns-in-Some-first_unordered-clause-refused : goal.returns-in-Some-first_unordered-clause-refused
returns-in-Some-first_unordered-clause-refused c = refused_by c.args.dim (rows_of c.args.flat.items c.args.dim 0) (Order c.in-Some-first_unordered.row) (order_refused c)

pub returns-in-Some-first_unordered-clause-accepted : goal.returns-in-Some-first_unordered-clause-accepted
returns-in-Some-first_unordered-clause-accepted c = λ v. absurd (refusal_denies c.args.dim (rows_of c.args.flat.items c.args.dim 0) (Order c.in-Some-first_unordered.row) (order_refused c) v)

odd_refused : (c : goal.After-drop-flat-in-Some-2) → IsRefusal c.args.dim (rows_of c.args.flat.items c.args.dim 0) (Odd c.in-Some-2.axis)
odd_refused c = (
  rw c.as_slice.ensures.value at c.in_default.ensures,
  rw c.as_slice-2.ensures.value at c.in_default-first_unordered.ensures,
  rw (c.in-Some-2.is, c.as_slice-3.ensures.value) at c.in_ok-axis.ensures,
)

pub returns-in-Some-2-clause-refused : goal.returns-in-Some-2-clause-refused
returns-in-Some-2-clause-refused c = refused_by c.args.dim (rows_of c.args.flat.items c.args.dim 0) (Odd c.in-Some-2.axis) (odd_refused c)

pub returns-in-Some-2-clause-accepted : goal.returns-in-Some-2-clause-accepted
returns-in-Some-2-clause-accepted c = λ v. absurd (refusal_denies c.args.dim (rows_of c.args.flat.items c.args.dim 0) (Odd c.in-Some-2.axis) (odd_refused c) v)

pub from_rows-requires : goal.from_rows-requires
from_rows-requires c = are_rows-from c.args.flat.items c.args.dim c.requires.low c.requires.high c.requires.whole (record {
  ascends = rw c.as_slice-2.ensures.value at c.in_default-first_unordered.ensures;
  points = rw c.as_slice.ensures.value at c.in_default.ensures;
  even = rw (c.in_default-2.is, c.as_slice-3.ensures.value) at c.in_ok-axis.ensures;
})

pub returns-clause-refused : goal.returns-clause-refused
returns-clause-refused c = λ e r. absurd (refusal_denies c.args.dim (rows_of c.args.flat.items c.args.dim 0) e r (record {
  ascends = rw c.as_slice-2.ensures.value at c.in_default-first_unordered.ensures;
  points = rw c.as_slice.ensures.value at c.in_default.ensures;
  even = rw (c.in_default-2.is, c.as_slice-3.ensures.value) at c.in_ok-axis.ensures;
}))
