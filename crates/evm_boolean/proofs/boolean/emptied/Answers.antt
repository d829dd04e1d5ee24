use Rattle.std.proofs.Common.{◌∙◌}
use Rattle.evm_rows.proofs.RowsLaws.{rows_of-nil}
use Rattle.evm_rows.proofs.Bridge.{are_rows-nil}
use Rattle.evm_boolean.proofs.boolean.emptied.Goals as goal

pub from_rows-requires : goal.from_rows-requires
from_rows-requires c = rw c.clear.ensures.items (are_rows-nil c.args.dim c.requires.low c.requires.high)

pub returns-clause-rows : goal.returns-clause-rows
returns-clause-rows c = c.from_rows.ensures.rows ∙ rw c.clear.ensures.items (rows_of-nil c.args.dim 0)
