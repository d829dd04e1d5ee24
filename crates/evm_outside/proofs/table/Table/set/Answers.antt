use Rattle.std.proofs.Common.{ap, ◌∙◌}
use Rattle.evm_outside.specs.Tables.{files_of}
use Rattle.evm_outside.proofs.FilesByName.{files_of-insert}
use Rattle.evm_outside.proofs.table.Table.set.Goals as goal

pub returns-in-Ok-insert-clause-ok : goal.returns-in-Ok-insert-clause-ok
returns-in-Ok-insert-clause-ok c =
    let inserted = files_of-insert c.self.inside.entries.entries c.in-Ok.name c.in-Ok-from_slice.bytes in
    ap files_of c.in-Ok-insert.ensures.entries ∙ inserted
    ∙ cc (c.self.view_is, c.in-Ok.ensures.items, c.in-Ok-from_slice.ensures.items)
