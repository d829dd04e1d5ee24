use Rattle.std.proofs.Common.{refl, ap, ◌∙◌}
use Rattle.evm_formats.specs.Nested.{read_body, unread}
use Rattle.evm_file.proofs.Wholes.{whole_is}
use Rattle.evm_file.proofs.nested.rows_of_body.Goals as goal

pub returns : goal.returns
returns c = λ s e.
    (c.in_ok-append_rows.ensures (unread c.args.bytes.now) s refl c.in_ok-flat.ensures.items
    (ap (λ zs. read_body c.args.dim zs (unread c.args.bytes.now)) c.start.ensures.places ∙ whole_is c.args.dim c.args.bytes.now s e)).1
