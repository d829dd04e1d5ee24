use Rattle.std.proofs.Common.{rules, arith}
use Rattle.evm_formats.proofs.Frames.{whole_stated}
use Rattle.evm_file.proofs.Reading.{listed_ok}
use Rattle.evm_file.proofs.listed.read_listed.Goals as goal

pub check-requires-clause-whole : goal.check-requires-clause-whole
check-requires-clause-whole c =
    rw (c.from.ensures, c.in_ok-flat.ensures, c.split_at.ensures.back) (whole_stated c.args.bytes.now c.requires (c.if-not-has_length.ensures.0 (search rules)))

pub returns-in-Ok-clause-answers : goal.returns-in-Ok-clause-answers
returns-in-Ok-clause-answers c =
    listed_ok c.args.bytes.now c.in-Ok.solid c.requires (c.if-not-has_length.ensures.0 (search rules)) (λ i. let q = c.type_inv.bytes i in omega arith)
    (rw (c.from.ensures, c.in_ok-flat.ensures, c.split_at.ensures.back) at c.in-Ok.ensures.ok) c.in-Ok.ensures.vertices
