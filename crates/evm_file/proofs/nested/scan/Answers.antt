use Rattle.std.proofs.Common.{refl, [], ap, sym, ◌∙◌, length}
use Rattle.std.proofs.lemmas.List.{nil_from_length}
use Rattle.evm_formats.specs.Nested.{unread}
use Rattle.evm_file.specs.Scanning.{IsTally}
use Rattle.evm_file.proofs.Wholes.{whole_none, whole_some, whole_more}
use Rattle.evm_file.proofs.nested.scan.Goals as goal

pub returns-in-None : goal.returns-in-None
returns-in-None c =
    whole_none c.args.dim c.args.bytes.now (c.in-None.ensures.scans [] (unread c.args.bytes.now) (record { rows = refl; gap = refl; fall = refl; left = refl }))

pub returns-then-rest-eq0 : goal.returns-then-rest-eq0
returns-then-rest-eq0 c =
    let (s, e, t) = c.in-Some.ensures.scans [] (unread c.args.bytes.now) (record { rows = refl; gap = refl; fall = refl; left = refl }) in (
      s,
      whole_some c.args.dim c.args.bytes.now s e (ap length t.left ∙ c.if-rest-eq0.true),
      record { rows = t.rows; gap = t.gap; fall = t.fall; left = t.left ∙ nil_from_length c.in-Some.rest.now c.if-rest-eq0.true },
    )

pub returns-else-rest-eq0 : goal.returns-else-rest-eq0
returns-else-rest-eq0 c =
    let (s, e, t) = c.in-Some.ensures.scans [] (unread c.args.bytes.now) (record { rows = refl; gap = refl; fall = refl; left = refl }) in
    whole_more c.args.dim c.args.bytes.now s e (λ z. c.if-rest-eq0.false (ap length (sym t.left) ∙ z))
