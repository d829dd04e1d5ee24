use Rattle.std.proofs.Common.{ap, sym, ◌∙◌, arith}
use Rattle.evm_rows.specs.Rows.{rows_of, Vertices}
use Rattle.evm_file.proofs.Wholes.{whole_long, wide_whole, flat_whole, is_whole, positive, nested_refuse, nested_error, nested_ok, no_number}
use Rattle.evm_file.proofs.nested.read_nested.Goals as goal

pub inner_gap-requires : goal.inner_gap-requires
inner_gap-requires c =
    let (s, e, t) = c.in-Some.ensures in
    whole_long c.from-dim.result c.split_at.result.1.now s (positive c.args.bytes.now c.from-dim.result c.requires c.from-dim.ensures) e

pub refuse-requires-clause-whole : goal.refuse-requires-clause-whole
refuse-requires-clause-whole c =
    let (s, e, t) = c.in-Some.ensures in
    let n = c.from-dim.result in
    (flat_whole n c.in_ok-flat.flat.items s (positive c.args.bytes.now n c.requires c.from-dim.ensures) (wide_whole n c.split_at.result.1.now s e) (c.in_ok-flat.ensures s e)).0

pub returns-in-Some-fall-clause-answers : goal.returns-in-Some-fall-clause-answers
returns-in-Some-fall-clause-answers c =
    let (s, e, t) = c.in-Some.ensures in
    let n = c.from-dim.result in
    let whole = flat_whole n c.in_ok-flat.flat.items s (positive c.args.bytes.now n c.requires c.from-dim.ensures) (wide_whole n c.split_at.result.1.now s e) (c.in_ok-flat.ensures s e) in
    let w = is_whole c.args.bytes.now c.split_at.result.1.now n s c.in-Some.tally.gap c.requires c.from-dim.ensures c.split_at.ensures.back e t.gap c.in_default-inner_gap.ensures in
    nested_refuse c.args.bytes.now s n c.in-Some-fall.row (rows_of c.in_ok-flat.flat.items n 0) c.refuse.result w (t.fall ∙ c.in-Some-fall.is) c.from-dim.ensures whole.1 c.refuse.ensures

pub check-requires-clause-whole : goal.check-requires-clause-whole
check-requires-clause-whole c =
    let (s, e, t) = c.in-Some.ensures in
    let n = c.from-dim.result in
    (flat_whole n c.in_ok-flat.flat.items s (positive c.args.bytes.now n c.requires c.from-dim.ensures) (wide_whole n c.split_at.result.1.now s e) (c.in_ok-flat.ensures s e)).0

pub returns-in-Ok-clause-answers : goal.returns-in-Ok-clause-answers
returns-in-Ok-clause-answers c =
    let (s, e, t) = c.in-Some.ensures in
    let n = c.from-dim.result in
    let whole = flat_whole n c.in_ok-flat.flat.items s (positive c.args.bytes.now n c.requires c.from-dim.ensures) (wide_whole n c.split_at.result.1.now s e) (c.in_ok-flat.ensures s e) in
    let w = is_whole c.args.bytes.now c.split_at.result.1.now n s c.in-Some.tally.gap c.requires c.from-dim.ensures c.split_at.ensures.back e t.gap c.in_default-inner_gap.ensures in
    nested_ok c.args.bytes.now s c.in-Ok.solid w (λ i. let q = c.type_inv.bytes i in omega arith) (t.fall ∙ no_number c.in-Some.tally.fall c.in_default-fall.not-Some)
    (ap (λ (u : Vertices). u.dim) c.in-Ok.ensures.ok ∙ c.from-dim.ensures) (ap (λ (u : Vertices). u.rows) c.in-Ok.ensures.ok ∙ whole.1) c.in-Ok.ensures.vertices

pub returns-in-Err-clause-answers : goal.returns-in-Err-clause-answers
returns-in-Err-clause-answers c =
    let (s, e, t) = c.in-Some.ensures in
    let n = c.from-dim.result in
    let whole = flat_whole n c.in_ok-flat.flat.items s (positive c.args.bytes.now n c.requires c.from-dim.ensures) (wide_whole n c.split_at.result.1.now s e) (c.in_ok-flat.ensures s e) in
    let w = is_whole c.args.bytes.now c.split_at.result.1.now n s c.in-Some.tally.gap c.requires c.from-dim.ensures c.split_at.ensures.back e t.gap c.in_default-inner_gap.ensures in
    nested_error c.args.bytes.now s n (rows_of c.in_ok-flat.flat.items n 0) c.in-Err.e c.from.result w (λ i. let q = c.type_inv.bytes i in omega arith) (t.fall ∙ no_number c.in-Some.tally.fall c.in_default-fall.not-Some)
    c.from-dim.ensures whole.1 c.from.ensures c.in-Err.ensures.err
