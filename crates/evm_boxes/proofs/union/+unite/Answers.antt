use Rattle.std.proofs.Common.{◌<◌, ◌/◌, ◌++◌, List, [], map, length, ap, ap₂, ◌∙◌, arith}
use Rattle.evm_cells.specs.Vertices.{evm}
use Rattle.evm_rows.specs.Rows.{Vertices, combined_rows}
use Rattle.evm_boolean.specs.Tower.{fills}
use Rattle.evm_boolean.specs.declared.boolean.Op2.TheVariants.{Or}
use Rattle.evm_boxes.specs.BoxRows.{ends_of}
use Rattle.evm_cells.specs.Unions.{Ends, union_of}
use Rattle.evm_boxes.specs.declared.BoxRow.{BoxRow}
use Rattle.evm_boxes.proofs.UnionRows.{none_united, one_or_want, united, halves}
use Rattle.evm_boxes.proofs.union.+unite.Goals as goal

no_row : BoxRow
no_row = record { dim = 0; lo = []; hi = [] }

pub returns-in-empty-clause-rows : goal.returns-in-empty-clause-rows
returns-in-empty-clause-rows t c = none_united c.args.dim c.empty.result.rows c.args.boxes.now c.in-empty.len_below c.empty.ensures.rows

pub returns-in-len1-clause-rows : goal.returns-in-len1-clause-rows
unfolding no_row
returns-in-len1-clause-rows t c =
    let some : 0 < length c.args.boxes.now = omega (arith, c.in-len1.len_at_least) in
    one_or_want c.args.dim c.solid_of.result c.args.boxes.now no_row some c.in-len1.len_below (c.requires.boxes 0 no_row some).dim c.solid_of.ensures.rows

pub returns-in_ok-both-in_default-clause-rows : goal.returns-in_ok-both-in_default-clause-rows
returns-in_ok-both-in_default-clause-rows t c =
    let boxes = c.args.boxes.now in
    let both = united c.args.dim c.in_ok-left-in_default.left c.in_ok-right-in_default.right c.in_ok-both-in_default.both
    (map ends_of c.split_at.result.0.now) (map ends_of c.split_at.result.1.now)
    c.in_ok-left-in_default.ensures.dim c.in_ok-left-in_default.ensures.rows c.in_ok-right-in_default.ensures.rows
    (c.in_ok-both-in_default.ensures.rows ∙ ap₂ (λ (a b : Vertices). combined_rows (fills Or) a.dim a.rows b.rows) c.rows.ensures c.rows-in_default.ensures) in
    both
    ∙ ap₂ (λ (front back : List BoxRow). evm c.args.dim (union_of c.args.dim (map ends_of front ++ map ends_of back))) c.split_at.ensures.front c.split_at.ensures.back
    ∙ ap (λ (ends : List Ends). evm c.args.dim (union_of c.args.dim ends)) (halves boxes (length boxes / 2))
