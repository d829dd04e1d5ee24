use Rattle.std.proofs.Common.{◌≡◌, ◌*◌, ◌/◌, arith, rules, length, vec_len, ap, ◌∙◌}
use Rattle.evm_rows.proofs.RowsPlaces.{quotient}
use Rattle.evm_partition.specs.BoxLists.{BoxList, boxes_of}
use Rattle.evm_partition.proofs.Numbers.{count_boxes}
use Rattle.evm_partition.proofs.boxes.Boxes.len.Goals as goal

pub returns : goal.returns
returns c =
    let b = c.self.inside in
    let i = c.self.invariant in
    let low = i.low in
    let e : vec_len b.flat ≡ length b.flat.items = search rules in
    ap (λ m. m / (2 * b.dim)) (c.len.ensures ∙ e)
    ∙ quotient (length (boxes_of b.dim b.flat.items)) (2 * b.dim) (length b.flat.items) (omega arith) (count_boxes b.dim b.flat.items i)
    ∙ ap (λ (b : BoxList). length b.boxes) c.self.view_is
