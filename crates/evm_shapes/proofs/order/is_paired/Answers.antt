use Rattle.std.proofs.Common.{◌∙◌, ◌+◌, length, sym, []}
use Rattle.std.proofs.lemmas.Bool.{le-ltb}
use Rattle.evm_rows.proofs.Solids.{pointwise-same}
use Rattle.evm_shapes.proofs.Sorted.{starts_pair-at, starts_pair-last}
use Rattle.evm_shapes.proofs.order.is_paired.Goals as goal

pub returns-then-i-rows : goal.returns-then-i-rows
returns-then-i-rows c =
    c.eq.ensures ∙ pointwise-same _ _ ∙ sym (starts_pair-at c.args.rows.now c.args.i (record { ref_ptr = (0, 0); now = [] }) c.if-i-rows.true)

pub returns-else-i-rows : goal.returns-else-i-rows
returns-else-i-rows c =
    le-ltb (c.args.i + 1) (length c.args.rows.now) c.if-i-rows.false ∙ sym (starts_pair-last c.args.rows.now c.args.i (record { ref_ptr = (0, 0); now = [] }) c.requires c.if-i-rows.false)
