use Rattle.std.proofs.Common.{◌∙◌, sym, ap}
use Rattle.std.specs.Ordering.{is_lt}
use Rattle.std.proofs.lemmas.Cmp.{is_lt_index}
use Rattle.evm_rows.proofs.Bridge.{before-cmp}
use Rattle.evm_rows.proofs.check.comes_before.Goals as goal

pub returns : goal.returns
returns c = c.eq.ensures ∙ sym (is_lt_index c.row_order.result) ∙ ap is_lt c.row_order.ensures ∙ sym (before-cmp c.args.p.now c.args.q.now)
