use Rattle.std.proofs.Common.{◌∙◌, sym, ap}
use Rattle.std.specs.Ordering.{is_eq}
use Rattle.std.proofs.lemmas.Cmp.{is_eq_index}
use Rattle.evm_rows.proofs.Bridge.{same-cmp}
use Rattle.evm_rows.proofs.groups.are_same.Goals as goal

pub returns : goal.returns
returns c = c.eq.ensures ∙ sym (is_eq_index c.row_order.result) ∙ ap is_eq c.row_order.ensures ∙ sym (same-cmp c.args.p.now c.args.q.now)
