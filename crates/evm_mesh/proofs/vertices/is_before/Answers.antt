use Rattle.std.proofs.Common.{sym, ap, ◌∙◌}
use Rattle.std.specs.Ordering.{is_lt}
use Rattle.evm_rows.proofs.Bridge.{before-cmp}
use Rattle.evm_mesh.proofs.vertices.is_before.Goals as goal

pub returns : goal.returns
returns c = c.is_lt.ensures ∙ ap is_lt c.cmp.ensures ∙ sym (before-cmp c.args.point.now c.args.other.now)
