use Rattle.evm_session.proofs.Reporting.{name_is_text}
use Rattle.std.proofs.Common.{subst, sym}
use Rattle.std.specs.Str.{IsUtf8}
use Rattle.evm_session.proofs.reports.text_of.Goals as goal

pub unreachable-requires : goal.unreachable-requires
unreachable-requires c = c.in-Err.ensures.cases.0 (subst IsUtf8 (sym c.bytes.ensures.value) (name_is_text c.args.name.now c.bytes.ensures.rule))
