use Rattle.std.proofs.Common.{sym, ap, ◌∙◌}
use Rattle.evm_rows.specs.Rows.{xor_rows}
use Rattle.evm_tiles.proofs.Showing.{same_rows_none, no_rows, xor_rows_other}
use Rattle.evm_delta.proofs.flat.just_one.Goals as goal

pub returns-then-len-eq0-clause-rows : goal.returns-then-len-eq0-clause-rows
returns-then-len-eq0-clause-rows c =
    same_rows_none c.args.a c.args.b (no_rows c.args.b.rows (sym c.len.ensures ∙ c.if-len-eq0.true)) c.requires c.facts.ensures.vertices

pub returns-then-len-eq0-2-clause-rows : goal.returns-then-len-eq0-2-clause-rows
returns-then-len-eq0-2-clause-rows c =
    same_rows_none c.args.b c.args.a (no_rows c.args.a.rows (sym c.len-2.ensures ∙ c.if-len-eq0-2.true)) (sym c.requires) c.facts-2.ensures.vertices
    ∙ xor_rows_other c.args.b.dim c.args.b.rows c.args.a.rows ∙ ap (λ n. xor_rows n c.args.a.rows c.args.b.rows) c.requires
