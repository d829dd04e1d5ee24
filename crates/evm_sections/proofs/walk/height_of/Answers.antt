use Rattle.std.proofs.Common.{sym, arith, rules, w32}
use mir.Val.{SFits}
use Rattle.evm_rows.specs.Rows.{rows_of}
use Rattle.evm_rows.proofs.RowsLaws.{rows_of-none}
use Rattle.evm_sections.proofs.Bits.{same32}
use Rattle.evm_sections.proofs.Rising.{first_height-first, first_height-none}
use Rattle.evm_sections.proofs.walk.height_of.Goals as goal

pub returns-then-flat-eq0 : goal.returns-then-flat-eq0
returns-then-flat-eq0 c = sym (rw (rows_of-none c.args.flat.now c.args.width c.args.skip (omega arith)) first_height-none)

pub returns : goal.returns
returns c =
    let fits : SFits w32 c.first_of.result = search rules in
    sym (rw (same32 c.first_of.result fits)
    (first_height-first (rows_of c.args.flat.now c.args.width c.args.skip) c.split_row.result.0.now (rows_of c.split_row.result.1.now c.args.width c.args.skip) c.first_of.result c.split_row.ensures.first c.first_of.ensures))
