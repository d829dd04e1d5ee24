use Rattle.std.proofs.Common.{◌-◌, ◌∙◌, arith}
use Rattle.evm_cells.specs.Vertices.{odd}
use Rattle.evm_rows.specs.Rows.{rows_of}
use Rattle.evm_rows.proofs.Lines.{number_tells}
use Rattle.evm_rows.proofs.OddParts.{odd_part_tells}
use Rattle.evm_rows.proofs.check.has_odd_place.Goals as goal

pub returns-then-skip-width : goal.returns-then-skip-width
unfolding odd
returns-then-skip-width c = number_tells c.args.flat.now c.args.width c.args.skip c.requires.some c.requires.whole c.if-skip-width.true

pub returns : goal.returns
returns c =
    odd_part_tells (rows_of c.args.flat.now c.args.width c.args.skip) c.in_ok-odd.odd.items (c.args.width - c.args.skip) c.len.result
    (let f = c.if-skip-width.false in let g = c.requires.left in omega arith) (c.len.ensures ∙ c.in_ok-odd.odd.ok.0) c.in_ok-odd.ensures.odd
