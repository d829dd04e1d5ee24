use Rattle.std.proofs.Common.{ℤ, get_or, pos, rules, SFits, w32, ap, of_z}
use Rattle.evm_cells.proofs.Coords.{eq_yes, eq_no}
use Rattle.evm_sections.proofs.Bits.{same_bits}
use Rattle.evm_cutting.proofs.SeamRows.{taken_row, passed_row}
use Rattle.evm_cutting.proofs.seams.append_at.Goals as goal

pub returns-in_ok-extend_from_slice-2 : goal.returns-in_ok-extend_from_slice-2
returns-in_ok-extend_from_slice-2 c =
    let row = c.args.row.now in
    let x : ℤ = get_or row c.args.axis (pos 0) in
    let f : SFits w32 x = search rules in
    taken_row c.args.axis c.args.at c.args.out.now.items _ _ row (eq_yes x c.args.at (same_bits x c.args.at f c.ranges.at c.if-row-axis.true))
    c.in_ok-extend_from_slice.ensures.items c.in_ok-extend_from_slice-2.ensures.items

pub returns-else-row-axis : goal.returns-else-row-axis
returns-else-row-axis c =
    let x : ℤ = get_or c.args.row.now c.args.axis (pos 0) in
    passed_row c.args.axis c.args.at c.args.out.now.items c.args.row.now (eq_no x c.args.at (λ q. c.if-row-axis.false (ap (of_z w32) q)))
