use Rattle.std.proofs.Common.{◌≡◌, ℤ, get_or, int_le, pos, true, rules, SFits, w32}
use Rattle.evm_sections.proofs.Bits.{same32}
use Rattle.evm_shapes.proofs.Sliced.{kept_row}
use Rattle.evm_shapes.proofs.slices.append_up_to.Goals as goal

pub returns-in_ok-extend_from_slice-2 : goal.returns-in_ok-extend_from_slice-2
returns-in_ok-extend_from_slice-2 c =
    let row = c.args.row.now in
    let x : ℤ = get_or row c.args.axis (pos 0) in
    let f : SFits w32 x = search rules in
    let h : int_le x c.args.at ≡ true = rw (same32 x f, same32 c.args.at c.ranges.at) at c.if-row-axis.true in
    kept_row c.args.axis c.args.at c.args.out.now.items _ _ row h c.in_ok-extend_from_slice.ensures.items c.in_ok-extend_from_slice-2.ensures.items
