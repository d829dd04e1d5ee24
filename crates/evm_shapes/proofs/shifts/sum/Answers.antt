use Rattle.std.proofs.Common.{◌≡◌, ◌+ℤ◌, ◌∙◌, ℤ, SFits, w32, w64, get_or, pos, length, arith, rules}
use Rattle.evm_sections.proofs.Bits.{same32}
use Rattle.evm_shapes.proofs.Shifted.{shift_parts, shift_near, same64, sum_fits}
use Rattle.evm_shapes.proofs.shifts.sum.Goals as goal

pub bounds-by-axis : goal.bounds-by-axis
bounds-by-axis c = let e : length c.args.by.now ≡ length c.args.row.now = shift_parts (length c.args.row.now) c.args.by.now c.requires.shift in let l = c.requires.within in omega arith

pub overflow_add-result : goal.overflow_add-result
overflow_add-result c =
    let x : ℤ = get_or c.args.row.now c.args.axis (pos 0) in
    let y : ℤ = get_or c.args.by.now c.args.axis (pos 0) in
    let fx : SFits w32 x = search rules in
    let fy : SFits w64 y = search rules in
    let near = shift_near (length c.args.row.now) c.args.by.now c.args.axis c.requires.shift c.requires.within in
    let from : c.from.result ≡ x = c.from.ensures ∙ same32 x fx in
    rw (same64 c.from.result (search rules), same64 y fy, from) (sum_fits (length c.args.row.now) x y fx near.0 near.1)

pub returns : goal.returns
returns c =
    let x : ℤ = get_or c.args.row.now c.args.axis (pos 0) in
    let y : ℤ = get_or c.args.by.now c.args.axis (pos 0) in
    let fx : SFits w32 x = search rules in
    let fy : SFits w64 y = search rules in
    let near = shift_near (length c.args.row.now) c.args.by.now c.args.axis c.requires.shift c.requires.within in
    let from : c.from.result ≡ x = c.from.ensures ∙ same32 x fx in
    rw (same64 c.from.result (search rules), same64 y fy, from) (same64 (x +ℤ y) (sum_fits (length c.args.row.now) x y fx near.0 near.1))
