use Rattle.std.proofs.Common.{◌∙◌, ◌-ℤ◌, ap, rules, length, get_or, pos, ℤ, SFits, w32, to_z, of_z}
use Rattle.evm_sections.proofs.Bits.{same32}
use Rattle.evm_shapes.proofs.MoveSteps.{fits_negated, mirror_done}
use Rattle.evm_shapes.proofs.moves.append_negated.Goals as goal

pub overflow_sub-row : goal.overflow_sub-row
overflow_sub-row c =
    let row = c.args.row.now in
    let f : SFits w32 (get_or row c.args.axis (pos 0)) = search rules in
    rw (same32 (get_or row c.args.axis (pos 0)) f) (fits_negated (length row) c.args.axis row c.requires.point c.requires.axis)

pub returns : goal.returns
returns c =
    let row = c.args.row.now in
    let x : ℤ = get_or row c.args.axis (pos 0) in
    let f : SFits w32 x = search rules in
    mirror_done c.args.out.now.items _ _ _ row c.args.axis _ c.requires.axis
    (ap (λ y. to_z w32 (of_z w32 (pos 0 -ℤ y))) (same32 x f) ∙ same32 (pos 0 -ℤ x) (fits_negated (length row) c.args.axis row c.requires.point c.requires.axis))
    c.in_ok-extend_from_slice.ensures.items c.in_ok-push.ensures.items c.in_ok-extend_from_slice-2.ensures.items
