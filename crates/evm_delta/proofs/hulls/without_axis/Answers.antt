use Rattle.std.proofs.Common.{◌-◌, ℤ, pos, List, [], ◌∷◌, length, get_or, arith}
use Rattle.std.proofs.lemmas.Slice.{put_mid-rotated}
use Rattle.evm_delta.proofs.OpenWindows.{moved_up}
use Rattle.evm_delta.proofs.hulls.without_axis.Goals as goal

pub returns-clause-lo : goal.returns-clause-lo
returns-clause-lo c n l h =
    let axis = c.args.axis in
    let first = c.requires.low in
    let last = c.requires.high in
    let long = c.requires.long_low in
    let lo : List ℤ = c.args.ends.lo in
    moved_up axis n lo (get_or lo (axis - 1) (pos 0) ∷ []) _ first l (omega (arith, h, long))
    (put_mid-rotated (axis - 1) (length lo - (axis - 1)) lo _ (pos 0) (omega (arith, first, last, long)) (omega (arith, first, last, long)) c.rotate_left.ensures.after)

pub returns-clause-hi : goal.returns-clause-hi
returns-clause-hi c n l h =
    let axis = c.args.axis in
    let first = c.requires.low in
    let last = c.requires.high in
    let long = c.requires.long_high in
    let hi : List ℤ = c.args.ends.hi in
    moved_up axis n hi (get_or hi (axis - 1) (pos 0) ∷ []) _ first l (omega (arith, h, long))
    (put_mid-rotated (axis - 1) (length hi - (axis - 1)) hi _ (pos 0) (omega (arith, first, last, long)) (omega (arith, first, last, long)) c.rotate_left-2.ensures.after)
