use Rattle.std.proofs.Common.{◌≡◌, ◌∙◌, ℤ, get_or, pos, rules, SFits, w32}
use Rattle.evm_cells.specs.Windows.{between}
use Rattle.evm_rows.proofs.BoxTests.{same32}
use Rattle.evm_shapes.proofs.clips.moved_at.Goals as goal

pub returns : goal.returns
returns c =
    let x : ℤ = get_or c.args.row.now c.args.k (pos 0) in
    let y : ℤ = get_or c.args.lo.now c.args.k (pos 0) in
    let z : ℤ = get_or c.args.hi.now c.args.k (pos 0) in
    let fx : SFits w32 x = search rules in
    let fy : SFits w32 y = search rules in
    let fz : SFits w32 z = search rules in
    let fr : SFits w32 c.between.result = search rules in
    let e : c.between.result ≡ between y z x = rw (same32 x fx, same32 y fy, same32 z fz) at c.between.ensures in
    same32 c.between.result fr ∙ e
