use Rattle.std.proofs.Common.{arith, ◌≡◌, ◌∙◌, ◌++◌, ℤ, ap, to_z, of_z, w32}
use Rattle.evm_rows.specs.Rows.{flat_of}
use Rattle.evm_rows.specs.Groups.{targets}
use Rattle.evm_rows.proofs.BoxTests.{same32}
use Rattle.evm_shapes.specs.Moves.{closed}
use Rattle.evm_shapes.proofs.Closing.{closed_more, closed_all}
use Rattle.evm_shapes.proofs.clips.append_closed.Goals as goal

pub loop-i-preserved : goal.loop-i-preserved
loop-i-preserved c =
    closed_more (to_z w32 (of_z w32 c.args.at)) c.args.rows.now c.loop-i.i _ c.loop-i.out.items _ _ _ c.loop-i-test.true c.in_ok-extend_from_slice.ensures.items c.in_ok-append_raised.ensures c.loop-i.invariant

pub returns : goal.returns
returns c =
    let z = to_z w32 (of_z w32 c.args.at) in
    let q : z ≡ c.args.at = same32 c.args.at c.ranges.at in
    closed_all z c.args.rows.now c.loop-i.i _ _ (let l = c.loop-i-test.false in omega arith) c.loop-i.invariant ∙ ap (λ (y : ℤ). c.args.out.now.items ++ flat_of (closed y (targets c.args.rows.now))) q
