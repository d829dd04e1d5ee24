use Rattle.std.proofs.Common.{arith, rules, ℤ, ◌∷◌, ◌++◌, [], ◌∙◌, ◌<◌, length, ap, SFits, w32}
use Rattle.evm_rows.proofs.BoxTests.{same32}
use Rattle.evm_shapes.proofs.Clipped.{clamped_more, clamped_all}
use Rattle.evm_shapes.proofs.clips.append_clamped.Goals as goal

pub loop-k-preserved : goal.loop-k-preserved
loop-k-preserved c =
    let l : c.loop-k.k < length c.args.lo.now = let m = c.loop-k-test.true in let e = c.requires.low in omega arith in
    let h : c.loop-k.k < length c.args.hi.now = let m = c.loop-k-test.true in let e = c.requires.high in omega arith in
    let fr : SFits w32 c.moved_at.result = search rules in
    clamped_more c.args.lo.now c.args.hi.now c.args.row.now c.loop-k.k _ _ _ l h c.loop-k-test.true (c.in_ok-push.ensures.items ∙ ap (λ (u : ℤ). c.loop-k.out.items ++ u ∷ []) (same32 c.moved_at.result fr ∙ c.moved_at.ensures))
    c.loop-k.invariant

pub returns : goal.returns
returns c = clamped_all c.args.lo.now c.args.hi.now c.args.row.now c.loop-k.k _ _ (let l = c.loop-k-test.false in let e = c.requires.low in omega arith) c.loop-k.invariant
