use Rattle.std.proofs.Common.{arith, rules, ℤ, ◌∙◌, ◌≡◌, ◌<◌, length, sym, ap, get_or, pos, SFits, w32, to_z, of_z}
use Rattle.evm_rows.proofs.BoxTests.{same32}
use Rattle.evm_shapes.proofs.Clipped.{stay_more, stay_fails, stay_all}
use Rattle.evm_shapes.proofs.clips.stays.Goals as goal

pub returns-then-moved_at-row : goal.returns-then-moved_at-row
returns-then-moved_at-row c =
    let l : c.loop-k.k < length c.args.lo.now = let m = c.loop-k-test.true in let e = c.requires.low in omega arith in
    let h : c.loop-k.k < length c.args.hi.now = let m = c.loop-k-test.true in let e = c.requires.high in omega arith in
    stay_fails c.args.lo.now c.args.hi.now c.args.row.now c.loop-k.k _ l h c.loop-k-test.true (λ e. c.if-moved_at-row.true (ap (of_z w32) (c.moved_at.ensures ∙ e))) c.loop-k.invariant

pub loop-k-preserved : goal.loop-k-preserved
loop-k-preserved c =
    let l : c.loop-k.k < length c.args.lo.now = let m = c.loop-k-test.true in let e = c.requires.low in omega arith in
    let h : c.loop-k.k < length c.args.hi.now = let m = c.loop-k-test.true in let e = c.requires.high in omega arith in
    let x : ℤ = get_or c.args.row.now c.loop-k.k (pos 0) in
    let fx : SFits w32 x = search rules in
    let kept : SFits w32 c.moved_at.result = search rules in
    let e : c.moved_at.result ≡ x = sym (same32 c.moved_at.result kept) ∙ ap (to_z w32) c.if-moved_at-row.false ∙ same32 x fx in
    stay_more c.args.lo.now c.args.hi.now c.args.row.now c.loop-k.k _ l h c.loop-k-test.true (sym c.moved_at.ensures ∙ e) c.loop-k.invariant

pub returns : goal.returns
returns c = stay_all c.args.lo.now c.args.hi.now c.args.row.now c.loop-k.k _ (let l = c.loop-k-test.false in let e = c.requires.low in omega arith) (let l = c.loop-k-test.false in omega arith) c.loop-k.invariant
