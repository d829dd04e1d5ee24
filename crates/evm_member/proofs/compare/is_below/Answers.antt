use Rattle.std.proofs.Common.{◌≡◌, ◌≤ℤ◌, ◌<ℤ◌, length, sym, ◌∙◌, arith, rules, w32, ⊎_elim}
use mir.Val.{SFits}
use Rattle.std.proofs.lemmas.Int.{ints, to_z-of_z}
use Rattle.evm_member.proofs.Axes.{below_no, below_yes, below_end, none_left, rest_length}
use Rattle.evm_member.proofs.compare.is_below.Goals as goal

pub returns-then-x-top : goal.returns-then-x-top
returns-then-x-top c =
    let fx : SFits w32 c.in-Some.x.now = search rules in
    let ft : SFits w32 c.in-Some.top.now = search rules in
    let l = rw (to_z-of_z w32 c.in-Some.x.now fx, to_z-of_z w32 c.in-Some.top.now ft) at c.if-x-top.true in
    let m : c.in-Some.top.now <ℤ c.in-Some.x.now = omega (arith, ints) in
    below_no c.in-Some.x.now c.in-Some.top.now _ _ _ _ _ c.in-Some.ensures.steps.0 c.in-Some.ensures.steps.1 m c.loop-x.invariant.so_far

pub loop-x-preserved : goal.loop-x-preserved
loop-x-preserved c =
    let fx : SFits w32 c.in-Some.x.now = search rules in
    let ft : SFits w32 c.in-Some.top.now = search rules in
    let l = rw (to_z-of_z w32 c.in-Some.x.now fx, to_z-of_z w32 c.in-Some.top.now ft) at c.if-x-top.false in
    let m : c.in-Some.x.now ≤ℤ c.in-Some.top.now = omega (arith, ints) in
    record {
      as_long = rest_length c.in-Some.x.now c.in-Some.top.now _ _ _ _ c.in-Some.ensures.steps.0 c.in-Some.ensures.steps.1 c.loop-x.invariant.as_long;
      so_far = below_yes c.in-Some.x.now c.in-Some.top.now _ _ _ _ _ c.in-Some.ensures.steps.0 c.in-Some.ensures.steps.1 m c.loop-x.invariant.so_far;
    }

pub returns : goal.returns
returns c =
    let e = c.loop-x.invariant.as_long in
    let none : length c.loop-x.x-iterator.a.rest.now ≡ 0 = ⊎_elim (λ h. h.1.0) (λ h. e ∙ h.1.0) c.in-None.ensures.steps in
    below_end _ _ _ (none_left c.loop-x.x-iterator.a.rest.now none) (none_left c.loop-x.x-iterator.b.rest.now (sym e ∙ none)) c.loop-x.invariant.so_far
