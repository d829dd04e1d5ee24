use Rattle.std.proofs.Common.{◌≤ℤ◌, ◌<ℤ◌, ◌∙◌, sym, subst, arith, rules, w32}
use mir.Val.{SFits}
use Rattle.std.proofs.lemmas.Int.{to_z-of_z}
use Rattle.evm_parts.specs.Stretches.{low_at, high_at, IsNestedFrom, IsFirstAbove, IsOverlap, AreAppended}
use Rattle.evm_parts.proofs.Sweep.{part}
use Rattle.evm_parts.proofs.Walks.{skip_left, skip_right, pass_left, pass_right, one_box}
use Rattle.evm_parts.proofs.neighbours.+append_overlapping.Goals as goal

pub returns-then-axis-dim : goal.returns-then-axis-dim
returns-then-axis-dim t c =
    let b = c.args.boxes.now in
    let one = c.args.one in
    let other = c.args.other in
    let old = c.args.out.now.items in
    let e = c.if-axis-dim.true ∙ c.dim.ensures in
    let h = one_box b.dim b.boxes c.requires.boxes one other old (subst (λ k. IsNestedFrom b.boxes k one) e c.requires.one) (subst (λ k. IsNestedFrom b.boxes k other) e c.requires.other)
    c.requires.some c.requires.more in
    subst (λ k. AreAppended (IsOverlap b.boxes k one other) old c.push.new.self.items) (sym e)
    (subst (λ xs. AreAppended (IsOverlap b.boxes b.dim one other) old xs) (sym c.in_ok-push.ensures.items) h)

pub loop-left-preserved-then-near-far : goal.loop-left-preserved-then-near-far
loop-left-preserved-then-near-far t c =
    let b = c.args.boxes.now in
    let i = c.loop-left.invariant in
    let fits : SFits w32 c.of-far.result.low = search rules in
    let at = subst (λ z. IsFirstAbove b.boxes c.args.axis c.loop-left.left z c.first_above.result) (to_z-of_z w32 c.of-far.result.low fits ∙ c.of-far.ensures.low) c.first_above.ensures in
    record {
      left = record { from = omega (arith, i.left.from, at.from); ordered = at.to; to = i.left.to };
      right = i.right;
      so_far = skip_left b.dim b.boxes c.requires.boxes c.args.axis (omega arith) c.args.one c.args.other c.requires.one c.requires.other
          c.loop-left.left c.loop-left.right i.left i.right c.loop-left-test.true c.if-right.true c.first_above.result c.args.out.now.items c.loop-left.out.items at i.so_far;
    }

pub first_above-requires-then-far-near-clause-stretch :
    goal.first_above-requires-then-far-near-clause-stretch
first_above-requires-then-far-near-clause-stretch t c =
    let i = c.loop-left.invariant in
    part c.args.boxes.now.dim c.args.boxes.now.boxes c.requires.boxes c.args.axis c.args.other c.loop-left.right i.right.from i.right.ordered (omega (arith, i.right.to)) c.requires.other

pub loop-left-preserved-then-far-near : goal.loop-left-preserved-then-far-near
loop-left-preserved-then-far-near t c =
    let b = c.args.boxes.now in
    let i = c.loop-left.invariant in
    let fits : SFits w32 c.of-near.result.low = search rules in
    let at = subst (λ z. IsFirstAbove b.boxes c.args.axis c.loop-left.right z c.first_above-then-far-near.result) (to_z-of_z w32 c.of-near.result.low fits ∙ c.of-near.ensures.low) c.first_above-then-far-near.ensures in
    record {
      left = i.left;
      right = record { from = omega (arith, i.right.from, at.from); ordered = at.to; to = i.right.to };
      so_far = skip_right b.dim b.boxes c.requires.boxes c.args.axis (omega arith) c.args.one c.args.other c.requires.one c.requires.other
          c.loop-left.left c.loop-left.right i.left i.right c.loop-left-test.true c.if-right.true c.first_above-then-far-near.result c.args.out.now.items c.loop-left.out.items at i.so_far;
    }

pub first_slab-slab-requires-clause-stretch : goal.first_slab-slab-requires-clause-stretch
first_slab-slab-requires-clause-stretch t c =
    let i = c.loop-left.invariant in
    part c.args.boxes.now.dim c.args.boxes.now.boxes c.requires.boxes c.args.axis c.args.one c.loop-left.left i.left.from i.left.ordered (omega (arith, i.left.to)) c.requires.one

pub first_slab-facing-requires-clause-stretch : goal.first_slab-facing-requires-clause-stretch
first_slab-facing-requires-clause-stretch t c =
    let i = c.loop-left.invariant in
    part c.args.boxes.now.dim c.args.boxes.now.boxes c.requires.boxes c.args.axis c.args.other c.loop-left.right i.right.from i.right.ordered (omega (arith, i.right.to)) c.requires.other

pub loop-left-preserved-then-near-far-2 : goal.loop-left-preserved-then-near-far-2
loop-left-preserved-then-near-far-2 t c =
    let b = c.args.boxes.now in
    let k = c.args.axis in
    let i = c.loop-left.invariant in
    let s = c.first_slab-slab.ensures in
    let p = c.loop-left.left.start in
    let r = c.loop-left.right.start in
    let x : low_at b.boxes p k <ℤ high_at b.boxes r k = search rules in
    let y : low_at b.boxes r k <ℤ high_at b.boxes p k = search rules in
    let z : high_at b.boxes p k ≤ℤ high_at b.boxes r k = search rules in
    record {
      left = record { from = omega (arith, i.left.from, s.start, s.some); ordered = s.to; to = i.left.to };
      right = i.right;
      so_far = pass_left b.dim b.boxes c.requires.boxes k (omega arith) c.args.one c.args.other c.requires.one c.requires.other
          c.loop-left.left c.loop-left.right i.left i.right c.loop-left-test.true c.if-right.true c.first_slab-slab.result c.first_slab-facing.result s c.first_slab-facing.ensures
          x y c.args.out.now.items c.loop-left.out.items c.append_overlapping.new.out.items z i.so_far c.in_ok-append_overlapping.ensures;
    }

pub loop-left-preserved : goal.loop-left-preserved
loop-left-preserved t c =
    let b = c.args.boxes.now in
    let k = c.args.axis in
    let i = c.loop-left.invariant in
    let s = c.first_slab-facing.ensures in
    let p = c.loop-left.left.start in
    let r = c.loop-left.right.start in
    let x : low_at b.boxes p k <ℤ high_at b.boxes r k = search rules in
    let y : low_at b.boxes r k <ℤ high_at b.boxes p k = search rules in
    let z : high_at b.boxes r k ≤ℤ high_at b.boxes p k = search rules in
    record {
      left = i.left;
      right = record { from = omega (arith, i.right.from, s.start, s.some); ordered = s.to; to = i.right.to };
      so_far = pass_right b.dim b.boxes c.requires.boxes k (omega arith) c.args.one c.args.other c.requires.one c.requires.other
          c.loop-left.left c.loop-left.right i.left i.right c.loop-left-test.true c.if-right.true c.first_slab-slab.result c.first_slab-facing.result c.first_slab-slab.ensures s
          x y c.args.out.now.items c.loop-left.out.items c.append_overlapping.new.out.items z i.so_far c.in_ok-append_overlapping.ensures;
    }
