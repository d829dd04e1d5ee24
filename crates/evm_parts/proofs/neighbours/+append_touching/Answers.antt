use Rattle.std.proofs.Common.{◌∙◌, sym, subst, refl, arith}
use Rattle.evm_parts.specs.Stretches.{IsNestedFrom, IsTouch, AreAppended}
use Rattle.evm_parts.proofs.Walks.{none_passed_from, all_passed_from, pass_slab, none_touch}
use Rattle.evm_parts.proofs.neighbours.+append_touching.Goals as goal

pub returns-then-axis-dim : goal.returns-then-axis-dim
returns-then-axis-dim t c =
    let b = c.args.boxes.now in
    let s = c.args.stretch in
    let out = c.args.out.now.items in
    let e = c.if-axis-dim.true ∙ c.dim.ensures in
    subst (λ k. AreAppended (IsTouch b.boxes k s) out out) (sym e)
    (none_touch b.dim b.boxes c.requires.boxes s out (subst (λ k. IsNestedFrom b.boxes k s) e c.requires.stretch))

pub loop-left-init : goal.loop-left-init
loop-left-init t c =
    let b = c.args.boxes.now in
    let s = c.requires.stretch in
    record {
      left = record { from = omega arith; ordered = s.ordered; to = refl };
      so_far = none_passed_from b.dim b.boxes c.requires.boxes c.args.axis (omega arith) c.args.stretch s c.args.out.now.items;
    }

pub loop-left-preserved : goal.loop-left-preserved
loop-left-preserved t c =
    let b = c.args.boxes.now in
    let i = c.loop-left.invariant in
    let s = c.first_slab-slab.ensures in
    record {
      left = record { from = omega (arith, i.left.from, s.start, s.some); ordered = s.to; to = i.left.to };
      so_far = pass_slab b.dim b.boxes c.requires.boxes c.args.axis (omega arith) c.args.stretch c.requires.stretch c.loop-left.left c.first_slab-slab.result
          c.args.out.now.items c.loop-left.out.items c.append_touching.new.out.items c.append_meeting.new.out.items
          i.left s i.so_far c.in_ok-append_touching.ensures c.in_ok-append_meeting.ensures;
    }

pub returns : goal.returns
returns t c =
    let b = c.args.boxes.now in
    let i = c.loop-left.invariant in
    all_passed_from b.dim b.boxes c.requires.boxes c.args.axis (omega arith) c.args.stretch c.requires.stretch c.loop-left.left.start c.args.out.now.items c.loop-left.out.items
    (omega (arith, i.left.to)) i.so_far
