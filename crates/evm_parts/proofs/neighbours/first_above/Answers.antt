use Rattle.std.proofs.Common.{ℕ, ◌+◌, ◌-◌, ◌/◌, ◌≤ℤ◌, ◌<ℤ◌, arith, rules, w32, subst}
use Rattle.std.proofs.lemmas.Int.{ints as int_facts, to_z-of_z}
use Rattle.evm_parts.specs.Stretches.{high_at, IsFirstAbove}
use Rattle.evm_parts.proofs.Sweep.{rise}
use Rattle.evm_parts.proofs.neighbours.first_above.Goals as goal

pub loop-start-init : goal.loop-start-init
loop-start-init c =
    let b = c.args.boxes.now in
    record {
      from = omega arith;
      ordered = c.stride-end.ensures.from;
      to = c.stride-end.ensures.to;
      below = λ i l m. absurd (omega arith);
      above = λ i l m.
          let h = c.stride-end.ensures.above (omega arith) in
          let r = (rise b.dim b.boxes c.requires.boxes c.args.axis c.args.stretch c.stride-end.result i c.requires.axis c.requires.stretch c.stride-end.ensures.from l m).1 in
          omega (arith, int_facts);
    }

pub of-requires-clause-index : goal.of-requires-clause-index
of-requires-clause-index c = let i = c.loop-start.invariant in let long = c.requires.stretch.within in omega (arith, i.to)

pub loop-start-preserved-then-of-bound : goal.loop-start-preserved-then-of-bound
loop-start-preserved-then-of-bound c =
    let b = c.args.boxes.now in
    let i = c.loop-start.invariant in
    let middle : ℕ = c.loop-start.start + (c.loop-start.end - c.loop-start.start) / 2 in
    let low : high_at b.boxes middle c.args.axis ≤ℤ c.args.bound = search rules in
    record {
      from = omega arith;
      ordered = omega arith;
      to = i.to;
      below = λ j l m.
          let r = (rise b.dim b.boxes c.requires.boxes c.args.axis c.args.stretch j middle c.requires.axis c.requires.stretch l (omega arith) (omega arith)).1 in
          omega (arith, int_facts);
      above = i.above;
    }

pub loop-start-preserved : goal.loop-start-preserved
loop-start-preserved c =
    let b = c.args.boxes.now in
    let i = c.loop-start.invariant in
    let middle : ℕ = c.loop-start.start + (c.loop-start.end - c.loop-start.start) / 2 in
    let high : c.args.bound <ℤ high_at b.boxes middle c.args.axis = search rules in
    record {
      from = i.from;
      ordered = omega arith;
      to = omega arith;
      below = i.below;
      above = λ j l m.
          let r = (rise b.dim b.boxes c.requires.boxes c.args.axis c.args.stretch middle j c.requires.axis c.requires.stretch (omega arith) l m).1 in
          omega (arith, int_facts);
    }

pub returns : goal.returns
returns c =
    let i = c.loop-start.invariant in
    subst (λ z. IsFirstAbove c.args.boxes.now.boxes c.args.axis c.args.stretch z c.loop-start.start) (to_z-of_z w32 c.args.bound c.ranges.bound) (record {
      from = i.from;
      to = omega arith;
      below = i.below;
      above = λ j l m. i.above j (omega arith) m;
    })
