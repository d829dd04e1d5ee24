use Rattle.std.proofs.Common.{◌≡◌, ◌∙◌, ap, sym, refl, arith, rules, w32, of_z}
use Rattle.evm_parts.specs.Stretches.{low_at, high_at}
use Rattle.evm_parts.specs.declared.neighbours.Stretch.{Stretch}
use Rattle.evm_parts.proofs.Sweep.{part}
use Rattle.evm_parts.proofs.Walks.{none_later, none_met, next_met}
use Rattle.evm_parts.proofs.neighbours.append_meeting.Goals as goal

pub returns-then-slab-stretch : goal.returns-then-slab-stretch
returns-then-slab-stretch c =
    let b = c.args.boxes.now in
    let q = c.requires in
    none_later b.dim b.boxes q.boxes c.args.axis q.axis c.args.stretch q.stretch c.args.slab q.slab c.args.out.now.items c.if-slab-stretch.true

pub returns-then-near-far : goal.returns-then-near-far
returns-then-near-far c =
    let b = c.args.boxes.now in
    let q = c.requires in
    let k = c.args.axis in
    let s = c.args.stretch in
    let slab = c.args.slab in
    let after : Stretch = record { start = slab.end; end = s.end } in
    let rest = part b.dim b.boxes q.boxes k s after (omega (arith, q.slab.start, q.slab.some)) q.slab.to (omega arith) q.stretch in
    none_met b.dim b.boxes q.boxes k q.axis s q.stretch slab q.slab after c.first_slab-next.result c.first_slab-next.ensures refl refl c.args.out.now.items
    (λ e. c.if-near-far.true (ap (of_z w32) (c.of-near.ensures.high ∙ e ∙ sym c.of-far.ensures.low))) rest

pub returns : goal.returns
returns c =
    let b = c.args.boxes.now in
    let q = c.requires in
    let e : high_at b.boxes c.args.slab.start c.args.axis ≡ low_at b.boxes c.first_slab-next.result.start c.args.axis = search rules in
    next_met b.dim b.boxes q.boxes c.args.axis q.axis c.args.stretch q.stretch c.args.slab q.slab (record { start = c.args.slab.end; end = c.args.stretch.end }) c.first_slab-next.result
    c.first_slab-next.ensures refl refl c.args.out.now.items c.append_overlapping.new.out.items e c.in_ok-append_overlapping.ensures
