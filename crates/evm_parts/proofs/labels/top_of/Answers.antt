use Rattle.std.proofs.Common.{◌<◌, length, refl, arith}
use Rattle.std.proofs.Math.ListN.{length-set}
use Rattle.evm_parts.specs.Parents.{parent_at, here}
use Rattle.evm_parts.proofs.Parents.{higher_start, higher_parents, higher_more, above_then}
use Rattle.evm_parts.proofs.labels.top_of.Goals as goal

pub loop-parents-init : goal.loop-parents-init
loop-parents-init c = record { within = c.requires.within; higher = higher_start c.args.parents.now; above = here c.args.from }

pub bounds-parents-parents : goal.bounds-parents-parents
bounds-parents-parents c =
    let i = c.loop-parents.invariant in
    let low = higher_parents c.args.parents.now c.loop-parents.parents c.requires.parents i.higher in
    let q = low.low c.loop-parents.at i.within in
    omega (arith, q, i.within)

pub offset_bounds-parents-parents : goal.offset_bounds-parents-parents
offset_bounds-parents-parents c =
    let i = c.loop-parents.invariant in
    let low = higher_parents c.args.parents.now c.loop-parents.parents c.requires.parents i.higher in
    let q = low.low c.loop-parents.at i.within in
    omega (arith, q, i.within)

pub loop-parents-smaller : goal.loop-parents-smaller
loop-parents-smaller c =
    let i = c.loop-parents.invariant in
    let ps = c.loop-parents.parents in
    let at = c.loop-parents.at in
    let low = higher_parents c.args.parents.now ps c.requires.parents i.higher in
    let q = low.low at i.within in
    let l : parent_at ps at < length ps = omega (arith, q, i.within) in
    let r = low.low (parent_at ps at) l in
    omega (arith, q, r, c.loop-parents-test.true)

pub loop-parents-preserved : goal.loop-parents-preserved
loop-parents-preserved c =
    let i = c.loop-parents.invariant in
    let old = c.args.parents.now in
    let ps = c.loop-parents.parents in
    let at = c.loop-parents.at in
    let low = higher_parents old ps c.requires.parents i.higher in
    let q = low.low at i.within in
    let l : parent_at ps at < length ps = omega (arith, q, i.within) in
    let r = low.low (parent_at ps at) l in
    let n = i.higher.many in
    let k = length-set ps at (parent_at ps (parent_at ps at)) in
    record {
      within = omega (arith, q, r, k, i.within);
      higher = higher_more old ps _ at c.requires.parents i.higher i.within refl;
      above = above_then old c.args.from at _ i.above
          (above_then old at (parent_at ps at) _ (i.higher.above at (omega (arith, n, i.within))) (i.higher.above (parent_at ps at) (omega (arith, n, l))));
    }
