use Rattle.std.proofs.Common.{◌≡◌, ◌-◌, ◌++◌, [], ◌∷◌, ap, ap₂, ◌∙◌, arith, rules, w32}
use mir.Val.{SFits}
use Rattle.evm_sections.proofs.Bits.{same32}
use Rattle.evm_cells.specs.Vertices.{cells}
use Rattle.evm_rows.specs.Rows.{rows_of}
use Rattle.evm_partition.specs.BoxLists.{front_of, numbers_of, prefixed}
use Rattle.evm_partition.specs.Partition.{partition}
use Rattle.evm_partition.proofs.SlabBoxes.{slab_boxes, slabs_start, slab_more}
use Rattle.evm_partition.proofs.slabs.+append_boxes.Goals as goal

pub loop-sweep-init : goal.loop-sweep-init
loop-sweep-init t c =
    let a = c.args.a in
    record {
      some = omega (arith, c.start-sweep.ensures.dim, c.dim.ensures, c.if-dim-eq1.false, a.left);
      deep = c.start-sweep.ensures.dim;
      so_far = ap (λ bs. c.args.out.now.items ++ numbers_of (prefixed (front_of c.args.front) bs))
          (slabs_start (a.width - a.skip) c.start-sweep.result.dim (cells (a.width - a.skip) (rows_of a.flat.now a.width a.skip)) c.start-sweep.result.left c.start-sweep.ensures.dim c.start-sweep.ensures.slabs);
    }

pub loop-sweep-preserved : goal.loop-sweep-preserved
loop-sweep-preserved t c =
    let i = c.loop-sweep.invariant in
    let n = c.loop-sweep.sweep.dim in
    let f = front_of c.args.front in
    let g = front_of c.then-next.result in
    let w = c.advance.new.self in
    let slab = c.in-Some.slab in
    let d : w.dim ≡ n = c.in_ok-slab.ensures.dim in
    let left : c.loop-sweep.sweep.left ≡ (slab.low, (slab.high, w.section)) ∷ w.left = rw c.in-Some.is at c.in_ok-slab.ensures.some in
    let low_fits : SFits w32 slab.low = search rules in
    let high_fits : SFits w32 slab.high = search rules in
    let low = c.then-next.ensures.lo ∙ ap (λ z. f.lo ++ z ∷ []) (same32 slab.low low_fits) in
    let high = c.then-next.ensures.hi ∙ ap (λ z. f.hi ++ z ∷ []) (same32 slab.high high_fits) in
    let r = c.section.result in
    let m : r.width - r.skip ≡ n = c.section.ensures.dim ∙ d in
    let new : c.append_boxes.new.out.items ≡ c.loop-sweep.out.items ++ numbers_of (prefixed g (partition n (cells n w.section))) =
    c.in_ok-append_boxes.ensures ∙ ap₂ (λ k V. c.loop-sweep.out.items ++ numbers_of (prefixed g (partition k (cells k V)))) m c.section.ensures.rows in
    record {
      some = omega (arith, d, i.some);
      deep = omega (arith, d, i.deep);
      so_far = ap (λ k. c.append_boxes.new.out.items ++ numbers_of (prefixed f (slab_boxes k w.left))) d
          ∙ slab_more n f g slab.low slab.high w.section c.loop-sweep.sweep.left w.left c.loop-sweep.out.items c.append_boxes.new.out.items _
          left low high new i.so_far;
    }
