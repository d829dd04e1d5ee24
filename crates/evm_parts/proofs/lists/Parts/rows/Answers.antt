use Rattle.std.proofs.Common.{arith, sym}
use Rattle.evm_parts.proofs.Stretches.{part_of, end_within}
use Rattle.evm_parts.proofs.lists.Parts.rows.Goals as goal

pub start_of-start-requires : goal.start_of-start-requires
start_of-start-requires c =
    let p = c.self.inside in
    end_within c.args.self.now p.dim c.args.index p.flat.items p.ends.items c.as_slice-ends.result.now c.self.view_is c.requires c.as_slice-ends.ensures.value

pub bounds-ends-index : goal.bounds-ends-index
bounds-ends-index c =
    let p = c.self.inside in
    end_within c.args.self.now p.dim c.args.index p.flat.items p.ends.items c.as_slice-ends.result.now c.self.view_is c.requires c.as_slice-ends.ensures.value

pub offset_bounds-ends-index : goal.offset_bounds-ends-index
offset_bounds-ends-index c =
    let p = c.self.inside in
    let h = end_within c.args.self.now p.dim c.args.index p.flat.items p.ends.items c.as_slice-ends.result.now c.self.view_is c.requires c.as_slice-ends.ensures.value in
    omega (arith, h, c.as_slice-ends.type_inv.1)

pub offset_bounds-deref-start : goal.offset_bounds-deref-start
offset_bounds-deref-start c =
    let p = c.self.inside in
    let h = part_of c.args.self.now p.dim c.args.index c.start_of-start.result p.flat.items c.deref.result.now p.ends.items c.as_slice-ends.result.now
    c.self.view_is c.self.invariant c.requires c.deref.ensures.value c.as_slice-ends.ensures.value c.start_of-start.ensures in
    let rises = h.piece.rises in
    let within = h.piece.within in
    omega (arith, rises, within, c.deref.type_inv.1)

pub slice_bounds-result-count : goal.slice_bounds-result-count
slice_bounds-result-count c =
    let p = c.self.inside in
    let h = part_of c.args.self.now p.dim c.args.index c.start_of-start.result p.flat.items c.deref.result.now p.ends.items c.as_slice-ends.result.now
    c.self.view_is c.self.invariant c.requires c.deref.ensures.value c.as_slice-ends.ensures.value c.start_of-start.ensures in
    h.piece.rises

pub slice_bounds-result-start : goal.slice_bounds-result-start
slice_bounds-result-start c =
    let p = c.self.inside in
    let h = part_of c.args.self.now p.dim c.args.index c.start_of-start.result p.flat.items c.deref.result.now p.ends.items c.as_slice-ends.result.now
    c.self.view_is c.self.invariant c.requires c.deref.ensures.value c.as_slice-ends.ensures.value c.start_of-start.ensures in
    h.piece.rises

pub slice_bounds-result-end : goal.slice_bounds-result-end
slice_bounds-result-end c =
    let p = c.self.inside in
    let h = part_of c.args.self.now p.dim c.args.index c.start_of-start.result p.flat.items c.deref.result.now p.ends.items c.as_slice-ends.result.now
    c.self.view_is c.self.invariant c.requires c.deref.ensures.value c.as_slice-ends.ensures.value c.start_of-start.ensures in
    h.piece.within

pub invariant_of-result : goal.invariant_of-result
invariant_of-result c =
    let p = c.self.inside in
    let h = part_of c.args.self.now p.dim c.args.index c.start_of-start.result p.flat.items c.deref.result.now p.ends.items c.as_slice-ends.result.now
    c.self.view_is c.self.invariant c.requires c.deref.ensures.value c.as_slice-ends.ensures.value c.start_of-start.ensures in
    record { narrow = h.piece.rows.narrow; left = h.piece.rows.left; whole = h.piece.rows.whole; vertices = h.piece.rows.vertices }

pub returns-clause-rows : goal.returns-clause-rows
returns-clause-rows c =
    let p = c.self.inside in
    let h = part_of c.args.self.now p.dim c.args.index c.start_of-start.result p.flat.items c.deref.result.now p.ends.items c.as_slice-ends.result.now
    c.self.view_is c.self.invariant c.requires c.deref.ensures.value c.as_slice-ends.ensures.value c.start_of-start.ensures in
    sym h.rows
