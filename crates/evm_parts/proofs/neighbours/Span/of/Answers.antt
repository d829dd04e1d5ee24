use Rattle.std.proofs.Common.{pos, get_or, arith, ap, ◌∙◌, sym, w32, rules}
use mir.Val.{SFits}
use Rattle.evm_cells.specs.Unions.{Ends}
use Rattle.evm_cells.proofs.Universe.{point_parts}
use Rattle.std.proofs.lemmas.Int.{to_z-of_z}
use Rattle.evm_parts.specs.Labels.{no_box}
use Rattle.evm_parts.proofs.neighbours.Span.of.Goals as goal

pub offset_bounds-lo-axis : goal.offset_bounds-lo-axis
offset_bounds-lo-axis c = let (l, _) = point_parts c.args.boxes.now.dim c.ends.result.0.now c.ends.ensures.is_box.low in omega (arith, l)

pub bounds-lo-axis : goal.bounds-lo-axis
bounds-lo-axis c = let (l, _) = point_parts c.args.boxes.now.dim c.ends.result.0.now c.ends.ensures.is_box.low in omega (arith, l)

pub offset_bounds-hi-axis : goal.offset_bounds-hi-axis
offset_bounds-hi-axis c = let (l, _) = point_parts c.args.boxes.now.dim c.ends.result.1.now c.ends.ensures.is_box.high in omega (arith, l)

pub bounds-hi-axis : goal.bounds-hi-axis
bounds-hi-axis c = let (l, _) = point_parts c.args.boxes.now.dim c.ends.result.1.now c.ends.ensures.is_box.high in omega (arith, l)

pub returns : goal.returns
returns c =
    let k = c.args.axis in
    let lo = c.ends.result.0.now in
    let hi = c.ends.result.1.now in
    let e = sym (c.ends.ensures.ends no_box) in
    let low_fits : SFits w32 (get_or lo k (pos 0)) = search rules in
    let high_fits : SFits w32 (get_or hi k (pos 0)) = search rules in
    record {
      low = to_z-of_z w32 (get_or lo k (pos 0)) low_fits ∙ ap (λ (b : Ends). get_or b.lo k (pos 0)) e;
      high = to_z-of_z w32 (get_or hi k (pos 0)) high_fits ∙ ap (λ (b : Ends). get_or b.hi k (pos 0)) e;
    }
