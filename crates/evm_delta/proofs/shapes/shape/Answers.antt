use Rattle.std.proofs.Common.{sym, ap, ap₂, ◌∙◌, rules, w32, of_z, to_z, SFits}
use Rattle.std.proofs.lemmas.Int.{to_z-of_z}
use Rattle.evm_rows.specs.View.{vertices_of}
use Rattle.evm_delta.specs.declared.shapes.Op1.TheVariants.{Shift, Mirror, Swap, Clip, Slice, Proj, Lift}
use Rattle.evm_delta.proofs.Shaped.{shaped, shape_cells}
use Rattle.evm_delta.proofs.shapes.shape.Goals as goal

pub returns-in_ok-shift-in-Shift-clause-vertices : goal.returns-in_ok-shift-in-Shift-clause-vertices
returns-in_ok-shift-in-Shift-clause-vertices c = shaped c.args.op.now (Shift c.values.result.now) (vertices_of c.args.a) c.in_ok-shift-in-Shift.field-0 (c.in-Shift.is ∙ ap Shift (sym c.values.ensures.value)) c.in_ok-shift-in-Shift.ensures.dim c.in_ok-shift-in-Shift.ensures.rows

pub returns-in_ok-mirror-in-Mirror-clause-vertices : goal.returns-in_ok-mirror-in-Mirror-clause-vertices
returns-in_ok-mirror-in-Mirror-clause-vertices c = shaped c.args.op.now (Mirror c.in-Mirror.axis) (vertices_of c.args.a) c.in_ok-mirror-in-Mirror.field-0 c.in-Mirror.is c.in_ok-mirror-in-Mirror.ensures.dim c.in_ok-mirror-in-Mirror.ensures.rows

pub returns-in_ok-swap-in-Swap-clause-vertices : goal.returns-in_ok-swap-in-Swap-clause-vertices
returns-in_ok-swap-in-Swap-clause-vertices c = shaped c.args.op.now (Swap c.in-Swap.i c.in-Swap.j) (vertices_of c.args.a) c.in_ok-swap-in-Swap.field-0 c.in-Swap.is c.in_ok-swap-in-Swap.ensures.dim c.in_ok-swap-in-Swap.ensures.rows

pub returns-in_ok-clipped-in-Clip-clause-vertices : goal.returns-in_ok-clipped-in-Clip-clause-vertices
returns-in_ok-clipped-in-Clip-clause-vertices c = shaped c.args.op.now (Clip c.in-Clip.corners) (vertices_of c.args.a) c.in_ok-clipped-in-Clip.field-0 c.in-Clip.is c.in_ok-clipped-in-Clip.ensures.dim c.in_ok-clipped-in-Clip.ensures.rows

pub returns-in_ok-slice-in-Slice-clause-vertices : goal.returns-in_ok-slice-in-Slice-clause-vertices
returns-in_ok-slice-in-Slice-clause-vertices c =
    let at : SFits w32 c.in-Slice.at = search rules in
    shaped c.args.op.now (Slice c.in-Slice.axis (to_z w32 (of_z w32 c.in-Slice.at))) (vertices_of c.args.a) c.in_ok-slice-in-Slice.field-0 (c.in-Slice.is ∙ ap (Slice c.in-Slice.axis) (sym (to_z-of_z w32 c.in-Slice.at at))) c.in_ok-slice-in-Slice.ensures.dim c.in_ok-slice-in-Slice.ensures.rows

pub returns-in_ok-project-in-Proj-clause-vertices : goal.returns-in_ok-project-in-Proj-clause-vertices
returns-in_ok-project-in-Proj-clause-vertices c = shaped c.args.op.now (Proj c.in-Proj.axis) (vertices_of c.args.a) c.in_ok-project-in-Proj.field-0 c.in-Proj.is c.in_ok-project-in-Proj.ensures.dim c.in_ok-project-in-Proj.ensures.rows

pub returns-in_ok-lift-in-Lift-clause-vertices : goal.returns-in_ok-lift-in-Lift-clause-vertices
returns-in_ok-lift-in-Lift-clause-vertices c =
    let lo : SFits w32 c.in-Lift.lo = search rules in
    let hi : SFits w32 c.in-Lift.hi = search rules in
    shaped c.args.op.now (Lift c.in-Lift.axis (to_z w32 (of_z w32 c.in-Lift.lo)) (to_z w32 (of_z w32 c.in-Lift.hi))) (vertices_of c.args.a) c.in_ok-lift-in-Lift.field-0 (c.in-Lift.is ∙ ap₂ (Lift c.in-Lift.axis) (sym (to_z-of_z w32 c.in-Lift.lo lo)) (sym (to_z-of_z w32 c.in-Lift.hi hi))) c.in_ok-lift-in-Lift.ensures.dim c.in_ok-lift-in-Lift.ensures.rows

pub returns-in_ok-clipped-in-Clip-clause-cells : goal.returns-in_ok-clipped-in-Clip-clause-cells
returns-in_ok-clipped-in-Clip-clause-cells c = shape_cells c.args.op.now (vertices_of c.args.a) c.in_ok-clipped-in-Clip.field-0 c.requires (returns-in_ok-clipped-in-Clip-clause-vertices c)
