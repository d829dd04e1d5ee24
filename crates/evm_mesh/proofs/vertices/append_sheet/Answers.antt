use Rattle.std.proofs.Common.{◌<◌, ◌++◌, [], length, arith, ap, ap₂, sym, ◌∙◌}
use Rattle.evm_cells.specs.Unions.{Ends}
use Rattle.evm_formats.specs.ObjText.{face_corners}
use Rattle.evm_mesh.specs.Sheets.{face_of}
use Rattle.evm_mesh.proofs.SheetSteps.{box_more}
use Rattle.evm_mesh.proofs.CornerLists.{two_numbers}
use Rattle.evm_mesh.proofs.vertices.append_sheet.Goals as goal

pub corners_of-requires-clause-lo : goal.corners_of-requires-clause-lo
corners_of-requires-clause-lo c =
    (two_numbers c.args.sheet.now c.loop-index.index c.ends.result.0.now c.ends.result.1.now c.requires (omega (arith, c.loop-index-test.true, c.len-index-end.ensures)) c.ends.ensures.ends).0

pub corners_of-requires-clause-hi : goal.corners_of-requires-clause-hi
corners_of-requires-clause-hi c =
    (two_numbers c.args.sheet.now c.loop-index.index c.ends.result.0.now c.ends.result.1.now c.requires (omega (arith, c.loop-index-test.true, c.len-index-end.ensures)) c.ends.ensures.ends).1

pub loop-index-preserved : goal.loop-index-preserved
loop-index-preserved c =
    let s = c.args.sheet.now in
    let none : Ends = record { lo = []; hi = [] } in
    let within : c.loop-index.index < length s.boxes.boxes = omega (arith, c.loop-index-test.true, c.len-index-end.ensures) in
    c.in_ok-extend_from_slice.ensures.items ∙ ap₂ (λ t q. t ++ q) c.loop-index.invariant (c.corners_of.ensures ∙ ap (λ b. face_corners (face_of s b)) (sym (c.ends.ensures.ends none)))
    ∙ sym (box_more face_corners c.args.corners.now.items (face_of s) s.boxes.boxes c.loop-index.index none within)
