use Rattle.std.proofs.Common.{◌<◌, ◌++◌, ◌∷◌, [], length, arith, ap, ap₂, sym, ◌∙◌}
use Rattle.evm_cells.specs.Unions.{Ends}
use Rattle.evm_formats.specs.ObjText.{polygon_line}
use Rattle.evm_mesh.specs.Sheets.{corner_words, face_of}
use Rattle.evm_mesh.proofs.SheetSteps.{box_lines_more}
use Rattle.evm_mesh.proofs.CornerLists.{two_numbers}
use Rattle.evm_mesh.proofs.FaceLines.{polygon_written}
use Rattle.evm_mesh.proofs.mesh.put_sheet.Goals as goal

pub corners_of-requires-clause-lo : goal.corners_of-requires-clause-lo
corners_of-requires-clause-lo c =
    (two_numbers c.args.sheet.now c.loop-index.index c.ends.result.0.now c.ends.result.1.now c.requires.sheet (omega (arith, c.loop-index-test.true, c.len-index-end.ensures)) c.ends.ensures.ends).0

pub corners_of-requires-clause-hi : goal.corners_of-requires-clause-hi
corners_of-requires-clause-hi c =
    (two_numbers c.args.sheet.now c.loop-index.index c.ends.result.0.now c.ends.result.1.now c.requires.sheet (omega (arith, c.loop-index-test.true, c.len-index-end.ensures)) c.ends.ensures.ends).1

pub loop-index-preserved : goal.loop-index-preserved
loop-index-preserved c =
    let s = c.args.sheet.now in
    let V = c.args.vertices.now in
    let none : Ends = record { lo = []; hi = [] } in
    let b : Ends = record { lo = c.ends.result.0.now; hi = c.ends.result.1.now } in
    let within : c.loop-index.index < length s.boxes.boxes = omega (arith, c.loop-index-test.true, c.len-index-end.ensures) in
    polygon_written V (face_of s b) c.loop-index.text.items _ _ _ c.in_ok-push.ensures.items
    (c.in_ok-put_corners.ensures ∙ ap (λ q. c.push.new.self.items ++ corner_words V q) c.corners_of.ensures) c.in_ok-push-2.ensures.items
    ∙ ap₂ (λ t e. t ++ (polygon_line V (face_of s e) ++ 10 ∷ [])) c.loop-index.invariant (sym (c.ends.ensures.ends none))
    ∙ sym (box_lines_more (polygon_line V) c.args.text.now.items (face_of s) s.boxes.boxes c.loop-index.index none within)
