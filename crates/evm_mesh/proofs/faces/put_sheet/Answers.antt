use Rattle.std.proofs.Common.{◌<◌, ◌++◌, ◌∷◌, [], length, arith, ap₂, sym, ◌∙◌}
use Rattle.evm_cells.specs.Unions.{Ends}
use Rattle.evm_formats.specs.FaceText.{face_line}
use Rattle.evm_mesh.specs.Sheets.{face_of}
use Rattle.evm_mesh.proofs.SheetSteps.{box_lines_more}
use Rattle.evm_mesh.proofs.FaceLines.{face_written}
use Rattle.evm_mesh.proofs.faces.put_sheet.Goals as goal

pub loop-index-preserved : goal.loop-index-preserved
loop-index-preserved c =
    let s = c.args.sheet.now in
    let none : Ends = record { lo = []; hi = [] } in
    let b : Ends = record { lo = c.ends.result.0.now; hi = c.ends.result.1.now } in
    let within : c.loop-index.index < length s.boxes.boxes = omega (arith, c.loop-index-test.true, c.len-index-end.ensures) in
    face_written s b c.loop-index.text.items _ _ _ _ c.in_ok-put_place.ensures c.in_ok-append_numbers.ensures c.in_ok-append_numbers-2.ensures c.in_ok-push.ensures.items
    ∙ ap₂ (λ t e. t ++ (face_line (face_of s e) ++ 10 ∷ [])) c.loop-index.invariant (sym (c.ends.ensures.ends none))
    ∙ sym (box_lines_more face_line c.args.text.now.items (face_of s) s.boxes.boxes c.loop-index.index none within)
