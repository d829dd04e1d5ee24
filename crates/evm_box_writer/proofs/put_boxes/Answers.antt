use Rattle.std.proofs.Common.{◌<◌, ◌++◌, ◌∷◌, [], length, arith, ap₂, sym, ◌∙◌}
use Rattle.evm_cells.specs.Unions.{Ends}
use Rattle.evm_formats.specs.BoxText.{box_line}
use Rattle.evm_box_writer.proofs.Lines.{lines_more}
use Rattle.evm_box_writer.proofs.put_boxes.Goals as goal

pub loop-index-preserved : goal.loop-index-preserved
loop-index-preserved c =
    let none : Ends = record { lo = []; hi = [] } in
    let within : c.loop-index.index < length c.args.boxes.now.boxes = omega (arith, c.loop-index-test.true, c.len-index-end.ensures) in
    c.in_ok-put_box.ensures
    ∙ ap₂ (λ t b. t ++ (box_line b ++ 10 ∷ [])) c.loop-index.invariant (sym (c.ends.ensures.ends none))
    ∙ sym (lines_more c.args.text.now.items c.args.boxes.now.boxes c.loop-index.index none within)
