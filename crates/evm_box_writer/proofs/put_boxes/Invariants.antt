use Rattle.std.proofs.Common.{◌≡◌, ◌++◌, take, map}
use Rattle.evm_text.specs.Lines.{text_of}
use Rattle.evm_formats.specs.BoxText.{box_line}
use Rattle.evm_box_writer.proofs.put_boxes.Given as goal

abbrev pub invariant-loop-index : goal.invariant-loop-index
invariant-loop-index l = l.text.items ≡ l.fn.text.items ++ text_of (map box_line (take l.index l.boxes.boxes))
