use Rattle.std.proofs.Common.{map, arith}
use Rattle.evm_boxes.specs.BoxRows.{ends_of}
use Rattle.evm_boxes.proofs.FileSteps.{line_read, next_refused, next_asked}
use Rattle.evm_boxes.proofs.file.read_lines.Goals as goal

pub loop-line-preserved : goal.loop-line-preserved
loop-line-preserved c = record {
  read = line_read c.args.dim c.loop-line.number c.args.text.now c.loop-line.rest.now c.in-Some.line.now c.in-Some.after.now (map ends_of c.loop-line.rows.items)
      (map ends_of c.add_line.new.rows.items) c.loop-line.invariant.read c.in-Some.ensures.line c.in_default-add_line.ensures.answer;
  boxes = c.add_line.ensures.boxes;
  few = omega (arith, c.in-Some.ensures.shorter, c.loop-line.invariant.few);
}

pub returns-in-Err-clause-answer : goal.returns-in-Err-clause-answer
returns-in-Err-clause-answer c =
    next_refused c.in-Err.error c.args.dim c.loop-line.number c.args.text.now c.loop-line.rest.now c.in-Some.line.now c.in-Some.after.now c.loop-line.rows.items _
    c.loop-line.invariant.read c.in-Some.ensures.line c.in-Err.ensures.answer

pub returns-in-Err-clause-memory : goal.returns-in-Err-clause-memory
returns-in-Err-clause-memory c =
    λ e. next_asked c.in-Err.error c.args.dim c.loop-line.number c.args.text.now c.loop-line.rest.now c.in-Some.line.now c.in-Some.after.now c.loop-line.rows.items _
    c.loop-line.invariant.read c.in-Some.ensures.line c.in-Err.ensures.answer (cc e)
