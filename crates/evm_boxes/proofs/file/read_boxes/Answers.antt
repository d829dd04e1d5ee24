use Rattle.std.proofs.Common.{map}
use Rattle.evm_text.specs.Lines.{lines}
use Rattle.evm_boxes.specs.BoxRows.{ends_of}
use Rattle.evm_boxes.proofs.FileSteps.{cells_of_file, refused_file, rows_asked, exact_head, exact_dim}
use Rattle.evm_boxes.proofs.file.read_boxes.Goals as goal

pub returns-in-Ok-join_rows-clause-answer : goal.returns-in-Ok-join_rows-clause-answer
returns-in-Ok-join_rows-clause-answer c =
    cells_of_file c.args.dim c.args.bytes.now (map ends_of c.in-Ok.rows.items) c.in-Ok-join_rows.solid c.in-Ok.ensures.answer c.in-Ok-join_rows.ensures.cells

pub returns-in-Ok-join_rows-clause-head : goal.returns-in-Ok-join_rows-clause-head
returns-in-Ok-join_rows-clause-head c = exact_head c.args.dim c.args.bytes.now _ (returns-in-Ok-join_rows-clause-answer c) (λ e. absurd (cc e))

pub returns-in-Ok-join_rows-clause-other_dim : goal.returns-in-Ok-join_rows-clause-other_dim
returns-in-Ok-join_rows-clause-other_dim c = exact_dim c.args.dim c.args.bytes.now _ (returns-in-Ok-join_rows-clause-answer c) (λ e. absurd (cc e))

pub returns-in-Err-join_rows-clause-memory : goal.returns-in-Err-join_rows-clause-memory
returns-in-Err-join_rows-clause-memory c = λ e. rows_asked c.args.dim (lines c.args.bytes.now) c.in-Ok.rows.items c.in-Ok.ensures.answer (λ z. cc (c.in-Err-join_rows.ensures.none z))

pub returns-in-Err-join_rows-clause-head : goal.returns-in-Err-join_rows-clause-head
returns-in-Err-join_rows-clause-head c = exact_head c.args.dim c.args.bytes.now _ tt (returns-in-Err-join_rows-clause-memory c)

pub returns-in-Err-join_rows-clause-other_dim : goal.returns-in-Err-join_rows-clause-other_dim
returns-in-Err-join_rows-clause-other_dim c = exact_dim c.args.dim c.args.bytes.now _ tt (returns-in-Err-join_rows-clause-memory c)

pub returns-in-Err-clause-answer : goal.returns-in-Err-clause-answer
returns-in-Err-clause-answer c = refused_file c.args.dim c.args.bytes.now c.in-Err.error c.in-Err.ensures.answer

pub returns-in-Err-clause-memory : goal.returns-in-Err-clause-memory
returns-in-Err-clause-memory c = λ e. c.in-Err.ensures.memory (cc e)

pub returns-in-Err-clause-head : goal.returns-in-Err-clause-head
returns-in-Err-clause-head c = exact_head c.args.dim c.args.bytes.now _ (returns-in-Err-clause-answer c) (returns-in-Err-clause-memory c)

pub returns-in-Err-clause-other_dim : goal.returns-in-Err-clause-other_dim
returns-in-Err-clause-other_dim c = exact_dim c.args.dim c.args.bytes.now _ (returns-in-Err-clause-answer c) (returns-in-Err-clause-memory c)
