use Rattle.std.proofs.lemmas.Grind.{common_steps}
use Rattle.std.proofs.Common.{arith}
use Rattle.evm_text.specs.Lines.{lines}
use Rattle.evm_generator.specs.Script.{edit_line}
use Rattle.evm_generator.proofs.Edits.{edit_is_next}
use Rattle.evm_generator.proofs.generator.Generator.line.Goals as goal

-- the line is the next edit
pub returns-then-self-gt0 : goal.returns-then-self-gt0
returns-then-self-gt0 c = (
  edit_line c.args.self.now.draws.number,
  edit_is_next (lines c.args.self.now.first.now) (lines c.args.self.now.last.now) c.args.self.now.edits _ _
      c.in_default.ensures.line c.if-self-gt0.true c.next-edit.ensures.place,
  grind (arith, common_steps, c.in_ok-put.ensures, c.next-edit.ensures.command, c.next-edit.ensures.name, c.next-edit.ensures.numbers),
)
