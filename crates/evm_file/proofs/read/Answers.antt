use Rattle.std.proofs.Common.{rules, false, IsTrue, ◌≡◌}
use Rattle.evm_file.proofs.Reading.{found_solid, found_cells, found_refusal, cells_answered, empty_exactly, headless}
use Rattle.evm_file.proofs.read.Goals as goal

pub returns-then-is_second-clause-cells : goal.returns-then-is_second-clause-cells
returns-then-is_second-clause-cells c = cells_answered c.read_nested.result c.args.bytes.now c.read_nested.ensures.answers

pub returns-then-is_second-clause-empty : goal.returns-then-is_second-clause-empty
returns-then-is_second-clause-empty c = empty_exactly c.read_nested.result c.args.bytes.now c.read_nested.ensures.answers c.read_nested.ensures.sure

pub returns-then-is_second-clause-found : goal.returns-then-is_second-clause-found
returns-then-is_second-clause-found c = found_solid c.read_nested.result c.args.bytes.now c.is_second.ensures.small c.read_nested.ensures.answers

pub returns-then-is_second-clause-found_cells : goal.returns-then-is_second-clause-found_cells
returns-then-is_second-clause-found_cells c = found_cells c.read_nested.result c.args.bytes.now (returns-then-is_second-clause-found c)

pub returns-then-is_second-clause-refused : goal.returns-then-is_second-clause-refused
returns-then-is_second-clause-refused c = found_refusal c.read_nested.result c.args.bytes.now c.is_second.ensures.small c.read_nested.ensures.answers

pub returns-then-is_first-clause-cells : goal.returns-then-is_first-clause-cells
returns-then-is_first-clause-cells c = cells_answered c.read_listed.result c.args.bytes.now c.read_listed.ensures.answers

pub returns-then-is_first-clause-found : goal.returns-then-is_first-clause-found
returns-then-is_first-clause-found c = found_solid c.read_listed.result c.args.bytes.now c.is_second.ensures.small c.read_listed.ensures.answers

pub returns-then-is_first-clause-found_cells : goal.returns-then-is_first-clause-found_cells
returns-then-is_first-clause-found_cells c = found_cells c.read_listed.result c.args.bytes.now (returns-then-is_first-clause-found c)

pub returns-then-is_first-clause-refused : goal.returns-then-is_first-clause-refused
returns-then-is_first-clause-refused c = found_refusal c.read_listed.result c.args.bytes.now c.is_second.ensures.small c.read_listed.ensures.answers

pub returns-clause-found : goal.returns-clause-found
returns-clause-found c =
    found_solid _ c.args.bytes.now c.is_second.ensures.small (headless c.args.bytes.now
    (λ h. let x : IsTrue false = c.if-is_second.ensures.is.1 h in search rules) (λ h. let x : IsTrue false = c.if-is_first.ensures.is.1 h in search rules))

pub returns-clause-found_cells : goal.returns-clause-found_cells
returns-clause-found_cells c = found_cells _ c.args.bytes.now (returns-clause-found c)
