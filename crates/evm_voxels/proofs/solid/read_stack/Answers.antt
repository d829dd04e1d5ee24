use Rattle.evm_formats.specs.Pgm.{pgm_cells}
use Rattle.evm_voxels.proofs.Outcome.{answers_refusal, stack_memory, stack_marked, stack_cells, stack_some, answers_solid}
use Rattle.evm_voxels.proofs.solid.read_stack.Goals as goal

pub returns-in_err-extent : goal.returns-in_err-extent
returns-in_err-extent c =
    answers_refusal c.args.dim (pgm_cells c.args.dim c.args.threshold c.args.bytes.now) c.from_residual.result c.in_err-extent.field-0.0 c.from_residual.ensures.1
    (c.in_err-extent.ensures.refused c.args.threshold)

pub returns-in_err-marks : goal.returns-in_err-marks
returns-in_err-marks c =
    stack_memory c.args.dim c.args.threshold c.args.bytes.now c.in_ok-extent.extent.size c.in_ok-extent.extent.depth c.from_residual-in_err-marks.result c.in_err-marks.field-0.0 c.in_ok-extent.ensures.stack
    c.from_residual-in_err-marks.ensures.1 c.in_err-marks.ensures.refused

pub returns : goal.returns
returns c =
    let e = c.in_ok-extent.extent in
    let stack = c.in_ok-extent.ensures.stack in
    let marked = stack_marked c.args.dim c.args.threshold c.args.bytes.now c.deref.result.now c.in_ok-marks.marks.items e.size e.depth stack c.in_ok-marks.ensures.marked c.deref.ensures.value in
    answers_solid c.args.dim (pgm_cells c.args.dim c.args.threshold c.args.bytes.now) c.solid_of.result c.args.threshold e.size.width e.size.height stack.images c.requires
    (stack_cells c.args.dim c.args.threshold c.args.bytes.now e.size e.depth stack) c.solid_of.ensures.dim
    (c.solid_of.ensures.rows c.args.threshold stack.images stack.count marked) c.solid_of.ensures.memory

pub solid_of-requires-clause-some : goal.solid_of-requires-clause-some
solid_of-requires-clause-some c = stack_some c.args.dim c.args.bytes.now c.in_ok-extent.extent.size c.in_ok-extent.extent.depth c.in_ok-extent.ensures.stack
