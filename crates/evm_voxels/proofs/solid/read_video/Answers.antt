use Rattle.std.proofs.Common.{List, ◌*◌, sym}
use Rattle.evm_formats.specs.Images.{Picture}
use Rattle.evm_voxels.specs.Streams.{stream_of}
use Rattle.evm_formats.specs.Y4m.{y4m_cells}
use Rattle.evm_voxels.proofs.Outcome.{answers_refusal, stream_refused, frames_refused, frames_memory, frames_marked, frames_cells, answers_empty, answers_solid}
use Rattle.evm_voxels.proofs.solid.read_video.Goals as goal

pub returns-in_err-stream : goal.returns-in_err-stream
returns-in_err-stream c =
    answers_refusal c.args.dim (y4m_cells c.args.dim c.args.threshold c.args.bytes.now) c.from_residual.result c.in_err-stream.field-0.0 c.from_residual.ensures.1
    (stream_refused c.args.dim c.args.threshold c.args.bytes.now c.in_err-stream.field-0.0 (sym c.in_err-stream.ensures.exact))

pub returns-in_err-depth : goal.returns-in_err-depth
returns-in_err-depth c =
    answers_refusal c.args.dim (y4m_cells c.args.dim c.args.threshold c.args.bytes.now) c.from_residual-in_err-depth.result c.in_err-depth.field-0.0 c.from_residual-in_err-depth.ensures.1
    (frames_refused c.args.dim c.args.threshold c.args.bytes.now (stream_of c.in_ok-stream.stream) c.in_err-depth.field-0.0 (sym c.in_ok-stream.ensures.exact) c.in_err-depth.ensures.refused)

pub returns-then-depth-eq0 : goal.returns-then-depth-eq0
returns-then-depth-eq0 c =
    answers_empty c.args.dim c.args.threshold c.args.bytes.now (stream_of c.in_ok-stream.stream) c.in_ok-depth.depth c.empty.result (sym c.in_ok-stream.ensures.exact) c.in_ok-depth.ensures.count c.if-depth-eq0.true c.requires c.empty.ensures.dim
    c.empty.ensures.rows c.empty.ensures.cells

pub returns-in_err-marks : goal.returns-in_err-marks
returns-in_err-marks c =
    frames_memory c.args.dim c.args.threshold c.args.bytes.now (stream_of c.in_ok-stream.stream) c.in_ok-depth.depth c.from_residual-in_err-marks.result c.in_err-marks.field-0.0 (sym c.in_ok-stream.ensures.exact) c.in_ok-depth.ensures.count
    c.from_residual-in_err-marks.ensures.1 c.in_err-marks.ensures.refused

pub returns : goal.returns
returns c =
    let s = c.in_ok-stream.stream in
    let h = c.in_ok-depth.ensures.count in
    let ps : List Picture = h.0 in
    let marked = frames_marked c.args.dim c.args.threshold (stream_of s) c.in_ok-depth.depth (s.size.height * s.size.width) c.deref.result.now c.in_ok-marks.marks.items h c.in_ok-marks.ensures.marked c.deref.ensures.value in
    answers_solid c.args.dim (y4m_cells c.args.dim c.args.threshold c.args.bytes.now) c.solid_of.result c.args.threshold s.size.width s.size.height ps c.requires
    (frames_cells c.args.dim c.args.threshold c.args.bytes.now (stream_of s) c.in_ok-depth.depth (sym c.in_ok-stream.ensures.exact) h) c.solid_of.ensures.dim
    (c.solid_of.ensures.rows c.args.threshold ps h.2 marked) c.solid_of.ensures.memory
