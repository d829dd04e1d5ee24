use Rattle.std.proofs.Common.{◌≡◌, ◌+◌, ◌-◌, ◌≤◌, length, take}
use Rattle.evm_session.specs.Answers.{around}
use Rattle.evm_tool.specs.Served.{Stands, state_of}
use Rattle.evm_tool.specs.Streams.{script_limit, line_kept, piece_max}
use Rattle.evm_tool.proofs.script.answer_script.Given as goal

abbrev pub invariant-loop-taken : goal.invariant-loop-taken
invariant-loop-taken g l =
    record {
      stands : Stands (g.I.Source.left l.fn.input) (g.I.Source.left l.input) l.taken (take l.kept l.buffer) l.refused
          (state_of l.fn.session (g.O.Sink.written l.fn.output)
          (around (g.S.Shelf.files l.fn.shelf) (g.S.Shelf.faults l.fn.shelf) (g.S.Shelf.misses l.fn.shelf) l.fn.steps))
          (state_of l.session (g.O.Sink.written l.output)
          (around (g.S.Shelf.files l.shelf) (g.S.Shelf.faults l.shelf) (g.S.Shelf.misses l.shelf) l.steps));
      most : l.taken ≤ script_limit;
      room : l.kept ≤ line_kept;
      size : length l.buffer ≡ line_kept + piece_max;
      reads : g.I.Source.faults l.input ≡ g.I.Source.faults l.fn.input;
      sends : g.O.Sink.faults l.output ≡ g.O.Sink.faults l.fn.output;
    }

abbrev pub decreases-loop-taken : goal.decreases-loop-taken
decreases-loop-taken g l = script_limit - l.taken
