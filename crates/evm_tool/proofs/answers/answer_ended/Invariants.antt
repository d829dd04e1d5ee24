use Rattle.std.proofs.Common.{◌≡◌, length}
use Rattle.evm_session.specs.Answers.{around}
use Rattle.evm_tool.specs.Served.{ServesFront, state_of}
use Rattle.evm_tool.proofs.answers.answer_ended.Given as goal

abbrev pub invariant-loop-line : goal.invariant-loop-line
invariant-loop-line g l =
    record {
      so_far : ServesFront l.text l.rest l.refused
          (state_of l.fn.session (g.O.Sink.written l.fn.output)
          (around (g.S.Shelf.files l.fn.shelf) (g.S.Shelf.faults l.fn.shelf) (g.S.Shelf.misses l.fn.shelf) l.fn.steps))
          (state_of l.session (g.O.Sink.written l.output)
          (around (g.S.Shelf.files l.shelf) (g.S.Shelf.faults l.shelf) (g.S.Shelf.misses l.shelf) l.steps));
      faults : g.O.Sink.faults l.output ≡ g.O.Sink.faults l.fn.output;
    }

abbrev pub decreases-loop-line : goal.decreases-loop-line
decreases-loop-line g l = length l.rest
