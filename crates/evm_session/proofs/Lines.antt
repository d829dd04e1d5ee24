-- Blank lines, and what a line that is a command asks.
use Rattle.std.proofs.Common.{◌≡◌, ℕ, List, [], ◌∷◌, ◌++◌, Result, Ok, refl, sym, ap}
use Rattle.evm_script.specs.Line.{command}
use Rattle.evm_script.specs.declared.command.Command.{Command}
use Rattle.evm_script.specs.declared.command.Command.TheVariants as commands
use Rattle.evm_script.specs.declared.command.LineError.{LineError}
use Rattle.evm_model.specs.Files.{no_files}
use Rattle.evm_model.specs.Scene.{Scene}
use Rattle.evm_model.specs.Replies.{Empty, reply_text}
use Rattle.evm_model.specs.Steps.{turn_of, line_turn, step, stays, of_line, command_fetches, command_asks, fetches, asks}
use Rattle.evm_model.specs.LineWork.{read_work, line_work}
use Rattle.evm_session.specs.Carried.{Carries}
use Rattle.evm_session.specs.Requests.{Request, request_of, line_request}
use Rattle.evm_session.proofs.Turns.{carried}

append_nil : (xs : List ℕ) → xs ++ [] ≡ xs
append_nil [] = refl
append_nil (x ∷ xs) = ap (λ (ys : List ℕ). x ∷ ys) (append_nil xs)

-- a blank line has the empty reply
pub blank : (scene : Scene) (before : List ℕ) → Carries (Ok tt) scene scene before before (turn_of no_files scene commands.Blank)
unfolding reply_text
blank scene before = carried scene scene before before Empty (stays scene Empty) refl (sym (append_nil before)) refl

-- what a line asks that was read so
abbrev pub read_request : Scene → Result Command LineError → Request
read_request scene read = record {
  turns = λ fetched. line_turn fetched scene read;
  works = λ fetched. read_work fetched scene read;
  fetches = of_line (command_fetches scene) read;
  asks = of_line (command_asks scene) read;
}

pub request_read : (scene : Scene) (line : List ℕ) (r : Result Command LineError) → command line ≡ r → line_request scene line ≡ read_request scene r
unfolding step line_work fetches asks
request_read scene line r e = ap (read_request scene) e

-- a line that is a command asks what the command does
pub request_of_line : (scene : Scene) (line : List ℕ) (c : Command) → command line ≡ Ok c → line_request scene line ≡ request_of scene c
request_of_line scene line c e = request_read scene line (Ok c) e
