-- Lines that are no commands.
use Rattle.std.proofs.Common.{◌≡◌, ℕ, List, Err, refl, sym, subst, arith}
use Rattle.evm_script.specs.Line.{command, Reads}
use Rattle.evm_script.specs.declared.command.LineError.{LineError}
use Rattle.evm_script.specs.declared.command.LineError.TheVariants as lines
use Rattle.evm_model.specs.Scene.{Scene}
use Rattle.evm_model.specs.Replies.{No}
use Rattle.evm_model.specs.Edits as codes
use Rattle.evm_model.specs.Steps.{stays}
use Rattle.evm_session.specs.declared.refusals.Refusal.{Refusal}
use Rattle.evm_session.specs.Refusals.{of_line_error}
use Rattle.evm_session.specs.Answers.{Around}
use Rattle.evm_session.specs.Requests.{Request, line_request, CarriesOver}
use Rattle.evm_session.proofs.Rows.{extends_itself}
use Rattle.evm_session.proofs.Lines.{read_request, request_read}
use Rattle.evm_session.proofs.Shelved.{carried_alone, lacking}

by_error : (e : LineError) (scene : Scene) (before line : List ℕ) (around : Around) → Reads (Err e) (command line) → CarriesOver (Err (of_line_error e)) scene scene before before around around (line_request scene line)
by_error lines.Long scene before line around h =
    subst (λ (r : Request). CarriesOver (Err (of_line_error lines.Long)) scene scene before before around around r) (sym (request_read scene line (Err lines.Long) h))
    (carried_alone (Err (of_line_error lines.Long)) scene scene before before around around (read_request scene (Err lines.Long)) (stays scene (No codes.Line)) refl refl refl (λ fetched. refl) (λ fetched. omega arith) (record { reply = refl; placed = refl }) (refl, refl, refl))
by_error lines.Syntax scene before line around h =
    subst (λ (r : Request). CarriesOver (Err (of_line_error lines.Syntax)) scene scene before before around around r) (sym (request_read scene line (Err lines.Syntax) h))
    (carried_alone (Err (of_line_error lines.Syntax)) scene scene before before around around (read_request scene (Err lines.Syntax)) (stays scene (No codes.Syntax)) refl refl refl (λ fetched. refl) (λ fetched. omega arith) (record { reply = refl; placed = refl }) (refl, refl, refl))
by_error lines.NoMemory scene before line around h = lacking scene before before around (line_request scene line) (extends_itself before)

-- a line that is no command is refused
pub no_command : (refusal : Refusal) (e : LineError) (scene : Scene) (before line : List ℕ) (around : Around) → refusal ≡ of_line_error e → Reads (Err e) (command line) → CarriesOver (Err refusal) scene scene before before around around (line_request scene line)
no_command refusal e scene before line around f h =
    subst (λ (y : Refusal). CarriesOver (Err y) scene scene before before around around (line_request scene line)) (sym f) (by_error e scene before line around h)
