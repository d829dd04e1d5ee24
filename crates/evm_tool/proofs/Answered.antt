-- A script that was answered, from a new session on, is a run.
use Rattle.std.proofs.Common.{◌≡◌, ℕ, ◌+◌, Bool, true, false, List, [], ◌∷◌, ◌++◌, length, take, sym, ◌∙◌, ap, subst, arith, append_assoc, Option, Some, None, IfSome}
use Rattle.std.proofs.lemmas.List.{take_at, length-append}
use Rattle.evm_cells.specs.Localities.{Measure}
use Rattle.evm_model.specs.Scene.{start_with}
use Rattle.evm_model.specs.Runs.{run, texts}
use Rattle.evm_session.specs.Answers.{Around}
use Rattle.evm_text.specs.Lines.{lines}
use Rattle.evm_tool.specs.EndedLines.{ended_lines}
use Rattle.evm_tool.specs.Script.{Answered, StopsIn}
use Rattle.evm_tool.specs.Served.{State, Served, Progress}
use Rattle.evm_tool.specs.Streams.{script_limit}
use Rattle.evm_tool.specs.Top.{first_world, Runs, StopsAt, ReadFaults, WriteFaults, Finishes, Completes, Makes, Does}
use Rattle.evm_words.specs.declared.form.Form.{Form}
use Rattle.evm_words.specs.declared.form.Form.TheVariants.{Run, Gen}
use Rattle.evm_tool.specs.declared.top.Status.{Status}
use Rattle.evm_tool.specs.declared.top.Status.TheVariants.{Done, Refused, Words, ReadFault, WriteFault, NoMemory, TooLong}
use Rattle.evm_tool.proofs.Served.{progress_start, served_progress, answers_of, CutsAt, progress_cut}

all_served : (kinds : List Measure) (ls : List (List ℕ)) (some : Bool) (s t : State) → s.scene ≡ start_with kinds → Served ls some s t → Progress kinds ls [] t.scene s.written t.written some s.around t.around
all_served kinds ls some s t e v = served_progress kinds [] ls false some s t s.written s.around (progress_start kinds [] s.scene s.written s.around e) v

front_of : (ls later : List (List ℕ)) (line : List ℕ) (count : ℕ) → count ≡ length ls → ls ++ line ∷ [] ≡ take (count + 1) (ls ++ line ∷ later)
front_of ls later line count e =
    sym (ap (take (count + 1)) (sym (append_assoc ls (line ∷ []) later)) ∙ take_at (ls ++ line ∷ []) later (count + 1) (omega (arith, length-append ls (line ∷ []), e)))

stops_at : (kinds : List Measure) (left_now : Option (List ℕ)) (taken : List ℕ) (s t : State) (w : StopsIn left_now taken s t)
    → (cut : CutsAt kinds (lines taken) (length w.ls) s.written t.written s.around t.around) → StopsAt kinds left_now taken cut.gained s.around t.around
stops_at kinds left_now taken s t w cut = record {
  begins = cut.begins;
  upto = w.upto;
  after = w.after;
  whole = w.whole;
  here = w.to_here ∙ front_of w.ls w.later w.line (length cut.begins.marks) cut.counted ∙ ap (take (length cut.begins.marks + 1)) (sym w.here);
  ended = w.ended;
  near = w.near;
}

pub runs_of : (kinds : List Measure) (status : Status) (left left_now : Option (List ℕ)) (s t : State) → s.scene ≡ start_with kinds → Answered status left left_now s t → Runs kinds status left left_now s.written t.written s.around t.around
runs_of kinds Done left left_now s t e v =
    let p = all_served kinds (lines v.0) false s t e v.2 in
    record {
      taken = v.0;
      takes = v.1;
      gained = texts (run (first_world kinds s.around) (lines v.0) p.marks);
      appended = p.text;
      writes = answers_of kinds (lines v.0) t.scene s.written t.written false s.around t.around p;
    }
runs_of kinds Refused left left_now s t e v =
    let p = all_served kinds (lines v.0) true s t e v.2 in
    record {
      taken = v.0;
      takes = v.1;
      gained = texts (run (first_world kinds s.around) (lines v.0) p.marks);
      appended = p.text;
      writes = answers_of kinds (lines v.0) t.scene s.written t.written true s.around t.around p;
    }
runs_of kinds Words left left_now s t e v = absurd v
runs_of kinds ReadFault left left_now s t e v =
    let ls = ended_lines v.0 in
    let some = v.3.0 in
    let p = all_served kinds ls some s t e v.3.1 in
    record {
      taken = v.0;
      takes = (v.1, v.2);
      gained = texts (run (first_world kinds s.around) ls p.marks);
      appended = p.text;
      writes = (some, answers_of kinds ls t.scene s.written t.written some s.around t.around p);
    }
runs_of kinds WriteFault left left_now s t e v =
    let w = v.3 in
    let p = all_served kinds w.ls w.some s w.between e w.served in
    let cut = subst (λ (all : List (List ℕ)). CutsAt kinds all (length w.ls) s.written t.written s.around t.around) (sym w.here)
    (progress_cut kinds w.ls w.line w.later w.between.scene t.scene s.written w.between.written t.written w.some w.failed s.around w.between.around t.around p w.last) in
    record { taken = v.0; takes = (v.1, v.2); gained = cut.gained; appended = cut.appended; writes = stops_at kinds left_now v.0 s t w cut }
runs_of kinds NoMemory left left_now s t e v = absurd v
runs_of kinds TooLong left left_now s t e v =
    let ls = ended_lines (take script_limit v.0) in
    let some = v.3.0 in
    let p = all_served kinds ls some s t e v.3.1 in
    record {
      taken = v.0;
      takes = (v.1, v.2);
      gained = texts (run (first_world kinds s.around) ls p.marks);
      appended = p.text;
      writes = (some, answers_of kinds ls t.scene s.written t.written some s.around t.around p);
    }

-- a script that is not too long was answered where no device failed
finishes_told : (status : Status) (script : List ℕ) (left_now : Option (List ℕ)) (s t : State) (r q w v : ℕ) → Answered status (Some script) left_now s t → ReadFaults status r q
    → WriteFaults status w v → Finishes status script (Some script) left_now s.written t.written r q w v
finishes_told Done script left_now s t r q w v a reads sends = λ short no_read no_write. tt
finishes_told Refused script left_now s t r q w v a reads sends = λ short no_read no_write. tt
finishes_told Words script left_now s t r q w v a reads sends = absurd a
finishes_told ReadFault script left_now s t r q w v a reads sends = λ short no_read no_write. no_read reads
finishes_told WriteFault script left_now s t r q w v a reads sends = λ short no_read no_write. no_write sends
finishes_told NoMemory script left_now s t r q w v a reads sends = absurd a
finishes_told TooLong script None s t r q w v a reads sends = absurd a.1
finishes_told TooLong script (Some now) s t r q w v a reads sends = λ short no_read no_write. omega (arith, ap length a.1, length-append a.0 now, a.2, short)

pub finishes_of : (status : Status) (left left_now : Option (List ℕ)) (s t : State) (r q w v : ℕ) → Answered status left left_now s t → ReadFaults status r q → WriteFaults status w v
    → IfSome left (λ script. Finishes status script left left_now s.written t.written r q w v)
finishes_of status None left_now s t r q w v a reads sends = tt
finishes_of status (Some script) left_now s t r q w v a reads sends = finishes_told status script left_now s t r q w v a reads sends

-- and so where the words ask for it
pub completes_run : (status : Status) (asked : Option Form) (left left_now written written_now : Option (List ℕ)) (r q w v : ℕ) → IfSome left (λ script. Finishes status script left left_now written written_now r q w v)
    → IfSome left (λ script. Completes status asked script left left_now written written_now r q w v)
completes_run status asked None left_now written written_now r q w v h = tt
completes_run status asked (Some script) left_now written written_now r q w v h = λ run. h

-- other words complete nothing
pub completes_not : (status : Status) (asked : Option Form) (left left_now written written_now : Option (List ℕ)) (r q w v : ℕ) → (asked ≡ Some Run → ⊥)
    → IfSome left (λ script. Completes status asked script left left_now written written_now r q w v)
completes_not status asked None left_now written written_now r q w v h = tt
completes_not status asked (Some script) left_now written written_now r q w v h = λ run. absurd (h run)

-- what words ask for
pub does_run : (kinds : List Measure) (asked : Option Form) (status : Status) (left left_now written written_now : Option (List ℕ)) (around around_now : Around) → asked ≡ Some Run → Runs kinds status left left_now written written_now around around_now
    → Does asked kinds status left left_now written written_now around around_now
does_run kinds asked status left left_now written written_now around around_now e h = subst (λ (o : Option Form). Does o kinds status left left_now written written_now around around_now) (sym e) h

pub does_gen : (kinds : List Measure) (asked : Option Form) (seed edits : ℕ) (status : Status) (left left_now written written_now : Option (List ℕ)) (around around_now : Around) → asked ≡ Some (Gen seed edits) → Makes status seed edits left left_now written written_now around around_now
    → Does asked kinds status left left_now written written_now around around_now
does_gen kinds asked seed edits status left left_now written written_now around around_now e h = subst (λ (o : Option Form). Does o kinds status left left_now written written_now around around_now) (sym e) h
