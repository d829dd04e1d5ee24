-- How the lines that were answered grow by one, and what they give at the end.
use Rattle.std.proofs.Common.{◌≡◌, ℕ, ◌+◌, ◌≤◌, Bool, true, false, not, ◌&&◌, ◌||◌, List, [], ◌∷◌, ◌++◌, length, take, drop, refl, sym, ◌∙◌, ap, subst, arith, append_assoc, Option, is_some, Result, Ok, Err, codes}
use Rattle.std.proofs.Math.Bool.{or_assoc}
use Rattle.std.proofs.Math.Seq.{drop-append_seam}
use Rattle.std.proofs.lemmas.List.{take-append-drop, length-append, length-drop, append-nil}
use Rattle.std.specs.Io.KnownBytes.{Appends}
use Rattle.evm_cells.proofs.Xor.{and_both}
use Rattle.evm_cells.specs.Localities.{Measure}
use Rattle.evm_outside.specs.declared.Failed.{Failed}
use Rattle.evm_model.specs.Scene.{Scene, start_with}
use Rattle.evm_model.specs.Replies.{Reply, reply_text, is_no}
use Rattle.evm_model.specs.Runs.{World, Mark, NoMemory, answer, may_have, may_all_have, run, texts, some_no, world_after}
use Rattle.evm_model.specs.LineWork.{Adds}
use Rattle.evm_model.proofs.RunLaws.{run_more, run_later, world_more, texts_more, some_no_more, drop_more, run_no_marks, after_no_marks, may_no_marks, may_more}
use Rattle.evm_session.specs.Answers.{Around, IsAnswered, IsAsBefore, world_of, AreFiles}
use Rattle.evm_tool.specs.Streams.{AppendsPart}
use Rattle.evm_tool.specs.Served.{Serves, Progress, State, Served}
use Rattle.evm_tool.specs.Top.{first_world, is_no_shelf, is_no_missing, Counts, LeavesAround, Answers, Begins}
use Rattle.evm_tool.proofs.Streams.{appends_nothing, appends_more}
use Rattle.evm_tool.proofs.Worlds.{IsSameButFiles, IsOf, alike, files_alike, may_alike, told_kept, files_kept, files_told}
use Rattle.evm_tool.proofs.LineSteps.{adds_alike, adds_none, adds_more, adds_later}
use Rattle.evm_tool.proofs.Counts.{counts_none, counts_more, tells_faults, tells_misses, faults_over, misses_over}

cleared : (gone text reply : List ℕ) → gone ≡ [] → text ≡ gone ++ reply → text ≡ reply
cleared gone text reply g e = e ∙ ap (λ (front : List ℕ). front ++ reply) g

-- a line was answered, and its reply went out
pub serves_fine : (line : List ℕ) (old new : Scene) (gone text piece : List ℕ) (fine : Bool) (before now : Option (List ℕ)) (s t : Around)
    → gone ≡ [] → piece ≡ text → IsAnswered line old new gone text fine s t → Appends before now piece → Serves (Ok fine) old new before now line s t
serves_fine line old new gone text piece fine before now s t g e a sent = record {
  mark = a.mark;
  allowed = a.allowed;
  scene = a.scene;
  sent = (subst (λ (bytes : List ℕ). Appends before now bytes) (e ∙ cleared gone text _ g a.text) sent, a.refused);
  told = a.told;
  files = a.files;
  faults = faults_over (world_of old s.files) line a.mark s.faults t.faults a.faults;
  misses = misses_over (answer (world_of old s.files) line a.mark).reply s.misses t.misses a.misses;
  steps = a.steps;
}

-- or a front of it
pub serves_cut : (line : List ℕ) (old new : Scene) (gone text piece : List ℕ) (fine : Bool) (f : Failed) (before now : Option (List ℕ)) (s t : Around)
    → gone ≡ [] → piece ≡ text → IsAnswered line old new gone text fine s t → AppendsPart before now piece → Serves (Err f) old new before now line s t
serves_cut line old new gone text piece fine f before now s t g e a sent = record {
  mark = a.mark;
  allowed = a.allowed;
  scene = a.scene;
  sent = subst (λ (bytes : List ℕ). AppendsPart before now bytes) (e ∙ cleared gone text _ g a.text) sent;
  told = a.told;
  files = a.files;
  faults = faults_over (world_of old s.files) line a.mark s.faults t.faults a.faults;
  misses = misses_over (answer (world_of old s.files) line a.mark).reply s.misses t.misses a.misses;
  steps = a.steps;
}

-- the reply where memory was missing
memory_reply : (world : World) (line : List ℕ) → codes "no memory" ++ 10 ∷ [] ≡ reply_text (answer world line NoMemory).reply
unfolding reply_text
memory_reply world line = refl

-- memory was missing, which is a reply too and changes nothing
pub serves_lack : (line : List ℕ) (old new : Scene) (text gone : List ℕ) (before now : Option (List ℕ)) (s t : Around)
    → IsAsBefore line old new gone text s t → Appends before now (codes "no memory" ++ 10 ∷ []) → Serves (Ok false) old new before now line s t
serves_lack line old new text gone before now s t a sent = record {
  mark = NoMemory;
  allowed = refl;
  scene = a.scene;
  sent = (subst (λ (bytes : List ℕ). Appends before now bytes) (memory_reply (world_of old s.files) line) sent, refl);
  told = told_kept s.files t.files a.files;
  files = files_kept s.files t.files a.files;
  faults = a.faults;
  misses = a.misses;
  steps = a.steps;
}

pub serves_lack_cut : (line : List ℕ) (old new : Scene) (text gone : List ℕ) (f : Failed) (before now : Option (List ℕ)) (s t : Around)
    → IsAsBefore line old new gone text s t → AppendsPart before now (codes "no memory" ++ 10 ∷ []) → Serves (Err f) old new before now line s t
serves_lack_cut line old new text gone f before now s t a sent = record {
  mark = NoMemory;
  allowed = refl;
  scene = a.scene;
  sent = subst (λ (bytes : List ℕ). AppendsPart before now bytes) (memory_reply (world_of old s.files) line) sent;
  told = told_kept s.files t.files a.files;
  files = files_kept s.files t.files a.files;
  faults = a.faults;
  misses = a.misses;
  steps = a.steps;
}

leaves_none : (kinds : List Measure) (ls : List (List ℕ)) (s : Around) → LeavesAround kinds ls [] s s
leaves_none kinds ls s = record {
  allowed = may_no_marks (is_some s.files) (first_world kinds s) ls;
  told = refl;
  files = subst (λ (w : World). AreFiles s.files w.files) (sym (after_no_marks (first_world kinds s) ls)) (files_told s.files);
  faults = subst (λ (rs : List Reply). Counts is_no_shelf rs s.faults s.faults) (sym (run_no_marks (first_world kinds s) ls)) (counts_none is_no_shelf s.faults);
  misses = subst (λ (rs : List Reply). Counts is_no_missing rs s.misses s.misses) (sym (run_no_marks (first_world kinds s) ls)) (counts_none is_no_missing s.misses);
  steps = adds_none (is_some s.files) (first_world kinds s) ls s.steps s.steps (omega arith);
}

-- before the first line
pub progress_start : (kinds : List Measure) (ls : List (List ℕ)) (scene : Scene) (o : Option (List ℕ)) (s : Around) → scene ≡ start_with kinds → Progress kinds ls ls scene o o false s s
progress_start kinds ls scene o s e = record {
  marks = [];
  most = omega arith;
  left = refl;
  reached = e ∙ ap (λ (w : World). w.scene) (sym (after_no_marks (first_world kinds s) ls));
  around = leaves_none kinds ls s;
  text = subst (λ (rs : List Reply). Appends o o (texts rs)) (sym (run_no_marks (first_world kinds s) ls)) (appends_nothing o);
  refused = ap some_no (run_no_marks (first_world kinds s) ls);
}

-- the reply that a mark gives in the world that the run has come to
module _ (kinds : List Measure) (ls rest : List (List ℕ)) (line : List ℕ) (after : List (List ℕ)) (old : Scene) (a b : Option (List ℕ)) (some : Bool) (first s : Around) (p : Progress kinds ls rest old a b some first s) (e : rest ≡ line ∷ after) (m : Mark) where
  here : drop (length p.marks) ls ≡ line ∷ after
  here = p.left ∙ e

  is_here : IsOf s.files old (world_after (first_world kinds first) ls p.marks)
  is_here = record { scene = p.reached; files = p.around.files }

  run_here : run (first_world kinds first) ls (p.marks ++ m ∷ []) ≡ run (first_world kinds first) ls p.marks ++ (answer (world_after (first_world kinds first) ls p.marks) line m).reply ∷ []
  run_here = run_more (first_world kinds first) ls p.marks line after m here

  count_here : length (p.marks ++ m ∷ []) ≡ length p.marks + 1
  count_here = length-append p.marks (m ∷ [])

  room_here : length p.marks + 1 ≤ length ls
  room_here = omega (arith, ap length here, length-drop (length p.marks) ls)

  allowed_here : may_have (is_some s.files) (world_of old s.files) line m ≡ true → may_have (is_some first.files) (world_after (first_world kinds first) ls p.marks) line m ≡ true
  allowed_here h =
      ap (λ (told : Bool). may_have told (world_after (first_world kinds first) ls p.marks) line m) (sym p.around.told)
      ∙ sym (may_alike (is_some s.files) (world_of old s.files) (world_after (first_world kinds first) ls p.marks) line m p.reached) ∙ h

not_not : (b f : Bool) → f ≡ not b → not f ≡ b
not_not true f e = ap not e
not_not false f e = ap not e

-- what one line more leaves around the session, and the scene after it
module _ (kinds : List Measure) (ls rest : List (List ℕ)) (line : List ℕ) (after : List (List ℕ)) (old new : Scene) (a b c : Option (List ℕ)) (some : Bool) (first s t : Around) (r : Result Bool Failed) (p : Progress kinds ls rest old a b some first s) (e : rest ≡ line ∷ after) (v : Serves r old new b c line s t) where
  alike_here : IsSameButFiles (answer (world_of old s.files) line v.mark) (answer (world_after (first_world kinds first) ls p.marks) line v.mark)
  alike_here = alike s.files old (world_after (first_world kinds first) ls p.marks) line v.mark (is_here kinds ls rest line after old a b some first s p e v.mark) v.allowed

  world_there : world_after (first_world kinds first) ls (p.marks ++ v.mark ∷ []) ≡ (answer (world_after (first_world kinds first) ls p.marks) line v.mark).world
  world_there = world_more (first_world kinds first) ls p.marks line after v.mark (here kinds ls rest line after old a b some first s p e v.mark)

  run_there : run (first_world kinds first) ls (p.marks ++ v.mark ∷ []) ≡ run (first_world kinds first) ls p.marks ++ (answer (world_of old s.files) line v.mark).reply ∷ []
  run_there = run_here kinds ls rest line after old a b some first s p e v.mark ∙ ap (λ (reply : Reply). run (first_world kinds first) ls p.marks ++ reply ∷ []) (sym alike_here.reply)

  reached_there : new ≡ (world_after (first_world kinds first) ls (p.marks ++ v.mark ∷ [])).scene
  reached_there = v.scene ∙ alike_here.scene ∙ ap (λ (w : World). w.scene) (sym world_there)

  leaves_there : LeavesAround kinds ls (p.marks ++ v.mark ∷ []) first t
  leaves_there = record {
    allowed = may_more (is_some first.files) (first_world kinds first) ls p.marks line after v.mark (here kinds ls rest line after old a b some first s p e v.mark)
        ∙ and_both _ _ p.around.allowed (allowed_here kinds ls rest line after old a b some first s p e v.mark v.allowed);
    told = v.told ∙ p.around.told;
    files = subst (λ (w : World). AreFiles t.files w.files) (sym world_there)
        (files_alike s.files t.files old (world_after (first_world kinds first) ls p.marks) line v.mark (is_here kinds ls rest line after old a b some first s p e v.mark) v.told v.files);
    faults = subst (λ (rs : List Reply). Counts is_no_shelf rs first.faults t.faults) (sym run_there)
        (counts_more is_no_shelf _ _ first.faults s.faults t.faults p.around.faults (tells_faults _ s.faults t.faults v.faults));
    misses = subst (λ (rs : List Reply). Counts is_no_missing rs first.misses t.misses) (sym run_there)
        (counts_more is_no_missing _ _ first.misses s.misses t.misses p.around.misses (tells_misses _ s.misses t.misses v.misses));
    steps = adds_more (is_some first.files) (first_world kinds first) ls p.marks line after v.mark first.steps s.steps t.steps (here kinds ls rest line after old a b some first s p e v.mark) p.around.steps
        (subst (λ (told : Bool). Adds told (world_after (first_world kinds first) ls p.marks) line v.mark s.steps t.steps) p.around.told
        (adds_alike s.files old (world_after (first_world kinds first) ls p.marks) line v.mark s.steps t.steps (is_here kinds ls rest line after old a b some first s p e v.mark) v.allowed v.steps));
  }

-- one line more was answered
pub progress_more : (kinds : List Measure) (ls rest : List (List ℕ)) (line : List ℕ) (after : List (List ℕ)) (old new : Scene) (a b c : Option (List ℕ)) (some fine next : Bool) (first s t : Around)
    → Progress kinds ls rest old a b some first s → rest ≡ line ∷ after → Serves (Ok fine) old new b c line s t → next ≡ some || not fine → Progress kinds ls after new a c next first t
progress_more kinds ls rest line after old new a b c some fine next first s t p e v n =
    let so_far = run (first_world kinds first) ls p.marks in
    let reply = (answer (world_of old s.files) line v.mark).reply in
    let one_more = run_there kinds ls rest line after old new a b c some first s t (Ok fine) p e v in
    record {
      marks = p.marks ++ v.mark ∷ [];
      most = omega (arith, room_here kinds ls rest line after old a b some first s p e v.mark, count_here kinds ls rest line after old a b some first s p e v.mark);
      left = ap (λ (k : ℕ). drop k ls) (count_here kinds ls rest line after old a b some first s p e v.mark)
          ∙ drop_more ls (length p.marks) line after (here kinds ls rest line after old a b some first s p e v.mark);
      reached = reached_there kinds ls rest line after old new a b c some first s t (Ok fine) p e v;
      around = leaves_there kinds ls rest line after old new a b c some first s t (Ok fine) p e v;
      text = subst (λ (bytes : List ℕ). Appends a c bytes) (sym (ap texts one_more ∙ texts_more so_far reply))
          (appends_more a b c (texts so_far) (reply_text reply) p.text v.sent.0);
      refused = ap some_no one_more ∙ some_no_more so_far reply
          ∙ ap (λ (t : Bool). t || is_no reply) p.refused
          ∙ ap (λ (t : Bool). some || t) (sym (not_not (is_no reply) fine v.sent.1))
          ∙ sym n;
    }

-- ---- lines that were served, in a run of them and of more

may_later : (told : Bool) (world : World) (ls more : List (List ℕ)) (ms : List Mark) → length ms ≤ length ls → may_all_have told world (ls ++ more) ms ≡ may_all_have told world ls ms
may_later told world [] more [] h = may_no_marks told world more
may_later told world [] more (m ∷ ms) h = absurd (omega arith)
may_later told world (l ∷ ls) more [] h = refl
may_later told world (l ∷ ls) more (m ∷ ms) h = ap (λ (b : Bool). may_have told world l m && b) (may_later told (answer world l m).world ls more ms (omega arith))

leaves_later : (kinds : List Measure) (ls more : List (List ℕ)) (ms : List Mark) (s t : Around) → length ms ≤ length ls → LeavesAround kinds ls ms s t → LeavesAround kinds (ls ++ more) ms s t
leaves_later kinds ls more ms s t h v =
    let same = run_later (first_world kinds s) ls more ms h in
    record {
      allowed = may_later (is_some s.files) (first_world kinds s) ls more ms h ∙ v.allowed;
      told = v.told;
      files = subst (λ (w : World). AreFiles t.files w.files) (sym same.1) v.files;
      faults = subst (λ (rs : List Reply). Counts is_no_shelf rs s.faults t.faults) (sym same.0) v.faults;
      misses = subst (λ (rs : List Reply). Counts is_no_missing rs s.misses t.misses) (sym same.0) v.misses;
      steps = adds_later (is_some s.files) (first_world kinds s) ls more ms s.steps t.steps h v.steps;
    }

-- as many marks as lines, where all of them were answered
pub each_marked : (kinds : List Measure) (ls : List (List ℕ)) (scene : Scene) (a b : Option (List ℕ)) (some : Bool) (first s : Around) (p : Progress kinds ls [] scene a b some first s) → length p.marks ≡ length ls
each_marked kinds ls scene a b some first s p = omega (arith, p.most, ap length p.left, length-drop (length p.marks) ls)

-- where all of them were answered, they are the front of a longer run
progress_open : (kinds : List Measure) (ls more : List (List ℕ)) (scene : Scene) (a b : Option (List ℕ)) (some : Bool) (first s : Around) → Progress kinds ls [] scene a b some first s → Progress kinds (ls ++ more) more scene a b some first s
progress_open kinds ls more scene a b some first s p =
    let same = run_later (first_world kinds first) ls more p.marks p.most in
    let all = each_marked kinds ls scene a b some first s p in
    record {
      marks = p.marks;
      most = omega (arith, p.most, length-append ls more);
      left = ap (λ (k : ℕ). drop k (ls ++ more)) all ∙ drop-append_seam ls more;
      reached = p.reached ∙ ap (λ (w : World). w.scene) (sym same.1);
      around = leaves_later kinds ls more p.marks first s p.most p.around;
      text = subst (λ (rs : List Reply). Appends a b (texts rs)) (sym same.0) p.text;
      refused = ap some_no same.0 ∙ p.refused;
    }

pub or_false : (b c : Bool) → c ≡ false → b || c ≡ b
or_false true c e = refl
or_false false c e = e

-- and those that were served after them are answered too
pub served_progress : (kinds : List Measure) (done ls : List (List ℕ)) (before some : Bool) (s t : State) (a : Option (List ℕ)) (first : Around) → Progress kinds done [] s.scene a s.written before first s.around
    → Served ls some s t → Progress kinds (done ++ ls) [] t.scene a t.written (before || some) first t.around
served_progress kinds done [] before some s t a first p v =
    subst (λ (x : State). Progress kinds (done ++ []) [] x.scene a x.written (before || some) first x.around) (sym v.0)
    (subst (λ (b : Bool). Progress kinds (done ++ []) [] s.scene a s.written b first s.around) (sym (or_false before some v.1))
    (subst (λ (ls : List (List ℕ)). Progress kinds ls [] s.scene a s.written before first s.around) (sym (append-nil done)) p))
served_progress kinds done (line ∷ more) before some s t a first p v =
    let between = v.0 in
    let fine = v.1 in
    let later = v.2 in
    let step : Progress kinds (done ++ line ∷ []) [] between.scene a between.written (before || not fine) first between.around =
    progress_more kinds (done ++ line ∷ []) (line ∷ []) line [] s.scene between.scene a s.written between.written before fine (before || not fine) first s.around between.around
    (progress_open kinds done (line ∷ []) s.scene a s.written before first s.around p) refl v.3 refl in
    subst (λ (ls : List (List ℕ)). Progress kinds ls [] t.scene a t.written (before || some) first t.around) (append_assoc done (line ∷ []) more)
    (subst (λ (b : Bool). Progress kinds ((done ++ line ∷ []) ++ more) [] t.scene a t.written b first t.around)
    (or_assoc before (not fine) later ∙ ap (λ (b : Bool). before || b) (sym v.5))
    (served_progress kinds (done ++ line ∷ []) more (before || not fine) later between t a first step v.4))

-- all of them were answered
pub answers_of : (kinds : List Measure) (ls : List (List ℕ)) (scene : Scene) (a b : Option (List ℕ)) (some : Bool) (first s : Around) (p : Progress kinds ls [] scene a b some first s)
    → Answers kinds ls (texts (run (first_world kinds first) ls p.marks)) some first s
answers_of kinds ls scene a b some first s p = record {
  marks = p.marks;
  each = each_marked kinds ls scene a b some first s p;
  around = p.around;
  text = refl;
  refused = p.refused;
}

-- the sink failed at a line, and so many before it were answered
pub record CutsAt (kinds : List Measure) (ls : List (List ℕ)) (count : ℕ) (before now : Option (List ℕ)) (first t : Around) : Type 0 where
  pub gained : List ℕ
  pub appended : Appends before now gained
  pub begins : Begins kinds ls gained first t
  pub counted : length begins.marks ≡ count

-- the sink failed at the next line
pub progress_cut : (kinds : List Measure) (ls : List (List ℕ)) (line : List ℕ) (after : List (List ℕ)) (old new : Scene) (a b c : Option (List ℕ)) (some : Bool) (f : Failed) (first s t : Around)
    → Progress kinds ls [] old a b some first s → Serves (Err f) old new b c line s t → CutsAt kinds (ls ++ line ∷ after) (length ls) a c first t
unfolding progress_open
progress_cut kinds ls line after old new a b c some f first s t all v =
    let p = progress_open kinds ls (line ∷ after) old a b some first s all in
    let longer = ls ++ line ∷ after in
    let text = reply_text (answer (world_of old s.files) line v.mark).reply in
    let so_far = texts (run (first_world kinds first) longer p.marks) in
    let n = v.sent.0 in
    record {
      gained = so_far ++ take n text;
      appended = appends_more a b c so_far (take n text) p.text v.sent.2;
      begins = record {
        marks = p.marks;
        mark = v.mark;
        line = line;
        later = after;
        here = p.left;
        around = leaves_there kinds longer (line ∷ after) line after old new a b c some first s t (Err f) p refl v;
        front = take n text;
        rest = drop n text;
        more = omega (arith, v.sent.1, length-drop n text);
        cut = take-append-drop n text ∙ ap reply_text (alike_here kinds longer (line ∷ after) line after old new a b c some first s t (Err f) p refl v).reply;
        text = refl;
      };
      counted = each_marked kinds ls old a b some first s all;
    }
