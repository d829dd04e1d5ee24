-- How the answered lines of a generated script grow by one, and what they give at the end.
use Rattle.std.proofs.Common.{◌≡◌, ℕ, ◌+◌, ◌<◌, ◌≤◌, Bool, true, false, not, ◌&&◌, ◌||◌, cond, if◌then◌else◌, nat_lt, List, [], ◌∷◌, ◌++◌, length, drop, codes, refl, sym, ◌∙◌, ap, subst, arith, Option, Some, decimal, Ok, lt-ltb}
use Rattle.std.specs.FinMap as finite
use Rattle.std.specs.List.{list_all}
use Rattle.std.proofs.lemmas.Bool.{false≢true, ltb-false, ltb-true}
use Rattle.std.proofs.lemmas.List.{drop-append-le, length-append, length-drop}
use Rattle.std.proofs.lemmas.List.Folds.{list_all-append}
use Rattle.std.proofs.lemmas.List.Sums.{sum_by-cons}
use Rattle.std.proofs.Math.ListN.{drop_of_length-le}
use Rattle.std.proofs.Math.Seq.{drop-nil}
use Rattle.evm_generator.specs.Laws.{IsSoLong}
use Rattle.evm_generator.specs.Lines.{Gives, lines_left}
use Rattle.evm_generator.specs.declared.generator.Generator.{Generator}
use Rattle.evm_generator.specs.Script.{generated_lines}
use Rattle.evm_model.specs.Scene.{Scene, start}
use Rattle.evm_model.specs.Replies.{Reply, reply_text, is_no, line_of}
use Rattle.evm_model.specs.Runs.{World, Mark, Plain, NoMemory, NoShelf, Fetched, answer, may_have, texts, some_no, world_after}
use Rattle.evm_model.specs.LineWork.{Adds}
use Rattle.evm_model.proofs.RunLaws.{run_more, world_more, texts_more, drop_more, run_no_marks, after_no_marks}
use Rattle.evm_outside.specs.Shelves.{Files}
use Rattle.evm_session.specs.Answers.{IsAnswered, IsAsBefore, Around, around, FaultsBy}
use Rattle.evm_tool.specs.Generated.{own_world, is_own, replies_of, fine_in, refused_in, summary_by, Replies, IsCounted, SoFar, Sums, StopsEarly, Summed, Generates, RefusalsAreLacks, NoneRefusedWithMemory}
use Rattle.evm_tool.specs.Streams.{AppendsPart}
use Rattle.evm_tool.specs.declared.top.Status.{Status}
use Rattle.evm_tool.specs.declared.top.Status.TheVariants.{Done, Refused, WriteFault}
use Rattle.std.specs.Io.KnownBytes.{Appends}
use Rattle.evm_tool.proofs.Counts.{count_more}
use Rattle.evm_tool.proofs.LineSteps.{adds_none, adds_more}

-- ---- one line

-- a shelf without files that never fails, and a count of steps
abbrev pub without_files : ℕ → Around
without_files steps = around (Some finite.empty) 0 0 steps

-- so the mark of a line is one of those that lines without files have
own_mark : (m : Mark) (scene : Scene) (line : List ℕ) → may_have true (own_world scene) line m ≡ true → FaultsBy m 0 0 → is_own m ≡ true
own_mark Plain scene line h k = refl
own_mark NoMemory scene line h k = refl
own_mark NoShelf scene line h k = absurd (omega (arith, k.1.0))
own_mark (Fetched got) scene line h k = absurd (false≢true h)

pub replied : (line gone text : List ℕ) (old new : Scene) (fine : Bool) (before now : ℕ) → gone ≡ [] → IsAnswered line old new gone text fine (without_files before) (without_files now) → Replies line old new text fine before now
replied line gone text old new fine before now g a = record {
  mark = a.mark;
  own = own_mark a.mark old line a.allowed a.faults;
  sent = a.text ∙ ap (λ (front : List ℕ). front ++ reply_text (answer (own_world old) line a.mark).reply) g;
  kind = a.refused;
  world =
      ap (λ (s : Scene). record { scene = s; files = finite.empty }) a.scene
      ∙ ap (λ (f : Files). record { scene = (answer (own_world old) line a.mark).world.scene; files = f }) a.files;
  steps = a.steps;
}

pub lacked : (line gone text now : List ℕ) (old new : Scene) (steps steps_now : ℕ) → gone ≡ [] → IsAsBefore line old new gone text (without_files steps) (without_files steps_now) → now ≡ text ++ (codes "no memory" ++ 10 ∷ []) → Replies line old new now false steps steps_now
unfolding reply_text
lacked line gone text now old new steps steps_now g a e = record {
  mark = NoMemory;
  own = refl;
  sent = e ∙ ap (λ (front : List ℕ). front ++ (codes "no memory" ++ 10 ∷ [])) (a.text ∙ g);
  kind = refl;
  world = ap own_world a.scene;
  steps = a.steps;
}

-- ---- all lines so far

pub nothing_yet : (seed edits : ℕ) (left : List (List ℕ)) (scene : Scene) (last : List ℕ) (steps : ℕ) → left ≡ generated_lines seed edits → scene ≡ start → last ≡ [] → SoFar seed edits left scene 0 0 last steps steps
nothing_yet seed edits left scene last steps e s l =
    let none = run_no_marks (own_world start) (generated_lines seed edits) in
    record {
      marks = [];
      here = sym e;
      most = omega arith;
      own = refl;
      reached = ap own_world s ∙ sym (after_no_marks (own_world start) (generated_lines seed edits));
      each = ap (length {A = Reply}) none;
      sum = refl;
      fines = ap fine_in (sym none);
      refusals = ap refused_in (sym none);
      kept = l ∙ sym (ap (λ (rs : List Reply). texts (drop (edits + 8) rs)) none ∙ ap texts (drop-nil {A = Reply} (edits + 8)));
      steps = adds_none true (own_world start) (generated_lines seed edits) steps steps (omega arith);
    }

further_sum : (fine : Bool) (f r f2 r2 n : ℕ) → f2 ≡ (if fine then f + 1 else f) → r2 ≡ (if fine then r else r + 1) → f + r ≡ n → f2 + r2 ≡ n + 1
further_sum true f r f2 r2 n a b c = omega (arith, a, b, c)
further_sum false f r f2 r2 n a b c = omega (arith, a, b, c)

further_fine : (fine no : Bool) (f f2 n : ℕ) → fine ≡ not no → f2 ≡ (if fine then f + 1 else f) → f ≡ n → f2 ≡ n + cond (not no) 1 0
further_fine true true f f2 n e a b = absurd (false≢true (sym e))
further_fine true false f f2 n e a b = omega (arith, a, b)
further_fine false true f f2 n e a b = omega (arith, a, b)
further_fine false false f f2 n e a b = absurd (false≢true e)

further_refused : (fine no : Bool) (r r2 n : ℕ) → fine ≡ not no → r2 ≡ (if fine then r else r + 1) → r ≡ n → r2 ≡ n + cond no 1 0
further_refused true true r r2 n e a b = absurd (false≢true (sym e))
further_refused true false r r2 n e a b = omega (arith, a, b)
further_refused false true r r2 n e a b = omega (arith, a, b)
further_refused false false r r2 n e a b = absurd (false≢true e)

further_kept : (passed : ℕ) (rs : List Reply) (r : Reply) (n : ℕ) (last last2 text : List ℕ) (b : Bool) → nat_lt n passed ≡ b → n ≡ length rs → text ≡ reply_text r → last2 ≡ (if b then last else last ++ text) → last ≡ texts (drop passed rs)
    → last2 ≡ texts (drop passed (rs ++ r ∷ []))
further_kept passed rs r n last last2 text true t e g a h =
    let few : n < passed = ltb-true n passed t in
    a ∙ h ∙ ap texts (drop_of_length-le rs (omega (arith, few, e)))
    ∙ ap texts (sym (drop_of_length-le (rs ++ r ∷ []) (omega (arith, few, e, length-append rs (r ∷ [])))))
further_kept passed rs r n last last2 text false t e g a h =
    let many : passed ≤ length rs = omega (arith, ltb-false n passed t, e) in
    a ∙ ap (λ (x : List ℕ). x ++ text) h ∙ ap (λ (x : List ℕ). texts (drop passed rs) ++ x) g
    ∙ sym (texts_more (drop passed rs) r)
    ∙ sym (ap texts (drop-append-le passed rs (r ∷ []) many))

own_more : (ms : List Mark) (m : Mark) → list_all is_own ms ≡ true → is_own m ≡ true → list_all is_own (ms ++ m ∷ []) ≡ true
own_more ms m all own = list_all-append is_own ms (m ∷ []) ∙ ap (λ (b : Bool). b && list_all is_own (m ∷ [])) all ∙ ap (λ (b : Bool). b && true) own

pub so_far_more : (seed edits passed : ℕ) (line : List ℕ) (left : List (List ℕ)) (old new : Scene) (text : List ℕ) (fine : Bool) (f r f2 r2 : ℕ) (last last2 : List ℕ) (before between now : ℕ) → passed ≡ edits + 8
    → SoFar seed edits (line ∷ left) old f r last before between → Replies line old new text fine between now → IsCounted fine text passed f f2 r r2 last last2 → SoFar seed edits left new f2 r2 last2 before now
so_far_more seed edits passed line left old new text fine f r f2 r2 last last2 before between now p s v k =
    let first = own_world start in
    let ls = generated_lines seed edits in
    let rs = replies_of seed edits s.marks in
    let reply = (answer (world_after first ls s.marks) line v.mark).reply in
    let same : (answer (own_world old) line v.mark).reply ≡ reply = ap (λ (w : World). (answer w line v.mark).reply) s.reached in
    let grown : replies_of seed edits (s.marks ++ v.mark ∷ []) ≡ rs ++ reply ∷ [] = run_more first ls s.marks line left v.mark s.here in
    let longer : length (s.marks ++ v.mark ∷ []) ≡ length s.marks + 1 = length-append s.marks (v.mark ∷ []) in
    let counted : f + r ≡ length rs = s.sum ∙ sym s.each in
    let kind : fine ≡ not (is_no reply) = v.kind ∙ ap (λ (x : Reply). not (is_no x)) same in
    record {
      marks = s.marks ++ v.mark ∷ [];
      here = ap (λ (n : ℕ). drop n ls) longer ∙ drop_more ls (length s.marks) line left s.here;
      most = omega (arith, longer, ap (length {A = List ℕ}) s.here, length-drop (length s.marks) ls);
      own = own_more s.marks v.mark s.own v.own;
      reached = v.world ∙ ap (λ (w : World). (answer w line v.mark).world) s.reached ∙ sym (world_more first ls s.marks line left v.mark s.here);
      each = ap (length {A = Reply}) grown ∙ length-append rs (reply ∷ []) ∙ ap (λ (n : ℕ). n + 1) s.each ∙ sym longer;
      sum = further_sum fine f r f2 r2 (length s.marks) k.fines k.refusals s.sum ∙ sym longer;
      fines = further_fine fine (is_no reply) f f2 (fine_in rs) kind k.fines s.fines ∙ sym (count_more (λ x. not (is_no x)) rs reply) ∙ ap fine_in (sym grown);
      refusals = further_refused fine (is_no reply) r r2 (refused_in rs) kind k.refusals s.refusals ∙ sym (count_more is_no rs reply) ∙ ap refused_in (sym grown);
      kept =
          further_kept (edits + 8) rs reply (f + r) last last2 text (nat_lt (f + r) (edits + 8)) refl counted (v.sent ∙ ap reply_text same)
          (k.kept ∙ ap (λ (n : ℕ). if nat_lt (f + r) n then last else last ++ text) p) s.kept
          ∙ sym (ap (λ (x : List Reply). texts (drop (edits + 8) x)) grown);
      steps = adds_more true first ls s.marks line left v.mark before between now s.here s.steps (subst (λ (w : World). Adds true w line v.mark between now) s.reached v.steps);
    }

-- ---- want of memory

-- at a line, which was not answered, or whose reply was not kept
pub stops_at_line : (seed edits : ℕ) (line : List ℕ) (left : List (List ℕ)) (scene : Scene) (m : Mark) (f r : ℕ) (last : List ℕ) (before between now : ℕ) → is_own m ≡ true
    → SoFar seed edits (line ∷ left) scene f r last before between → Adds true (own_world scene) line m between now → StopsEarly seed edits before now
stops_at_line seed edits line left scene m f r last before between now o s a = record {
  marks = s.marks ++ m ∷ [];
  own = own_more s.marks m s.own o;
  steps = adds_more true (own_world start) (generated_lines seed edits) s.marks line left m before between now s.here s.steps (subst (λ (w : World). Adds true w line m between now) s.reached a);
}

-- ---- all lines

some_more : (no some : Bool) (n m : ℕ) → some ≡ nat_lt 0 n → m ≡ cond no 1 0 + n → (no || some) ≡ nat_lt 0 m
some_more true some n m e g = sym (lt-ltb 0 m (omega (arith, g)))
some_more false some n m e g =
    let same : n ≡ m = omega (arith, g) in
    e ∙ ap (nat_lt 0) same

some_counted : (rs : List Reply) → some_no rs ≡ nat_lt 0 (refused_in rs)
some_counted [] = refl
some_counted (r ∷ rs) =
    let one : Reply → ℕ = λ x. cond (is_no x) 1 0 in
    some_more (is_no r) (some_no rs) (refused_in rs) (refused_in (r ∷ rs)) (some_counted rs) (sum_by-cons one r rs)

pub sums_of : (seed edits : ℕ) (left : List (List ℕ)) (scene : Scene) (f r : ℕ) (last : List ℕ) (before now : ℕ) → IsSoLong → left ≡ [] → SoFar seed edits left scene f r last before now → Sums seed edits f r last before now
sums_of seed edits left scene f r last before now law e s =
    let ls = generated_lines seed edits in
    let rs = replies_of seed edits s.marks in
    let all : length s.marks ≡ edits + 14 = omega (arith, s.most, law seed edits, length-drop (length s.marks) ls, ap (length {A = List ℕ}) (s.here ∙ e)) in
    record {
      marks = s.marks;
      each = all;
      own = s.own;
      few = s.sum ∙ all;
      text =
          ap (λ (n : ℕ). line_of (codes "lines " ++ decimal n) ++ line_of (codes "ok " ++ decimal f) ++ line_of (codes "no " ++ decimal r) ++ last) (s.sum ∙ sym s.each)
          ∙ ap (λ (n : ℕ). line_of (codes "lines " ++ decimal (length rs)) ++ line_of (codes "ok " ++ decimal n) ++ line_of (codes "no " ++ decimal r) ++ last) s.fines
          ∙ ap (λ (n : ℕ). line_of (codes "lines " ++ decimal (length rs)) ++ line_of (codes "ok " ++ decimal (fine_in rs)) ++ line_of (codes "no " ++ decimal n) ++ last) s.refusals
          ∙ ap (λ (t : List ℕ). line_of (codes "lines " ++ decimal (length rs)) ++ line_of (codes "ok " ++ decimal (fine_in rs)) ++ line_of (codes "no " ++ decimal (refused_in rs)) ++ t) s.kept;
      some = some_counted rs ∙ ap (nat_lt 0) (sym s.refusals);
      lines = s.each ∙ all;
      all = ap (λ (n : ℕ). n + refused_in rs) (sym s.fines) ∙ ap (λ (n : ℕ). f + n) (sym s.refusals) ∙ s.sum ∙ all;
      steps = s.steps;
    }

-- the line that was given
given_line : (E : Type 0) (b : Bool) (old new : Generator) (before now : List ℕ) → Gives {E = E} (Ok b) old new before now → b ≡ true → before ≡ [] → lines_left old ≡ now ∷ lines_left new
given_line E true old new before now g t e = g.1 ∙ ap (λ (l : List ℕ). l ∷ lines_left new) (sym (g.2 ∙ ap (λ (front : List ℕ). front ++ g.0) e))
given_line E false old new before now g t e = absurd (false≢true t)

-- so it is the first of those that are left
pub so_far_given : (E : Type 0) (b : Bool) (old new : Generator) (gone now line : List ℕ) (seed edits : ℕ) (scene : Scene) (f r : ℕ) (last : List ℕ) (steps steps_now : ℕ) → Gives {E = E} (Ok b) old new gone now → b ≡ true → gone ≡ [] → line ≡ now
    → SoFar seed edits (lines_left old) scene f r last steps steps_now → SoFar seed edits (line ∷ lines_left new) scene f r last steps steps_now
so_far_given E b old new gone now line seed edits scene f r last steps steps_now g t e i s =
    subst (λ (ls : List (List ℕ)). SoFar seed edits ls scene f r last steps steps_now) (given_line E b old new gone now g t e ∙ ap (λ (l : List ℕ). l ∷ lines_left new) (sym i)) s

-- none was left
pub no_line : (E : Type 0) (b : Bool) (old new : Generator) (before now : List ℕ) → Gives {E = E} (Ok b) old new before now → b ≡ false → lines_left old ≡ []
no_line E true old new before now g t = absurd (false≢true (sym t))
no_line E false old new before now g t = g.0

-- the summary was written, or a part of it
summed : RefusalsAreLacks → NoneRefusedWithMemory → (seed edits f r : ℕ) (last piece text : List ℕ) (some : Bool) (IsWritten : List ℕ → Type 0) (before now : ℕ) → Sums seed edits f r last before now → text ≡ summary_by f r last → piece ≡ text → nat_lt 0 r ≡ some → IsWritten piece → Summed seed edits some IsWritten before now
summed just lacking seed edits f r last piece text some IsWritten before now s e g t h = record {
  marks = s.marks;
  each = s.each;
  own = s.own;
  lines = s.lines;
  all = s.all;
  refused = s.some ∙ t;
  lacking = sym (s.some ∙ t) ∙ lacking seed edits s.marks s.each s.own;
  just = just seed edits s.marks s.each s.own;
  written = subst IsWritten (g ∙ e ∙ s.text) h;
  steps = s.steps;
}

pub summary_sent : RefusalsAreLacks → NoneRefusedWithMemory → (seed edits f r : ℕ) (last piece text : List ℕ) (written written_now : Option (List ℕ)) (status : Status) (before now : ℕ)
    → Sums seed edits f r last before now → text ≡ summary_by f r last → piece ≡ text → Appends written written_now piece → status ≡ (if nat_lt 0 r then Refused else Done)
    → Generates status seed edits written written_now before now
summary_sent just lacking seed edits f r last piece text written written_now status before now s e g h t =
    subst (λ (x : Status). Generates x seed edits written written_now before now) (sym t) (by (nat_lt 0 r) refl)
  where
    by : (b : Bool) → nat_lt 0 r ≡ b → Generates (if b then Refused else Done) seed edits written written_now before now
    by true k = summed just lacking seed edits f r last piece text true (λ x. Appends written written_now x) before now s e g k h
    by false k = summed just lacking seed edits f r last piece text false (λ x. Appends written written_now x) before now s e g k h

pub summary_cut : RefusalsAreLacks → NoneRefusedWithMemory → (seed edits f r : ℕ) (last piece text : List ℕ) (written written_now : Option (List ℕ)) (before now : ℕ)
    → Sums seed edits f r last before now → text ≡ summary_by f r last → piece ≡ text → AppendsPart written written_now piece → Generates WriteFault seed edits written written_now before now
summary_cut just lacking seed edits f r last piece text written written_now before now s e g h =
    (nat_lt 0 r, summed just lacking seed edits f r last piece text (nat_lt 0 r) (λ x. AppendsPart written written_now x) before now s e g refl h)
