-- Lines that were served one after another, and lines that are too long to tell apart.
use Rattle.std.proofs.Common.{◌≡◌, ℕ, ◌-◌, ◌<◌, ◌≤◌, Bool, true, false, not, ◌&&◌, ◌||◌, nat_eq, if◌then◌else◌, List, [], ◌∷◌, ◌++◌, length, take, slice_index, refl, sym, ◌∙◌, ap, subst, arith, is_some, Result, Ok, Err, inl, inr, lt-ltb}
use Rattle.std.proofs.Math.Bool.{or_assoc}
use Rattle.std.proofs.lemmas.List.{length-append, length-take, append-nil}
use Rattle.evm_outside.specs.declared.Failed.{Failed}
use Rattle.evm_model.specs.Runs.{World, Mark, Plain, NoMemory, NoShelf, Fetched, Answer, answer, may_have, fetched_from, turned}
use Rattle.evm_model.specs.Steps.{step, line_turn, fetches, asks, of_line, command_fetches, command_asks}
use Rattle.evm_script.specs.Line.{command, command_of_words}
use Rattle.evm_script.specs.Words.{line_max}
use Rattle.evm_script.specs.declared.command.Command.{Command}
use Rattle.evm_script.specs.declared.command.LineError.{LineError}
use Rattle.evm_script.specs.declared.command.LineError.TheVariants.{Long}
use Rattle.evm_session.specs.Answers.{world_of, AreFiles}
use Rattle.evm_text.specs.Lines.{without_cr, last_line}
use Rattle.evm_text.specs.Words.{words}
use Rattle.evm_tool.specs.Served.{State, ServesFrom, Served, Sends, FaultsOver, MissesOver, KeepsOf}
use Rattle.evm_tool.specs.Streams.{line_kept}
use Rattle.evm_tool.proofs.LineSteps.{adds_same}
use Rattle.evm_tool.proofs.Served.{or_false}

-- ---- one after another

pub served_append : (ls ks : List (List ℕ)) (x y z : Bool) (s m t : State) → Served ls x s m → Served ks y m t → z ≡ x || y → Served (ls ++ ks) z s t
served_append [] ks x y z s m t v w e =
    subst (λ (q : State). Served ks z q t) v.0
    (subst (λ (b : Bool). Served ks b m t) (sym (e ∙ ap (λ (b : Bool). b || y) v.1)) w)
served_append (l ∷ ls) ks x y z s m t v w e = (
  v.0,
  v.1,
  v.2 || y,
  v.3,
  served_append ls ks v.2 y (v.2 || y) v.0 m t v.4 w refl,
  e ∙ ap (λ (b : Bool). b || y) v.5 ∙ or_assoc (not v.1) v.2 y,
)

served_one : (line : List ℕ) (fine : Bool) (s t : State) → ServesFrom (Ok fine) line s t → Served (line ∷ []) (not fine) s t
served_one line fine s t v = (t, fine, false, v, (refl, refl), sym (or_false (not fine) false refl))

pub served_more : (ls : List (List ℕ)) (line : List ℕ) (x fine z : Bool) (s m t : State) → Served ls x s m → ServesFrom (Ok fine) line m t → z ≡ x || not fine → Served (ls ++ line ∷ []) z s t
served_more ls line x fine z s m t v w e = served_append ls (line ∷ []) x (not fine) z s m t v (served_one line fine m t w) e

-- ---- lines with one command

long_without_cr : (line : List ℕ) → line_kept ≤ length line → line_max < length (without_cr line)
long_without_cr line h = by_test (nat_eq (slice_index line (length line - 1)) 13)
  where
    by_test : (b : Bool) → line_max < length (if b then take (length line - 1) line else line)
    by_test true = omega (arith, h, length-take (length line - 1) line)
    by_test false = omega (arith, h)

long_command : (line : List ℕ) → line_kept ≤ length line → command line ≡ Err Long
unfolding command
long_command line h =
    ap (λ (b : Bool). if b then Err Long else command_of_words (words (without_cr line)))
    (lt-ltb line_max (length (without_cr line)) (long_without_cr line h))

answer_same : (w : World) (l k : List ℕ) (m : Mark) → command l ≡ command k → answer w l m ≡ answer w k m
unfolding step
answer_same w l k Plain e = ap (λ (c : Result Command LineError). turned w.files (line_turn (fetched_from w.files) w.scene c)) e
answer_same w l k NoMemory e = refl
answer_same w l k NoShelf e = refl
answer_same w l k (Fetched got) e = ap (λ (c : Result Command LineError). turned w.files (line_turn (λ name. got) w.scene c)) e

may_same : (told : Bool) (w : World) (l k : List ℕ) (m : Mark) → command l ≡ command k → may_have told w l m ≡ may_have told w k m
unfolding fetches asks
may_same told w l k Plain e = ap (λ (c : Result Command LineError). told || not (of_line (command_fetches w.scene) c)) e
may_same told w l k NoMemory e = refl
may_same told w l k NoShelf e = ap (λ (c : Result Command LineError). of_line (command_asks w.scene) c) e
may_same told w l k (Fetched got) e = ap (λ (c : Result Command LineError). not told && of_line (command_fetches w.scene) c) e

-- so they are served the same
pub serves_same : (r : Result Bool Failed) (l k : List ℕ) (s t : State) → command l ≡ command k → ServesFrom r l s t → ServesFrom r k s t
serves_same r l k s t e v =
    let here = world_of s.scene s.around.files in
    let same = answer_same here l k v.mark e in
    record {
      mark = v.mark;
      allowed = sym (may_same _ here l k v.mark e) ∙ v.allowed;
      scene = v.scene ∙ ap (λ (a : Answer). a.world.scene) same;
      sent = subst (λ (a : Answer). Sends r s.written t.written a.reply) same v.sent;
      told = v.told;
      files = subst (λ (a : Answer). AreFiles t.around.files a.world.files) same v.files;
      faults = subst (λ (a : Answer). FaultsOver a.reply s.around.faults t.around.faults) same v.faults;
      misses = subst (λ (a : Answer). MissesOver a.reply s.around.misses t.around.misses) same v.misses;
      steps = adds_same (is_some s.around.files) here l k v.mark s.around.steps t.around.steps e v.steps;
    }

-- what is kept of a line goes on to a line with its command
pub same_kept : (kept line tail : List ℕ) → KeepsOf kept line → command (kept ++ tail) ≡ command (line ++ tail)
same_kept kept line tail (inl e) = ap (λ (t : List ℕ). command (t ++ tail)) e
same_kept kept line tail (inr long) =
    long_command (kept ++ tail) (omega (arith, long.0, length-append kept tail))
    ∙ sym (long_command (line ++ tail) (omega (arith, long.1, length-append line tail)))

pub command_kept : (kept line : List ℕ) → KeepsOf kept line → command kept ≡ command line
command_kept kept line k = ap command (sym (append-nil kept)) ∙ same_kept kept line [] k ∙ ap command (append-nil line)

pub one_line : (line : List ℕ) → 0 < length line → last_line line ≡ line ∷ []
one_line [] h = absurd (omega arith)
one_line (b ∷ bs) h = refl

-- and is served as the last line for it
pub last_same : (kept line : List ℕ) (some : Bool) (s t : State) → KeepsOf kept line → Served (last_line kept) some s t → Served (last_line line) some s t
last_same kept line some s t (inl e) v = subst (λ (l : List ℕ). Served (last_line l) some s t) e v
last_same kept line some s t (inr long) v =
    let own : Served (kept ∷ []) some s t = subst (λ (ls : List (List ℕ)). Served ls some s t) (one_line kept (omega (arith, long.0))) v in
    subst (λ (ls : List (List ℕ)). Served ls some s t) (sym (one_line line (omega (arith, long.1))))
    (own.0, own.1, own.2, serves_same (Ok own.1) kept line s own.0 (command_kept kept line (inr long)) own.3, own.4, own.5)
