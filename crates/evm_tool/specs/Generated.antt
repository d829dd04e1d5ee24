-- What a generated script writes, by its replies.
use Rattle.std.specs.Prelude.{ℕ, ◌≡◌, ◌+◌, ◌≤◌, Bool, true, false, not, nat_lt, if◌then◌else◌, List, [], ◌++◌, length, drop, take, map, count_by, Option, Result, Ok, Err, codes, decimal}
use Rattle.std.specs.FinMap as finite
use Rattle.std.specs.Io.KnownBytes.{Appends}
use Rattle.std.specs.List.{list_all, list_any}
use Rattle.evm_generator.specs.Script.{generated_lines}
use Rattle.evm_model.specs.Scene.{Scene, start}
use Rattle.evm_model.specs.Replies.{Reply, reply_text, is_no, line_of}
use Rattle.evm_model.specs.Runs.{World, Mark, Plain, NoMemory, NoShelf, Fetched, answer, run, texts, some_no, world_after}
use Rattle.evm_model.specs.LineWork.{Adds, AddsAll}
use Rattle.evm_rows.specs.declared.solid.NoMemory.{NoMemory as Lack}
use Rattle.evm_tool.specs.Streams.{AppendsPart}
use Rattle.evm_tool.specs.declared.top.Status.{Status}
use Rattle.evm_tool.specs.declared.top.Status.TheVariants as ends

-- a scene without files
abbrev pub own_world : Scene → World
own_world scene = record { scene = scene; files = finite.empty }

-- a line was answered, or memory was missing
abbrev pub is_own : Mark → Bool
is_own Plain = true
is_own NoMemory = true
is_own NoShelf = false
is_own (Fetched got) = false

-- whether memory was missing at a line
abbrev pub lacks_memory : Mark → Bool
lacks_memory Plain = false
lacks_memory NoMemory = true
lacks_memory NoShelf = false
lacks_memory (Fetched got) = false

-- the replies to the lines of a generated script, from no names and no files
abbrev pub replies_of : ℕ → ℕ → List Mark → List Reply
replies_of seed edits marks = run (own_world start) (generated_lines seed edits) marks

-- where memory was there at each of the eight lines before the edits, just the lines are refused at which it was missing: with one
-- mark a line, the replies that refuse stand where the marks are want of memory
abbrev pub RefusalsAreLacks : Type 0
RefusalsAreLacks = (seed edits : ℕ) (marks : List Mark)
    → length marks ≡ edits + 14 → list_all is_own marks ≡ true
    → list_any lacks_memory (take 8 marks) ≡ false
    → map is_no (replies_of seed edits marks) ≡ map lacks_memory marks

-- some line is refused exactly where memory was missing at some line
abbrev pub NoneRefusedWithMemory : Type 0
NoneRefusedWithMemory = (seed edits : ℕ) (marks : List Mark)
    → length marks ≡ edits + 14 → list_all is_own marks ≡ true
    → some_no (replies_of seed edits marks) ≡ list_any lacks_memory marks

-- how many replies do not refuse, and how many do
abbrev pub fine_in : List Reply → ℕ
fine_in rs = count_by (λ r. not (is_no r)) rs

abbrev pub refused_in : List Reply → ℕ
refused_in rs = count_by is_no rs

-- the summary with these counts and these last replies
abbrev pub summary_by : ℕ → ℕ → List ℕ → List ℕ
summary_by fine refused last =
    line_of (codes "lines " ++ decimal (fine + refused)) ++ line_of (codes "ok " ++ decimal fine)
    ++ line_of (codes "no " ++ decimal refused) ++ last

-- the summary of the replies to a script with so many edits: its last six replies stand behind the counts
abbrev pub summary_of : ℕ → List Reply → List ℕ
summary_of edits rs =
    line_of (codes "lines " ++ decimal (length rs)) ++ line_of (codes "ok " ++ decimal (fine_in rs))
    ++ line_of (codes "no " ++ decimal (refused_in rs)) ++ texts (drop (edits + 8) rs)

-- what the lines of a generated script add to a count of steps, as far as there are marks
abbrev pub AddsGenerated : ℕ → ℕ → List Mark → ℕ → ℕ → Type 0
AddsGenerated seed edits marks before now = AddsAll true (own_world start) (generated_lines seed edits) marks before now

-- with a mark of its own, a line has this reply, the scene is that after it, and at most its work was added to the steps
pub record Replies (line : List ℕ) (old new : Scene) (text : List ℕ) (fine : Bool) (before now : ℕ) : Type 0 where
  pub mark : Mark
  pub own : is_own mark ≡ true
  pub sent : text ≡ reply_text (answer (own_world old) line mark).reply
  pub kind : fine ≡ not (is_no (answer (own_world old) line mark).reply)
  pub world : own_world new ≡ (answer (own_world old) line mark).world
  pub steps : Adds true (own_world old) line mark before now

-- the line was answered; or there was no memory for the reply that says that memory was missing
abbrev pub RepliesTo : Result Bool Lack → List ℕ → Scene → Scene → List ℕ → ℕ → ℕ → Type 0
RepliesTo (Ok fine) line old new text before now = Replies line old new text fine before now
RepliesTo (Err lack) line old new text before now = Adds true (own_world old) line NoMemory before now

-- one reply was counted, and kept where as many as are passed over came before
pub record IsCounted (fine : Bool) (reply : List ℕ)
    (passed fine_old fine_new refused_old refused_new : ℕ) (last_old last_new : List ℕ) : Type 0 where
  pub fines : fine_new ≡ (if fine then fine_old + 1 else fine_old)
  pub refusals : refused_new ≡ (if fine then refused_old else refused_old + 1)
  pub kept : last_new ≡ (if nat_lt (fine_old + refused_old) passed then last_old else last_old ++ reply)

-- the first lines of a script were answered, and these are left
pub record SoFar (seed edits : ℕ) (left : List (List ℕ)) (scene : Scene)
    (fine refused : ℕ) (last : List ℕ) (before now : ℕ) : Type 0 where
  pub marks : List Mark
  pub here : drop (length marks) (generated_lines seed edits) ≡ left
  pub most : length marks ≤ length (generated_lines seed edits)
  pub own : list_all is_own marks ≡ true
  pub reached : own_world scene ≡ world_after (own_world start) (generated_lines seed edits) marks
  pub each : length (replies_of seed edits marks) ≡ length marks
  pub sum : fine + refused ≡ length marks
  pub fines : fine ≡ fine_in (replies_of seed edits marks)
  pub refusals : refused ≡ refused_in (replies_of seed edits marks)
  pub kept : last ≡ texts (drop (edits + 8) (replies_of seed edits marks))
  pub steps : AddsGenerated seed edits marks before now

-- all lines were answered, with one mark each
pub record Sums (seed edits fine refused : ℕ) (last : List ℕ) (before now : ℕ) : Type 0 where
  pub marks : List Mark
  pub each : length marks ≡ edits + 14
  pub own : list_all is_own marks ≡ true
  pub few : fine + refused ≡ edits + 14
  pub text : summary_by fine refused last ≡ summary_of edits (replies_of seed edits marks)
  pub some : some_no (replies_of seed edits marks) ≡ nat_lt 0 refused
  pub lines : length (replies_of seed edits marks) ≡ edits + 14
  pub all : fine_in (replies_of seed edits marks)
      + refused_in (replies_of seed edits marks) ≡ edits + 14
  pub steps : AddsGenerated seed edits marks before now

-- for want of memory no summary was made: of some of the first lines each added at most its work to the steps
pub record StopsEarly (seed edits before now : ℕ) : Type 0 where
  pub marks : List Mark
  pub own : list_all is_own marks ≡ true
  pub steps : AddsGenerated seed edits marks before now

-- with one mark for each line, some reply refuses or none does, and this is so of the summary. There is a reply to each line. Some
-- reply refuses exactly where memory was missing at some line; and where it was there at the eight lines before the edits, just the
-- lines are refused at which it was missing. Each line added at most its work to the steps
pub record Summed (seed edits : ℕ) (some : Bool) (IsWritten : List ℕ → Type 0) (before now : ℕ) : Type 0 where
  pub marks : List Mark
  pub each : length marks ≡ edits + 14
  pub own : list_all is_own marks ≡ true
  pub lines : length (replies_of seed edits marks) ≡ edits + 14
  pub all : fine_in (replies_of seed edits marks)
      + refused_in (replies_of seed edits marks) ≡ edits + 14
  pub refused : some_no (replies_of seed edits marks) ≡ some
  pub lacking : some ≡ list_any lacks_memory marks
  pub just : list_any lacks_memory (take 8 marks) ≡ false
      → map is_no (replies_of seed edits marks) ≡ map lacks_memory marks
  pub written : IsWritten (summary_of edits (replies_of seed edits marks))
  pub steps : AddsGenerated seed edits marks before now

-- what is written of a generated script: the summary, a front of it and not all where the sink failed, or nothing for want of memory;
-- and what its lines added to the steps
abbrev pub Generates : Status → ℕ → ℕ → Option (List ℕ) → Option (List ℕ) → ℕ → ℕ → Type 0
Generates ends.Done seed edits written written_now before now =
    Summed seed edits false (λ text. Appends written written_now text) before now
Generates ends.Refused seed edits written written_now before now =
    Summed seed edits true (λ text. Appends written written_now text) before now
Generates ends.Words seed edits written written_now before now = ⊥
Generates ends.ReadFault seed edits written written_now before now = ⊥
Generates ends.WriteFault seed edits written written_now before now =
    (some : Bool) × Summed seed edits some (λ text. AppendsPart written written_now text) before now
Generates ends.NoMemory seed edits written written_now before now =
    Appends written written_now [] × StopsEarly seed edits before now
Generates ends.TooLong seed edits written written_now before now = ⊥
