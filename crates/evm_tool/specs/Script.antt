-- What reading a script in pieces and answering its lines as they come leaves, over a state.
use Rattle.std.specs.Prelude.{ℕ, ◌≡◌, ◌+◌, ◌<◌, ◌≤◌, ◌⊎◌, Bool, true, false, ◌||◌, List, [], ◌∷◌, ◌++◌, length, take, Option, Result, Ok, Err}
use Rattle.std.specs.Io.KnownBytes.{Consumes, Keeps, IsAtEnd}
use Rattle.evm_outside.specs.declared.Failed.{Failed}
use Rattle.evm_text.specs.Lines.{lines, last_line}
use Rattle.evm_tool.specs.EndedLines.{ended_lines}
use Rattle.evm_tool.specs.Served.{State, Served, ServesFrom}
use Rattle.evm_tool.specs.Streams.{script_limit, piece_max}
use Rattle.evm_tool.specs.Top.{TakesAll}
use Rattle.evm_tool.specs.declared.top.Status.{Status}
use Rattle.evm_tool.specs.declared.top.Status.TheVariants.{Done, Refused, Words, ReadFault, WriteFault, NoMemory, TooLong}

-- a read put bytes behind those that are kept, none only at the end
abbrev pub ReadsBehind : Result ℕ Failed → ℕ → ℕ → Option (List ℕ) → Option (List ℕ) → List ℕ → List ℕ → Type 0
ReadsBehind (Ok count) kept want left left_now old new =
    (got : List ℕ) × Consumes left left_now got × (length got ≡ count) × (count ≤ want)
    × (take (kept + count) new ≡ take kept old ++ got) × (count ≡ 0 → IsAtEnd left_now)
ReadsBehind (Err failed) kept want left left_now old new = Keeps left left_now

-- the last line was served, if there is one, and some reply refused by now or none did; or the sink failed at it
abbrev pub ServesLast : Status → List ℕ → Bool → State → State → Type 0
ServesLast Done line refused old new = (some : Bool) × Served (last_line line) some old new × (refused || some ≡ false)
ServesLast Refused line refused old new = (some : Bool) × Served (last_line line) some old new × (refused || some ≡ true)
ServesLast Words line refused old new = ⊥
ServesLast ReadFault line refused old new = ⊥
ServesLast WriteFault line refused old new = (failed : Failed) × (0 < length line) × ServesFrom (Err failed) line old new
ServesLast NoMemory line refused old new = ⊥
ServesLast TooLong line refused old new = ⊥

-- the sink failed at the reply to one of the lines, and those before it were served
pub record StopsIn (left_now : Option (List ℕ)) (taken : List ℕ) (old new : State) : Type 0 where
  pub ls : List (List ℕ)
  pub line : List ℕ
  pub later : List (List ℕ)
  pub here : lines taken ≡ ls ++ line ∷ later
  pub some : Bool
  pub between : State
  pub served : Served ls some old between
  pub failed : Failed
  pub last : ServesFrom (Err failed) line between new
  pub upto : List ℕ
  pub after : List ℕ
  pub whole : taken ≡ upto ++ after
  pub to_here : lines upto ≡ ls ++ line ∷ []
  pub ended : (ended_lines upto ≡ lines upto) ⊎ ((after ≡ []) × IsAtEnd left_now)
  pub near : length after ≤ piece_max

-- how a script was answered, by the bytes that were taken
abbrev pub Answered : Status → Option (List ℕ) → Option (List ℕ) → State → State → Type 0
Answered Done left left_now old new = (taken : List ℕ) × TakesAll left left_now taken × Served (lines taken) false old new
Answered Refused left left_now old new = (taken : List ℕ) × TakesAll left left_now taken × Served (lines taken) true old new
Answered Words left left_now old new = ⊥
Answered ReadFault left left_now old new =
    (taken : List ℕ) × Consumes left left_now taken × (length taken ≤ script_limit)
    × ((some : Bool) × Served (ended_lines taken) some old new)
Answered WriteFault left left_now old new =
    (taken : List ℕ) × Consumes left left_now taken × (length taken ≤ script_limit) × StopsIn left_now taken old new
Answered NoMemory left left_now old new = ⊥
Answered TooLong left left_now old new =
    (taken : List ℕ) × Consumes left left_now taken × (length taken ≡ script_limit + 1)
    × ((some : Bool) × Served (ended_lines (take script_limit taken)) some old new)
