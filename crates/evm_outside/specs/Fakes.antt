-- What the contracts see of a source and a sink in memory, and what a call leaves of them.
use Rattle.std.specs.Prelude.{ℕ, ◌≡◌, ◌+◌, ◌-◌, ◌^◌, ◌<◌, ◌⊎◌, ◌++◌, min, List, length, take, drop, Contains, Result, Ok, Err}

-- a source in memory: what is left, the most bytes that a call gives, the numbers of the calls that fail,
-- the number of the next call, and how many failed
pub record Tape : Type 0 where
  pub left : List ℕ
  pub piece : ℕ
  pub failing : List ℕ
  pub calls : ℕ
  pub faults : ℕ

-- a sink in memory: what was written, the room that is left, and the same of its calls
pub record Page : Type 0 where
  pub written : List ℕ
  pub room : ℕ
  pub failing : List ℕ
  pub calls : ℕ
  pub faults : ℕ

-- one more, as far as a 64-bit counter goes
abbrev pub counted : ℕ → ℕ
counted n = min (n + 1) (2 ^ 64 - 1)

-- how many bytes the tape gives where there is space for so many
abbrev pub share_of : Tape → ℕ → ℕ
share_of tape space = min (min (length tape.left) tape.piece) space

-- how many bytes of a piece of this length fit on the page
abbrev pub fit_of : Page → ℕ → ℕ
fit_of page len = min len page.room

-- the tape after a call: it loses what it gave, or one more call failed
abbrev pub tape_after : {E : Type 0} → Tape → Result ℕ E → Tape
tape_after tape (Ok n) = record tape { left = drop n tape.left; calls = counted tape.calls }
tape_after tape (Err e) = record tape { calls = counted tape.calls; faults = counted tape.faults }

-- the page after a call: it gains what it took of the piece and has so much less room, or one more call failed
abbrev pub page_after : {E : Type 0} → Page → Result ℕ E → List ℕ → Page
page_after page (Ok n) piece = record page { written = page.written ++ take n piece; room = page.room - n; calls = counted page.calls }
page_after page (Err e) piece = record page { calls = counted page.calls; faults = counted page.faults }

-- a call of the sink with this piece fails: its number is one of those, or there is no room
abbrev pub Refuses : Page → List ℕ → Type 0
Refuses page piece = Contains page.failing page.calls ⊎ ((0 < length piece) × (page.room ≡ 0))
