-- Counts of faults, and what a call says of them.
use Rattle.std.specs.Prelude.{ℕ, ◌≡◌, ◌+◌, ◌-◌, ◌^◌, ◌<◌, ◌≤◌, min, max, OnOk, OnErr, Result, Ok, Err, IfOk, List, length, take, Option}
use Rattle.std.specs.Io.KnownBytes.{Appends}

-- the last value of a 64-bit counter
abbrev pub counter_last : ℕ
counter_last = 2 ^ 64 - 1

-- a count rose, or stands at just the last value of a 64-bit counter, which has no greater
abbrev pub Rose : ℕ → ℕ → Type 0
Rose before now = (min (before + 1) counter_last ≤ now) × (now ≤ counter_last)

-- a count rose and did not fall
abbrev pub Climbed : ℕ → ℕ → Type 0
Climbed before now = (before ≤ now) × Rose before now

-- a count stays, or rose as far as a 64-bit counter goes
abbrev pub MayClimb : ℕ → ℕ → Type 0
MayClimb before now = (before ≤ now) × (now ≤ max before counter_last)

-- what a call does to a count of faults: it never falls, it rose where the call failed, and else it stays
pub record HasCause {T E : Type 0} (before now : ℕ) (result : Result T E) : Type 0 where
  pub later : before ≤ now
  pub failed : OnErr result (Rose before now)
  pub kept : OnOk result (now ≡ before)

-- a number of bytes of a piece that were taken: one at least where the piece is not empty
abbrev pub TakesSome : {E : Type 0} → Result ℕ E → List ℕ → Type 0
TakesSome result piece = IfOk result (λ n. (n ≤ length piece) × (0 < length piece → 0 < n))

-- known bytes grew by the front of the piece that was taken; where the call failed, by some front of it
abbrev pub PassesOn : {E : Type 0} → Option (List ℕ) → Option (List ℕ) → Result ℕ E → List ℕ → Type 0
PassesOn old new (Ok n) piece = Appends old new (take n piece)
PassesOn old new (Err e) piece = (n : ℕ) × (n ≤ length piece) × Appends old new (take n piece)
