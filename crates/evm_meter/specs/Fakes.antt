-- What the contracts see of a meter for tests.
use Rattle.std.specs.Prelude.{ℕ, ◌+◌, ◌-◌, ◌^◌, min, List, Option}
use Rattle.evm_meter.specs.declared.meter.Kind.{Kind}

-- a meter that fails at stated calls: its kind, its two readings, the numbers of the calls that fail, and the number of the last call
pub record Fake : Type 0 where
  pub kind : Kind
  pub reading : Option ℕ
  pub pending : Option ℕ
  pub failing : List ℕ
  pub calls : ℕ

-- one more, as far as a 64-bit counter goes
abbrev pub counted : ℕ → ℕ
counted n = min (n + 1) (2 ^ 64 - 1)
