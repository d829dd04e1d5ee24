-- When numbers are refused as the rows of a vertex list, and why.
use Rattle.std.specs.Prelude.{◌≡◌, ℕ, ◌-◌, ◌<◌, ◌≤◌, true, false, List, [], length, get_or, count_by, ℤ}
use Rattle.std.specs.List.{list_all}
use Rattle.evm_cells.specs.Places.{same, before, ascending, without}
use Rattle.evm_cells.specs.Limits.{is_point}
use Rattle.evm_cells.specs.Vertices.{odd}
use Rattle.evm_rows.specs.declared.check.RowError.{RowError}
use Rattle.evm_rows.specs.declared.check.RowError.TheVariants.{Range, Order, Odd, NoMemory}

-- each line parallel to axis i, counted from 0, holds an even number of rows
abbrev pub IsEvenOn : ℕ → List (List ℤ) → Type 0
IsEvenOn i V = (line : List ℤ) → odd (count_by (λ p. same (without i p) line) V) ≡ false

-- some line parallel to axis i holds an odd number of rows
abbrev pub HasOddLine : ℕ → List (List ℤ) → Type 0
HasOddLine i V = (line : List ℤ) × (odd (count_by (λ p. same (without i p) line) V) ≡ true)

-- row k is the first that is no point of dimension n
pub record IsFirstOut (n : ℕ) (V : List (List ℤ)) (k : ℕ) : Type 0 where
  pub within : k < length V
  pub out : is_point n (get_or V k []) ≡ false
  pub earlier : (j : ℕ) → j < k → is_point n (get_or V j []) ≡ true

-- row k is the first, from row 1 on, that is not greater than the row before it
pub record IsFirstFall (V : List (List ℤ)) (k : ℕ) : Type 0 where
  pub some : 0 < k
  pub within : k < length V
  pub falls : before (get_or V (k - 1) []) (get_or V k []) ≡ false
  pub earlier : (j : ℕ) → 0 < j → j < k → before (get_or V (j - 1) []) (get_or V j []) ≡ true

-- a is the least axis, counted from 1, with a line that holds an odd number of rows
pub record IsLeastOdd (n : ℕ) (V : List (List ℤ)) (a : ℕ) : Type 0 where
  pub some : 0 < a
  pub within : a ≤ n
  pub odd : HasOddLine (a - 1) V
  pub earlier : (j : ℕ) → 0 < j → j < a → IsEvenOn (j - 1) V

-- e is the first refusal of the rows V in dimension n (this project's own order of tests)
abbrev pub IsRefusal : ℕ → List (List ℤ) → RowError → Type 0
IsRefusal n V (Range k) = IsFirstOut n V k
IsRefusal n V (Order k) = (list_all (is_point n) V ≡ true) × IsFirstFall V k
IsRefusal n V (Odd a) = (list_all (is_point n) V ≡ true) × (ascending V ≡ true) × IsLeastOdd n V a
IsRefusal n V NoMemory = ⊥
