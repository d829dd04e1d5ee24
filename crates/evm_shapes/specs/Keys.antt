-- Rows that a whole number packs: each number is a word of 32 bits, the first the highest.
use Rattle.std.specs.Prelude.{ℕ, zero, suc, ◌*◌, ◌/◌, ◌%◌, ◌^◌, ℤ, pos, ◌-ℤ◌, List, [], ◌∷◌, ◌++◌, ◌≡◌, ◌<◌, Bool, true, map, get_or}
use mathlib.Core.Logic.{◌⊎◌}
use Rattle.std.specs.List.{All}
use Rattle.evm_cells.specs.Windows.{clamped}
use Rattle.evm_rows.specs.Rows.{Vertices}
use Rattle.evm_shapes.specs.Moves.{low_rows}
use Rattle.evm_shapes.specs.Order.{AreLone}

-- the number that a word stands for, with its sign bit flipped
abbrev pub number_of : ℕ → ℤ
number_of w = pos w -ℤ pos (2 ^ 31)

-- the row of n numbers that a key packs
unfoldable pub unpacked : ℕ → ℕ → List ℤ
unpacked zero k = []
unpacked (suc n) k = unpacked n (k / 2 ^ 32) ++ number_of (k % 2 ^ 32) ∷ []

-- what the keys of n numbers are below
unfoldable pub room : ℕ → ℕ
room zero = 1
room (suc n) = room n * 2 ^ 32

-- js are the keys ks with k added, or without k at the end
abbrev pub IsPut : List ℕ → ℕ → List ℕ → Type 0
IsPut ks k js = (js ≡ ks ++ k ∷ []) ⊎ (ks ≡ js ++ k ∷ [])

-- ks are keys of the rows of a below the upper end of a box on the first axis, moved into it, where pairs of equal rows cancel;
-- the flag tells only where these are all rows of a
pub record IsLowKeys (lo hi : List ℤ) (a : Vertices) (ks : List ℕ) (all : Bool) : Type 0 where
  pub room : All (λ k. k < room a.dim) ks
  pub lone : AreLone a.dim (map (clamped lo hi) (low_rows (get_or hi 0 (pos 0)) a.rows))
      (map (unpacked a.dim) ks)
  pub whole : all ≡ true → low_rows (get_or hi 0 (pos 0)) a.rows ≡ a.rows
