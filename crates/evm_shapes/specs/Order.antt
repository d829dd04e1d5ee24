-- Rows in any order, and those of them that are left where equal rows cancel in pairs.
use Rattle.std.specs.Prelude.{◌≡◌, ℕ, Bool, true, false, ◌==◌, ℤ, List, [], ◌∷◌, length, map, count_by, if◌then◌else◌}
use Rattle.std.specs.List.{list_all}
use Rattle.evm_cells.specs.Places.{same}
use Rattle.evm_cells.specs.Vertices.{odd}
use Rattle.evm_cells.specs.Windows.{clamped, IsReduced}
use Rattle.evm_rows.specs.Rows.{Vertices}

-- the first two rows are there, and equal
abbrev pub starts_pair : List (List ℤ) → Bool
starts_pair [] = false
starts_pair (x ∷ []) = false
starts_pair (x ∷ y ∷ r) = same x y

-- the rows without each pair of equal neighbours
unfoldable pub unpaired : List (List ℤ) → List (List ℤ)
unpaired [] = []
unpaired (x ∷ []) = x ∷ []
unpaired (x ∷ y ∷ r) = if same x y then unpaired r else x ∷ unpaired (y ∷ r)

-- W has the rows of L where pairs of equal rows cancel, in some order: each test holds of an odd number of both or of neither
pub record AreLone (n : ℕ) (L W : List (List ℤ)) : Type 0 where
  pub wide : list_all (λ p. length p == n) W ≡ true
  pub odd_times : (f : List ℤ → Bool) → odd (count_by f W) ≡ odd (count_by f L)

-- W has, ascending, the rows of a solid that stand an odd number of times when they are moved into the box from lo to hi
abbrev pub AreMoved : List ℤ → List ℤ → Vertices → List (List ℤ) → Type 0
AreMoved lo hi a W = IsReduced a.dim (map (clamped lo hi) a.rows) W
