-- The two sides of a plane by rows: of each group of rows, below it those below it as they stand, and rows that close them at the plane;
-- above it the others, and the closing rows. Axes are counted from 0.
use Rattle.std.specs.Prelude.{◌≡◌, ℕ, zero, suc, ◌-◌, ◌⊎◌, Bool, true, ◌==◌, ℤ, int_lt, List, [], ◌∷◌, ◌++◌, map, drop, length, if◌then◌else◌}
use Rattle.std.specs.List.{list_all}
use Rattle.evm_cells.specs.Windows.{is_under, is_over}
use Rattle.evm_rows.specs.Rows.{flat_of, merge_xor}
use Rattle.evm_rows.specs.Groups.{IsOddPart, head_of}

-- a row whose number on axis i is moved down to `at` if it is above
unfoldable pub lowered : ℕ → ℤ → List ℤ → List ℤ
lowered i at [] = []
lowered zero at (x ∷ p) = (if int_lt at x then at else x) ∷ p
lowered (suc i) at (x ∷ p) = x ∷ lowered i at p

-- the row of the numbers h, of one more and of the numbers q
abbrev pub put : List ℤ → ℤ → List ℤ → List ℤ
put h x q = h ++ x ∷ q

-- the first of the rows is not below the height, if there is one
abbrev pub starts_over : ℕ → ℤ → List (List ℤ) → Bool
starts_over i at [] = true
starts_over i at (p ∷ S) = is_over i at p

-- P are the first rows of V, which are below a height of axis i, and S the rows after them, of which the first is not
pub record IsParted (i : ℕ) (at : ℤ) (V P S : List (List ℤ)) : Type 0 where
  pub both : V ≡ P ++ S
  pub low : list_all (is_under i at) P ≡ true
  pub high : starts_over i at S ≡ true

-- `new` are the numbers `old` and the rows that close the rows U, of n numbers, at a height of axis i: the first i numbers of U and
-- the height, before each place that occurs an odd number of times behind these
pub record IsClosed (n i : ℕ) (at : ℤ) (U : List (List ℤ)) (old new : List ℤ) : Type 0 where
  pub places : List (List ℤ)
  pub wide : list_all (λ q. length q == n - suc i) places ≡ true
  pub odd : IsOddPart (map (drop (suc i)) U) places
  pub made : new ≡ old ++ flat_of (map (put (head_of i U) at) places)

-- `new` are the numbers `old`, the rows P of a group that are below the height, and the rows that close these or the others S of the
-- group
pub record IsCut (n i : ℕ) (at : ℤ) (P S : List (List ℤ)) (old new : List ℤ) : Type 0 where
  pub fewer : List (List ℤ)
  pub one_side : (fewer ≡ P) ⊎ (fewer ≡ S)
  pub closed : IsClosed n i at fewer (old ++ flat_of P) new

-- and `above` are the numbers `before` and the rows that just one of the closing rows and S has
pub record IsCutInTwo (n i : ℕ) (at : ℤ) (P S : List (List ℤ)) (old new before above : List ℤ) : Type 0 where
  pub cut : IsCut n i at P S old new
  pub rest : above ≡ before ++ flat_of (merge_xor (map (put (head_of i cut.fewer) at) cut.closed.places) S)
