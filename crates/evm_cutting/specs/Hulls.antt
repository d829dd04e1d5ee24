-- The box round a change, and what a solid has near one.
use Rattle.std.specs.Prelude.{◌≡◌, ℕ, ◌<◌, true, ℤ, pos, int_le, List, get_or}
use Rattle.std.specs.List.{list_all}
use Rattle.evm_cells.specs.Places.{has}
use Rattle.evm_cells.specs.Limits.{is_point_coord}
use Rattle.evm_rows.specs.Rows.{Vertices, cells_of}

-- a coordinate of points that no row is below on axis i
pub record IsLow (i : ℕ) (x : ℤ) (v : Vertices) : Type 0 where
  pub point : is_point_coord v.dim x ≡ true
  pub rows : list_all (λ q. int_le x (get_or q i (pos 0))) v.rows ≡ true

-- a coordinate of points that no row is above on axis i
pub record IsHigh (i : ℕ) (x : ℤ) (v : Vertices) : Type 0 where
  pub point : is_point_coord v.dim x ≡ true
  pub rows : list_all (λ q. int_le (get_or q i (pos 0)) x) v.rows ≡ true

-- on each of the first k axes all rows are from lo up to hi
pub record IsAround (k : ℕ) (lo hi : List ℤ) (v : Vertices) : Type 0 where
  pub low : (i : ℕ) → i < k → IsLow i (get_or lo i (pos 0)) v
  pub high : (i : ℕ) → i < k → IsHigh i (get_or hi i (pos 0)) v

-- the solid s has what t has at each cell of d
abbrev pub AgreesOn : Vertices → Vertices → Vertices → Type 0
AgreesOn d t s = (c : List ℤ) → has (cells_of d) c ≡ true → has (cells_of s) c ≡ has (cells_of t) c
