-- Lists of the parts of a solid as flat numbers.
use Rattle.std.specs.Prelude.{ℕ, ◌-◌, ◌<◌, ◌≤◌, ℤ, List, [], ◌∷◌, map, length, take, drop}
use Rattle.evm_cells.specs.Parts.{parts}
use Rattle.evm_cells.specs.Vertices.{evm}
use Rattle.evm_rows.specs.Rows.{Vertices, AreRows, rows_of, cells_of}

-- what a clause sees of a list of parts: their dimension, and the extreme vertices of each
pub record PartList : Type 0 where
  pub dim : ℕ
  pub parts : List (List (List ℤ))

-- the numbers from one place up to, but not at, another
abbrev pub stretch : ℕ → ℕ → List ℤ → List ℤ
stretch start end flat = take (end - start) (drop start flat)

-- the rows of each part, which goes from where the one before it ends to its own end
abbrev pub parts_from : ℕ → ℕ → List ℤ → List ℕ → List (List (List ℤ))
parts_from n start flat [] = []
parts_from n start flat (end ∷ ends) = rows_of (stretch start end flat) n 0 ∷ parts_from n end flat ends

-- one stretch of numbers is the rows of a solid
pub record IsStretch (n start end : ℕ) (flat : List ℤ) : Type 0 where
  pub rises : start ≤ end
  pub within : end ≤ length flat
  pub rows : AreRows (stretch start end flat) n 0

-- so is each
abbrev pub AreStretches : ℕ → ℕ → List ℤ → List ℕ → Type 0
AreStretches n start flat [] = Unit {0}
AreStretches n start flat (end ∷ ends) = IsStretch n start end flat × AreStretches n end flat ends

-- what a list of parts keeps: the dimension is 1 to 6, and each part is the extreme vertices of a solid
pub record AreParts (n : ℕ) (flat : List ℤ) (ends : List ℕ) : Type 0 where
  pub low : 0 < n
  pub high : n ≤ 6
  pub stretches : AreStretches n 0 flat ends

-- the extreme vertices of each part of the cells that vertices stand for
abbrev pub parts_of : Vertices → List (List (List ℤ))
parts_of v = map (evm v.dim) (parts (cells_of v))
