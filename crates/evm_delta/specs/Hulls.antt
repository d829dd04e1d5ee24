-- What a solid has over a change.
use Rattle.std.specs.Prelude.{◌≡◌, ℕ, ◌-◌, ◌<◌, ◌⊎◌, true, ℤ, pos, neg_ℤ, List, [], ◌∷◌, length, get_or}
use Rattle.evm_cells.specs.Heights.{is_cut, is_spanned}
use Rattle.evm_cells.specs.Limits.{limit}
use Rattle.evm_cells.specs.Places.{has, with_at}
use Rattle.evm_cells.specs.Shapes.{proj}
use Rattle.evm_rows.specs.Rows.{Vertices, cells_of}
use Rattle.evm_cutting.specs.Hulls.{IsAround}

-- a box round the change d that goes along axis i from one end of the limits to the other. Along the first axis, where that is another,
-- d changes at both ends
pub record IsOpenBox (i : ℕ) (lo hi : List ℤ) (d : Vertices) : Type 0 where
  pub long_low : length lo ≡ 6
  pub long_high : length hi ≡ 6
  pub around : IsAround d.dim lo hi d
  pub low : get_or lo i (pos 0) ≡ neg_ℤ (pos (limit d.dim))
  pub high : get_or hi i (pos 0) ≡ pos (limit d.dim)
  pub first : 0 < i → is_cut d.dim (cells_of d) (get_or lo 0 (pos 0)) ≡ true
  pub last : 0 < i → is_cut d.dim (cells_of d) (get_or hi 0 (pos 0)) ≡ true

-- the projection of a solid along axis i
abbrev pub shadow : ℕ → Vertices → List (List ℤ)
shadow i d = proj (d.dim - 1) i (cells_of d)

-- the solid s has what t has at each place over a cell of the projection of d along axis i
abbrev pub AgreesOver : ℕ → Vertices → Vertices → Vertices → Type 0
AgreesOver i d t s = (c : List ℤ) (k : ℤ) → has (shadow i d) c ≡ true → has (cells_of s) (with_at i k c) ≡ has (cells_of t) (with_at i k c)

-- each cut of the solid s is one of d, or one of t in the range of those of d
abbrev pub HasNearCuts : Vertices → Vertices → Vertices → Type 0
HasNearCuts d t s =
    (h : ℤ) → is_cut s.dim (cells_of s) h ≡ true
    → (is_cut d.dim (cells_of d) h ≡ true)
    ⊎ ((is_cut t.dim (cells_of t) h ≡ true) × (is_spanned d.dim (cells_of d ∷ []) h ≡ true))

-- the same for what is opened along axis i: along the first axis the cuts of t may be anywhere
abbrev pub HasColumnCuts : ℕ → Vertices → Vertices → Vertices → Type 0
HasColumnCuts i d t s =
    (h : ℤ) → is_cut s.dim (cells_of s) h ≡ true
    → (is_cut d.dim (cells_of d) h ≡ true)
    ⊎ ((is_cut t.dim (cells_of t) h ≡ true) × (0 < i → is_spanned d.dim (cells_of d ∷ []) h ≡ true))
