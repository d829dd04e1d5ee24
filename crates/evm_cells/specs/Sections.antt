-- Sections (slices), couplets and cuts along an axis. The number n is the dimension of the result; S has dimension n + 1.
use Rattle.std.specs.Prelude.{ℕ, suc, not, ℤ, pos, ◌-ℤ◌, List, map, filter, get_or}
use Rattle.std.specs.Ordering.{int_eq}
use Rattle.evm_cells.specs.Places.{has, is_empty, without, with_at}
use Rattle.evm_cells.specs.Limits.{cells_where, point_coords}
use Rattle.evm_cells.specs.Booleans.{sub_cells, xor_cells}

-- the section of S at height k of axis i: the cells of S with coordinate k there, without it (after Pérez-Aguila's sections;
-- by cells and without slabs it is this project's own wording)
unfoldable pub slice : ℕ → ℕ → ℤ → List (List ℤ) → List (List ℤ)
slice n i k S = cells_where n (λ c. has S (with_at i k c))

-- the couplet at h: where the sections just below and just above h differ (after Pérez-Aguila's couplets)
unfoldable pub couplet : ℕ → ℕ → ℤ → List (List ℤ) → List (List ℤ)
couplet n i h S = xor_cells n (slice n i (h -ℤ pos 1) S) (slice n i h S)

-- what rises at h: the cells just above it that are not just below it (this project's own)
abbrev pub rising : ℕ → ℕ → ℤ → List (List ℤ) → List (List ℤ)
rising n i h S = sub_cells n (slice n i h S) (slice n i (h -ℤ pos 1) S)

-- what falls at h: the cells just below it that are not just above it (this project's own)
abbrev pub falling : ℕ → ℕ → ℤ → List (List ℤ) → List (List ℤ)
falling n i h S = sub_cells n (slice n i (h -ℤ pos 1) S) (slice n i h S)

-- the cuts: the heights at which the section changes, ascending (this project's own)
unfoldable pub cuts : ℕ → ℕ → List (List ℤ) → List ℤ
cuts n i S = filter (λ h. not (is_empty (couplet n i h S))) (point_coords (suc n))

-- the points of V at height h of axis i, without that coordinate
unfoldable pub rows_at : ℕ → ℤ → List (List ℤ) → List (List ℤ)
rows_at i h V = map (without i) (filter (λ q. int_eq (get_or q i (pos 0)) h) V)
