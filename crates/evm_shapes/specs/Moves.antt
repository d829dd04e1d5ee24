-- Moves of a row, and rows up to a height. Axes are counted from 0.
use Rattle.std.specs.Prelude.{ℕ, ◌+◌, ◌<◌, ◌≤◌, Bool, ℤ, pos, int_le, int_lt, List, [], ◌∷◌, map, filter, get_or, swap, if◌then◌else◌}
use Rattle.evm_cells.specs.Places.{same, without, with_at}
use Rattle.evm_cells.specs.Shapes.{negated, fronted}
use Rattle.evm_cells.specs.Windows.{clamped}
use Rattle.evm_shapes.specs.declared.moves.Move.{Move}
use Rattle.evm_shapes.specs.declared.moves.Move.TheVariants.{Mirror, Swap, Front, Raise}

-- the moved row
abbrev pub moved : Move → List ℤ → List ℤ
moved (Mirror i) p = negated i p
moved (Swap i j) p = swap p i j
moved (Front i) p = fronted i p
moved (Raise i h) p = with_at i h p

-- how many coordinates a row of n has after the move
abbrev pub moved_dim : Move → ℕ → ℕ
moved_dim (Mirror i) n = n
moved_dim (Swap i j) n = n
moved_dim (Front i) n = n
moved_dim (Raise i h) n = n + 1

-- the axes of the move are those of a row of n coordinates
abbrev pub IsMoveOf : ℕ → Move → Type 0
IsMoveOf n (Mirror i) = i < n
IsMoveOf n (Swap i j) = (i < n) × (j < n)
IsMoveOf n (Front i) = i < n
IsMoveOf n (Raise i h) = i ≤ n

-- the rows up to the height k on an axis, without their number there
abbrev pub up_to : ℕ → ℤ → List (List ℤ) → List (List ℤ)
up_to i k V = map (without i) (filter (λ q. int_le (get_or q i (pos 0)) k) V)

-- a row that is moved into the box from lo to hi stays where it is
abbrev pub stays_in : List ℤ → List ℤ → List ℤ → Bool
stays_in lo hi p = same (clamped lo hi p) p

-- the rows before the first that is not below the height h on the first axis
unfoldable pub low_rows : ℤ → List (List ℤ) → List (List ℤ)
low_rows h [] = []
low_rows h (p ∷ V) = if int_lt (get_or p 0 (pos 0)) h then p ∷ low_rows h V else []

-- a row, put at the height h on the first axis
abbrev pub raised : ℤ → List ℤ → List ℤ
raised h p = h ∷ without 0 p

-- each row, and after it the row that is put at the height h
unfoldable pub closed : ℤ → List (List ℤ) → List (List ℤ)
closed h [] = []
closed h (p ∷ V) = p ∷ raised h p ∷ closed h V
