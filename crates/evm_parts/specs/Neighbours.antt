-- Boxes of which cells share a face.
use Rattle.std.specs.Prelude.{Bool, true, false, ◌&&◌, ◌||◌, ℤ, int_lt, List, [], ◌∷◌}
use Rattle.std.specs.Ordering.{int_eq}
use Rattle.evm_cells.specs.Unions.{Ends}

-- two stretches, from a up to b and from c up to d, have a number in common
abbrev pub overlap : ℤ → ℤ → ℤ → ℤ → Bool
overlap a b c d = int_lt a d && int_lt c b

-- one of the two stretches begins where the other ends
abbrev pub meet : ℤ → ℤ → ℤ → ℤ → Bool
meet a b c d = int_eq b c || int_eq d a

-- the boxes from lo to hi and from low to high overlap on each axis
unfoldable pub overlapping : List ℤ → List ℤ → List ℤ → List ℤ → Bool
overlapping (a ∷ lo) (b ∷ hi) (c ∷ low) (d ∷ high) = overlap a b c d && overlapping lo hi low high
overlapping [] [] [] [] = true
overlapping _ _ _ _ = false

-- they meet on one axis and overlap on the others
unfoldable pub touching : List ℤ → List ℤ → List ℤ → List ℤ → Bool
touching (a ∷ lo) (b ∷ hi) (c ∷ low) (d ∷ high) =
    (meet a b c d && overlapping lo hi low high) || (overlap a b c d && touching lo hi low high)
touching _ _ _ _ = false

-- two boxes are neighbours: a cell of the one shares a face with a cell of the other, read off their ends
abbrev pub are_neighbours : Ends → Ends → Bool
are_neighbours b c = touching b.lo b.hi c.lo c.hi
