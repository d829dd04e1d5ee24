-- Places: lists of whole numbers, one coordinate an axis. Axes are counted from 0 here, from 1 in scripts.
use Rattle.std.specs.Prelude.{ℕ, zero, suc, Bool, true, false, ◌&&◌, ◌||◌, ℤ, int_lt, List, [], ◌∷◌}
use Rattle.std.specs.List.{list_any, list_all}
use Rattle.std.specs.Ordering.{int_eq}

-- r holds of the two places coordinate by coordinate, and they have as many (this project's own)
unfoldable pub each : (ℤ → ℤ → Bool) → List ℤ → List ℤ → Bool
each r [] [] = true
each r [] (y ∷ ys) = false
each r (x ∷ xs) [] = false
each r (x ∷ xs) (y ∷ ys) = r x y && each r xs ys

-- the same place, as a test
unfoldable pub same : List ℤ → List ℤ → Bool
same p q = each int_eq p q

-- the place c is among the places S (this project's own)
unfoldable pub has : List (List ℤ) → List ℤ → Bool
has S c = list_any (same c) S

-- lexicographic order, from the first axis on
unfoldable pub before : List ℤ → List ℤ → Bool
before [] [] = false
before [] (y ∷ ys) = true
before (x ∷ xs) [] = false
before (x ∷ xs) (y ∷ ys) = int_lt x y || (int_eq x y && before xs ys)

-- each place of the list comes before all that follow it, so none stands twice
unfoldable pub ascending : List (List ℤ) → Bool
ascending [] = true
ascending (x ∷ xs) = list_all (before x) xs && ascending xs

-- the list has no place
unfoldable pub is_empty : List (List ℤ) → Bool
is_empty [] = true
is_empty (c ∷ S) = false

-- a place without its coordinate on axis i
unfoldable pub without : ℕ → List ℤ → List ℤ
without i [] = []
without zero (x ∷ xs) = xs
without (suc i) (x ∷ xs) = x ∷ without i xs

-- a place with k put in at axis i
unfoldable pub with_at : ℕ → ℤ → List ℤ → List ℤ
with_at zero k c = k ∷ c
with_at (suc i) k [] = k ∷ []
with_at (suc i) k (x ∷ c) = x ∷ with_at i k c
