-- Parents of boxes, which lead down to their labels. Boxes are counted from 0.
use Rattle.std.specs.Prelude.{◌≡◌, ℕ, ◌<◌, ◌≤◌, List, length, get_or}

-- the parent of the box i
abbrev pub parent_at : List ℕ → ℕ → ℕ
parent_at parents i = get_or parents i 0

-- no box is below its parent
pub record AreParents (parents : List ℕ) : Type 0 where
  pub low : (i : ℕ) → i < length parents → parent_at parents i ≤ i

-- from the box i one comes to the box j by going to parents
pub data IsAbove (parents : List ℕ) : ℕ → ℕ → Type 0 where
  here : (i : ℕ) → IsAbove parents i i
  up : (i j : ℕ) → i < length parents → IsAbove parents (parent_at parents i) j → IsAbove parents i j

-- f gives each box what it gives the parent
pub record IsAlike (parents : List ℕ) (f : ℕ → ℕ) : Type 0 where
  pub alike : (i : ℕ) → i < length parents → f i ≡ f (parent_at parents i)

-- each new parent of a box is one of those that one came to before, and what is alike on the new ways is alike on the old
pub record AreHigher (old new : List ℕ) : Type 0 where
  pub many : length new ≡ length old
  pub above : (i : ℕ) → i < length old → IsAbove old i (parent_at new i)
  pub kept : (f : ℕ → ℕ) → IsAlike new f → IsAlike old f
