-- Which boxes of a list hang together, and their labels. Boxes are counted from 0.
use Rattle.std.specs.Prelude.{◌≡◌, ℕ, ◌+◌, ◌<◌, ◌≤◌, ◌==◌, true, List, [], ◌∷◌, filter, length, count_by, get_or, if◌then◌else◌}
use Rattle.std.specs.List.{range_with_len}
use Rattle.evm_cells.specs.Unions.{Ends}
use Rattle.evm_parts.specs.Neighbours.{are_neighbours}

-- a box without axes, in place of one that is not there
abbrev pub no_box : Ends
no_box = record { lo = []; hi = [] }

-- the box i of a list
abbrev pub box_at : List Ends → ℕ → Ends
box_at boxes i = get_or boxes i no_box

-- the boxes i and j are neighbours
pub record AreLinked (boxes : List Ends) (i j : ℕ) : Type 0 where
  pub first : i < length boxes
  pub second : j < length boxes
  pub near : are_neighbours (box_at boxes i) (box_at boxes j) ≡ true

-- a chain of neighbours leads from the box i to the box j
pub data IsChained (boxes : List Ends) : ℕ → ℕ → Type 0 where
  here : (i : ℕ) → IsChained boxes i i
  onward : (i j k : ℕ) → AreLinked boxes i j → IsChained boxes j k → IsChained boxes i k

-- the label of the box i
abbrev pub label_at : List ℕ → ℕ → ℕ
label_at labels i = get_or labels i 0

-- a label for each box: the least box that a chain of neighbours leads to
pub record AreLabels (boxes : List Ends) (labels : List ℕ) : Type 0 where
  pub many : length labels ≡ length boxes
  pub reached : (i : ℕ) → i < length boxes → IsChained boxes i (label_at labels i)
  pub low : (i : ℕ) → i < length boxes → label_at labels i ≤ i
  pub alike : (i j : ℕ) → AreLinked boxes i j → label_at labels i ≡ label_at labels j

-- the boxes that are their own labels, ascending: the first box of each part
abbrev pub roots : List ℕ → List ℕ
roots labels = filter (λ i. label_at labels i == i) (range_with_len 0 (length labels))

-- the boxes with this label, in order
unfoldable pub labelled : ℕ → List ℕ → List Ends → List Ends
labelled root (label ∷ labels) (b ∷ boxes) = if label == root then b ∷ labelled root labels boxes else labelled root labels boxes
labelled root _ _ = []

-- the other boxes, in order
unfoldable pub unlabelled : ℕ → List ℕ → List Ends → List Ends
unlabelled root (label ∷ labels) (b ∷ boxes) = if label == root then unlabelled root labels boxes else b ∷ unlabelled root labels boxes
unlabelled root _ _ = []

-- how many of the labels are this one
abbrev pub votes_for : ℕ → List ℕ → ℕ
votes_for label labels = count_by (λ other. other == label) labels

-- more than half of them are
pub record IsMost (labels : List ℕ) (label : ℕ) : Type 0 where
  pub most : length labels < votes_for label labels + votes_for label labels
