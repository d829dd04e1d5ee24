-- What is inside a box, and the two sides of a plane.
use Rattle.std.specs.Prelude.{◌≡◌, ℕ, suc, Bool, true, false, ◌<◌, ◌==◌, ℤ, pos, int_le, int_lt, List, [], ◌∷◌, map, filter, length, count_by, get_or, if◌then◌else◌}
use Rattle.std.specs.List.{list_all}
use Rattle.evm_cells.specs.Places.{ascending, same, has}
use Rattle.evm_cells.specs.Limits.{IsCellSet}
use Rattle.evm_cells.specs.Vertices.{odd, evm, cells, IsVertexList}
use Rattle.evm_cells.specs.Boxes.{is_box}
use Rattle.evm_cells.specs.Booleans.{combine, xor_cells}
use Rattle.evm_cells.specs.Sections.{slice, couplet}
use Rattle.evm_cells.specs.Shapes.{clip}

-- the number, moved between the two
unfoldable pub between : ℤ → ℤ → ℤ → ℤ
between a b x = if int_lt x a then a else if int_lt b x then b else x

-- a place with each coordinate moved between those of the two ends of a box
unfoldable pub clamped : List ℤ → List ℤ → List ℤ → List ℤ
clamped [] hi p = []
clamped (a ∷ lo) [] p = []
clamped (a ∷ lo) (b ∷ hi) [] = []
clamped (a ∷ lo) (b ∷ hi) (x ∷ p) = between a b x ∷ clamped lo hi p

-- W has, ascending, the places of n coordinates that occur an odd number of times in L
pub record IsReduced (n : ℕ) (L W : List (List ℤ)) : Type 0 where
  pub ascends : ascending W ≡ true
  pub wide : list_all (λ p. length p == n) W ≡ true
  pub odd_times : (p : List ℤ) → has W p ≡ odd (count_by (λ q. same q p) L)

-- whether a cell is below a height of axis i
abbrev pub is_under : ℕ → ℤ → List ℤ → Bool
is_under i at c = int_lt (get_or c i (pos 0)) at

-- whether it is above
abbrev pub is_over : ℕ → ℤ → List ℤ → Bool
is_over i at c = int_le at (get_or c i (pos 0))

-- the change of a Boolean where its operands A and B change by DA and DB
unfoldable pub change_of : (Bool → Bool → Bool) → ℕ → List (List ℤ) → List (List ℤ) → List (List ℤ) → List (List ℤ) → List (List ℤ)
change_of op n A DA B DB = xor_cells n (combine op n A B) (combine op n (xor_cells n A DA) (xor_cells n B DB))

-- ---- laws

-- a point is an extreme vertex of what is inside a box exactly where an odd number of the vertices are moved to it
abbrev pub VerticesOfClip : Type 0
VerticesOfClip = (n : ℕ) (lo hi : List ℤ) (V : List (List ℤ)) (p : List ℤ) → is_box n lo hi ≡ true → IsVertexList n V → length p ≡ n
    → has (evm n (clip n lo hi (cells n V))) p ≡ odd (count_by (λ q. same q p) (map (clamped lo hi) V))

-- the moved vertices, those that stand an even number of times left out, are the extreme vertices of what is inside a box
abbrev pub ClipByRows : Type 0
ClipByRows = (n : ℕ) (lo hi : List ℤ) (V W : List (List ℤ)) → is_box n lo hi ≡ true → IsVertexList n V
    → IsReduced n (map (clamped lo hi) V) W → W ≡ evm n (clip n lo hi (cells n V))

-- what is inside a box of an exclusive or is the exclusive or of what is inside
abbrev pub ClipOfXor : Type 0
ClipOfXor = (n : ℕ) (lo hi : List ℤ) (A B : List (List ℤ)) → IsCellSet n A → IsCellSet n B
    → clip n lo hi (xor_cells n A B) ≡ xor_cells n (clip n lo hi A) (clip n lo hi B)

-- where the changes lie in a box, the change of a Boolean is that of what the operands have inside it
abbrev pub ChangeIsLocal : Type 0
ChangeIsLocal = (op : Bool → Bool → Bool) (n : ℕ) (lo hi : List ℤ) (A DA B DB : List (List ℤ)) → op false false ≡ false
    → IsCellSet n A → IsCellSet n DA → IsCellSet n B → IsCellSet n DB → clip n lo hi DA ≡ DA → clip n lo hi DB ≡ DB
    → change_of op n A DA B DB ≡ change_of op n (clip n lo hi A) DA (clip n lo hi B) DB

-- and it lies in that box
abbrev pub ChangeStaysInside : Type 0
ChangeStaysInside = (op : Bool → Bool → Bool) (n : ℕ) (lo hi : List ℤ) (A DA B DB : List (List ℤ)) → op false false ≡ false
    → IsCellSet n A → IsCellSet n DA → IsCellSet n B → IsCellSet n DB → clip n lo hi DA ≡ DA → clip n lo hi DB ≡ DB
    → clip n lo hi (change_of op n A DA B DB) ≡ change_of op n A DA B DB

-- a section of what is inside a box, at a height that the box has, is what is inside the box's base of the section
abbrev pub SliceOfClip : Type 0
SliceOfClip = (n : ℕ) (l h k : ℤ) (lo hi : List ℤ) (S : List (List ℤ)) → IsCellSet (suc n) S → int_le l k ≡ true → int_lt k h ≡ true
    → slice n 0 k (clip (suc n) (l ∷ lo) (h ∷ hi) S) ≡ clip n lo hi (slice n 0 k S)

-- so a couplet strictly inside is what is inside the base of the couplet there: a window has no cuts of its own
abbrev pub CoupletOfClip : Type 0
CoupletOfClip = (n : ℕ) (l h k : ℤ) (lo hi : List ℤ) (S : List (List ℤ)) → IsCellSet (suc n) S → int_lt l k ≡ true → int_lt k h ≡ true
    → couplet n 0 k (clip (suc n) (l ∷ lo) (h ∷ hi) S) ≡ clip n lo hi (couplet n 0 k S)

-- a cell set is the exclusive or of its two sides of a plane
abbrev pub TwoSides : Type 0
TwoSides = (n i : ℕ) (at : ℤ) (S : List (List ℤ)) → IsCellSet n S → xor_cells n (filter (is_under i at) S) (filter (is_over i at) S) ≡ S

-- the cells are on one side of a plane where all the extreme vertices are
abbrev pub RowsUnder : Type 0
RowsUnder = (n i : ℕ) (at : ℤ) (V : List (List ℤ)) → i < n → IsVertexList n V → list_all (λ q. int_le (get_or q i (pos 0)) at) V ≡ true
    → list_all (is_under i at) (cells n V) ≡ true

abbrev pub RowsOver : Type 0
RowsOver = (n i : ℕ) (at : ℤ) (V : List (List ℤ)) → i < n → IsVertexList n V → list_all (λ q. int_le at (get_or q i (pos 0))) V ≡ true
    → list_all (is_over i at) (cells n V) ≡ true
