-- Couplets of rows and of cell sets along the first axis, slabs with their sections, and what walks over them show.
use Rattle.std.specs.Prelude.{◌≡◌, Option, Some, None, Bool, true, false, ◌&&◌, int_lt, ℤ, ℕ, ◌+◌, ◌-◌, ◌%◌, ◌<◌, ◌≤◌, List, [], ◌∷◌, ◌++◌, map, length, if◌then◌else◌, IsTrue}
use Rattle.std.specs.List.{AllByRecursion}
use Rattle.std.specs.Ordering.{int_eq}
use Rattle.evm_cells.specs.Vertices.{evm, IsVertexList}
use Rattle.evm_cells.specs.Sections.{couplet, slice, cuts}
use Rattle.evm_rows.specs.Rows.{rows_of, ascends, xor_rows}

-- a row that begins with h and goes on with r, before the rows of couplets
abbrev pub put_row : ℤ → List ℤ → List (ℤ × List (List ℤ)) → List (ℤ × List (List ℤ))
put_row h r [] = (h, r ∷ []) ∷ []
put_row h r ((k, c) ∷ cs) = if int_eq h k then (h, r ∷ c) ∷ cs else (h, r ∷ []) ∷ (k, c) ∷ cs

-- the couplets of rows: each stretch of rows with one first coordinate, as this height and the rows without it
unfoldable pub couplets_of : List (List ℤ) → List (ℤ × List (List ℤ))
couplets_of [] = []
couplets_of ([] ∷ rs) = couplets_of rs
couplets_of ((h ∷ r) ∷ rs) = put_row h r (couplets_of rs)

-- the couplets of a cell set along the first axis: each cut, ascending, with the extreme vertices of its couplet
unfoldable pub couplets_in : ℕ → List (List ℤ) → List (ℤ × List (List ℤ))
couplets_in n S = map (λ h. (h, evm n (couplet n 0 h S))) (cuts n 0 S)

-- the slabs from the cut h up over further cuts, each with the extreme vertices of its section
unfoldable pub slabs_from : ℕ → List (List ℤ) → ℤ → List ℤ → List (ℤ × (ℤ × List (List ℤ)))
slabs_from n S h [] = []
slabs_from n S h (k ∷ ks) = (h, (k, evm n (slice n 0 h S))) ∷ slabs_from n S k ks

-- the slabs between cuts
unfoldable pub slabs_over : ℕ → List (List ℤ) → List ℤ → List (ℤ × (ℤ × List (List ℤ)))
slabs_over n S [] = []
slabs_over n S (h ∷ hs) = slabs_from n S h hs

-- the slabs of a cell set along the first axis: the ranges between neighbouring cuts, each with the extreme vertices of its section
unfoldable pub slabs_in : ℕ → List (List ℤ) → List (ℤ × (ℤ × List (List ℤ)))
slabs_in n S = slabs_over n S (cuts n 0 S)

-- what a clause sees of a walk: the dimension of the couplets, and those that are left
pub record Course : Type 0 where
  pub dim : ℕ
  pub left : List (ℤ × List (List ℤ))

-- the couplets are vertex lists
abbrev pub AllVertices : ℕ → List (ℤ × List (List ℤ)) → Type 0
AllVertices n = AllByRecursion (λ p. IsVertexList n p.1)

-- what a walk over couplets keeps of the numbers that are left
pub record IsWalk (flat : List ℤ) (width skip : ℕ) : Type 0 where
  pub narrow : width ≤ 6
  pub deep : skip + 1 < width
  pub whole : length flat % width ≡ 0
  pub ascending : IsTrue (ascends (rows_of flat width skip))
  pub couplets : AllVertices (width - (skip + 1)) (couplets_of (rows_of flat width skip))

-- what a walk over rows of one coordinate keeps of the numbers that are left
pub record IsMarks (flat : List ℤ) (width skip : ℕ) : Type 0 where
  pub narrow : width ≤ 6
  pub one : skip + 1 ≡ width
  pub whole : length flat % width ≡ 0
  pub ascending : IsTrue (ascends (rows_of flat width skip))

-- the heights rise, from above low on
abbrev pub rise_above : ℤ → List (ℤ × List (List ℤ)) → Bool
rise_above low [] = true
rise_above low ((h, c) ∷ cs) = int_lt low h && rise_above h cs

-- the heights rise
abbrev pub rise : List (ℤ × List (List ℤ)) → Bool
rise [] = true
rise ((h, c) ∷ cs) = rise_above h cs

-- the height of the first couplet
abbrev pub first_height : List (ℤ × List (List ℤ)) → Option ℤ
first_height [] = None
first_height ((h, c) ∷ cs) = Some h

-- each couplet has dimension 0 and is filled: its one row has no numbers
abbrev pub AreSingle : List (ℤ × List (List ℤ)) → Type 0
AreSingle = AllByRecursion (λ p. p.1 ≡ [] ∷ [])

-- the couplets after the first
abbrev pub rest_of : List (ℤ × List (List ℤ)) → List (ℤ × List (List ℤ))
rest_of [] = []
rest_of (p ∷ cs) = cs

-- the rows of couplets, each with the height before it
abbrev pub joined : List (ℤ × List (List ℤ)) → List (List ℤ)
joined [] = []
joined ((h, c) ∷ cs) = map (λ r. h ∷ r) c ++ joined cs

-- the slabs from the cut h up over the couplets that are left, where `section` is the one above h
unfoldable pub slabs_above : ℕ → List (List ℤ) → ℤ → List (ℤ × List (List ℤ)) → List (ℤ × (ℤ × List (List ℤ)))
slabs_above n section h [] = []
slabs_above n section h ((k, c) ∷ cs) = (h, (k, section)) ∷ slabs_above n (xor_rows n section c) k cs

-- the slabs between the couplets that are left, where `section` is the one below the first of them
unfoldable pub slabs_left : ℕ → List (List ℤ) → List (ℤ × List (List ℤ)) → List (ℤ × (ℤ × List (List ℤ)))
slabs_left n section [] = []
slabs_left n section ((h, c) ∷ cs) = slabs_above n (xor_rows n section c) h cs

-- what a clause sees of a sweep: the dimension of its sections, the section of the last slab, and the slabs that are left
pub record Passage : Type 0 where
  pub dim : ℕ
  pub section : List (List ℤ)
  pub left : List (ℤ × (ℤ × List (List ℤ)))

-- the rows of dimension 0: the one row without numbers where it is filled, else none
abbrev pub mark : Bool → List (List ℤ)
mark true = [] ∷ []
mark false = []
