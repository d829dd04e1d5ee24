-- Bodies: a solid as nested couplets, and what is read of the bytes of one (this project's own format).
use Rattle.std.specs.Prelude.{ℕ, zero, suc, ◌==◌, nat_lt, Bool, true, false, if◌then◌else◌, int_le, Option, Some, None, option_and_then, List, [], ◌∷◌, ◌++◌, flat_map, length, drop, ℤ}
use Rattle.std.specs.Int.{cast_signed, w32}
use Rattle.byteorder.specs.Endian.{big_bytes, big_number}
use Rattle.evm_cells.specs.Sections.{couplet, cuts}
use Rattle.evm_formats.specs.FirstFile.{field}

-- ---- what is written

-- the body of a cell set: the number of its cuts along the first axis, and each cut, ascending, with the body of its couplet. Of
-- dimension 0 there is nothing to say, so in dimension 1 these are a count and that many coordinates
unfoldable pub body : ℕ → List (List ℤ) → List ℕ
body zero S = []
body (suc n) S =
    big_bytes 4 (length (cuts n 0 S)) ++ flat_map (λ h. field h ++ body n (couplet n 0 h S)) (cuts n 0 S)

-- ---- what is read

-- how far bytes are read: the rows so far, each with the heights that lead to it before it; how many rows stand before the first
-- count of 0; how many before the first height or coordinate that is not greater than the one before it in its body; and the
-- bytes that are left
pub record Reading : Type 0 where
  pub rows : List (List ℤ)
  pub gap : Option ℕ
  pub fall : Option ℕ
  pub rest : List ℕ

-- what was noted first
abbrev pub noted : Option ℕ → Bool → ℕ → Option ℕ
noted (Some k) now at = Some k
noted None true at = Some at
noted None false at = None

-- a height or coordinate is not greater than the one before it, if there is one
abbrev pub falls : Option ℤ → ℤ → Bool
falls None h = false
falls (Some g) h = int_le h g

-- the count that is next
abbrev pub next_count : Reading → ℕ
next_count s = big_number 4 s.rest

-- the height or coordinate that is next
abbrev pub next_height : Reading → ℤ
next_height s = cast_signed w32 (big_number 4 s.rest)

-- there is no field of four bytes more
abbrev pub is_cut_off : Reading → Bool
is_cut_off s = nat_lt (length s.rest) 4

-- a count is read
abbrev pub after_count : Reading → Reading
after_count s = record {
  rows = s.rows;
  gap = noted s.gap (next_count s == 0) (length s.rows);
  fall = s.fall;
  rest = drop 4 s.rest;
}

-- a height or coordinate is read, behind the last one in its body
abbrev pub after_height : Option ℤ → Reading → Reading
after_height last s = record {
  rows = s.rows;
  gap = s.gap;
  fall = noted s.fall (falls last (next_height s)) (length s.rows);
  rest = drop 4 s.rest;
}

-- a row is complete
abbrev pub after_row : List ℤ → Reading → Reading
after_row row s = record { rows = s.rows ++ row ∷ []; gap = s.gap; fall = s.fall; rest = s.rest }

-- k heights more are read, each with what is below it; `front` has the heights that lead to this body. None where the bytes end before
unfoldable pub read_heights : (List ℤ → Reading → Option Reading) → List ℤ → ℕ → Option ℤ → Reading → Option Reading
read_heights below front zero last s = Some s
read_heights below front (suc k) last s =
    if is_cut_off s then None
    else option_and_then (λ t. read_heights below front k (Some (next_height s)) t)
    (below (front ++ next_height s ∷ []) (after_height last s))

-- a body of dimension n is read: a count, and so many heights, each with the body below it. None where the bytes end before
unfoldable pub read_body : ℕ → List ℤ → Reading → Option Reading
read_body zero front s = Some (after_row front s)
read_body (suc n) front s =
    if is_cut_off s then None
    else read_heights (read_body n) front (next_count s) None (after_count s)

-- nothing is read of these bytes
abbrev pub unread : List ℕ → Reading
unread bytes = record { rows = []; gap = None; fall = None; rest = bytes }

-- the reading, if no bytes are left
abbrev pub if_done : Reading → List ℕ → Option Reading
if_done s [] = Some s
if_done s (b ∷ bs) = None

-- what bytes state that are exactly one body of dimension n
unfoldable pub whole_body : ℕ → List ℕ → Option Reading
whole_body n bytes = option_and_then (λ s. if_done s s.rest) (read_body n [] (unread bytes))
