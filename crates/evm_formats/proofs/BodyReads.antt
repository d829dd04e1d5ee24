-- The body of extreme vertices is read as these rows, without a count of 0 and without a fall.
use Rattle.std.proofs.Common.{◌≡◌, ℕ, zero, suc, ◌+◌, ◌^◌, ◌<◌, ◌==◌, nat_lt, Bool, true, false, cond, Option, Some, None, List, [], ◌∷◌, ◌++◌, map, length, drop, ℤ, SFits, w32, to_z-of_z, refl, sym, ap, ap₂, ◌∙◌, arith, append_assoc, append-nil, length-append, int_lt}
use Rattle.std.specs.Prelude.{option_and_then}
use Rattle.std.specs.Int.{cast_unsigned, cast_signed}
use Rattle.std.specs.List.{AllByRecursion, list_all}
use Rattle.std.proofs.lemmas.Bool.Decides.{Decides-eqb, nat_tests}
use Rattle.std.proofs.lemmas.Int.{ints as int_facts}
use Rattle.std.proofs.lemmas.List.{drop_at, map-append}
use Rattle.byteorder.specs.Endian.{big_number, big_bytes}
use Rattle.byteorder.specs.Numbers.{big_number-reads_back, length-bytes_high_first}
use Rattle.evm_cells.specs.Limits.{is_point, is_point_coord}
use Rattle.evm_cells.specs.Vertices.{IsVertexList}
use Rattle.evm_cells.specs.Places.{before, ascending}
use Rattle.evm_cells.proofs.Order.{refuted}
use Rattle.evm_cells.proofs.Xor.{and_first, and_second}
use Rattle.evm_rows.proofs.Bridge.{wide-points}
use Rattle.evm_sections.specs.Couplets.{couplets_of, joined, rise, rise_above, AllVertices}
use Rattle.evm_sections.proofs.Rising.{joined-couplets_of}
use Rattle.evm_sections.proofs.Heights.{heights, points-heights, couplets_rise, couplets-vertices}
use Rattle.evm_formats.specs.FirstFile.{field}
use Rattle.evm_formats.specs.Nested.{Reading, noted, falls, next_count, next_height, after_count, after_height, read_heights, read_body}
use Rattle.evm_formats.specs.RowBodies.{items, row_body}
use Rattle.evm_formats.proofs.Fields.{fits_is, of_z-below}
use Rattle.evm_formats.proofs.Bodies.{few_couplets, HasRow, AllHaveRows, couplets_have_rows}

-- ---- one field

-- four bytes at the head of others
pub record Field (xs tail : List ℕ) (k : ℕ) : Type 0 where
  pub there : nat_lt (length xs) 4 ≡ false
  pub number : big_number 4 xs ≡ k
  pub after : drop 4 xs ≡ tail

pub field_read : (xs tail : List ℕ) (k : ℕ) → k < 256 ^ 4 → xs ≡ big_bytes 4 k ++ tail → Field xs tail k
field_read xs tail k small e =
    let four : length (big_bytes 4 k) ≡ 4 = length-bytes_high_first 4 k in
    let long : length xs ≡ length (big_bytes 4 k) + length tail = ap length e ∙ length-append (big_bytes 4 k) tail in
    record {
      there = grind (arith, nat_tests, four, long);
      number = ap (big_number 4) e ∙ big_number-reads_back 4 k tail small;
      after = ap (drop 4) e ∙ drop_at (big_bytes 4 k) tail 4 four;
    }

-- ---- what is read

-- a reading to which rows are added, each behind the same front
abbrev pub with_rows : List ℤ → List (List ℤ) → List ℕ → Reading → Reading
with_rows front V tail s = record { rows = s.rows ++ map (λ r. front ++ r) V; gap = s.gap; fall = s.fall; rest = tail }

-- what stands for a couplet is read as its rows
abbrev pub ReadsAs : (List ℤ → Reading → Option Reading) → (List (List ℤ) → List ℕ) → List (List ℤ) → Type 0
ReadsAs below inner V = (front : List ℤ) (s : Reading) (tail : List ℕ) → s.rest ≡ inner V ++ tail → below front s ≡ Some (with_rows front V tail s)

-- the heights rise from the last one on
abbrev pub RiseFrom : Option ℤ → List (ℤ × List (List ℤ)) → Type 0
RiseFrom None cs = rise cs ≡ true
RiseFrom (Some g) cs = rise_above g cs ≡ true

pub rise_first : (last : Option ℤ) (h : ℤ) (c : List (List ℤ)) (cs : List (ℤ × List (List ℤ))) → RiseFrom last ((h, c) ∷ cs) → (falls last h ≡ false) × (rise_above h cs ≡ true)
rise_first None h c cs e = (refl, e)
rise_first (Some g) h c cs e =
    let up : int_lt g h ≡ true = and_first (int_lt g h) (rise_above h cs) e in
    (grind (arith, int_facts, up), and_second (int_lt g h) (rise_above h cs) e)

pub not_noted : (o : Option ℕ) (at : ℕ) → noted o false at ≡ o
not_noted None at = refl
not_noted (Some k) at = refl

-- a field is read and nothing noted
abbrev pub moved : List ℕ → Reading → Reading
moved rest s = record { rows = s.rows; gap = s.gap; fall = s.fall; rest = rest }

height_moves : (last : Option ℤ) (s : Reading) (rest : List ℕ) → falls last (next_height s) ≡ false → drop 4 s.rest ≡ rest → after_height last s ≡ moved rest s
height_moves last s rest f d =
    ap₂ (λ (b : Bool) (xs : List ℕ). record { rows = s.rows; gap = s.gap; fall = noted s.fall b (length s.rows); rest = xs }) f d
    ∙ ap (λ (o : Option ℕ). record { rows = s.rows; gap = s.gap; fall = o; rest = rest }) (not_noted s.fall (length s.rows))

count_moves : (s : Reading) (rest : List ℕ) → (next_count s == 0) ≡ false → drop 4 s.rest ≡ rest → after_count s ≡ moved rest s
count_moves s rest f d =
    ap₂ (λ (b : Bool) (xs : List ℕ). record { rows = s.rows; gap = noted s.gap b (length s.rows); fall = s.fall; rest = xs }) f d
    ∙ ap (λ (o : Option ℕ). record { rows = s.rows; gap = o; fall = s.fall; rest = rest }) (not_noted s.gap (length s.rows))

-- rows of a couplet and of those after it
fronts : (front : List ℤ) (h : ℤ) (c : List (List ℤ)) → map (λ r. (front ++ h ∷ []) ++ r) c ≡ map (λ r. front ++ r) (map (λ r. h ∷ r) c)
fronts front h [] = refl
fronts front h (r ∷ c) = ap₂ (λ (x : List ℤ) (xs : List (List ℤ)). x ∷ xs) (append_assoc front (h ∷ []) r) (fronts front h c)

pub rows_more : (front : List ℤ) (h : ℤ) (c : List (List ℤ)) (cs : List (ℤ × List (List ℤ))) (rs : List (List ℤ))
    → (rs ++ map (λ r. (front ++ h ∷ []) ++ r) c) ++ map (λ r. front ++ r) (joined cs) ≡ rs ++ map (λ r. front ++ r) (joined ((h, c) ∷ cs))
rows_more front h c cs rs =
    append_assoc rs (map (λ r. (front ++ h ∷ []) ++ r) c) (map (λ r. front ++ r) (joined cs))
    ∙ ap (λ (xs : List (List ℤ)). rs ++ xs) (ap (λ (xs : List (List ℤ)). xs ++ map (λ r. front ++ r) (joined cs)) (fronts front h c)
    ∙ sym (map-append (λ r. front ++ r) (map (λ r. h ∷ r) c) (joined cs)))

reads_heights : (below : List ℤ → Reading → Option Reading) (inner : List (List ℤ) → List ℕ) (n : ℕ) (cs : List (ℤ × List (List ℤ))) (front : List ℤ) (last : Option ℤ) (s : Reading) (tail : List ℕ)
    → RiseFrom last cs → list_all (is_point_coord n) (heights cs) ≡ true → AllByRecursion (λ p. ReadsAs below inner p.1) cs
    → s.rest ≡ items inner cs ++ tail → read_heights below front (length cs) last s ≡ Some (with_rows front (joined cs) tail s)
unfolding read_heights
reads_heights below inner n [] front last s tail up fits all e =
    ap₂ (λ (rs : List (List ℤ)) (xs : List ℕ). Some (record { rows = rs; gap = s.gap; fall = s.fall; rest = xs })) (sym (append-nil s.rows)) e
reads_heights below inner n ((h, c) ∷ cs) front last s tail up fits all e =
    let rest = items inner cs ++ tail in
    let f : SFits w32 h = fits_is n h (and_first (is_point_coord n h) (list_all (is_point_coord n) (heights cs)) fits) in
    let r = field_read s.rest (inner c ++ rest) (cast_unsigned w32 h) (of_z-below h f)
    (e ∙ append_assoc (field h ++ inner c) (items inner cs) tail ∙ append_assoc (field h) (inner c) rest) in
    let is_h : next_height s ≡ h = ap (cast_signed w32) r.number ∙ to_z-of_z f in
    let first = rise_first last h c cs up in
    let u = moved (inner c ++ rest) s in
    let step : after_height last s ≡ u = height_moves last s (inner c ++ rest) (ap (falls last) is_h ∙ first.0) r.after in
    let w = with_rows (front ++ h ∷ []) c rest u in
    ap (λ (b : Bool). cond b None (option_and_then (λ t. read_heights below front (length cs) (Some (next_height s)) t) (below (front ++ next_height s ∷ []) (after_height last s)))) r.there
    ∙ ap₂ (λ (g : ℤ) (v : Reading). option_and_then (λ t. read_heights below front (length cs) (Some g) t) (below (front ++ g ∷ []) v)) is_h step
    ∙ ap (λ (o : Option Reading). option_and_then (λ t. read_heights below front (length cs) (Some h) t) o) (all.0 (front ++ h ∷ []) u rest refl)
    ∙ reads_heights below inner n cs front (Some h) w tail first.1 (and_second (is_point_coord n h) (list_all (is_point_coord n) (heights cs)) fits) all.1 refl
    ∙ ap (λ (rs : List (List ℤ)). Some (record { rows = rs; gap = s.gap; fall = s.fall; rest = tail })) (rows_more front h c cs s.rows)

-- ---- bodies

all_read : (n : ℕ) (cs : List (ℤ × List (List ℤ))) → ((V : List (List ℤ)) → IsVertexList n V → HasRow V → ReadsAs (read_body n) (row_body n) V)
    → AllVertices n cs → AllHaveRows cs → AllByRecursion (λ p. ReadsAs (read_body n) (row_body n) p.1) cs
all_read n [] ih v f = tt
all_read n ((h, c) ∷ cs) ih v f = (ih c v.0 f.0, all_read n cs ih v.1 f.1)

-- a vertex list of dimension 0 that has a row
only_row : (V : List (List ℤ)) → IsVertexList 0 V → HasRow V → V ≡ [] ∷ []
unfolding ascending before is_point
only_row [] v f = let e = f.are in cc
only_row ([] ∷ []) v f = refl
only_row ([] ∷ [] ∷ V) v f = let e = v.ascends in cc
only_row ([] ∷ (x ∷ r) ∷ V) v f = let w = wide-points 0 ([] ∷ (x ∷ r) ∷ V) v.points in let e = w.1.0 in absurd (omega (arith, e))
only_row ((x ∷ r) ∷ V) v f = let w = wide-points 0 ((x ∷ r) ∷ V) v.points in let e = w.0 in absurd (omega (arith, e))

not_zero : (k : ℕ) → (suc k == 0) ≡ false
not_zero k = refuted (suc k == 0) (λ e. let q = (Decides-eqb (suc k) 0).0 e in omega (arith, q))

-- a body with couplets has a count that is not 0
some_couplets : (n : ℕ) (V : List (List ℤ)) → IsVertexList (suc n) V → HasRow V → (length (couplets_of V) == 0) ≡ false
some_couplets n V v f = by (couplets_of V) (joined-couplets_of (suc n) V (omega arith) (wide-points (suc n) V v.points))
  where
    by : (cs : List (ℤ × List (List ℤ))) → joined cs ≡ V → (length cs == 0) ≡ false
    by [] e = let q = f.are in cc
    by ((h, c) ∷ cs) e = not_zero (length cs)

pub reads_body : (n : ℕ) (V : List (List ℤ)) → IsVertexList n V → HasRow V → ReadsAs (read_body n) (row_body n) V
unfolding read_body row_body
reads_body zero V v f front s tail e =
    ap₂ (λ (rs : List (List ℤ)) (xs : List ℕ). Some (record { rows = rs; gap = s.gap; fall = s.fall; rest = xs }))
    (ap (λ (r : List ℤ). s.rows ++ r ∷ []) (sym (append-nil front)) ∙ ap (λ (W : List (List ℤ)). s.rows ++ map (λ r. front ++ r) W) (sym (only_row V v f))) e
reads_body (suc n) V v f front s tail e =
    let cs = couplets_of V in
    let rest = items (row_body n) cs ++ tail in
    let r = field_read s.rest rest (length cs) (few_couplets n V v) (e ∙ append_assoc (big_bytes 4 (length cs)) (items (row_body n) cs) tail) in
    let u = moved rest s in
    let step : after_count s ≡ u = count_moves s rest (ap (λ (k : ℕ). k == 0) r.number ∙ some_couplets n V v f) r.after in
    ap (λ (b : Bool). cond b None (read_heights (read_body n) front (next_count s) None (after_count s))) r.there
    ∙ ap₂ (λ (k : ℕ) (t : Reading). read_heights (read_body n) front k None t) r.number step
    ∙ reads_heights (read_body n) (row_body n) (suc n) cs front None u tail (couplets_rise (suc n) V v) (points-heights (suc n) V v.points)
    (all_read n cs (reads_body n) (couplets-vertices n V v) (couplets_have_rows V)) refl
    ∙ ap (λ (W : List (List ℤ)). Some (with_rows front W tail s)) (joined-couplets_of (suc n) V (omega arith) (wide-points (suc n) V v.points))
