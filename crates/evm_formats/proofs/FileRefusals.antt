-- There is one first refusal of bytes, and none of the files of a solid.
use Rattle.std.proofs.Common.{◌≡◌, ℕ, ◌^◌, ◌<◌, ◌⊎◌, inl, inr, ⊎_elim, true, Option, Some, None, List, [], ℤ, length, refl, sym, ap, ◌∙◌, arith}
use Rattle.std.specs.List.{list_all}
use Rattle.std.proofs.lemmas.Bool.{true≢false}
use Rattle.std.proofs.lemmas.List.Folds.{list_all_at}
use Rattle.evm_cells.specs.Limits.{is_point}
use Rattle.evm_cells.specs.Vertices.{IsVertexList}
use Rattle.evm_rows.specs.Rows.{Vertices, IsSolid}
use Rattle.evm_rows.specs.Check.{IsRefusal, IsFirstOut}
use Rattle.evm_rows.specs.declared.check.RowError.{RowError}
use Rattle.evm_rows.specs.declared.check.RowError.TheVariants as rows
use Rattle.evm_rows.proofs.Refusals.{refusal_unique, refusal_denies}
use Rattle.evm_formats.specs.FirstFile.{first_file_bytes, IsFirst, HasLength, stated_dim, listed_rows, Lists}
use Rattle.evm_formats.specs.Nested.{Reading}
use Rattle.evm_formats.specs.File.{file_bytes, IsSecond, IsHeaded, reading, outer_count, IsFilled, ListedRefusal, RefusesReading, RefusesBody, NestedRefusal, IsFileRefusal, IsFileOf, Nests, of_row}
use Rattle.evm_formats.specs.declared.file.FileError.{FileError}
use Rattle.evm_formats.specs.declared.file.FileError.TheVariants.{Head, Length, Range, Order, Odd, Empty, NoMemory}
use Rattle.evm_formats.proofs.Frames.{states}
use Rattle.evm_formats.proofs.Nesting.{nests}

-- ---- version 1

-- a refusal after a header of version 1 with its length, as one of the rows
pub row_of : (bytes : List ℕ) (f : FileError) → HasLength bytes → ListedRefusal bytes f → (e : RowError) × (IsRefusal (stated_dim bytes) (listed_rows bytes) e) × (f ≡ of_row e)
row_of bytes Head long r = absurd r
row_of bytes Length long r = absurd (r long)
row_of bytes (Range k) long r = (rows.Range k, r.1, refl)
row_of bytes (Order k) long r = (rows.Order k, r.1, refl)
row_of bytes (Odd a) long r = (rows.Odd a, r.1, refl)
row_of bytes (Empty k) long r = absurd r
row_of bytes NoMemory long r = absurd r

by_rows : (bytes : List ℕ) (e f : FileError) → HasLength bytes → ListedRefusal bytes e → ListedRefusal bytes f → e ≡ f
by_rows bytes e f long r s =
    let (a, p, x) = row_of bytes e long r in
    let (b, q, y) = row_of bytes f long s in
    x ∙ ap of_row (refusal_unique (stated_dim bytes) (listed_rows bytes) a b p q) ∙ sym y

listed_unique : (bytes : List ℕ) (e f : FileError) → ListedRefusal bytes e → ListedRefusal bytes f → e ≡ f
listed_unique bytes Head f r s = absurd r
listed_unique bytes Length Head r s = absurd s
listed_unique bytes Length Length r s = refl
listed_unique bytes Length (Range k) r s = absurd (r s.0)
listed_unique bytes Length (Order k) r s = absurd (r s.0)
listed_unique bytes Length (Odd a) r s = absurd (r s.0)
listed_unique bytes Length (Empty k) r s = absurd s
listed_unique bytes Length NoMemory r s = absurd s
listed_unique bytes (Range k) f r s = by_rows bytes (Range k) f r.0 r s
listed_unique bytes (Order k) f r s = by_rows bytes (Order k) f r.0 r s
listed_unique bytes (Odd a) f r s = by_rows bytes (Odd a) f r.0 r s
listed_unique bytes (Empty k) f r s = absurd r
listed_unique bytes NoMemory f r s = absurd r

-- ---- version 2

pub filled_not : (outer k : ℕ) (s : Reading) → (0 < outer) × (s.gap ≡ Some k) → IsFilled outer s → ⊥
filled_not outer k s r f = ⊎_elim (λ (z : outer ≡ 0). let l = r.0 in omega (arith, l, z)) (λ (g : s.gap ≡ None). let bad : Some k ≡ None = sym r.1 ∙ g in cc) f

out_not : (n : ℕ) (V : List (List ℤ)) (k : ℕ) → list_all (is_point n) V ≡ true → IsFirstOut n V k → ⊥
out_not n V k a o = true≢false (sym a ∙ list_all_at (is_point n) V k [] o.within o.out)

one_number : (j k : ℕ) (o : Option ℕ) → o ≡ Some j → o ≡ Some k → j ≡ k
one_number j k o e f = let q : Some j ≡ Some k = sym e ∙ f in cc

no_number : (k : ℕ) (o : Option ℕ) → o ≡ Some k → o ≡ None → ⊥
no_number k o e f = let q : Some k ≡ None = sym e ∙ f in cc

after_empty : (n outer k : ℕ) (s : Reading) (f : FileError) → (0 < outer) × (s.gap ≡ Some k) → RefusesReading n outer s f → Empty k ≡ f
after_empty n outer k s Head r q = absurd q
after_empty n outer k s Length r q = absurd q
after_empty n outer k s (Range j) r q = absurd (filled_not outer k s r q.0)
after_empty n outer k s (Order j) r q = absurd (filled_not outer k s r q.0)
after_empty n outer k s (Odd a) r q = absurd (filled_not outer k s r q.0)
after_empty n outer k s (Empty j) r q = ap Empty (one_number k j s.gap r.1 q.1)
after_empty n outer k s NoMemory r q = absurd q

reading_unique : (n outer : ℕ) (s : Reading) (e f : FileError) → RefusesReading n outer s e → RefusesReading n outer s f → e ≡ f
reading_unique n outer s (Empty k) f r q = after_empty n outer k s f r q
reading_unique n outer s (Range j) (Empty k) r q = absurd (filled_not outer k s q r.0)
reading_unique n outer s (Order j) (Empty k) r q = absurd (filled_not outer k s q r.0)
reading_unique n outer s (Odd j) (Empty k) r q = absurd (filled_not outer k s q r.0)
reading_unique n outer s (Range j) (Range k) r q = ap of_row (refusal_unique n s.rows (rows.Range j) (rows.Range k) r.1 q.1)
reading_unique n outer s (Range j) (Order k) r q = absurd (out_not n s.rows j q.1 r.1)
reading_unique n outer s (Range j) (Odd a) r q = ap of_row (refusal_unique n s.rows (rows.Range j) (rows.Odd a) r.1 q.2)
reading_unique n outer s (Order j) (Range k) r q = absurd (out_not n s.rows k r.1 q.1)
reading_unique n outer s (Order j) (Order k) r q = ap Order (one_number j k s.fall r.2 q.2)
reading_unique n outer s (Order j) (Odd a) r q = absurd (no_number j s.fall r.2 q.1)
reading_unique n outer s (Odd a) (Range k) r q = ap of_row (refusal_unique n s.rows (rows.Odd a) (rows.Range k) r.2 q.1)
reading_unique n outer s (Odd a) (Order k) r q = absurd (no_number k s.fall q.2 r.1)
reading_unique n outer s (Odd a) (Odd b) r q = ap of_row (refusal_unique n s.rows (rows.Odd a) (rows.Odd b) r.2 q.2)
reading_unique n outer s Head f r q = absurd r
reading_unique n outer s Length f r q = absurd r
reading_unique n outer s NoMemory f r q = absurd r
reading_unique n outer s (Range j) Head r q = absurd q
reading_unique n outer s (Range j) Length r q = absurd q
reading_unique n outer s (Range j) NoMemory r q = absurd q
reading_unique n outer s (Order j) Head r q = absurd q
reading_unique n outer s (Order j) Length r q = absurd q
reading_unique n outer s (Order j) NoMemory r q = absurd q
reading_unique n outer s (Odd a) Head r q = absurd q
reading_unique n outer s (Odd a) Length r q = absurd q
reading_unique n outer s (Odd a) NoMemory r q = absurd q

only_length : (n outer : ℕ) (e : FileError) → RefusesBody n outer None e → e ≡ Length
only_length n outer Head r = absurd r
only_length n outer Length r = refl
only_length n outer (Range k) r = absurd r
only_length n outer (Order k) r = absurd r
only_length n outer (Odd a) r = absurd r
only_length n outer (Empty k) r = absurd r
only_length n outer NoMemory r = absurd r

body_unique : (n outer : ℕ) (o : Option Reading) (e f : FileError) → RefusesBody n outer o e → RefusesBody n outer o f → e ≡ f
body_unique n outer None e f r q = only_length n outer e r ∙ sym (only_length n outer f q)
body_unique n outer (Some s) e f r q = reading_unique n outer s e f r q

-- ---- both

pub one_version : (bytes : List ℕ) → IsFirst bytes → IsSecond bytes → ⊥
one_version bytes a b = let v = a.version in let w = b.version in omega (arith, v, w)

-- a refusal after a header
abbrev pub Later : List ℕ → FileError → Type 0
Later bytes e = (IsFirst bytes × ListedRefusal bytes e) ⊎ (IsSecond bytes × NestedRefusal bytes e)

pub headed : (bytes : List ℕ) (e : FileError) → Later bytes e → IsHeaded bytes
headed bytes e r = ⊎_elim (λ (p : IsFirst bytes × ListedRefusal bytes e). inl p.0) (λ (p : IsSecond bytes × NestedRefusal bytes e). inr p.0) r

later_unique : (bytes : List ℕ) (e f : FileError) → Later bytes e → Later bytes f → e ≡ f
later_unique bytes e f r s =
    ⊎_elim
    (λ (p : IsFirst bytes × ListedRefusal bytes e). ⊎_elim
    (λ (q : IsFirst bytes × ListedRefusal bytes f). listed_unique bytes e f p.1 q.1)
    (λ (q : IsSecond bytes × NestedRefusal bytes f). absurd (one_version bytes p.0 q.0)) s)
    (λ (p : IsSecond bytes × NestedRefusal bytes e). ⊎_elim
    (λ (q : IsFirst bytes × ListedRefusal bytes f). absurd (one_version bytes q.0 p.0))
    (λ (q : IsSecond bytes × NestedRefusal bytes f). body_unique (stated_dim bytes) (outer_count bytes) (reading bytes) e f p.1 q.1) s) r

-- a refusal of bytes with a header
pub later_of : (bytes : List ℕ) (e : FileError) → IsHeaded bytes → IsFileRefusal bytes e → Later bytes e
later_of bytes Head h r = absurd (r h)
later_of bytes Length h r = r
later_of bytes (Range k) h r = r
later_of bytes (Order k) h r = r
later_of bytes (Odd a) h r = r
later_of bytes (Empty k) h r = r
later_of bytes NoMemory h r = r

pub file_unique : (bytes : List ℕ) (e f : FileError) → IsFileRefusal bytes e → IsFileRefusal bytes f → e ≡ f
file_unique bytes Head Head r s = refl
file_unique bytes Head Length r s = absurd (r (headed bytes Length s))
file_unique bytes Head (Range k) r s = absurd (r (headed bytes (Range k) s))
file_unique bytes Head (Order k) r s = absurd (r (headed bytes (Order k) s))
file_unique bytes Head (Odd a) r s = absurd (r (headed bytes (Odd a) s))
file_unique bytes Head (Empty k) r s = absurd (r (headed bytes (Empty k) s))
file_unique bytes Head NoMemory r s = absurd (r (headed bytes NoMemory s))
file_unique bytes Length f r s = later_unique bytes Length f r (later_of bytes f (headed bytes Length r) s)
file_unique bytes (Range k) f r s = later_unique bytes (Range k) f r (later_of bytes f (headed bytes (Range k) r) s)
file_unique bytes (Order k) f r s = later_unique bytes (Order k) f r (later_of bytes f (headed bytes (Order k) r) s)
file_unique bytes (Odd a) f r s = later_unique bytes (Odd a) f r (later_of bytes f (headed bytes (Odd a) r) s)
file_unique bytes (Empty k) f r s = later_unique bytes (Empty k) f r (later_of bytes f (headed bytes (Empty k) r) s)
file_unique bytes NoMemory f r s = later_unique bytes NoMemory f r (later_of bytes f (headed bytes NoMemory r) s)

-- ---- files of solids

pub listed_denies : (bytes : List ℕ) (e : FileError) → HasLength bytes → IsVertexList (stated_dim bytes) (listed_rows bytes) → ListedRefusal bytes e → ⊥
listed_denies bytes e long v r =
    let (a, p, x) = row_of bytes e long r in
    refusal_denies (stated_dim bytes) (listed_rows bytes) a p v

pub reading_denies : (n outer : ℕ) (s : Reading) (e : FileError) → IsFilled outer s → s.fall ≡ None → IsVertexList n s.rows → RefusesReading n outer s e → ⊥
reading_denies n outer s Head f o v r = r
reading_denies n outer s Length f o v r = r
reading_denies n outer s (Range k) f o v r = refusal_denies n s.rows (rows.Range k) r.1 v
reading_denies n outer s (Order k) f o v r = no_number k s.fall r.2 o
reading_denies n outer s (Odd a) f o v r = refusal_denies n s.rows (rows.Odd a) r.2 v
reading_denies n outer s (Empty k) f o v r = filled_not outer k s r f
reading_denies n outer s NoMemory f o v r = r

pub body_denies : (n outer : ℕ) (o : Option Reading) (s : Reading) (e : FileError) → o ≡ Some s → IsFilled outer s → s.fall ≡ None → IsVertexList n s.rows → RefusesBody n outer o e → ⊥
body_denies n outer None s e q f u v r = let bad : None ≡ Some s = q in cc
body_denies n outer (Some t) s e q f u v r =
    let same : t ≡ s = some_same t s q in
    reading_denies n outer s e f u v (rw same at r)
  where
    some_same : (a b : Reading) → Some a ≡ Some b → a ≡ b
    some_same a b p = cc

vertices_along : (n m : ℕ) (V W : List (List ℤ)) → n ≡ m → V ≡ W → IsVertexList m W → IsVertexList n V
vertices_along n m V W e f h = rw (e, f) h

nest_denies : (bytes : List ℕ) (f : FileError) (v : Vertices) → IsSolid v → Nests bytes v → IsFileRefusal bytes f → ⊥
nest_denies bytes f v s t r =
    ⊎_elim
    (λ (p : IsFirst bytes × ListedRefusal bytes f). one_version bytes p.0 t.second)
    (λ (p : IsSecond bytes × NestedRefusal bytes f). body_denies (stated_dim bytes) (outer_count bytes) (reading bytes) t.seen f t.read t.filled t.rises
    (vertices_along (stated_dim bytes) v.dim t.seen.rows v.rows t.dim t.rows s.vertices) p.1)
    (later_of bytes f (inr t.second) r)

list_denies : (bytes : List ℕ) (f : FileError) (v : Vertices) → IsSolid v → Lists bytes v → IsFileRefusal bytes f → ⊥
list_denies bytes f v s t r =
    ⊎_elim
    (λ (p : IsFirst bytes × ListedRefusal bytes f). listed_denies bytes f t.framed.1 (vertices_along (stated_dim bytes) v.dim (listed_rows bytes) v.rows t.dim t.rows s.vertices) p.1)
    (λ (p : IsSecond bytes × NestedRefusal bytes f). one_version bytes t.framed.0 p.0)
    (later_of bytes f (inl t.framed.0) r)

pub file_denies : (bytes : List ℕ) (v : Vertices) (f : FileError) → IsSolid v → IsFileOf bytes v → length bytes < 2 ^ 64 → IsFileRefusal bytes f → ⊥
file_denies bytes v f s file small r =
    ⊎_elim (λ (e : bytes ≡ file_bytes v). nest_denies bytes f v s (nests v bytes s e) r)
    (λ (e : bytes ≡ first_file_bytes v). list_denies bytes f v s (states v bytes s small e) r) file
