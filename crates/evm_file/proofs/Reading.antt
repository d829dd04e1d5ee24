-- What the reader of version 1 reads, and what the answers of both readers owe.
use Rattle.std.proofs.Common.{◌≡◌, ℕ, ◌^◌, ◌<◌, ◌≤◌, ◌++◌, [], ◌∷◌, take, drop, List, ℤ, length, sym, ap, ap₂, ◌∙◌, ◌⊎◌, inl, inr, ⊎_elim, Result, Ok, Err, append_assoc, arith, w32, slice_index, subst}
use Rattle.std.specs.Prelude.{IfOk, ◌↔◌}
use Rattle.std.specs.Int.{cast_signed}
use Rattle.std.specs.Result.{IsErrOf}
use Rattle.byteorder.specs.Endian.{big_number}
use Rattle.byteorder.specs.Numbers.{big_from-take}
use Rattle.evm_rows.specs.Rows.{Vertices, IsSolid, cells_of}
use Rattle.evm_rows.specs.Check.{IsRefusal}
use Rattle.evm_rows.specs.declared.check.RowError.{RowError}
use Rattle.evm_rows.specs.declared.check.RowError.TheVariants as rows
use Rattle.evm_formats.specs.FirstFile.{first_file_bytes, HasLength, IsFirst, stated_dim, listed_rows, numbers}
use Rattle.evm_formats.specs.File.{file_bytes, IsSecond, IsFileOf, IsFileOfCells, IsFileRefusal, of_row}
use Rattle.evm_formats.specs.declared.file.FileError.{FileError}
use Rattle.evm_formats.specs.declared.file.FileError.TheVariants.{Head, Empty, NoMemory}
use Rattle.evm_cells.specs.Vertices.{IsVertexList}
use Rattle.evm_formats.proofs.Fields.{numbers-step}
use Rattle.evm_formats.proofs.Frames.{file_is, stated}
use Rattle.evm_formats.proofs.FileLaws.{told_apart, first_apart, versions, vertices_of_cells, solid_of_cells, cells_again, on_cells, on_vertices}
use Rattle.evm_formats.proofs.FileRefusals.{file_unique, file_denies}
use Rattle.evm_file.specs.Reading.{FindsSolid, FindsCells, FindsRefusal, Answers, IsSure}

-- one more field is read
pub read_more : (body rest front after : List ℕ) (out new : List ℤ) (x : ℤ) → 4 ≤ length rest
    → front ≡ take 4 rest → after ≡ drop 4 rest → x ≡ cast_signed w32 (big_number 4 front) → new ≡ out ++ x ∷ []
    → out ++ numbers rest ≡ numbers body → new ++ numbers after ≡ numbers body
read_more body rest front after out new x l f a e n h =
    let v : x ≡ cast_signed w32 (big_number 4 rest) = e ∙ ap (λ (xs : List ℕ). cast_signed w32 (big_number 4 xs)) f ∙ ap (cast_signed w32) (big_from-take 0 4 4 rest (omega arith)) in
    ap₂ (λ (o : List ℤ) (r : List ℕ). o ++ numbers r) n a ∙ append_assoc out (x ∷ []) (numbers (drop 4 rest))
    ∙ ap (λ (zs : List ℤ). out ++ zs) (ap (λ (z : ℤ). z ∷ numbers (drop 4 rest)) v ∙ sym (numbers-step rest l)) ∙ h

not_memory : {P : Type 0} (e : RowError) → (e ≡ rows.NoMemory → ⊥) → (e ≡ rows.NoMemory) ⊎ P → P
not_memory {P = P} e never h = ⊎_elim (λ (m : e ≡ rows.NoMemory). absurd (never m)) (λ (p : P). p) h

-- a refusal of the rows after a header of version 1 is one of the file
pub answer_err : (bytes : List ℕ) (e : RowError) (f : FileError) → f ≡ of_row e → IsFirst bytes → HasLength bytes
    → (e ≡ rows.NoMemory) ⊎ IsRefusal (stated_dim bytes) (listed_rows bytes) e → (f ≡ NoMemory) ⊎ IsFileRefusal bytes f
answer_err bytes rows.NoMemory f q first long h = inl q
answer_err bytes (rows.Range k) f q first long h = rw q (inr (inl (first, (long, not_memory (rows.Range k) (λ m. cc) h))))
answer_err bytes (rows.Order k) f q first long h = rw q (inr (inl (first, (long, not_memory (rows.Order k) (λ m. cc) h))))
answer_err bytes (rows.Odd a) f q first long h = rw q (inr (inl (first, (long, not_memory (rows.Odd a) (λ m. cc) h))))

-- ---- what an answer owes

abbrev pub err_with : {T : Type 0} → FileError → Result T FileError
err_with e = Err e

err_along : (x y : FileError) → x ≡ y → IsErrOf (err_with {T = Vertices} x) y
err_along x y m = ap (λ (z : FileError). err_with {T = Vertices} z) m

err_same : (x y : FileError) → IsErrOf (err_with {T = Vertices} x) y → x ≡ y
err_same x y m = let p : err_with {T = Vertices} x ≡ err_with y = m in cc

-- bytes are a file of one solid
pub one_file : (bytes : List ℕ) (t v : Vertices) → IsSolid t → IsSolid v → IsFileOf bytes t → IsFileOf bytes v → t ≡ v
one_file bytes t v s u f g =
    ⊎_elim
    (λ (e : bytes ≡ file_bytes t). ⊎_elim
    (λ (d : bytes ≡ file_bytes v). told_apart t v s u (sym e ∙ d))
    (λ (d : bytes ≡ first_file_bytes v). absurd (versions t v (sym e ∙ d))) g)
    (λ (e : bytes ≡ first_file_bytes t). ⊎_elim
    (λ (d : bytes ≡ file_bytes v). absurd (versions v t (sym d ∙ e)))
    (λ (d : bytes ≡ first_file_bytes v). first_apart t v s u (sym e ∙ d)) g) f

pub found_solid : (r : Result Vertices FileError) (bytes : List ℕ) → length bytes < 2 ^ 64 → Answers r bytes → FindsSolid r bytes
found_solid (Ok t) bytes small a v s f = inl (one_file bytes t v a.solid s a.file f)
found_solid (Err e) bytes small a v s f =
    ⊎_elim (λ (m : e ≡ NoMemory). inr (err_along e NoMemory m)) (λ (q : IsFileRefusal bytes e). absurd (file_denies bytes v e s f small q)) a.refusal

-- an answer that is right for every solid is right for every cell set
pub found_cells : (r : Result Vertices FileError) (bytes : List ℕ) → FindsSolid r bytes → FindsCells r bytes
found_cells (Ok t) bytes found n S s e =
    ⊎_elim (λ (q : t ≡ vertices_of_cells n S). inl (cells_again t n S s q)) (λ (m : IsErrOf (Ok t) NoMemory). inr m)
    (found (vertices_of_cells n S) (solid_of_cells n S s) (on_vertices bytes n S s e))
found_cells (Err f) bytes found n S s e = found (vertices_of_cells n S) (solid_of_cells n S s) (on_vertices bytes n S s e)

pub found_refusal : (r : Result Vertices FileError) (bytes : List ℕ) → length bytes < 2 ^ 64 → Answers r bytes → FindsRefusal r bytes
found_refusal (Ok t) bytes small a e q = absurd (file_denies bytes t e a.solid a.file small q)
found_refusal (Err f) bytes small a e q =
    ⊎_elim (λ (m : f ≡ NoMemory). inr (err_along f NoMemory m)) (λ (p : IsFileRefusal bytes f). inl (err_along f e (file_unique bytes f e p q))) a.refusal

-- an error but want of memory is the first refusal
pub is_refused : (r : Result Vertices FileError) (bytes : List ℕ) (e : FileError) → Answers r bytes → (e ≡ NoMemory → ⊥) → IsErrOf r e → IsFileRefusal bytes e
is_refused (Ok t) bytes e a never q = let bad : Ok t ≡ Err e = q in cc
is_refused (Err f) bytes e a never q =
    let same : f ≡ e = err_same f e q in
    ⊎_elim (λ (m : f ≡ NoMemory). absurd (never (sym same ∙ m))) (λ (p : IsFileRefusal bytes f). rw same at p) a.refusal

-- the solid that bytes with a header of version 1 state
pub listed_ok : (bytes : List ℕ) (v : Vertices) → IsFirst bytes → HasLength bytes → ((i : ℕ) → slice_index bytes i < 256) → v ≡ stated bytes → IsVertexList v.dim v.rows → Answers (Ok v) bytes
listed_ok bytes v first long small e vertices =
    let d : v.dim ≡ stated_dim bytes = ap (λ (u : Vertices). u.dim) e in
    record {
      solid = record { low = subst (λ (n : ℕ). 0 < n) (sym d) (let p = first.some in omega arith); high = subst (λ (n : ℕ). n ≤ 6) (sym d) first.few; vertices = vertices };
      file = inr (file_is bytes first long small ∙ ap first_file_bytes (sym e));
      refusal = tt;
    }

pub cells_answered : (r : Result Vertices FileError) (bytes : List ℕ) → Answers r bytes → IfOk r (λ s. IsFileOfCells bytes s.dim (cells_of s))
cells_answered (Ok t) bytes a = let s = a.solid in on_cells bytes t s.vertices a.file
cells_answered (Err e) bytes a = tt

pub empty_exactly : (r : Result Vertices FileError) (bytes : List ℕ) → Answers r bytes → IsSure r bytes → (k : ℕ) → IsErrOf r (Empty k) ↔ IsFileRefusal bytes (Empty k)
empty_exactly r bytes a s k = (λ q. is_refused r bytes (Empty k) a (λ m. cc) q, λ q. s.empty k q)

-- no header is the answer where there is none
pub headless : (bytes : List ℕ) → (IsSecond bytes → ⊥) → (IsFirst bytes → ⊥) → Answers (Err Head) bytes
headless bytes a b = record { solid = tt; file = tt; refusal = inr (λ h. ⊎_elim (λ (p : IsFirst bytes). b p) (λ (p : IsSecond bytes). a p) h) }
