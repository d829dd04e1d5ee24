-- Version 2: the file of a solid states it, and bytes that state a solid are its file.
use Rattle.std.proofs.Common.{◌≡◌, ℕ, suc, ◌-◌, ◌<◌, ◌≤◌, inl, inr, ⊎_elim, true, Some, None, List, [], ◌∷◌, ◌++◌, length, take, drop, slice_index, ℤ, refl, sym, ap, ap₂, ◌∙◌, subst, arith, append-nil}
use Rattle.std.specs.Prelude.{option_and_then, ◌==◌, if◌then◌else◌}
use Rattle.std.proofs.lemmas.List.{take-append-drop, map-id}
use Rattle.byteorder.specs.Endian.{big_number, big_bytes}
use Rattle.evm_cells.specs.Vertices.{cells, IsVertexList}
use Rattle.evm_cells.proofs.Core.{evm-cells}
use Rattle.evm_cells.proofs.Universe.{cell_set-cells}
use Rattle.evm_rows.specs.Rows.{Vertices, IsSolid, ascends}
use Rattle.evm_rows.proofs.RowsOrder.{Wide}
use Rattle.evm_sections.specs.Couplets.{couplets_of}
use Rattle.evm_formats.specs.FirstFile.{stated_dim, listed_rows}
use Rattle.evm_formats.specs.Nested.{body, Reading, is_cut_off, after_count, read_heights, read_body, unread, if_done, whole_body}
use Rattle.evm_formats.specs.RowBodies.{row_body}
use Rattle.evm_formats.specs.File.{head_bytes, file_of_cells, file_bytes, IsSecond, reading, outer_count, IsFilled, Nests, rows_in, stated_rows}
use Rattle.evm_formats.proofs.Bodies.{row_body-evm, HasRow}
use Rattle.evm_formats.proofs.BodyReads.{with_rows, reads_body}
use Rattle.evm_formats.proofs.BodyBytes.{AreSmall, small-drop, some_is, goes_on, is_there, tells_body}
use Rattle.evm_formats.proofs.Fields.{bytes_of_number}
use Rattle.std.proofs.lemmas.Bool.Decides.{nat_tests}

pub row_body-cells : (n : ℕ) (V : List (List ℤ)) → IsVertexList n V → row_body n V ≡ body n (cells n V)
row_body-cells n V v = ap (row_body n) (sym (evm-cells n V v)) ∙ row_body-evm n (cells n V) (cell_set-cells n V)

-- ---- the body of extreme vertices states them

-- bytes are exactly one body, which states these rows
pub record IsRead (n : ℕ) (bytes : List ℕ) (V : List (List ℤ)) : Type 0 where
  pub seen : Reading
  pub read : whole_body n bytes ≡ Some seen
  pub filled : IsFilled (big_number 4 bytes) seen
  pub rises : seen.fall ≡ None
  pub rows : seen.rows ≡ V

-- no rows: a count of 0
none_read : (n : ℕ) → IsRead (suc n) (row_body (suc n) []) []
unfolding whole_body read_body read_heights row_body couplets_of
none_read n = record { seen = record { rows = []; gap = Some 0; fall = None; rest = [] }; read = refl; filled = inl refl; rises = refl; rows = refl }

some_read : (n : ℕ) (V : List (List ℤ)) → IsVertexList n V → HasRow V → IsRead n (row_body n V) V
unfolding whole_body
some_read n V v f =
    let s = with_rows [] V [] (unread (row_body n V)) in
    record {
      seen = s;
      read = ap (option_and_then (λ (t : Reading). if_done t t.rest)) (reads_body n V v f [] (unread (row_body n V)) [] (sym (append-nil (row_body n V))));
      filled = inr refl;
      rises = refl;
      rows = map-id V;
    }

rows_read : (n : ℕ) (V : List (List ℤ)) → IsVertexList (suc n) V → IsRead (suc n) (row_body (suc n) V) V
rows_read n [] v = none_read n
rows_read n (r ∷ V) v = some_read (suc n) (r ∷ V) v (record { first = r; others = V; are = refl })

one_more : (n : ℕ) → 0 < n → n ≡ suc (n - 1)
one_more n h = omega arith

pub body_read : (n : ℕ) (V : List (List ℤ)) → 0 < n → IsVertexList n V → IsRead n (body n (cells n V)) V
body_read n V some v =
    subst (λ (xs : List ℕ). IsRead n xs V) (row_body-cells n V v)
    (subst (λ (m : ℕ). IsRead m (row_body m V) V) (sym (one_more n some)) (rows_read (n - 1) V (subst (λ (m : ℕ). IsVertexList m V) (one_more n some) v)))

pub dim_of_file : (v : Vertices) → stated_dim (file_bytes v) ≡ v.dim
unfolding file_of_cells
dim_of_file v = refl

states_second : (v : Vertices) → IsSolid v → Nests (file_bytes v) v
unfolding file_of_cells
states_second v s =
    let r = body_read v.dim v.rows s.low s.vertices in
    record {
      second = record { long = omega arith; magic = refl; version = refl; some = (let p = s.low in omega arith); few = s.high; six = refl; seven = refl };
      seen = r.seen;
      read = r.read;
      filled = r.filled;
      rises = r.rises;
      dim = refl;
      rows = r.rows;
    }

pub nests : (v : Vertices) (bytes : List ℕ) → IsSolid v → bytes ≡ file_bytes v → Nests bytes v
nests v bytes s e = subst (λ (xs : List ℕ). Nests xs v) (sym e) (states_second v s)

-- a file tells its rows
pub rows_of_nest : (bytes : List ℕ) (v : Vertices) → Nests bytes v → stated_rows bytes ≡ v.rows
rows_of_nest bytes v t =
    let k = t.second in
    version_two (slice_index bytes 4) k.version ∙ ap rows_in t.read ∙ t.rows
  where
    version_two : (m : ℕ) → m ≡ 2 → (if m == 1 then listed_rows bytes else rows_in (reading bytes)) ≡ rows_in (reading bytes)
    version_two m e = rw e refl

pub rows_of_file : (v : Vertices) → IsSolid v → stated_rows (file_bytes v) ≡ v.rows
rows_of_file v s = rows_of_nest (file_bytes v) v (states_second v s)

-- ---- bytes that state rows are their body

-- what is known of a reading without gap and fall
pub record IsFound (n : ℕ) (bytes : List ℕ) (s : Reading) : Type 0 where
  pub wide : Wide n s.rows
  pub up : ascends s.rows ≡ true
  pub from : bytes ≡ row_body n s.rows

done_is : (s t : Reading) (xs : List ℕ) → if_done s xs ≡ Some t → (s ≡ t) × (xs ≡ [])
done_is s t [] q = (some_is s t q, refl)
done_is s t (x ∷ xs) q = let bad : None ≡ Some t = q in cc

-- a count of 0, and no more
zero_found : (n : ℕ) (bytes : List ℕ) (t : Reading) → AreSmall bytes → read_body (suc n) [] (unread bytes) ≡ Some t → t.rest ≡ [] → big_number 4 bytes ≡ 0 → IsFound (suc n) bytes t
unfolding read_body read_heights row_body couplets_of
zero_found n bytes t small e done z =
    let there = is_there (is_cut_off (unread bytes)) _ t e in
    let four : 4 ≤ length bytes = grind (arith, nat_tests, there.0) in
    let same : after_count (unread bytes) ≡ t =
    some_is (after_count (unread bytes)) t (ap (λ (k : ℕ). read_heights (read_body n) [] k None (after_count (unread bytes))) (sym z) ∙ there.1) in
    let none : [] ≡ t.rows = ap (λ (r : Reading). r.rows) same in
    let rest : drop 4 bytes ≡ [] = ap (λ (r : Reading). r.rest) same ∙ done in
    record {
      wide = subst (λ (V : List (List ℤ)). Wide (suc n) V) none tt;
      up = subst (λ (V : List (List ℤ)). ascends V ≡ true) none refl;
      from = sym (take-append-drop 4 bytes) ∙ ap₂ (λ (a b : List ℕ). a ++ b) (sym (bytes_of_number 4 bytes four small) ∙ ap (big_bytes 4) z) rest
          ∙ ap (row_body (suc n)) none;
    }

filled_found : (n : ℕ) (bytes : List ℕ) (t : Reading) → AreSmall bytes → read_body n [] (unread bytes) ≡ Some t → t.rest ≡ [] → t.gap ≡ None → t.fall ≡ None → IsFound n bytes t
filled_found n bytes t small e done g f =
    let w = tells_body n [] (unread bytes) t small e g f in
    let b = w.block in
    let rows : w.seen ≡ t.rows = sym (w.rows ∙ map-id w.seen) in
    record {
      wide = subst (λ (V : List (List ℤ)). Wide n V) rows b.wide;
      up = subst (λ (V : List (List ℤ)). ascends V ≡ true) rows b.up;
      from = w.bytes ∙ ap₂ (λ (V : List (List ℤ)) (xs : List ℕ). row_body n V ++ xs) rows done ∙ append-nil (row_body n t.rows);
    }

found_more : (n : ℕ) (bytes : List ℕ) (t : Reading) → AreSmall bytes → whole_body (suc n) bytes ≡ Some t → IsFilled (big_number 4 bytes) t → t.fall ≡ None → IsFound (suc n) bytes t
unfolding whole_body
found_more n bytes t small e filled f =
    let o = goes_on (read_body (suc n) [] (unread bytes)) (λ (s : Reading). if_done s s.rest) t e in
    let u = o.between in
    let d = done_is u t u.rest o.second in
    let first : read_body (suc n) [] (unread bytes) ≡ Some t = o.first ∙ ap (λ (s : Reading). Some s) d.0 in
    let done : t.rest ≡ [] = ap (λ (s : Reading). s.rest) (sym d.0) ∙ d.1 in
    ⊎_elim (λ (z : big_number 4 bytes ≡ 0). zero_found n bytes t small first done z) (λ (g : t.gap ≡ None). filled_found (suc n) bytes t small first done g f) filled

pub found_whole : (n : ℕ) (bytes : List ℕ) (t : Reading) → 0 < n → AreSmall bytes → whole_body n bytes ≡ Some t → IsFilled (big_number 4 bytes) t → t.fall ≡ None → IsFound n bytes t
found_whole n bytes t some small e filled f =
    let q = one_more n some in
    subst (λ (m : ℕ). IsFound m bytes t) (sym q) (found_more (n - 1) bytes t small (subst (λ (m : ℕ). whole_body m bytes ≡ Some t) q e) filled f)

-- ---- the first eight bytes

pub second_head : (bytes : List ℕ) → IsSecond bytes → take 8 bytes ≡ head_bytes (stated_dim bytes)
second_head [] h = absurd (let l = h.long in omega arith)
second_head (a ∷ []) h = absurd (let l = h.long in omega arith)
second_head (a ∷ b ∷ []) h = absurd (let l = h.long in omega arith)
second_head (a ∷ b ∷ c ∷ []) h = absurd (let l = h.long in omega arith)
second_head (a ∷ b ∷ c ∷ d ∷ []) h = absurd (let l = h.long in omega arith)
second_head (a ∷ b ∷ c ∷ d ∷ e ∷ []) h = absurd (let l = h.long in omega arith)
second_head (a ∷ b ∷ c ∷ d ∷ e ∷ f ∷ []) h = absurd (let l = h.long in omega arith)
second_head (a ∷ b ∷ c ∷ d ∷ e ∷ f ∷ g ∷ []) h = absurd (let l = h.long in omega arith)
second_head (a ∷ b ∷ c ∷ d ∷ e ∷ f ∷ g ∷ i ∷ bytes) h =
    let m = h.magic in let v = h.version in let s = h.six in let t = h.seven in cc (m, v, s, t)

-- bytes of version 2 are the file of the vertex list that they state
pub second_is : (bytes : List ℕ) (t : Reading) → IsSecond bytes → AreSmall bytes → reading bytes ≡ Some t → IsFilled (outer_count bytes) t → t.fall ≡ None
    → IsVertexList (stated_dim bytes) t.rows → bytes ≡ file_bytes (record { dim = stated_dim bytes; rows = t.rows })
unfolding file_of_cells
second_is bytes t s small e filled f v =
    let n = stated_dim bytes in
    let q = found_whole n (drop 8 bytes) t (let p = s.some in omega arith) (small-drop 8 bytes small) e filled f in
    sym (take-append-drop 8 bytes) ∙ ap₂ (λ (a b : List ℕ). a ++ b) (second_head bytes s) (q.from ∙ row_body-cells n t.rows v)
