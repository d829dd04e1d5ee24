-- What bytes with a header of version 2 state, and what is answered to them.
use Rattle.std.proofs.Common.{◌≡◌, ℕ, zero, suc, ◌+◌, ◌-◌, ◌*◌, ◌%◌, ◌<◌, ◌≤◌, ◌⊎◌, inl, inr, ⊎_elim, true, false, Bool, cond, Option, Some, None, Result, Ok, Err, List, [], ◌∷◌, ◌++◌, get_or, length, drop, ℤ, refl, sym, ap, ap₂, ◌∙◌, subst, arith, length-append}
use Rattle.std.specs.Prelude.{option_and_then}
use Rattle.std.specs.List.{list_all}
use Rattle.std.specs.Ordering.{is_lt}
use Rattle.std.proofs.lemmas.Bool.{and_parts, true≢false}
use Rattle.std.proofs.lemmas.Bool.Decides.{nat_tests}
use Rattle.std.proofs.Math.Nat.{mul-mod_left}
use Rattle.byteorder.specs.Endian.{big_number}
use Rattle.evm_cells.specs.Places.{before}
use Rattle.evm_cells.specs.Limits.{is_point}
use Rattle.evm_cells.specs.Vertices.{IsVertexList}
use Rattle.evm_rows.specs.Rows.{Vertices, IsSolid, flat_of, rows_of, ascends, row_cmp, is_below_first}
use Rattle.evm_rows.specs.Check.{IsRefusal, IsFirstFall}
use Rattle.evm_rows.specs.declared.check.RowError.{RowError}
use Rattle.evm_rows.specs.declared.check.RowError.TheVariants as rows
use Rattle.evm_rows.proofs.Bridge.{before-cmp}
use Rattle.evm_rows.proofs.RowsOrder.{Wide, rows_of-flat_of, length-flat_of}
use Rattle.evm_formats.specs.FirstFile.{IsFirst, stated_dim}
use Rattle.evm_formats.specs.Nested.{Reading, next_count, next_height, is_cut_off, after_count, after_height, after_row, read_heights, read_body, unread, if_done, whole_body}
use Rattle.evm_formats.specs.File.{IsSecond, reading, outer_count, IsFilled, ListedRefusal, RefusesReading, RefusesBody, NestedRefusal, IsFileRefusal, IsFileOf, of_row, file_bytes}
use Rattle.evm_formats.specs.declared.file.FileError.{FileError}
use Rattle.evm_formats.specs.declared.file.FileError.TheVariants.{Length, Range, Order, Odd, Empty, NoMemory}
use Rattle.evm_formats.proofs.BodyBytes.{AreSmall, small-drop, some_is, goes_on, is_there}
use Rattle.evm_formats.proofs.Nesting.{found_whole, second_is}
use Rattle.evm_formats.proofs.FileLaws.{one_solid}
use Rattle.evm_formats.proofs.FileRefusals.{one_version, filled_not, file_unique}
use Rattle.evm_file.specs.Reading.{Answers, IsSure}
use Rattle.evm_file.specs.Scanning.{IsOut, RefusesFallen}

-- ---- whole bodies

pub whole_none : (n : ℕ) (bytes : List ℕ) → read_body n [] (unread bytes) ≡ None → whole_body n bytes ≡ None
unfolding whole_body
whole_none n bytes e = ap (option_and_then (λ (s : Reading). if_done s s.rest)) e

pub whole_some : (n : ℕ) (bytes : List ℕ) (s : Reading) → read_body n [] (unread bytes) ≡ Some s → length s.rest ≡ 0 → whole_body n bytes ≡ Some s
unfolding whole_body
whole_some n bytes s e l = ap (option_and_then (λ (t : Reading). if_done t t.rest)) e ∙ done s.rest l
  where
    done : (xs : List ℕ) → length xs ≡ 0 → if_done s xs ≡ Some s
    done [] m = refl
    done (x ∷ xs) m = absurd (omega arith)

pub whole_more : (n : ℕ) (bytes : List ℕ) (s : Reading) → read_body n [] (unread bytes) ≡ Some s → (length s.rest ≡ 0 → ⊥) → whole_body n bytes ≡ None
unfolding whole_body
whole_more n bytes s e l = ap (option_and_then (λ (t : Reading). if_done t t.rest)) e ∙ more s.rest l
  where
    more : (xs : List ℕ) → (length xs ≡ 0 → ⊥) → if_done s xs ≡ None
    more [] m = absurd (m refl)
    more (x ∷ xs) m = refl

pub whole_is : (n : ℕ) (bytes : List ℕ) (s : Reading) → whole_body n bytes ≡ Some s → read_body n [] (unread bytes) ≡ Some s
unfolding whole_body
whole_is n bytes s e =
    let o = goes_on (read_body n [] (unread bytes)) (λ (t : Reading). if_done t t.rest) s e in
    o.first ∙ ap (λ (t : Reading). Some t) (done o.between.rest o.second)
  where
    done : (xs : List ℕ) → {u : Reading} → if_done u xs ≡ Some s → u ≡ s
    done [] {u} q = some_is u s q
    done (x ∷ xs) {u} q = let bad : None ≡ Some s = q in cc

pub whole_long : (n : ℕ) (bytes : List ℕ) (s : Reading) → 0 < n → whole_body n bytes ≡ Some s → 4 ≤ length bytes
unfolding read_body
whole_long zero bytes s some e = absurd (omega arith)
whole_long (suc n) bytes s some e =
    let there = is_there (is_cut_off (unread bytes)) _ s (whole_is (suc n) bytes s e) in
    grind (arith, nat_tests, there.0)

-- ---- rows are wide

-- what is below a height adds rows with so many numbers behind the front
abbrev KeepsWide : (List ℤ → Reading → Option Reading) → ℕ → Type 0
KeepsWide below m = (front : List ℤ) (s t : Reading) (w : ℕ) → length front + m ≡ w → Wide w s.rows → below front s ≡ Some t → Wide w t.rows

wide_heights : (below : List ℤ → Reading → Option Reading) (m k w : ℕ) (front : List ℤ) (last : Option ℤ) (s t : Reading) → KeepsWide below m → length front + suc m ≡ w
    → Wide w s.rows → read_heights below front k last s ≡ Some t → Wide w t.rows
unfolding read_heights
wide_heights below m zero w front last s t keeps l wide e = subst (λ (r : Reading). Wide w r.rows) (some_is s t e) wide
wide_heights below m (suc k) w front last s t keeps l wide e =
    let h = next_height s in
    let there = is_there (is_cut_off s) _ t e in
    let o = goes_on _ _ t there.1 in
    wide_heights below m k w front (Some h) o.between t keeps l
    (keeps (front ++ h ∷ []) (after_height last s) o.between w (omega (arith, length-append front (h ∷ []), l)) wide o.first) o.second

wide-more : (w : ℕ) (rs : List (List ℤ)) (r : List ℤ) → Wide w rs → length r ≡ w → Wide w (rs ++ r ∷ [])
wide-more w [] r a e = (e, tt)
wide-more w (q ∷ rs) r a e = (a.0, wide-more w rs r a.1 e)

wide_body : (n : ℕ) → KeepsWide (read_body n) n
unfolding read_body
wide_body zero front s t w l wide e =
    subst (λ (r : Reading). Wide w r.rows) (some_is (after_row front s) t e) (wide-more w s.rows front wide (omega (arith, l)))
wide_body (suc n) front s t w l wide e =
    let there = is_there (is_cut_off s) _ t e in
    wide_heights (read_body n) n (next_count s) w front None (after_count s) t (wide_body n) l wide there.1

pub wide_whole : (n : ℕ) (bytes : List ℕ) (s : Reading) → whole_body n bytes ≡ Some s → Wide n s.rows
wide_whole n bytes s e = wide_body n [] (unread bytes) s n (omega arith) tt (whole_is n bytes s e)

-- the flat numbers of what was read have whole rows, and these rows
pub flat_whole : (n : ℕ) (flat : List ℤ) (s : Reading) → 0 < n → Wide n s.rows → flat ≡ flat_of s.rows → (length flat % n ≡ 0) × (rows_of flat n 0 ≡ s.rows)
flat_whole n flat s some wide e = (
  ap (λ (m : ℕ). m % n) (ap length e ∙ length-flat_of n s.rows wide) ∙ mul-mod_left (length s.rows) n,
  ap (λ (zs : List ℤ). rows_of zs n 0) e ∙ rows_of-flat_of n s.rows some wide,
)

-- ---- refusals

pub nested_length : (bytes : List ℕ) → IsSecond bytes → reading bytes ≡ None → IsFileRefusal bytes Length
nested_length bytes s e = inr (s, subst (λ (o : Option Reading). RefusesBody (stated_dim bytes) (outer_count bytes) o Length) (sym e) tt)

pub nested_is : (bytes : List ℕ) (t : Reading) (f : FileError) → IsSecond bytes → reading bytes ≡ Some t → RefusesReading (stated_dim bytes) (outer_count bytes) t f
    → (IsFirst bytes × ListedRefusal bytes f) ⊎ (IsSecond bytes × NestedRefusal bytes f)
nested_is bytes t f s e r = inr (s, subst (λ (o : Option Reading). RefusesBody (stated_dim bytes) (outer_count bytes) o f) (sym e) r)

-- the bytes are one body, in which no count but the outermost is 0
pub record IsWhole (bytes : List ℕ) (t : Reading) : Type 0 where
  pub second : IsSecond bytes
  pub read : reading bytes ≡ Some t
  pub filled : IsFilled (outer_count bytes) t

not_length : (n outer : ℕ) (o : Option Reading) (t : Reading) → o ≡ Some t → RefusesBody n outer o Length → ⊥
not_length n outer None t e r = let bad : None ≡ Some t = e in cc
not_length n outer (Some u) t e r = r

not_empty : (n outer k : ℕ) (o : Option Reading) (t : Reading) → o ≡ Some t → IsFilled outer t → RefusesBody n outer o (Empty k) → ⊥
not_empty n outer k None t e f r = r
not_empty n outer k (Some u) t e f r = let same = some_is u t e in filled_not outer k t (r.0, sym (ap (λ (x : Reading). x.gap) same) ∙ r.1) f

-- so the refusals that come whatever memory there is are not theirs
pub sure_whole : (r : Result Vertices FileError) (bytes : List ℕ) (t : Reading) → IsWhole bytes t → IsSure r bytes
sure_whole r bytes t w = record {
  length = λ q. ⊎_elim (λ (p : IsFirst bytes × ListedRefusal bytes Length). absurd (one_version bytes p.0 w.second))
      (λ (p : IsSecond bytes × NestedRefusal bytes Length). absurd (not_length (stated_dim bytes) (outer_count bytes) (reading bytes) t w.read p.1)) q;
  empty = λ k q. ⊎_elim (λ (p : IsFirst bytes × ListedRefusal bytes (Empty k)). absurd (one_version bytes p.0 w.second))
      (λ (p : IsSecond bytes × NestedRefusal bytes (Empty k)). absurd (not_empty (stated_dim bytes) (outer_count bytes) k (reading bytes) t w.read w.filled p.1)) q;
}

abbrev err_of : FileError → Result Vertices FileError
err_of e = Err e

-- a refusal is answered
pub answer_refusal : (bytes : List ℕ) (e : FileError) → (e ≡ NoMemory) ⊎ IsFileRefusal bytes e → Answers (Err e) bytes
answer_refusal bytes e q = record { solid = tt; file = tt; refusal = q }

pub sure_refusal : (bytes : List ℕ) (e : FileError) → IsFileRefusal bytes e → IsSure (Err e) bytes
sure_refusal bytes e q = record {
  length = λ p. ap err_of (file_unique bytes e Length q p);
  empty = λ k p. ap err_of (file_unique bytes e (Empty k) q p);
}

-- ---- order

ascends_at : (V : List (List ℤ)) (k : ℕ) → ascends V ≡ true → suc k < length V → before (get_or V k []) (get_or V (suc k) []) ≡ true
ascends_at [] k a l = absurd (omega arith)
ascends_at (x ∷ []) k a l = absurd (omega arith)
ascends_at (x ∷ y ∷ V) zero a l = before-cmp x y ∙ (and_parts (is_lt (row_cmp x y)) (ascends (y ∷ V)) a).0
ascends_at (x ∷ y ∷ V) (suc k) a l = ascends_at (y ∷ V) k (and_parts (is_lt (row_cmp x y)) (ascends (y ∷ V)) a).1 (omega arith)

no_fall : (V : List (List ℤ)) (k : ℕ) → ascends V ≡ true → IsFirstFall V k → ⊥
no_fall V zero a f = let s = f.some in omega arith
no_fall V (suc k) a f =
    let e : suc k - 1 ≡ k = omega arith in
    true≢false (sym (ascends_at V k a f.within) ∙ ap (λ (j : ℕ). before (get_or V j []) (get_or V (suc k) [])) (sym e) ∙ f.falls)

-- ---- answers after the rows are known

abbrev NotMemory : RowError → Type 0
NotMemory e = e ≡ rows.NoMemory → ⊥

only_refusal : {P : Type 0} (e : RowError) → NotMemory e → (e ≡ rows.NoMemory) ⊎ P → P
only_refusal {P = P} e never h = ⊎_elim (λ (m : e ≡ rows.NoMemory). absurd (never m)) (λ (p : P). p) h

-- where no number falls
pub nested_err : (bytes : List ℕ) (t : Reading) (e : RowError) (f : FileError) → IsWhole bytes t → AreSmall bytes → t.fall ≡ None → f ≡ of_row e
    → (e ≡ rows.NoMemory) ⊎ IsRefusal (stated_dim bytes) t.rows e → (f ≡ NoMemory) ⊎ IsFileRefusal bytes f
nested_err bytes t rows.NoMemory f w small o q h = inl q
nested_err bytes t (rows.Range k) f w small o q h = rw q (inr (nested_is bytes t (Range k) w.second w.read (w.filled, only_refusal (rows.Range k) (λ m. cc) h)))
nested_err bytes t (rows.Order k) f w small o q h =
    let r = only_refusal (rows.Order k) (λ m. cc) h in
    let s = w.second in
    let found = found_whole (stated_dim bytes) (drop 8 bytes) t (let p = s.some in omega arith) (small-drop 8 bytes small) w.read w.filled o in
    absurd (no_fall t.rows k found.up r.1)
nested_err bytes t (rows.Odd a) f w small o q h = rw q (inr (nested_is bytes t (Odd a) w.second w.read (w.filled, o, only_refusal (rows.Odd a) (λ m. cc) h)))

-- where one falls
pub nested_fallen : (bytes : List ℕ) (t : Reading) (k : ℕ) (f : FileError) → IsWhole bytes t → t.fall ≡ Some k → RefusesFallen (stated_dim bytes) t.rows k f → (f ≡ NoMemory) ⊎ IsFileRefusal bytes f
nested_fallen bytes t k f w o h =
    ⊎_elim (λ (m : f ≡ NoMemory). inl m)
    (λ (p : IsOut (stated_dim bytes) t.rows f ⊎ ((list_all (is_point (stated_dim bytes)) t.rows ≡ true) × (f ≡ Order k))). ⊎_elim
    (λ (q : IsOut (stated_dim bytes) t.rows f). let e = q.said in rw e (inr (nested_is bytes t (Range q.at) w.second w.read (w.filled, q.first))))
    (λ (q : (list_all (is_point (stated_dim bytes)) t.rows ≡ true) × (f ≡ Order k)). let e = q.1 in rw e (inr (nested_is bytes t (Order k) w.second w.read (w.filled, q.0, o)))) p) h

-- the solid of these rows
pub nested_ok : (bytes : List ℕ) (t : Reading) (v : Vertices) → IsWhole bytes t → AreSmall bytes → t.fall ≡ None → v.dim ≡ stated_dim bytes → v.rows ≡ t.rows → IsVertexList v.dim v.rows
    → Answers (Ok v) bytes
nested_ok bytes t v w small o d r vertices =
    let s = w.second in
    let same = one_solid v (record { dim = stated_dim bytes; rows = t.rows }) d r in
    let along : IsVertexList (stated_dim bytes) t.rows = subst (λ (u : Vertices). IsVertexList u.dim u.rows) same vertices in
    record {
      solid = record { low = subst (λ (n : ℕ). 0 < n) (sym d) (let p = s.some in omega arith); high = subst (λ (n : ℕ). n ≤ 6) (sym d) s.few; vertices = vertices };
      file = inl (second_is bytes t w.second small w.read w.filled o along ∙ ap file_bytes (sym same));
      refusal = tt;
    }

-- ---- the steps of the reader

pub is_whole : (bytes rest : List ℕ) (n : ℕ) (t : Reading) (gap : Option ℕ) → IsSecond bytes → n ≡ stated_dim bytes → rest ≡ drop 8 bytes → whole_body n rest ≡ Some t → t.gap ≡ gap
    → (big_number 4 rest ≡ 0) ⊎ (gap ≡ None) → IsWhole bytes t
is_whole bytes rest n t gap s d r e g f = record {
  second = s;
  read = ap₂ whole_body (sym d) (sym r) ∙ e;
  filled = ⊎_elim (λ (z : big_number 4 rest ≡ 0). inl (ap (big_number 4) (sym r) ∙ z)) (λ (o : gap ≡ None). inr (g ∙ o)) f;
}

pub positive : (bytes : List ℕ) (n : ℕ) → IsSecond bytes → n ≡ stated_dim bytes → 0 < n
positive bytes n s d = let p = s.some in omega (arith, p, d)

pub nested_refuse : (bytes : List ℕ) (t : Reading) (n k : ℕ) (V : List (List ℤ)) (f : FileError) → IsWhole bytes t → t.fall ≡ Some k → n ≡ stated_dim bytes → V ≡ t.rows
    → RefusesFallen n V k f → Answers (Err f) bytes
nested_refuse bytes t n k V f w o d r h =
    answer_refusal bytes f (nested_fallen bytes t k f w o
    (subst (λ (m : ℕ). RefusesFallen m t.rows k f) d (subst (λ (W : List (List ℤ)). RefusesFallen n W k f) r h)))

pub nested_error : (bytes : List ℕ) (t : Reading) (n : ℕ) (V : List (List ℤ)) (e : RowError) (f : FileError) → IsWhole bytes t → AreSmall bytes → t.fall ≡ None → n ≡ stated_dim bytes → V ≡ t.rows
    → f ≡ of_row e → (e ≡ rows.NoMemory) ⊎ IsRefusal n V e → Answers (Err f) bytes
nested_error bytes t n V e f w small o d r q h =
    answer_refusal bytes f (nested_err bytes t e f w small o q
    (subst (λ (m : ℕ). (e ≡ rows.NoMemory) ⊎ IsRefusal m t.rows e) d (subst (λ (W : List (List ℤ)). (e ≡ rows.NoMemory) ⊎ IsRefusal n W e) r h)))

pub no_number : (o : Option ℕ) → ((k : ℕ) → o ≡ Some k → ⊥) → o ≡ None
no_number None f = refl
no_number (Some k) f = absurd (f k refl)
