-- Windows round what comes or goes at a height, and the sections inside them.
use Rattle.std.proofs.Common.{◌≡◌, ℕ, zero, suc, ◌+◌, ◌-◌, ◌<◌, ◌≤◌, ◌<ℤ◌, Bool, true, false, ◌&&◌, ◌||◌, List, [], ◌∷◌, ◌++◌, length, map, take, drop, get_or, Some, None, Option, ℤ, pos, neg_ℤ, ◌-ℤ◌, int_le, int_lt, int_eq, refl, sym, ap, ap₂, ◌∙◌, subst, arith}
use Rattle.std.specs.List.{list_all, All}
use Rattle.std.specs.Option.{option_to_list}
use Rattle.std.proofs.lemmas.Bool.{false≢true, true≢false}
use Rattle.std.proofs.lemmas.Int.{ints as int_facts}
use Rattle.std.proofs.lemmas.List.{take_more, take_all}
use Rattle.std.proofs.lemmas.List.Elements.{All-append, All-cons, All-nil, All-tail}
use Rattle.std.proofs.lemmas.List.Folds.{list_any-append}
use Rattle.evm_cells.specs.Booleans.{xor, xor_cells}
use Rattle.evm_cells.specs.Places.{each}
use Rattle.evm_cells.specs.Limits.{is_cell, is_cell_coord, is_point_coord, limit, IsCellSet}
use Rattle.evm_cells.specs.Boxes.{is_box}
use Rattle.evm_cells.specs.Sections.{slice, couplet}
use Rattle.evm_cells.specs.Unions.{union_of}
use Rattle.evm_cells.specs.Vertices.{evm}
use Rattle.evm_cells.proofs.Xor.{and_first, and_second, and_both, xor_self}
use Rattle.evm_cells.proofs.Coords.{le_yes, lt_yes, point_yes, cell_is, limit-some, eq_sym}
use Rattle.evm_cells.proofs.Combine.{has-xor_cells, cell_set-xor}
use Rattle.evm_cells.proofs.Slices.{cell_set-slice}
use Rattle.evm_cells.proofs.Universe.{same_sets, cell_parts, point_from}
use Rattle.evm_cells.proofs.Unions.{cell_set-union}
use Rattle.evm_rows.specs.Rows.{xor_rows}
use Rattle.evm_sections.proofs.Sections.{xor_rows-evm}
use Rattle.evm_boxes.specs.BoxRows.{ends_of, IsBoxRow}
use Rattle.evm_boxes.specs.Fills.{holds, filled, spans, low_of, high_of, base_ends, is_event, IsBase, IsFound, IsWindow, IsSection, IsMeet, IsAll, IsUnheld}
use Rattle.evm_boxes.specs.declared.BoxRow.{BoxRow}
use Rattle.evm_boxes.proofs.Cuts.{box_of}
use Rattle.evm_boxes.proofs.Meets.{base_box}
use Rattle.evm_boxes.proofs.Fills.{parts_of, holds-first, ends-cell, holds-cell, has-rows, has-section, le-still, lt-still, neither}

-- ---- the box of all cells

rep : ℕ → ℤ → List ℤ
rep zero x = []
rep (suc n) x = x ∷ rep n x

take_six : (n : ℕ) (x : ℤ) → n ≤ 6 → take n (x ∷ x ∷ x ∷ x ∷ x ∷ x ∷ []) ≡ rep n x
unfolding rep
take_six zero x l = refl
take_six (suc zero) x l = refl
take_six (suc (suc zero)) x l = refl
take_six (suc (suc (suc zero))) x l = refl
take_six (suc (suc (suc (suc zero)))) x l = refl
take_six (suc (suc (suc (suc (suc zero))))) x l = refl
take_six (suc (suc (suc (suc (suc (suc zero)))))) x l = refl
take_six (suc (suc (suc (suc (suc (suc (suc n))))))) x l = absurd (omega arith)

rep_point : (n m : ℕ) (x : ℤ) → is_point_coord n x ≡ true → (length (rep m x) ≡ m) × (list_all (is_point_coord n) (rep m x) ≡ true)
unfolding rep
rep_point n zero x h = (refl, refl)
rep_point n (suc m) x h = let (e, a) = rep_point n m x h in (ap suc e, and_both (is_point_coord n x) (list_all (is_point_coord n) (rep m x)) h a)

rep_room : (m : ℕ) (x y : ℤ) → x <ℤ y → each int_lt (rep m x) (rep m y) ≡ true
unfolding rep each
rep_room zero x y l = refl
rep_room (suc m) x y l = and_both (int_lt x y) (each int_lt (rep m x) (rep m y)) (lt_yes x y l) (rep_room m x y l)

rep_holds : (n m : ℕ) (c : List ℤ) → length c ≡ m → list_all (is_cell_coord n) c ≡ true → (each int_le (rep m (neg_ℤ (pos (limit n)))) c ≡ true) × (each int_lt c (rep m (pos (limit n))) ≡ true)
unfolding rep each
rep_holds n zero [] e a = (refl, refl)
rep_holds n zero (x ∷ c) e a = absurd (omega arith)
rep_holds n (suc m) [] e a = absurd (omega arith)
rep_holds n (suc m) (x ∷ c) e a =
    let (u, v) = cell_is n x (and_first (is_cell_coord n x) (list_all (is_cell_coord n) c) a) in
    let (s, t) = rep_holds n m c (omega arith) (and_second (is_cell_coord n x) (list_all (is_cell_coord n) c) a) in (
      and_both (int_le (neg_ℤ (pos (limit n))) x) (each int_le (rep m (neg_ℤ (pos (limit n)))) c) (le_yes (neg_ℤ (pos (limit n))) x u) s,
      and_both (int_lt x (pos (limit n))) (each int_lt c (rep m (pos (limit n)))) (lt_yes x (pos (limit n)) v) t,
    )

pub all_is : (n : ℕ) (row : BoxRow) (low high : ℤ) → n ≤ 6 → row.dim ≡ n → low ≡ neg_ℤ (pos (limit n)) → high ≡ pos (limit n)
    → row.lo ≡ low ∷ low ∷ low ∷ low ∷ low ∷ low ∷ [] → row.hi ≡ high ∷ high ∷ high ∷ high ∷ high ∷ high ∷ [] → IsAll n row
all_is n row low high few d l h lo hi =
    let some = limit-some n in
    let los : (ends_of row).lo ≡ rep n (neg_ℤ (pos (limit n))) = ap₂ (λ (k : ℕ) (u : List ℤ). take k u) d lo ∙ take_six n low few ∙ ap (rep n) l in
    let his : (ends_of row).hi ≡ rep n (pos (limit n)) = ap₂ (λ (k : ℕ) (u : List ℤ). take k u) d hi ∙ take_six n high few ∙ ap (rep n) h in
    let (e, a) = rep_point n n (neg_ℤ (pos (limit n))) (point_yes n (neg_ℤ (pos (limit n))) (omega (arith, int_facts)) (omega (arith, int_facts))) in
    let (f, b) = rep_point n n (pos (limit n)) (point_yes n (pos (limit n)) (omega (arith, int_facts)) (omega (arith, int_facts))) in
    record {
      box = record {
        dim = d;
        box = ap₂ (is_box n) los his ∙ box_of n (rep n (neg_ℤ (pos (limit n)))) (rep n (pos (limit n))) (point_from n (rep n (neg_ℤ (pos (limit n)))) e a) (point_from n (rep n (pos (limit n))) f b)
            (rep_room n (neg_ℤ (pos (limit n))) (pos (limit n)) (omega (arith, int_facts)));
      };
      all = λ c k. let (g, m) = cell_parts n c k in let (s, t) = rep_holds n n c g m in
          ap₂ (λ (u v : List ℤ). each int_le u c && each int_lt c v) los his ∙ and_both (each int_le (rep n (neg_ℤ (pos (limit n)))) c) (each int_lt c (rep n (pos (limit n)))) s t;
    }

-- ---- the window

never : (h : ℤ) (window : BoxRow) (rows : List BoxRow) → All (λ row. is_event h row ≡ false) rows
    → All (λ row. is_event h row ≡ true → (c : List ℤ) → holds c (base_ends row) ≡ true → holds c (ends_of window) ≡ true) rows
never h window rows a k d l e c m = absurd (true≢false (sym e ∙ a k d l))

one : (P : BoxRow → Type 0) (row : BoxRow) → P row → All P (row ∷ [])
one P row p = All-cons P row [] p (All-nil P)

pub found_still : (n : ℕ) (h : ℤ) (rows : List BoxRow) (row : BoxRow) (found : Option BoxRow) → is_event h row ≡ false → IsFound n h rows found → IsFound n h (rows ++ row ∷ []) found
found_still n h rows row None e f = All-append (λ r. is_event h r ≡ false) rows (row ∷ []) f (one (λ r. is_event h r ≡ false) row e)
found_still n h rows row (Some w) e f = record {
  box = f.box;
  wide = All-append (λ r. is_event h r ≡ true → (c : List ℤ) → holds c (base_ends r) ≡ true → holds c (ends_of w) ≡ true) rows (row ∷ []) f.wide
      (one (λ r. is_event h r ≡ true → (c : List ℤ) → holds c (base_ends r) ≡ true → holds c (ends_of w) ≡ true) row (λ t c m. absurd (true≢false (sym t ∙ e))));
}

pub found_first : (m : ℕ) (h : ℤ) (rows : List BoxRow) (row base : BoxRow) → IsBase m row base → IsFound (m - 1) h rows None → IsFound (m - 1) h (rows ++ row ∷ []) (Some base)
found_first m h rows row base b f = record {
  box = b.box;
  wide = All-append (λ r. is_event h r ≡ true → (c : List ℤ) → holds c (base_ends r) ≡ true → holds c (ends_of base) ≡ true) rows (row ∷ []) (never h base rows f)
      (one (λ r. is_event h r ≡ true → (c : List ℤ) → holds c (base_ends r) ≡ true → holds c (ends_of base) ≡ true) row (λ t c m. ap (holds c) b.ends ∙ m));
}

base_cell : (n : ℕ) (row : BoxRow) (c : List ℤ) → IsBoxRow (suc n) row → holds c (base_ends row) ≡ true → is_cell n c ≡ true
base_cell n row c b h = ends-cell n (base_ends row) c (base_box n row b) h

pub found_more : (m n : ℕ) (h : ℤ) (rows : List BoxRow) (row w all : BoxRow) → m ≡ suc n → IsBoxRow m row → IsAll n all → IsFound n h rows (Some w) → IsFound n h (rows ++ row ∷ []) (Some all)
found_more m n h rows row w all e b a f = record {
  box = a.box;
  wide = All-append (λ r. is_event h r ≡ true → (c : List ℤ) → holds c (base_ends r) ≡ true → holds c (ends_of all) ≡ true) rows (row ∷ [])
      (λ k d l t c g. a.all c (holds-cell n w c f.box (f.wide k d l t c g)))
      (one (λ r. is_event h r ≡ true → (c : List ℤ) → holds c (base_ends r) ≡ true → holds c (ends_of all) ≡ true) row (λ t c g. a.all c (base_cell n row c (subst (λ k. IsBoxRow k row) e b) g)));
}

pub found_none : (n : ℕ) (h : ℤ) (rows : List BoxRow) (all : BoxRow) → IsAll n all → IsFound n h rows None → IsWindow n h rows all
found_none n h rows all a f = record { box = a.box; wide = never h all rows f }

-- ---- the sections inside a window

or_none : (b : Bool) → (b || false) ≡ b
or_none true = refl
or_none false = refl

and_none : (a : Bool) → (a && false) ≡ false
and_none true = refl
and_none false = refl

-- a row at a height, and its base
spans-base : (n : ℕ) (k : ℤ) (row : BoxRow) (c : List ℤ) → IsBoxRow (suc n) row → holds (k ∷ c) (ends_of row) ≡ (spans k row && holds c (base_ends row))
spans-base n k row c b =
    let p = parts_of n row b in
    holds-first n k c row p ∙ regroup (int_le (low_of 0 row) k) (each int_le p.los c) (int_lt k (high_of 0 row)) (each int_lt c p.his)
    ∙ ap₂ (λ (lo hi : List ℤ). spans k row && (each int_le lo c && each int_lt c hi)) (sym (ap (drop 1) p.lo_is)) (sym (ap (drop 1) p.hi_is))
  where
    regroup : (a b s t : Bool) → ((a && b) && (s && t)) ≡ ((a && s) && (b && t))
    regroup true true s t = refl
    regroup true false true t = refl
    regroup true false false t = refl
    regroup false b s t = refl

pub section_away : (n m : ℕ) (k : ℤ) (window row : BoxRow) → m ≡ suc n → IsBoxRow m row → spans k row ≡ false → IsSection n k window (row ∷ []) []
section_away n m k window row e b away = record {
  boxes = All-nil (IsBoxRow n);
  filled = λ c. sym (ap (λ t. holds c (ends_of window) && t)
      (or_none (holds (k ∷ c) (ends_of row)) ∙ spans-base n k row c (subst (λ j. IsBoxRow j row) e b) ∙ ap (λ t. t && holds c (base_ends row)) away) ∙ and_none (holds c (ends_of window)));
}

pub section_there : (n m : ℕ) (k : ℤ) (window row base : BoxRow) (parts : List BoxRow) → m ≡ suc n → IsBoxRow m row → spans k row ≡ true → IsBase m row base → IsMeet n window base parts
    → IsSection n k window (row ∷ []) parts
section_there n m k window row base parts e b there i meet = record {
  boxes = meet.boxes;
  filled = λ c. meet.filled c ∙ ap (λ t. holds c (ends_of window) && t)
      (ap (holds c) i.ends ∙ sym (or_none (holds (k ∷ c) (ends_of row)) ∙ spans-base n k row c (subst (λ j. IsBoxRow j row) e b) ∙ ap (λ t. t && holds c (base_ends row)) there));
}

pub section_start : (n : ℕ) (k : ℤ) (window : BoxRow) (kept : List BoxRow) → kept ≡ [] → IsSection n k window [] kept
section_start n k window kept e = subst (IsSection n k window []) (sym e) (record { boxes = All-nil (IsBoxRow n); filled = λ c. sym (and_none (holds c (ends_of window))) })

filled-append : (xs ys : List BoxRow) (c : List ℤ) → filled (xs ++ ys) c ≡ (filled xs c || filled ys c)
filled-append xs ys c = list_any-append (λ (row : BoxRow). holds c (ends_of row)) xs ys

section_more : (n : ℕ) (k : ℤ) (window : BoxRow) (rows kept part new : List BoxRow) (i : ℕ) (d : BoxRow) → i < length rows → new ≡ kept ++ part
    → IsSection n k window (take i rows) kept → IsSection n k window (get_or rows i d ∷ []) part → IsSection n k window (take (i + 1) rows) new
section_more n k window rows kept part new i d l e old more =
    subst (IsSection n k window (take (i + 1) rows)) (sym e) (record {
      boxes = All-append (IsBoxRow n) kept part old.boxes more.boxes;
      filled = λ c. filled-append kept part c ∙ ap₂ (λ s t. s || t) (old.filled c) (more.filled c)
          ∙ both (holds c (ends_of window)) (filled (take i rows) (k ∷ c)) (filled (get_or rows i d ∷ []) (k ∷ c))
          ∙ ap (λ t. holds c (ends_of window) && t) (sym (ap (λ (u : List BoxRow). filled u (k ∷ c)) (take_more rows i d l) ∙ filled-append (take i rows) (get_or rows i d ∷ []) (k ∷ c)));
    })
  where
    both : (a s t : Bool) → ((a && s) || (a && t)) ≡ (a && (s || t))
    both true s t = refl
    both false s t = refl

-- what is left of a part is kept
pub section_unheld : (n : ℕ) (k : ℤ) (window : BoxRow) (rows kept new : List BoxRow) (part left : Option BoxRow) (i : ℕ) (d : BoxRow) → i < length rows → new ≡ kept ++ option_to_list left
    → IsUnheld kept part left → IsSection n k window (take i rows) kept → IsSection n k window (get_or rows i d ∷ []) (option_to_list part) → IsSection n k window (take (i + 1) rows) new
section_unheld n k window rows kept new part left i d l e u old more =
    let all : IsSection n k window (take (i + 1) rows) (kept ++ option_to_list part) = section_more n k window rows kept (option_to_list part) (kept ++ option_to_list part) i d l refl old more in
    subst (IsSection n k window (take (i + 1) rows)) (sym e) (record {
      boxes = All-append (IsBoxRow n) kept (option_to_list left) old.boxes (of_part left u.is_part);
      filled = λ c. u.filled c ∙ all.filled c;
    })
  where
    of_part : (o : Option BoxRow) → ((row : BoxRow) → o ≡ Some row → part ≡ Some row) → All (IsBoxRow n) (option_to_list o)
    of_part None w = All-nil (IsBoxRow n)
    of_part (Some row) w = subst (λ o. All (IsBoxRow n) (option_to_list o)) (w row refl) more.boxes

pub section_all : (n : ℕ) (k : ℤ) (window : BoxRow) (rows kept : List BoxRow) (i : ℕ) → length rows ≤ i → IsSection n k window (take i rows) kept → IsSection n k window rows kept
section_all n k window rows kept i l s = subst (λ u. IsSection n k window u kept) (take_all i rows l) s

-- one row fills the window
pub section_full : (n : ℕ) (k : ℤ) (window : BoxRow) (rows kept : List BoxRow) (i : ℕ) (d : BoxRow) → i < length rows → kept ≡ window ∷ [] → IsSection n k window (get_or rows i d ∷ []) (window ∷ [])
    → IsSection n k window rows kept
section_full n k window rows kept i d l e one = subst (IsSection n k window rows) (sym e) (record {
  boxes = one.boxes;
  filled = λ c. by (holds c (ends_of window)) (filled rows (k ∷ c)) (λ h. at_place rows i d (k ∷ c) l (told (holds c (ends_of window)) (holds (k ∷ c) (ends_of (get_or rows i d))) h (one.filled c)));
})
  where
    told : (a b : Bool) → a ≡ true → (a || false) ≡ (a && (b || false)) → b ≡ true
    told true true h e = refl
    told true false h e = sym e
    told false b h e = absurd (false≢true h)

    by : (a b : Bool) → (a ≡ true → b ≡ true) → (a || false) ≡ (a && b)
    by true b f = sym (f refl)
    by false b f = refl

    at_place : (xs : List BoxRow) (j : ℕ) (dd : BoxRow) (c : List ℤ) → j < length xs → holds c (ends_of (get_or xs j dd)) ≡ true → filled xs c ≡ true
    at_place [] j dd c m h = absurd (omega arith)
    at_place (x ∷ xs) zero dd c m h = ap (λ t. t || filled xs c) h
    at_place (x ∷ xs) (suc j) dd c m h = ap (λ t. holds c (ends_of x) || t) (at_place xs j dd c (omega arith) h) ∙ or_true (holds c (ends_of x))
      where
        or_true : (b : Bool) → (b || true) ≡ true
        or_true true = refl
        or_true false = refl

-- ---- the couplet from the two sections inside the window

-- outside the window nothing changes
outside : (n : ℕ) (h : ℤ) (window : BoxRow) (c : List ℤ) (rows : List BoxRow) → All (IsBoxRow (suc n)) rows
    → All (λ row. is_event h row ≡ true → (c : List ℤ) → holds c (base_ends row) ≡ true → holds c (ends_of window) ≡ true) rows
    → holds c (ends_of window) ≡ false → filled rows ((h -ℤ pos 1) ∷ c) ≡ filled rows (h ∷ c)
outside n h window c [] a w out = refl
outside n h window c (row ∷ rows) a w out =
    ap₂ (λ s t. s || t)
    (spans-base n (h -ℤ pos 1) row c b ∙ still (is_event h row) refl (holds c (base_ends row)) refl ∙ sym (spans-base n h row c b))
    (outside n h window c rows (All-tail (IsBoxRow (suc n)) row rows a) (All-tail (λ r. is_event h r ≡ true → (c : List ℤ) → holds c (base_ends r) ≡ true → holds c (ends_of window) ≡ true) row rows w) out)
  where
    b : IsBoxRow (suc n) row
    b = a 0 row (omega arith)

    still : (t : Bool) → is_event h row ≡ t → (u : Bool) → holds c (base_ends row) ≡ u → (spans (h -ℤ pos 1) row && holds c (base_ends row)) ≡ (spans h row && holds c (base_ends row))
    still true e true m = absurd (true≢false (sym (w 0 row (omega arith) e c m) ∙ out))
    still t e false m = rw m (and_none (spans (h -ℤ pos 1) row) ∙ sym (and_none (spans h row)))
    still false e true m =
        let (low, high) = neither (int_eq (low_of 0 row) h) (int_eq (high_of 0 row) h) e in
        ap (λ t. t && holds c (base_ends row))
        (ap₂ (λ s t. s && t) (sym (le-still (low_of 0 row) h (eq_sym h (low_of 0 row) ∙ low))) (sym (lt-still (high_of 0 row) h (eq_sym h (high_of 0 row) ∙ high))))

pub couplet_in : (n : ℕ) (h : ℤ) (rows below above : List BoxRow) (window : BoxRow) (low high : List (List ℤ)) → All (IsBoxRow (suc n)) rows → IsWindow n h rows window
    → IsSection n (h -ℤ pos 1) window rows below → IsSection n h window rows above → low ≡ evm n (union_of n (map ends_of below)) → high ≡ evm n (union_of n (map ends_of above))
    → xor_rows n low high ≡ evm n (couplet n 0 h (union_of (suc n) (map ends_of rows)))
unfolding couplet xor
couplet_in n h rows below above window low high a w s t l u =
    let S = union_of (suc n) (map ends_of rows) in
    let B = union_of n (map ends_of below) in
    let A = union_of n (map ends_of above) in
    let b : IsCellSet n B = cell_set-union n (map ends_of below) in
    let d : IsCellSet n A = cell_set-union n (map ends_of above) in
    let x : IsCellSet n (xor_cells n B A) = cell_set-xor n B A in
    let p : IsCellSet n (slice n 0 (h -ℤ pos 1) S) = cell_set-slice n 0 (h -ℤ pos 1) S in
    let q : IsCellSet n (slice n 0 h S) = cell_set-slice n 0 h S in
    let y : IsCellSet n (xor_cells n (slice n 0 (h -ℤ pos 1) S) (slice n 0 h S)) = cell_set-xor n (slice n 0 (h -ℤ pos 1) S) (slice n 0 h S) in
    ap₂ (xor_rows n) l u ∙ xor_rows-evm n B A b d
    ∙ ap (evm n) (same_sets (xor_cells n B A) (xor_cells n (slice n 0 (h -ℤ pos 1) S) (slice n 0 h S)) x.ascends y.ascends
    (λ c. has-xor_cells n B A c b d
    ∙ ap₂ xor (has-rows n below c s.boxes ∙ s.filled c) (has-rows n above c t.boxes ∙ t.filled c)
    ∙ inside (holds c (ends_of window)) (filled rows ((h -ℤ pos 1) ∷ c)) (filled rows (h ∷ c)) (outside n h window c rows a w.wide)
    ∙ sym (has-xor_cells n (slice n 0 (h -ℤ pos 1) S) (slice n 0 h S) c p q ∙ ap₂ xor (has-section n (h -ℤ pos 1) rows c a) (has-section n h rows c a))))
  where
    inside : (k i j : Bool) → (k ≡ false → i ≡ j) → xor (k && i) (k && j) ≡ xor i j
    inside true i j f = refl
    inside false i j f = sym (ap (λ z. xor z j) (f refl) ∙ xor_self j)
