-- The steps of a sweep in the plane.
use Rattle.std.proofs.Common.{◌≡◌, ℕ, zero, suc, ◌+◌, ◌%◌, ◌<◌, ◌≤◌, ◌≤ℤ◌, ◌<ℤ◌, Bool, true, false, ◌&&◌, ◌||◌, List, [], ◌∷◌, ◌++◌, length, map, take, drop, get_or, Some, ℤ, pos, int_le, int_lt, refl, sym, ap, ap₂, ◌∙◌, subst, arith, ◌⊎◌, inl, inr, ⊎_elim}
use Rattle.std.specs.Bool.{MatchBool}
use Rattle.std.specs.List.{list_any, All}
use Rattle.std.specs.List.Sorted.{IsSortedByKey}
use Rattle.std.specs.Ordering.{int_cmp, is_lt}
use Rattle.std.proofs.lemmas.Bool.{false≢true, true≢false}
use Rattle.std.proofs.lemmas.Cmp.{int_cmp_total}
use Rattle.std.proofs.lemmas.Int.{ints as int_facts}
use Rattle.std.proofs.lemmas.List.{take_more, take_all, drop_all, get_or_default}
use Rattle.std.proofs.Math.Seq.{drop-cons}
use Rattle.std.proofs.lemmas.List.Folds.{list_any-append}
use Rattle.std.proofs.lemmas.List.Sorted.{sorted_far, ranks_by}
use Rattle.evm_cells.specs.Places.{each, has}
use Rattle.evm_cells.specs.Limits.{IsCellSet}
use Rattle.evm_cells.specs.Boxes.{IsBox}
use Rattle.evm_cells.specs.Sections.{slice}
use Rattle.evm_cells.specs.Unions.{union_of}
use Rattle.evm_cells.specs.Vertices.{evm, cells, IsVertexList}
use Rattle.evm_cells.proofs.Xor.{and-true, and-false, and_first, and_second}
use Rattle.evm_cells.proofs.Order.{rising}
use Rattle.evm_cells.proofs.Coords.{by_order, lt_yes, lt_is}
use Rattle.evm_cells.proofs.Core.{cells-evm, vertices-evm}
use Rattle.evm_cells.proofs.Insides.{box_lengths}
use Rattle.evm_cells.proofs.Layers.{evm-empty}
use Rattle.evm_cells.proofs.Slices.{cell_set-slice}
use Rattle.evm_cells.proofs.Unions.{cell_set-union}
use Rattle.evm_rows.specs.Rows.{rows_of, flat_of, raised, xor_rows, AreRows}
use Rattle.evm_rows.proofs.BoxTests.{box_from}
use Rattle.evm_rows.proofs.Solids.{are_rows-from}
use Rattle.evm_sections.specs.Lines.{firsts, ones}
use Rattle.evm_sections.proofs.Lines.{par, par-cells, by_places, rows_of-ones}
use Rattle.evm_boxes.specs.BoxRows.{ends_of, IsBoxRow}
use Rattle.evm_boxes.specs.Fills.{holds, filled, low_of, high_of, AreEvents, IsWithRun, IsWithPart}
use Rattle.evm_boxes.specs.declared.BoxRow.{BoxRow}
use Rattle.evm_boxes.proofs.Fills.{has-section}
use Rattle.evm_boxes.proofs.EventLists.{events_start}
use Rattle.evm_boxes.proofs.Written.{Written, written_more, written_all, section_start, couplet_of_sections, bottom}
use Rattle.evm_boxes.proofs.Runs.{Run, Runs, runs_more, runs_rise, runs_fill}

-- ---- the order of the rows

not_less : (a b : ℤ) → is_lt (int_cmp a b) ≡ false → b ≤ℤ a
not_less a b e =
    by_order a b
    (λ h. absurd (true≢false (sym (rw (lt_yes a b h) refl) ∙ e)))
    (λ h. omega (arith, int_facts))
    (λ h. omega (arith, int_facts))

ordered : (rows : List BoxRow) (i j : ℕ) (d : BoxRow) → IsSortedByKey (low_of 1) int_cmp rows → i ≤ j → j < length rows → low_of 1 (get_or rows i d) ≤ℤ low_of 1 (get_or rows j d)
ordered rows i j d s l m =
    not_less (low_of 1 (get_or rows j d)) (low_of 1 (get_or rows i d)) (sorted_far (λ x y. is_lt (int_cmp (low_of 1 x) (low_of 1 y))) (ranks_by int_cmp_total (low_of 1)) rows s i j d l m)

ordered_at : (rows : List BoxRow) (i j : ℕ) (d dd : BoxRow) → IsSortedByKey (low_of 1) int_cmp rows → i ≤ j → j < length rows → i < length rows → low_of 1 (get_or rows i d) ≤ℤ low_of 1 (get_or rows j dd)
ordered_at rows i j d dd s l m n = subst (λ (row : BoxRow). low_of 1 row ≤ℤ low_of 1 (get_or rows j dd)) (get_or_default rows i dd d n) (ordered rows i j dd s l m)

-- ---- one row of the plane

two_of : (m : ℕ) (xs : List ℤ) → length (take m xs) ≡ 2 → take m xs ≡ get_or xs 0 (pos 0) ∷ get_or xs 1 (pos 0) ∷ []
two_of zero xs e = absurd (omega arith)
two_of (suc m) [] e = absurd (omega arith)
two_of (suc zero) (x ∷ xs) e = absurd (omega arith)
two_of (suc (suc m)) (x ∷ []) e = absurd (omega arith)
two_of (suc (suc m)) (x ∷ y ∷ xs) e = ap (λ (u : List ℤ). x ∷ y ∷ u) (none (take m xs) (omega arith))
  where
    none : (u : List ℤ) → length u ≡ 0 → u ≡ []
    none [] l = refl
    none (z ∷ u) l = absurd (omega arith)

holds-two : (k x : ℤ) (row : BoxRow) → IsBoxRow 2 row
    → holds (k ∷ x ∷ []) (ends_of row) ≡ ((int_le (low_of 0 row) k && int_lt k (high_of 0 row)) && (int_le (low_of 1 row) x && int_lt x (high_of 1 row)))
unfolding each
holds-two k x row b =
    let (e, f) = box_lengths 2 (ends_of row).lo (ends_of row).hi b.box in
    ap₂ (λ (lo hi : List ℤ). each int_le lo (k ∷ x ∷ []) && each int_lt (k ∷ x ∷ []) hi) (two_of row.dim row.lo e) (two_of row.dim row.hi f)
    ∙ regroup (int_le (low_of 0 row) k) (int_le (low_of 1 row) x) (int_lt k (high_of 0 row)) (int_lt x (high_of 1 row))
  where
    regroup : (a b c d : Bool) → ((a && (b && true)) && (c && (d && true))) ≡ ((a && c) && (b && d))
    regroup true true true true = refl
    regroup true true true false = refl
    regroup true true false d = refl
    regroup true false true d = refl
    regroup true false false d = refl
    regroup false b c d = refl

room_of : (row : BoxRow) → IsBoxRow 2 row → low_of 1 row <ℤ high_of 1 row
unfolding each
room_of row b =
    let (e, f) = box_lengths 2 (ends_of row).lo (ends_of row).hi b.box in
    let x : IsBox 2 (ends_of row).lo (ends_of row).hi = box_from 2 (ends_of row).lo (ends_of row).hi (sym b.box) in
    let r : each int_lt (low_of 0 row ∷ low_of 1 row ∷ []) (high_of 0 row ∷ high_of 1 row ∷ []) ≡ true =
    sym (ap₂ (λ (lo hi : List ℤ). each int_lt lo hi) (two_of row.dim row.lo e) (two_of row.dim row.hi f)) ∙ x.room in
    lt_is (low_of 1 row) (high_of 1 row) (and_first (int_lt (low_of 1 row) (high_of 1 row)) true (and_second (int_lt (low_of 0 row) (high_of 0 row)) (int_lt (low_of 1 row) (high_of 1 row) && true) r))

-- ---- the rows one by one

-- the line has what the first i rows have at the height k, and the others begin no earlier than a level
pub record Gathered (rows : List BoxRow) (k : ℤ) (i : ℕ) (line : List ℤ) : Type 0 where
  pub level : ℤ
  pub ahead : (j : ℕ) (d : BoxRow) → i ≤ j → j < length rows → level ≤ℤ low_of 1 (get_or rows j d)
  pub runs : Runs level (λ x. filled (take i rows) (k ∷ x ∷ [])) line

pub gathered_start : (rows : List BoxRow) (k : ℤ) (line : List ℤ) → line ≡ [] → IsSortedByKey (low_of 1) int_cmp rows → Gathered rows k 0 line
gathered_start [] k line e s = record { level = pos 0; ahead = λ j d l m. absurd (omega arith); runs = inl (e, λ x. refl) }
gathered_start (row ∷ rows) k line e s = record { level = low_of 1 row; ahead = λ j d l m. ordered (row ∷ rows) 0 j d s l m; runs = inl (e, λ x. refl) }

same_runs : (l : ℤ) (F G : ℤ → Bool) (w : List ℤ) → Runs l F w → ((x : ℤ) → G x ≡ F x) → Runs l G w
same_runs l F G w rs e =
    ⊎_elim
    (λ (n : (w ≡ []) × ((x : ℤ) → F x ≡ false)). inl (n.0, λ x. e x ∙ n.1 x))
    (λ (r : Run l F w). inr (record {
      front = r.front;
      end = r.end;
      is = r.is;
      rises = r.rises;
      odd_many = r.odd_many;
      low = r.low;
      under = r.under;
      fills = λ x. r.fills x ∙ sym (e x);
    }))
    rs

or_none : (b : Bool) → (b || false) ≡ b
or_none true = refl
or_none false = refl

filled-more : (rows : List BoxRow) (i : ℕ) (d : BoxRow) (c : List ℤ) → i < length rows → filled (take (i + 1) rows) c ≡ (filled (take i rows) c || holds c (ends_of (get_or rows i d)))
filled-more rows i d c l =
    ap (λ (u : List BoxRow). filled u c) (take_more rows i d l)
    ∙ list_any-append (λ (row : BoxRow). holds c (ends_of row)) (take i rows) (get_or rows i d ∷ [])
    ∙ ap (λ t. filled (take i rows) c || t) (or_none (holds c (ends_of (get_or rows i d))))

pub gathered_more : (rows : List BoxRow) (k : ℤ) (i : ℕ) (d : BoxRow) (line grown : List ℤ) → All (IsBoxRow 2) rows → IsSortedByKey (low_of 1) int_cmp rows → i < length rows
    → IsWithPart (get_or rows i d) k line grown → Gathered rows k i line → Gathered rows k (i + 1) grown
gathered_more rows k i d line grown a s l h g = at (int_le (low_of 0 row) k && int_lt k (high_of 0 row)) refl
  where
    row : BoxRow
    row = get_or rows i d

    b : IsBoxRow 2 row
    b = a i d l

    at : (t : Bool) → (int_le (low_of 0 row) k && int_lt k (high_of 0 row)) ≡ t → Gathered rows k (i + 1) grown
    at true e = record {
      level = low_of 1 row;
      ahead = λ j dd m n. ordered_at rows i j d dd s (omega arith) n l;
      runs = runs_more g.level (λ x. filled (take i rows) (k ∷ x ∷ [])) line (low_of 1 row) (high_of 1 row) (λ x. filled (take (i + 1) rows) (k ∷ x ∷ [])) grown g.runs
          (g.ahead i d (omega arith) l) (room_of row b)
          (subst (λ (t : Bool). MatchBool t (IsWithRun line (low_of 1 row) (high_of 1 row) grown) (grown ≡ line)) e h)
          (λ x. filled-more rows i d (k ∷ x ∷ []) l
          ∙ ap (λ t. filled (take i rows) (k ∷ x ∷ []) || t) (holds-two k x row b ∙ ap (λ t. t && (int_le (low_of 1 row) x && int_lt x (high_of 1 row))) e));
    }
    at false e =
        let same : grown ≡ line = subst (λ (t : Bool). MatchBool t (IsWithRun line (low_of 1 row) (high_of 1 row) grown) (grown ≡ line)) e h in
        record {
          level = g.level;
          ahead = λ j dd m n. g.ahead j dd (omega arith) n;
          runs = subst (Runs g.level (λ x. filled (take (i + 1) rows) (k ∷ x ∷ []))) (sym same)
              (same_runs g.level (λ x. filled (take i rows) (k ∷ x ∷ [])) (λ x. filled (take (i + 1) rows) (k ∷ x ∷ [])) line g.runs
              (λ x. filled-more rows i d (k ∷ x ∷ []) l
              ∙ ap (λ t. filled (take i rows) (k ∷ x ∷ []) || t) (holds-two k x row b ∙ ap (λ t. t && (int_le (low_of 1 row) x && int_lt x (high_of 1 row))) e)
              ∙ or_none (filled (take i rows) (k ∷ x ∷ []))));
        }

-- ---- all rows

line_is : (rows : List BoxRow) (k : ℤ) (i : ℕ) (line : List ℤ) → All (IsBoxRow 2) rows → length rows ≤ i → Gathered rows k i line → ones line ≡ evm 1 (slice 1 0 k (union_of 2 (map ends_of rows)))
line_is rows k i line a l g =
    let S = slice 1 0 k (union_of 2 (map ends_of rows)) in
    let s : IsCellSet 1 S = cell_set-slice 1 0 k (union_of 2 (map ends_of rows)) in
    let F : ℤ → Bool = λ x. filled (take i rows) (k ∷ x ∷ []) in
    let v : IsVertexList 1 (evm 1 S) = vertices-evm 1 S s in
    by_places (evm 1 S) line v (runs_rise g.level F line g.runs)
    (λ x. runs_fill g.level F line g.runs x ∙ ap (λ (u : List BoxRow). filled u (k ∷ x ∷ [])) (take_all i rows l)
    ∙ sym (par-cells (evm 1 S) x v ∙ ap (λ A. has A (x ∷ [])) (cells-evm 1 S s) ∙ has-section 1 k rows (x ∷ []) a))

pub section_rows : (rows : List BoxRow) (k : ℤ) (i : ℕ) (line : List ℤ) → All (IsBoxRow 2) rows → length rows ≤ i → Gathered rows k i line
    → rows_of line 1 0 ≡ evm 1 (slice 1 0 k (union_of 2 (map ends_of rows)))
section_rows rows k i line a l g = rows_of-ones line ∙ line_is rows k i line a l g

pub section_are : (rows : List BoxRow) (k : ℤ) (i : ℕ) (line : List ℤ) → All (IsBoxRow 2) rows → length rows ≤ i → Gathered rows k i line → AreRows line 1 0
section_are rows k i line a l g =
    let S = slice 1 0 k (union_of 2 (map ends_of rows)) in
    are_rows-from line 1 (omega arith) (omega arith) (omega arith)
    (subst (IsVertexList 1) (sym (section_rows rows k i line a l g)) (vertices-evm 1 S (cell_set-slice 1 0 k (union_of 2 (map ends_of rows)))))

-- ---- the loop over heights

-- what is written, and the section just above it
pub record Swept (rows : List BoxRow) (below : List (List ℤ)) (out left : List ℤ) : Type 0 where
  pub level : ℤ
  pub written : Written 1 (union_of 2 (map ends_of rows)) level out left
  pub section : below ≡ evm 1 (slice 1 0 level (union_of 2 (map ends_of rows)))

pub swept_start : (rows : List BoxRow) (below : List (List ℤ)) (out heights : List ℤ) → All (IsBoxRow 2) rows → AreEvents rows heights → below ≡ [] → out ≡ [] → Swept rows below out heights
swept_start rows below out heights a e b o =
    let S = union_of 2 (map ends_of rows) in
    record {
      level = bottom 1;
      written = events_start 1 rows out heights a e o;
      section = b ∙ sym (ap (evm 1) (section_start 1 S (cell_set-union 2 (map ends_of rows))) ∙ evm-empty 1);
    }

pub swept_more : (rows : List BoxRow) (h : ℤ) (i : ℕ) (below above : List (List ℤ)) (out grown heights : List ℤ) → i < length heights → h ≡ get_or heights i (pos 0)
    → above ≡ evm 1 (slice 1 0 h (union_of 2 (map ends_of rows))) → grown ≡ out ++ flat_of (raised (Some h) (xor_rows 1 below above))
    → Swept rows below out (drop i heights) → Swept rows above grown (drop (i + 1) heights)
swept_more rows h i below above out grown heights l e a g s =
    let S = union_of 2 (map ends_of rows) in
    let set : IsCellSet 2 S = cell_set-union 2 (map ends_of rows) in
    let next : suc i ≡ i + 1 = omega arith in
    let left : drop i heights ≡ h ∷ drop (i + 1) heights = drop-cons heights i (pos 0) l ∙ ap₂ (λ (x : ℤ) (j : ℕ). x ∷ drop j heights) (sym e) next in
    let w : Written 1 S s.level out (h ∷ drop (i + 1) heights) = subst (Written 1 S s.level out) left s.written in
    record {
      level = h;
      written = written_more 1 S s.level h out grown (drop (i + 1) heights) set w
          (g ∙ ap (λ (V : List (List ℤ)). out ++ flat_of (raised (Some h) V)) (couplet_of_sections 1 S s.level h out (drop (i + 1) heights) below above set w s.section a));
      section = a;
    }

pub swept_all : (rows : List BoxRow) (i : ℕ) (below : List (List ℤ)) (out heights : List ℤ) → length heights ≤ i → Swept rows below out (drop i heights) → out ≡ flat_of (evm 2 (union_of 2 (map ends_of rows)))
swept_all rows i below out heights l s =
    let S = union_of 2 (map ends_of rows) in
    written_all 1 S s.level out (cell_set-union 2 (map ends_of rows)) (subst (Written 1 S s.level out) (drop_all i heights l) s.written)
