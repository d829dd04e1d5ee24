-- Bytes that are read as rows, without a count of 0 and without a fall, are the body of these rows, and the rows ascend.
use Rattle.std.proofs.Common.{◌≡◌, ℕ, zero, suc, ◌+◌, ◌<◌, ◌≤◌, ◌==◌, Bool, true, false, cond, Option, Some, None, List, [], ◌∷◌, ◌++◌, map, length, drop, slice_index, ℤ, refl, sym, ap, ap₂, ◌∙◌, subst, arith, append_assoc, append-nil, int_lt}
use Rattle.std.specs.Prelude.{◌&&◌, ◌||◌, option_and_then}
use Rattle.std.specs.List.{AllByRecursion}
use Rattle.std.specs.Ordering.{int_eq, is_lt}
use Rattle.std.proofs.lemmas.Bool.{and_from}
use Rattle.std.proofs.lemmas.Bool.Decides.{nat_tests}
use Rattle.std.proofs.lemmas.Int.{ints as int_facts}
use Rattle.std.proofs.lemmas.List.{take-append-drop, get_or-drop}
use Rattle.byteorder.specs.Endian.{big_bytes}
use Rattle.evm_rows.specs.Rows.{ascends, is_below_first, row_cmp}
use Rattle.evm_cells.specs.Places.{before}
use Rattle.evm_cells.proofs.Xor.{and_first, and_second}
use Rattle.evm_rows.proofs.Bridge.{before-cmp}
use Rattle.evm_rows.proofs.RowsOrder.{Wide}
use Rattle.evm_sections.specs.Couplets.{couplets_of, joined, rise_above}
use Rattle.evm_sections.proofs.Stretch.{StartsOther, couplets_of-under, row_cmp-under}
use Rattle.evm_formats.specs.FirstFile.{field}
use Rattle.evm_formats.specs.Nested.{Reading, noted, falls, next_count, next_height, is_cut_off, after_count, after_height, after_row, read_heights, read_body}
use Rattle.evm_formats.specs.RowBodies.{items, row_body}
use Rattle.evm_formats.proofs.Fields.{bytes_of_number, field_of_number}
use Rattle.evm_formats.proofs.Bodies.{HasRow}
use Rattle.evm_formats.proofs.BodyReads.{RiseFrom, rows_more}

-- ---- couplets that rise

-- rows of n numbers that ascend, and there is one
pub record IsBlock (n : ℕ) (V : List (List ℤ)) : Type 0 where
  pub some : HasRow V
  pub wide : Wide n V
  pub up : ascends V ≡ true

abbrev pub AllBlocks : ℕ → List (ℤ × List (List ℤ)) → Type 0
AllBlocks n = AllByRecursion (λ p. IsBlock n p.1)

wide-under : (n : ℕ) (h : ℤ) (c rs : List (List ℤ)) → Wide n c → Wide (suc n) rs → Wide (suc n) (map (λ r. h ∷ r) c ++ rs)
wide-under n h [] rs a b = b
wide-under n h (r ∷ c) rs a b = (ap suc a.0, wide-under n h c rs a.1 b)

wide-joined : (n : ℕ) (cs : List (ℤ × List (List ℤ))) → AllBlocks n cs → Wide (suc n) (joined cs)
wide-joined n [] a = tt
wide-joined n ((h, c) ∷ cs) a = let w = a.0 in wide-under n h c (joined cs) w.wide (wide-joined n cs a.1)

-- the first row of the couplets above a height begins above it
starts_other : (n : ℕ) (h : ℤ) (cs : List (ℤ × List (List ℤ))) → rise_above h cs ≡ true → AllBlocks n cs → StartsOther h (joined cs)
starts_other n h [] up a = tt
starts_other n h ((k, c) ∷ cs) up a =
    let b = a.0 in let s = b.some in
    let higher : int_lt h k ≡ true = and_first (int_lt h k) (rise_above k cs) up in
    subst (λ (V : List (List ℤ)). StartsOther h (map (λ r. k ∷ r) V ++ joined cs)) (sym s.are) (grind (arith, int_facts, higher))

rest_rise : (last : Option ℤ) (h : ℤ) (c : List (List ℤ)) (cs : List (ℤ × List (List ℤ))) → RiseFrom last ((h, c) ∷ cs) → rise_above h cs ≡ true
rest_rise None h c cs e = e
rest_rise (Some g) h c cs e = and_second (int_lt g h) (rise_above h cs) e

-- these couplets are those of their rows
couplets_again : (n : ℕ) (cs : List (ℤ × List (List ℤ))) (last : Option ℤ) → RiseFrom last cs → AllBlocks n cs → couplets_of (joined cs) ≡ cs
unfolding couplets_of
couplets_again n [] last up a = refl
couplets_again n ((h, c) ∷ cs) last up a =
    let b = a.0 in let s = b.some in
    let higher = rest_rise last h c cs up in
    ap (λ (V : List (List ℤ)). couplets_of (map (λ r. h ∷ r) V ++ joined cs)) s.are
    ∙ couplets_of-under h s.first s.others (joined cs) (starts_other n h cs higher a.1)
    ∙ ap₂ (λ (V : List (List ℤ)) (ds : List (ℤ × List (List ℤ))). (h, V) ∷ ds) (sym s.are) (couplets_again n cs (Some h) higher a.1)

head_before : (h k : ℤ) (r q : List ℤ) → int_lt h k ≡ true → is_lt (row_cmp (h ∷ r) (k ∷ q)) ≡ true
unfolding before
head_before h k r q up = sym (before-cmp (h ∷ r) (k ∷ q)) ∙ ap (λ (b : Bool). b || (int_eq h k && before r q)) up

-- a row under a height is below those of the couplets above
below-joined : (n : ℕ) (h : ℤ) (r : List ℤ) (cs : List (ℤ × List (List ℤ))) → rise_above h cs ≡ true → AllBlocks n cs → is_below_first (h ∷ r) (joined cs) ≡ true
below-joined n h r [] up a = refl
below-joined n h r ((k, c) ∷ cs) up a =
    let b = a.0 in let s = b.some in
    subst (λ (V : List (List ℤ)). is_below_first (h ∷ r) (map (λ x. k ∷ x) V ++ joined cs) ≡ true) (sym s.are)
    (head_before h k r s.first (and_first (int_lt h k) (rise_above k cs) up))

ascends-over : (h : ℤ) (c rs : List (List ℤ)) → ascends c ≡ true → ascends rs ≡ true → ((r : List ℤ) → is_below_first (h ∷ r) rs ≡ true) → ascends (map (λ r. h ∷ r) c ++ rs) ≡ true
ascends-over h [] rs up later below = later
ascends-over h (r ∷ []) rs up later below = and_from (is_below_first (h ∷ r) rs) (ascends rs) (below r) later
ascends-over h (r ∷ q ∷ c) rs up later below =
    and_from (is_lt (row_cmp (h ∷ r) (h ∷ q))) (ascends (map (λ x. h ∷ x) (q ∷ c) ++ rs))
    (ap is_lt (row_cmp-under h r q) ∙ and_first (is_lt (row_cmp r q)) (ascends (q ∷ c)) up)
    (ascends-over h (q ∷ c) rs (and_second (is_lt (row_cmp r q)) (ascends (q ∷ c)) up) later below)

ascends-joined : (n : ℕ) (cs : List (ℤ × List (List ℤ))) (last : Option ℤ) → RiseFrom last cs → AllBlocks n cs → ascends (joined cs) ≡ true
ascends-joined n [] last up a = refl
ascends-joined n ((h, c) ∷ cs) last up a =
    let b = a.0 in
    let higher = rest_rise last h c cs up in
    ascends-over h c (joined cs) b.up (ascends-joined n cs (Some h) higher a.1) (λ r. below-joined n h r cs higher a.1)

-- ---- what was read

abbrev pub AreSmall : List ℕ → Type 0
AreSmall xs = (i : ℕ) → slice_index xs i < 256

pub small-drop : (k : ℕ) (xs : List ℕ) → AreSmall xs → AreSmall (drop k xs)
small-drop k xs s i = let q = s (k + i) in let e = get_or-drop k xs i 0 in rw e q

small-after : (xs ys : List ℕ) → AreSmall (xs ++ ys) → AreSmall ys
small-after [] ys s = s
small-after (x ∷ xs) ys s = small-after xs ys (λ i. s (suc i))

pub noted_none : (o : Option ℕ) (b : Bool) (at : ℕ) → noted o b at ≡ None → (o ≡ None) × (b ≡ false)
noted_none (Some k) b at e = let q : Some k ≡ None = e in cc
noted_none None true at e = let q : Some at ≡ None = e in cc
noted_none None false at e = (refl, refl)

-- the rows between two readings are those of a body between their bytes
pub record Was (inner : List (List ℤ) → List ℕ) (n : ℕ) (front : List ℤ) (s t : Reading) : Type 0 where
  pub seen : List (List ℤ)
  pub block : IsBlock n seen
  pub rows : t.rows ≡ s.rows ++ map (λ r. front ++ r) seen
  pub bytes : s.rest ≡ inner seen ++ t.rest
  pub gap : s.gap ≡ None
  pub fall : s.fall ≡ None

-- the same of so many heights
record WereHeights (inner : List (List ℤ) → List ℕ) (n : ℕ) (front : List ℤ) (k : ℕ) (last : Option ℤ) (s t : Reading) : Type 0 where
  pub seen : List (ℤ × List (List ℤ))
  pub count : length seen ≡ k
  pub rises : RiseFrom last seen
  pub blocks : AllBlocks n seen
  pub rows : t.rows ≡ s.rows ++ map (λ r. front ++ r) (joined seen)
  pub bytes : s.rest ≡ items inner seen ++ t.rest
  pub gap : s.gap ≡ None
  pub fall : s.fall ≡ None

-- what is below each height is read so
abbrev Tells : (List ℤ → Reading → Option Reading) → (List (List ℤ) → List ℕ) → ℕ → Type 0
Tells below inner n = (front : List ℤ) (s t : Reading) → AreSmall s.rest → below front s ≡ Some t → t.gap ≡ None → t.fall ≡ None → Was inner n front s t

rise_more : (last : Option ℤ) (h : ℤ) (c : List (List ℤ)) (cs : List (ℤ × List (List ℤ))) → falls last h ≡ false → rise_above h cs ≡ true → RiseFrom last ((h, c) ∷ cs)
rise_more None h c cs f up = up
rise_more (Some g) h c cs f up = and_from (int_lt g h) (rise_above h cs) (grind (arith, int_facts, f)) up

-- one height more
height_more : (below : List ℤ → Reading → Option Reading) (inner : List (List ℤ) → List ℕ) (n k : ℕ) (front : List ℤ) (last : Option ℤ) (s u t : Reading)
    → AreSmall s.rest → is_cut_off s ≡ false → Was inner n (front ++ next_height s ∷ []) (after_height last s) u → WereHeights inner n front k (Some (next_height s)) u t
    → WereHeights inner n front (suc k) last s t
height_more below inner n k front last s u t small long w v =
    let h = next_height s in
    let four : 4 ≤ length s.rest = grind (arith, nat_tests, long) in
    let f = noted_none s.fall (falls last h) (length s.rows) w.fall in
    record {
      seen = (h, w.seen) ∷ v.seen;
      count = ap suc v.count;
      rises = rise_more last h w.seen v.seen f.1 v.rises;
      blocks = (w.block, v.blocks);
      rows = v.rows ∙ ap (λ (rs : List (List ℤ)). rs ++ map (λ r. front ++ r) (joined v.seen)) w.rows ∙ rows_more front h w.seen v.seen s.rows;
      bytes = sym (take-append-drop 4 s.rest) ∙ ap₂ (λ (a b : List ℕ). a ++ b) (sym (field_of_number s.rest four small)) (w.bytes ∙ ap (λ (xs : List ℕ). inner w.seen ++ xs) v.bytes)
          ∙ sym (append_assoc (field h) (inner w.seen) (items inner v.seen ++ t.rest)) ∙ sym (append_assoc (field h ++ inner w.seen) (items inner v.seen) t.rest);
      gap = w.gap;
      fall = f.0;
    }

-- ---- bytes stay bytes

-- what is read of small bytes leaves small bytes
abbrev KeepsSmall : (List ℤ → Reading → Option Reading) → Type 0
KeepsSmall below = (front : List ℤ) (s t : Reading) → AreSmall s.rest → below front s ≡ Some t → AreSmall t.rest

pub some_is : (a b : Reading) → Some a ≡ Some b → a ≡ b
some_is a b q = cc

-- a reading goes on from a field that is there
pub record GoesOn (o : Option Reading) (f : Reading → Option Reading) (t : Reading) : Type 0 where
  pub between : Reading
  pub first : o ≡ Some between
  pub second : f between ≡ Some t

pub goes_on : (o : Option Reading) (f : Reading → Option Reading) (t : Reading) → option_and_then f o ≡ Some t → GoesOn o f t
goes_on None f t e = let bad : None ≡ Some t = e in cc
goes_on (Some u) f t e = record { between = u; first = refl; second = e }

-- a field is there, where a reading goes on
pub is_there : (b : Bool) (o : Option Reading) (t : Reading) → cond b None o ≡ Some t → (b ≡ false) × (o ≡ Some t)
is_there true o t e = let bad : None ≡ Some t = e in cc
is_there false o t e = (refl, e)

small_heights : (below : List ℤ → Reading → Option Reading) (k : ℕ) (front : List ℤ) (last : Option ℤ) (s t : Reading) → KeepsSmall below
    → AreSmall s.rest → read_heights below front k last s ≡ Some t → AreSmall t.rest
unfolding read_heights
small_heights below zero front last s t keeps small e = subst (λ (r : Reading). AreSmall r.rest) (some_is s t e) small
small_heights below (suc k) front last s t keeps small e =
    let there = is_there (is_cut_off s) _ t e in
    let g = goes_on _ _ t there.1 in
    small_heights below k front (Some (next_height s)) g.between t keeps
    (keeps (front ++ next_height s ∷ []) (after_height last s) g.between (small-drop 4 s.rest small) g.first) g.second

pub small_body : (n : ℕ) → KeepsSmall (read_body n)
unfolding read_body
small_body zero front s t small e = subst (λ (r : Reading). AreSmall r.rest) (some_is (after_row front s) t e) small
small_body (suc n) front s t small e =
    let there = is_there (is_cut_off s) _ t e in
    small_heights (read_body n) (next_count s) front None (after_count s) t (small_body n) (small-drop 4 s.rest small) there.1

-- ---- back to bytes

rise_none : (o : Option ℤ) → RiseFrom o []
rise_none None = refl
rise_none (Some h) = refl

tells_heights : (below : List ℤ → Reading → Option Reading) (inner : List (List ℤ) → List ℕ) (n k : ℕ) (front : List ℤ) (last : Option ℤ) (s t : Reading) → Tells below inner n
    → KeepsSmall below → AreSmall s.rest → read_heights below front k last s ≡ Some t → t.gap ≡ None → t.fall ≡ None → WereHeights inner n front k last s t
unfolding read_heights
tells_heights below inner n zero front last s t tells keeps small e g f =
    let same : s ≡ t = some_is s t e in
    record {
      seen = [];
      count = refl;
      rises = rise_none last;
      blocks = tt;
      rows = sym (ap (λ (r : Reading). r.rows) same) ∙ sym (append-nil s.rows);
      bytes = ap (λ (r : Reading). r.rest) same;
      gap = ap (λ (r : Reading). r.gap) same ∙ g;
      fall = ap (λ (r : Reading). r.fall) same ∙ f;
    }
tells_heights below inner n (suc k) front last s t tells keeps small e g f =
    let h = next_height s in
    let there = is_there (is_cut_off s) _ t e in
    let o = goes_on _ _ t there.1 in
    let later = small-drop 4 s.rest small in
    let v = tells_heights below inner n k front (Some h) o.between t tells keeps (keeps (front ++ h ∷ []) (after_height last s) o.between later o.first) o.second g f in
    let w = tells (front ++ h ∷ []) (after_height last s) o.between later o.first v.gap v.fall in
    height_more below inner n k front last s o.between t small there.0 w v

-- a count that is not 0 stands before couplets
some_rows : (n k : ℕ) (cs : List (ℤ × List (List ℤ))) → AllBlocks n cs → length cs ≡ k → (k == 0) ≡ false → HasRow (joined cs)
some_rows n k [] a c z = let e : true ≡ false = ap (λ (m : ℕ). m == 0) c ∙ z in cc
some_rows n k ((h, V) ∷ cs) a c z =
    let b = a.0 in let s = b.some in
    record { first = h ∷ s.first; others = map (λ r. h ∷ r) s.others ++ joined cs; are = ap (λ (W : List (List ℤ)). map (λ r. h ∷ r) W ++ joined cs) s.are }

pub tells_body : (n : ℕ) → Tells (read_body n) (row_body n) n
unfolding read_body row_body
tells_body zero front s t small e g f =
    let same : after_row front s ≡ t = some_is (after_row front s) t e in
    record {
      seen = [] ∷ [];
      block = record { some = record { first = []; others = []; are = refl }; wide = (refl, tt); up = refl };
      rows = sym (ap (λ (r : Reading). r.rows) same) ∙ ap (λ (r : List ℤ). s.rows ++ r ∷ []) (sym (append-nil front));
      bytes = ap (λ (r : Reading). r.rest) same;
      gap = ap (λ (r : Reading). r.gap) same ∙ g;
      fall = ap (λ (r : Reading). r.fall) same ∙ f;
    }
tells_body (suc n) front s t small e g f =
    let there = is_there (is_cut_off s) _ t e in
    let four : 4 ≤ length s.rest = grind (arith, nat_tests, there.0) in
    let v = tells_heights (read_body n) (row_body n) n (next_count s) front None (after_count s) t (tells_body n) (small_body n) (small-drop 4 s.rest small) there.1 g f in
    let z = noted_none s.gap (next_count s == 0) (length s.rows) v.gap in
    let again = couplets_again n v.seen None v.rises v.blocks in
    record {
      seen = joined v.seen;
      block = record { some = some_rows n (next_count s) v.seen v.blocks v.count z.1; wide = wide-joined n v.seen v.blocks; up = ascends-joined n v.seen None v.rises v.blocks };
      rows = v.rows;
      bytes = sym (take-append-drop 4 s.rest)
          ∙ ap₂ (λ (a b : List ℕ). a ++ b) (sym (bytes_of_number 4 s.rest four small) ∙ ap (big_bytes 4) (sym v.count)) v.bytes
          ∙ sym (append_assoc (big_bytes 4 (length v.seen)) (items (row_body n) v.seen) t.rest)
          ∙ ap (λ (cs : List (ℤ × List (List ℤ))). (big_bytes 4 (length cs) ++ items (row_body n) cs) ++ t.rest) (sym again);
      gap = z.0;
      fall = v.fall;
    }
