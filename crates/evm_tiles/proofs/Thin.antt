-- A section, out of the thin window at its height.
use Rattle.evm_shapes.proofs.Shifted.{coord_32}
use Rattle.evm_cells.proofs.Lists.{all_members}
use Rattle.evm_cells.proofs.Places.{strict_places, has-any}
use Rattle.evm_cells.proofs.Insides.{cell_set-clip, has-clip_of}
use Rattle.evm_cells.proofs.SlicedInsides.{slice_of_clip}
use Rattle.std.proofs.Common.{◌≡◌, ℕ, suc, ◌-◌, ◌≤◌, ◌-ℤ◌, ◌+ℤ◌, w32, to_z, of_z, SFits, FitsSigned, ◌≤ℤ◌, ◌<ℤ◌, Bool, true, false, ◌&&◌, List, [], ◌∷◌, length, take, slice_set, ℤ, pos, neg_ℤ, int_le, int_lt, int_eq, refl, sym, ap, ◌∙◌, subst, arith}
use Rattle.std.specs.List.{list_all}
use Rattle.std.proofs.lemmas.Int.{ints as int_facts}
use Rattle.evm_cells.specs.Places.{each, has, same, before, with_at}
use Rattle.evm_cells.specs.Limits.{limit, is_point, is_point_coord, is_cell, is_cell_coord, IsCellSet}
use Rattle.evm_cells.specs.Boxes.{is_box}
use Rattle.evm_cells.specs.Sections.{slice}
use Rattle.evm_cells.specs.Shapes.{clip}
use Rattle.evm_cells.proofs.Xor.{and_both, and_second}
use Rattle.evm_cells.proofs.Coords.{limit-small, cell_is, eq_yes, le_yes, lt_yes, point_yes}
use Rattle.evm_cells.proofs.Universe.{cell_parts, point_from, same_sets, member_passes}
use Rattle.evm_cells.proofs.Slices.{cell_set-slice, has-slice_of}
use Rattle.evm_rows.proofs.BoxTests.{same32}
use Rattle.evm_cutting.proofs.Planes.{ends_of, six, each_left, each_flip, all_take, all_equal, long, cell_low, cell_high}

abbrev pub five : ℤ → List ℤ
five x = x ∷ x ∷ x ∷ x ∷ x ∷ []

five_equal : (x : ℤ) → list_all (int_eq x) (five x) ≡ true
five_equal x =
    let e : int_eq x x ≡ true = eq_yes x x refl in
    and_both (int_eq x x) (list_all (int_eq x) (x ∷ x ∷ x ∷ x ∷ [])) e
    (and_both (int_eq x x) (list_all (int_eq x) (x ∷ x ∷ x ∷ [])) e
    (and_both (int_eq x x) (list_all (int_eq x) (x ∷ x ∷ [])) e
    (and_both (int_eq x x) (list_all (int_eq x) (x ∷ [])) e
    (and_both (int_eq x x) true e refl))))

-- the least and the largest coordinate, and a cell coordinate with the next
pub record Thin (m : ℕ) (x y a b : ℤ) : Type 0 where
  pub few : m ≤ 5
  pub least : x ≡ neg_ℤ (pos (limit (suc m)))
  pub most : y ≡ pos (limit (suc m))
  pub begins : x ≤ℤ a
  pub room : a <ℤ b
  pub ends : b ≤ℤ y

pub thin_box : (m : ℕ) (x y a b : ℤ) → Thin m x y a b → is_box (suc m) (take (suc m) (slice_set (six x) 0 a)) (take (suc m) (slice_set (six y) 0 b)) ≡ true
unfolding each
thin_box m x y a b t =
    let n : ℕ = suc m in
    let p = is_point_coord n in
    let l = t.least in
    let k = t.most in
    let r = t.begins in
    let s = t.room in
    let u = t.ends in
    let f = t.few in
    let px : p x ≡ true = point_yes n x (omega (arith, int_facts)) (omega (arith, int_facts)) in
    let py : p y ≡ true = point_yes n y (omega (arith, int_facts)) (omega (arith, int_facts)) in
    let pa : p a ≡ true = point_yes n a (omega (arith, int_facts)) (omega (arith, int_facts)) in
    let pb : p b ≡ true = point_yes n b (omega (arith, int_facts)) (omega (arith, int_facts)) in
    let lo : List ℤ = take m (five x) in
    let hi : List ℤ = take m (five y) in
    let el : length lo ≡ m = long m (five x) f in
    let eh : length hi ≡ m = long m (five y) f in
    and_both (is_point n (a ∷ lo) && is_point n (b ∷ hi)) (int_lt a b && each int_lt lo hi)
    (and_both (is_point n (a ∷ lo)) (is_point n (b ∷ hi))
    (point_from n (a ∷ lo) (ap suc el) (and_both (p a) (list_all p lo) pa (all_take p m (five x) (all_equal p x (five x) (five_equal x) px))))
    (point_from n (b ∷ hi) (ap suc eh) (and_both (p b) (list_all p hi) pb (all_take p m (five y) (all_equal p y (five y) (five_equal y) py)))))
    (and_both (int_lt a b) (each int_lt lo hi) (lt_yes a b s)
    (each_left int_lt x (five x) hi m (five_equal x) f eh (all_take (int_lt x) m (five y) (all_equal (int_lt x) y (five y) (five_equal y) (lt_yes x y (omega (arith, int_facts)))))))

-- what is inside the box of all is all
clip_all : (m k : ℕ) (x y : ℤ) (T : List (List ℤ)) → m ≤ 5 → x ≡ neg_ℤ (pos (limit k)) → y ≡ pos (limit k) → IsCellSet m T → list_all (list_all (is_cell_coord k)) T ≡ true → clip m (take m (five x)) (take m (five y)) T ≡ T
clip_all m n x y T f e g t within =
    let lo : List ℤ = take m (five x) in
    let hi : List ℤ = take m (five y) in
    let k : IsCellSet m (clip m lo hi T) = cell_set-clip m lo hi T in
    same_sets (clip m lo hi T) T k.ascends t.ascends
    (λ c. has-clip_of m lo hi T c t
    ∙ passes (has T c) (is_cell m c && (each int_le lo c && each int_lt c hi))
    (λ h. let w : is_cell m c ≡ true = member_passes (is_cell m) T c t.cells h in
    let (d, r) = cell_parts m c w in
    let q : list_all (is_cell_coord n) c ≡ true = member_passes (list_all (is_cell_coord n)) T c within h in
    and_both (is_cell m c) (each int_le lo c && each int_lt c hi) w
    (and_both (each int_le lo c) (each int_lt c hi)
    (each_left int_le x (five x) c m (five_equal x) f d (cell_low n x c e q))
    (each_flip int_lt c hi ∙ each_left (λ u v. int_lt v u) y (five y) c m (five_equal y) f d (cell_high n y c g q)))))
  where
    passes : (u v : Bool) → (u ≡ true → v ≡ true) → (u && v) ≡ u
    passes true v h = h refl
    passes false v h = refl

-- the cells of a section keep to the limit of the whole
slice_within : (m : ℕ) (a : ℤ) (S : List (List ℤ)) → IsCellSet (suc m) S → list_all (list_all (is_cell_coord (suc m))) (slice m 0 a S) ≡ true
unfolding with_at
slice_within m a S s = all_members same before strict_places (list_all (is_cell_coord (suc m))) (slice m 0 a S)
    (λ c h. let (d, q) = cell_parts (suc m) (a ∷ c) (member_passes (is_cell (suc m)) S (a ∷ c) s.cells (sym (has-slice_of m 0 a S c s) ∙ has-any (slice m 0 a S) c ∙ h)) in
    and_second (is_cell_coord (suc m) a) (list_all (is_cell_coord (suc m)) c) q)

pub thin_section : (m : ℕ) (x y a b : ℤ) (S : List (List ℤ)) → Thin m x y a b → IsCellSet (suc m) S
    → slice m 0 a (clip (suc m) (take (suc m) (slice_set (six x) 0 a)) (take (suc m) (slice_set (six y) 0 b)) S) ≡ slice m 0 a S
thin_section m x y a b S t s =
    slice_of_clip m a b a (take m (five x)) (take m (five y)) S s (le_yes a a (omega (arith, int_facts))) (lt_yes a b t.room)
    ∙ clip_all m (suc m) x y (slice m 0 a S) t.few t.least t.most (cell_set-slice m 0 a S) (slice_within m a S s)

pub thin_section_at : (n m : ℕ) (x y a b : ℤ) (S : List (List ℤ)) → n ≡ suc m → Thin m x y a b → IsCellSet n S
    → slice (n - 1) 0 a (clip n (take n (slice_set (six x) 0 a)) (take n (slice_set (six y) 0 b)) S) ≡ slice (n - 1) 0 a S
thin_section_at n m x y a b S e t s =
    let d : n - 1 ≡ m = omega arith in
    ap (λ (j : ℕ). slice j 0 a (clip n (take n (slice_set (six x) 0 a)) (take n (slice_set (six y) 0 b)) S)) d
    ∙ ap (λ (k : ℕ). slice m 0 a (clip k (take k (slice_set (six x) 0 a)) (take k (slice_set (six y) 0 b)) S)) e
    ∙ thin_section m x y a b S t (subst (λ (k : ℕ). IsCellSet k S) e s)
    ∙ ap (λ (j : ℕ). slice j 0 a S) (sym d)

pub thin_box_at : (n m : ℕ) (x y a b : ℤ) → n ≡ suc m → Thin m x y a b → is_box n (take n (slice_set (six x) 0 a)) (take n (slice_set (six y) 0 b)) ≡ true
thin_box_at n m x y a b e t = ap (λ (k : ℕ). is_box k (take k (slice_set (six x) 0 a)) (take k (slice_set (six y) 0 b))) e ∙ thin_box m x y a b t

-- a cell coordinate and the next one, as the code has them
next_of : (n : ℕ) (at : ℤ) → is_cell_coord n at ≡ true → SFits w32 at
    → (to_z w32 (of_z w32 at) ≡ at) × (to_z w32 (of_z w32 (to_z w32 (of_z w32 at) +ℤ pos 1)) ≡ at +ℤ pos 1)
next_of n at h fits =
    let (low, high) = cell_is n at h in
    let e : to_z w32 (of_z w32 at) ≡ at = same32 at fits in
    let up : to_z w32 (of_z w32 at) +ℤ pos 1 ≡ at +ℤ pos 1 = omega (arith, int_facts, e) in
    (e, ap (λ (z : ℤ). to_z w32 (of_z w32 z)) up ∙ same32 (at +ℤ pos 1) (coord_32 n (at +ℤ pos 1) (point_yes n (at +ℤ pos 1) (omega (arith, int_facts, low)) (omega (arith, int_facts, high)))))

pub thin_of : (n m : ℕ) (at l : ℤ) → n ≡ suc m → n ≤ 6 → is_cell_coord n at ≡ true → l ≡ pos (limit n) → SFits w32 at
    → Thin m (to_z w32 (of_z w32 (pos 0 -ℤ to_z w32 (of_z w32 l)))) (to_z w32 (of_z w32 l)) (to_z w32 (of_z w32 at)) (to_z w32 (of_z w32 (to_z w32 (of_z w32 at) +ℤ pos 1)))
thin_of n m at l s few h e fits =
    let (low, high) = cell_is n at h in
    let (ey, ex) = ends_of n l e in
    let (ea, eb) = next_of n at h fits in
    record {
      few = omega arith;
      least = ex ∙ ap (λ (k : ℕ). neg_ℤ (pos (limit k))) s;
      most = ey ∙ ap (λ (k : ℕ). pos (limit k)) s;
      begins = omega (arith, int_facts, ex, ea, low);
      room = omega (arith, int_facts, ea, eb);
      ends = omega (arith, int_facts, ey, eb, high);
    }

pub next_fits : (n : ℕ) (at : ℤ) → is_cell_coord n at ≡ true → SFits w32 at → FitsSigned w32 (to_z w32 (of_z w32 at) +ℤ pos 1)
next_fits n at h fits =
    let (low, high) = cell_is n at h in
    let m = limit-small n in
    let ea : to_z w32 (of_z w32 at) ≡ at = same32 at fits in
    omega (arith, int_facts, ea, low, high, m)
