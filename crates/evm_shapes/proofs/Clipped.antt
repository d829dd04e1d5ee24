-- Rows that are moved into a box.
use Rattle.std.proofs.Common.{◌≡◌, ℕ, zero, suc, ◌+◌, ◌<◌, ◌≤◌, ◌%◌, Bool, true, false, ◌&&◌, ◌==◌, List, [], ◌∷◌, ◌++◌, length, drop, get_or, map, ℤ, pos, int_eq, refl, sym, ap, ap₂, ◌∙◌, subst, arith, add-one, append_assoc, append-nil, eq-eqb}
use Rattle.std.specs.List.{list_all}
use Rattle.std.proofs.lemmas.List.{drop_more}
use native.Mathlib.Nat.{mul-mod_left}
use Rattle.evm_cells.specs.Places.{same, each}
use Rattle.evm_cells.specs.Limits.{is_point}
use Rattle.evm_cells.specs.Boxes.{is_box}
use Rattle.evm_cells.specs.Shapes.{clip}
use Rattle.evm_cells.specs.Vertices.{evm, cells, IsVertexList}
use Rattle.evm_cells.specs.Windows.{between, clamped, IsReduced}
use Rattle.evm_cells.proofs.Clamping.{length-clamped, clip_by_rows}
use Rattle.evm_cells.proofs.Insides.{box_lengths}
use Rattle.evm_cells.proofs.Lists.{all_weaker}
use Rattle.evm_cells.proofs.Coords.{strict_ints}
use Rattle.evm_cells.proofs.Order.{refuted}
use Rattle.evm_cells.proofs.Places.{strict_places}
use Rattle.evm_cells.proofs.Universe.{point_parts, xsum-same_place}
use Rattle.evm_cells.proofs.Xor.{odd-count, and_first, and_second}
use Rattle.evm_rows.specs.Rows.{rows_of, flat_of}
use Rattle.evm_rows.proofs.Bridge.{wide-points}
use Rattle.evm_rows.proofs.RowsOrder.{Wide, rows_of-flat_of, length-flat_of}
use Rattle.evm_shapes.specs.Moves.{stays_in}

-- ---- one row

clamped-more : (lo hi c : List ℤ) (k : ℕ) → k < length lo → k < length hi → k < length c
    → clamped (drop k lo) (drop k hi) (drop k c) ≡ between (get_or lo k (pos 0)) (get_or hi k (pos 0)) (get_or c k (pos 0)) ∷ clamped (drop (suc k) lo) (drop (suc k) hi) (drop (suc k) c)
unfolding clamped
clamped-more [] hi c k l m n = absurd (omega arith)
clamped-more (a ∷ lo) [] c k l m n = absurd (omega arith)
clamped-more (a ∷ lo) (b ∷ hi) [] k l m n = absurd (omega arith)
clamped-more (a ∷ lo) (b ∷ hi) (x ∷ c) zero l m n = refl
clamped-more (a ∷ lo) (b ∷ hi) (x ∷ c) (suc k) l m n = clamped-more lo hi c k (omega arith) (omega arith) (omega arith)

clamped-end : (lo hi c : List ℤ) (k : ℕ) → length lo ≤ k → clamped (drop k lo) (drop k hi) (drop k c) ≡ []
unfolding clamped
clamped-end [] hi c zero l = refl
clamped-end [] hi c (suc k) l = refl
clamped-end (a ∷ lo) hi c zero l = absurd (omega arith)
clamped-end (a ∷ lo) [] c (suc k) l = none (drop k lo)
  where
    none : (us : List ℤ) → clamped us [] (drop (suc k) c) ≡ []
    none [] = refl
    none (u ∷ us) = refl
clamped-end (a ∷ lo) (b ∷ hi) [] (suc k) l = none (drop k lo) (drop k hi)
  where
    none : (us vs : List ℤ) → clamped us vs [] ≡ []
    none [] vs = refl
    none (u ∷ us) [] = refl
    none (u ∷ us) (v ∷ vs) = refl
clamped-end (a ∷ lo) (b ∷ hi) (x ∷ c) (suc k) l = clamped-end lo hi c k (omega arith)

pub clamped_more : (lo hi c : List ℤ) (k : ℕ) (out new all : List ℤ) → k < length lo → k < length hi → k < length c → new ≡ out ++ between (get_or lo k (pos 0)) (get_or hi k (pos 0)) (get_or c k (pos 0)) ∷ []
    → out ++ clamped (drop k lo) (drop k hi) (drop k c) ≡ all → new ++ clamped (drop (k + 1) lo) (drop (k + 1) hi) (drop (k + 1) c) ≡ all
clamped_more lo hi c k out new all l m o n h =
    let x : ℤ = between (get_or lo k (pos 0)) (get_or hi k (pos 0)) (get_or c k (pos 0)) in
    let rest : List ℤ = clamped (drop (k + 1) lo) (drop (k + 1) hi) (drop (k + 1) c) in
    ap (λ (z : List ℤ). z ++ rest) n ∙ append_assoc out (x ∷ []) rest ∙ ap (λ (z : List ℤ). out ++ z) (ap (λ (j : ℕ). x ∷ clamped (drop j lo) (drop j hi) (drop j c)) (add-one k) ∙ sym (clamped-more lo hi c k l m o)) ∙ h

pub clamped_all : (lo hi c : List ℤ) (k : ℕ) (out all : List ℤ) → length lo ≤ k → out ++ clamped (drop k lo) (drop k hi) (drop k c) ≡ all → out ≡ all
clamped_all lo hi c k out all l h = sym (append-nil out) ∙ ap (λ (z : List ℤ). out ++ z) (sym (clamped-end lo hi c k l)) ∙ h

-- ---- all rows

wide-clamped : (n : ℕ) (lo hi : List ℤ) (V : List (List ℤ)) → length lo ≡ n → length hi ≡ n → Wide n V → Wide n (map (clamped lo hi) V)
wide-clamped n lo hi [] e f w = tt
wide-clamped n lo hi (p ∷ V) e f w = (let g = w.0 in length-clamped lo hi p (omega arith) (omega arith) ∙ e, wide-clamped n lo hi V e f w.1)

pub clamped_rows : (n : ℕ) (lo hi : List ℤ) (V : List (List ℤ)) (flat : List ℤ) → 0 < n → length lo ≡ n → length hi ≡ n → Wide n V → flat ≡ flat_of (map (clamped lo hi) V)
    → (length flat % n ≡ 0) × (rows_of flat n 0 ≡ map (clamped lo hi) V)
clamped_rows n lo hi V flat some e g u f =
    let w : Wide n (map (clamped lo hi) V) = wide-clamped n lo hi V e g u in (
      ap (λ (z : List ℤ). length z % n) f ∙ ap (λ (k : ℕ). k % n) (length-flat_of n (map (clamped lo hi) V) w) ∙ mul-mod_left (length (map (clamped lo hi) V)) n,
      ap (λ (z : List ℤ). rows_of z n 0) f ∙ rows_of-flat_of n (map (clamped lo hi) V) some w,
    )

-- a list that began empty, with the moved rows of a vertex list
pub moved_rows_are : (n : ℕ) (lo hi : List ℤ) (V : List (List ℤ)) (start flat : List ℤ) → 0 < n → is_box n lo hi ≡ true → IsVertexList n V → start ≡ [] → flat ≡ start ++ flat_of (map (clamped lo hi) V)
    → (length flat % n ≡ 0) × (rows_of flat n 0 ≡ map (clamped lo hi) V)
moved_rows_are n lo hi V start flat some box v e f =
    let l = box_lengths n lo hi box in
    clamped_rows n lo hi V flat some l.0 l.1 (wide-points n V v.points) (f ∙ ap (λ (u : List ℤ). u ++ flat_of (map (clamped lo hi) V)) e)

-- ---- rows that stay where they are

stays-more : (lo hi p : List ℤ) (k : ℕ) → k < length lo → k < length hi → k < length p
    → stays_in (drop k lo) (drop k hi) (drop k p) ≡ (int_eq (between (get_or lo k (pos 0)) (get_or hi k (pos 0)) (get_or p k (pos 0))) (get_or p k (pos 0)) && stays_in (drop (k + 1) lo) (drop (k + 1) hi) (drop (k + 1) p))
unfolding same each
stays-more lo hi p k l m n =
    let x : ℤ = get_or p k (pos 0) in
    let y : ℤ = between (get_or lo k (pos 0)) (get_or hi k (pos 0)) x in
    ap₂ same
    (clamped-more lo hi p k l m n ∙ ap (λ (j : ℕ). y ∷ clamped (drop j lo) (drop j hi) (drop j p)) (sym (add-one k)))
    (drop_more p k (pos 0) n)

pub stay_more : (lo hi p : List ℤ) (k : ℕ) (all : Bool) → k < length lo → k < length hi → k < length p
    → between (get_or lo k (pos 0)) (get_or hi k (pos 0)) (get_or p k (pos 0)) ≡ get_or p k (pos 0) → all ≡ stays_in (drop k lo) (drop k hi) (drop k p)
    → all ≡ stays_in (drop (k + 1) lo) (drop (k + 1) hi) (drop (k + 1) p)
stay_more lo hi p k all l m n e h =
    let x : ℤ = get_or p k (pos 0) in
    let rest : Bool = stays_in (drop (k + 1) lo) (drop (k + 1) hi) (drop (k + 1) p) in
    h ∙ stays-more lo hi p k l m n ∙ ap (λ (b : Bool). b && rest) (ap (λ (y : ℤ). int_eq y x) e ∙ strict_ints.itself x)

pub stay_fails : (lo hi p : List ℤ) (k : ℕ) (all : Bool) → k < length lo → k < length hi → k < length p
    → (between (get_or lo k (pos 0)) (get_or hi k (pos 0)) (get_or p k (pos 0)) ≡ get_or p k (pos 0) → ⊥) → all ≡ stays_in (drop k lo) (drop k hi) (drop k p) → false ≡ all
stay_fails lo hi p k all l m n e h =
    let x : ℤ = get_or p k (pos 0) in
    let y : ℤ = between (get_or lo k (pos 0)) (get_or hi k (pos 0)) x in
    let rest : Bool = stays_in (drop (k + 1) lo) (drop (k + 1) hi) (drop (k + 1) p) in
    sym (h ∙ stays-more lo hi p k l m n ∙ ap (λ (b : Bool). b && rest) (refuted (int_eq y x) (λ s. e (strict_ints.equal y x s))))

drop-none : (xs : List ℤ) (k : ℕ) → length xs ≤ k → drop k xs ≡ []
drop-none [] zero e = refl
drop-none [] (suc k) e = refl
drop-none (x ∷ xs) zero e = absurd (omega arith)
drop-none (x ∷ xs) (suc k) e = drop-none xs k (omega arith)

pub stay_all : (lo hi p : List ℤ) (k : ℕ) (all : Bool) → length lo ≤ k → length p ≤ k → all ≡ stays_in (drop k lo) (drop k hi) (drop k p) → true ≡ all
unfolding same each
stay_all lo hi p k all l m h = sym (h ∙ ap₂ same (clamped-end lo hi p k l) (drop-none p k m))

pub rows_stay : (lo hi : List ℤ) (V : List (List ℤ)) → list_all (stays_in lo hi) V ≡ true → map (clamped lo hi) V ≡ V
rows_stay lo hi [] h = refl
rows_stay lo hi (p ∷ V) h =
    ap₂ (λ (q : List ℤ) (W : List (List ℤ)). q ∷ W) (strict_places.equal (clamped lo hi p) p (and_first (stays_in lo hi p) (list_all (stays_in lo hi) V) h))
    (rows_stay lo hi V (and_second (stays_in lo hi p) (list_all (stays_in lo hi) V) h))

-- a vertex list is its own reduction
reduced-itself : (n : ℕ) (V : List (List ℤ)) → IsVertexList n V → IsReduced n V V
reduced-itself n V v = record {
  ascends = v.ascends;
  wide = all_weaker (is_point n) (λ p. length p == n) (λ p m. eq-eqb (length p) n (point_parts n p m).0) V v.points;
  odd_times = λ p. sym (xsum-same_place V p v.ascends) ∙ sym (odd-count (λ (q : List ℤ). same q p) V);
}

-- so where all rows stay, they are the vertices of what is inside
pub all_inside : (n : ℕ) (lo hi : List ℤ) (V : List (List ℤ)) → is_box n lo hi ≡ true → IsVertexList n V → list_all (stays_in lo hi) V ≡ true → V ≡ evm n (clip n lo hi (cells n V))
all_inside n lo hi V b v h = clip_by_rows n lo hi V V b v (subst (λ (L : List (List ℤ)). IsReduced n L V) (sym (rows_stay lo hi V h)) (reduced-itself n V v))
