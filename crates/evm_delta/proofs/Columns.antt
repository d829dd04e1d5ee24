-- A box that is opened along an axis holds whole columns.
use Rattle.std.proofs.Common.{◌≡◌, ℕ, zero, suc, ◌-◌, ◌<◌, ◌≤◌, Bool, true, false, ◌&&◌, ◌==◌, List, length, take, slice_set, ℤ, pos, neg_ℤ, int_le, int_lt, refl, sym, ap, ◌∙◌, arith, subst, eqb-true}
use Rattle.std.specs.List.{list_any}
use Rattle.std.proofs.lemmas.Bool.{eqb-false}
use Rattle.std.proofs.lemmas.Grind.{get_or-set_at}
use Rattle.std.proofs.lemmas.List.{get_or-set_other}
use Rattle.std.proofs.lemmas.Int.{ints as int_facts}
use Rattle.evm_cells.specs.Places.{each, has, with_at, without}
use Rattle.evm_cells.specs.Limits.{limit, is_point, is_point_coord, is_cell, cell_coords, IsCellSet}
use Rattle.evm_cells.specs.Shapes.{clip, proj}
use Rattle.evm_cells.specs.Vertices.{cells, IsVertexList}
use Rattle.evm_cells.proofs.Xor.{and_first, and_second, and_both}
use Rattle.evm_cells.proofs.Lists.{all_weaker}
use Rattle.evm_cells.proofs.Coords.{le_yes, lt_yes, point_is, point_yes, cell_is, limit-some}
use Rattle.evm_cells.proofs.Universe.{point_parts, cell_parts, member_passes, cell_set-cells}
use Rattle.evm_cells.proofs.Insides.{has-clip_of}
use Rattle.evm_cells.proofs.Slices.{coord, each-with_at, all-coord, cell_of_with_at}
use Rattle.evm_cells.proofs.Lifts.{some_passing}
use Rattle.evm_rows.specs.Rows.{Vertices, cells_of}
use Rattle.evm_cutting.proofs.Planes.{long, each_flip}
use Rattle.evm_cutting.specs.Hulls.{IsLow, IsHigh, IsAround}
use Rattle.evm_delta.specs.Hulls.{AgreesOver}
use Rattle.evm_cutting.proofs.HullLaws.{coord-take, is_inside}
use Rattle.evm_delta.proofs.ShadowLaws.{has-proj}

-- a box round the change whose ends on an axis are put to others that no row is past is one round it as well
pub set_around : (n i : ℕ) (x y : ℤ) (lo hi : List ℤ) (v : Vertices) → n ≤ length lo → n ≤ length hi → IsLow i x v → IsHigh i y v → IsAround n lo hi v → IsAround n (slice_set lo i x) (slice_set hi i y) v
set_around n i x y lo hi v ll lh low high a = record {
  low = λ j k. at_low j k (j == i) refl;
  high = λ j k. at_high j k (j == i) refl;
}
  where
    at_low : (j : ℕ) → j < n → (t : Bool) → (j == i) ≡ t → IsLow j (coord j (slice_set lo i x)) v
    at_low j k true e =
        subst (λ z. IsLow j z v) (sym (get_or-set_at lo i j x (pos 0) (eqb-true j i e) (let f = eqb-true j i e in omega (arith, f))))
        (subst (λ (l : ℕ). IsLow l x v) (sym (eqb-true j i e)) low)
    at_low j k false e = subst (λ z. IsLow j z v) (sym (get_or-set_other lo i j x (pos 0) (eqb-false j i e))) (a.low j k)

    at_high : (j : ℕ) → j < n → (t : Bool) → (j == i) ≡ t → IsHigh j (coord j (slice_set hi i y)) v
    at_high j k true e =
        subst (λ z. IsHigh j z v) (sym (get_or-set_at hi i j y (pos 0) (eqb-true j i e) (let f = eqb-true j i e in omega (arith, f))))
        (subst (λ (l : ℕ). IsHigh l y v) (sym (eqb-true j i e)) high)
    at_high j k false e = subst (λ z. IsHigh j z v) (sym (get_or-set_other hi i j y (pos 0) (eqb-false j i e))) (a.high j k)

-- so is the opened box
pub opened : (n i : ℕ) (x y : ℤ) (lo hi : List ℤ) (v : Vertices) → v.dim ≡ n → i < n → n ≤ length lo → n ≤ length hi → x ≡ neg_ℤ (pos (limit n)) → y ≡ pos (limit n) → IsVertexList n v.rows → IsAround n lo hi v
    → IsAround n (slice_set lo i x) (slice_set hi i y) v
opened n i x y lo hi v d l ll lh ex ey w a =
    let s = limit-some n in
    set_around n i x y lo hi v ll lh
    (record {
      point = ap (λ (m : ℕ). is_point_coord m x) d ∙ point_yes n x (omega (arith, int_facts)) (omega (arith, int_facts));
      rows = all_weaker (is_point n) (λ q. int_le x (coord i q)) (λ q m. let (g, h) = point_is n (coord i q) (coordinate q m) in le_yes x (coord i q) (omega (arith, int_facts))) v.rows w.points;
    })
    (record {
      point = ap (λ (m : ℕ). is_point_coord m y) d ∙ point_yes n y (omega (arith, int_facts)) (omega (arith, int_facts));
      rows = all_weaker (is_point n) (λ q. int_le (coord i q) y) (λ q m. let (g, h) = point_is n (coord i q) (coordinate q m) in le_yes (coord i q) y (omega (arith, int_facts))) v.rows w.points;
    }) a
  where
    coordinate : (q : List ℤ) → is_point n q ≡ true → is_point_coord n (coord i q) ≡ true
    coordinate q m = let (e, b) = point_parts n q m in all-coord (is_point_coord n) i q (omega arith) b

-- each cell over a cell of the projection of the change is in a box round it that is open along the axis
over_inside : (m i : ℕ) (lo hi : List ℤ) (v : Vertices) (c : List ℤ) (k : ℤ) → v.dim ≡ suc m → i < suc m → suc m ≤ length lo → suc m ≤ length hi → IsVertexList (suc m) v.rows → IsAround (suc m) lo hi v
    → coord i lo ≡ neg_ℤ (pos (limit (suc m))) → coord i hi ≡ pos (limit (suc m)) → has (proj m i (cells (suc m) v.rows)) c ≡ true → is_cell (suc m) (with_at i k c) ≡ true
    → (is_cell (suc m) (with_at i k c) && (each int_le (take (suc m) lo) (with_at i k c) && each int_lt (with_at i k c) (take (suc m) hi))) ≡ true
over_inside m i lo hi v c k d l ll lh w a el eh p q =
    let n : ℕ = suc m in
    let D : List (List ℤ) = cells n v.rows in
    let P : List ℤ = take n lo in
    let Q : List ℤ = take n hi in
    let x : List ℤ = with_at i k c in
    let found : List ℤ → Bool = λ u. list_any (λ z. has D (with_at i z u)) (cell_coords n) in
    let both : (is_cell m c && found c) ≡ true = sym (has-proj m i D c l (cell_set-cells n v.rows)) ∙ p in
    let (z, h, others) = some_passing (λ z. has D (with_at i z c)) (cell_coords n) (and_second (is_cell m c) (found c) both) in
    let (wide, coords) = cell_parts m c (and_first (is_cell m c) (found c) both) in
    let y : List ℤ = with_at i z c in
    let ends : (each int_le P y && each int_lt y Q) ≡ true = and_second (is_cell n y) (each int_le P y && each int_lt y Q) (is_inside n lo hi v y d ll lh w a h) in
    let lp : length P ≡ n = long n lo ll in
    let lq : length Q ≡ n = long n hi lh in
    let lpi : i < length P = omega arith in
    let lqi : i < length Q = omega arith in
    let sp : length P ≡ suc (length c) = omega arith in
    let sq : length Q ≡ suc (length c) = omega arith in
    let (height, base) = cell_of_with_at m i k c q in
    let (above, below) = cell_is n k height in
    let cp : coord i P ≡ neg_ℤ (pos (limit n)) = coord-take n i lo l ∙ el in
    let cq : coord i Q ≡ pos (limit n) = coord-take n i hi l ∙ eh in
    let after : ℤ → ℤ → Bool = λ s t. int_lt t s in
    let low : each int_le (without i P) c ≡ true =
    and_second (int_le (coord i P) z) (each int_le (without i P) c) (sym (each-with_at int_le i z P c lpi sp) ∙ and_first (each int_le P y) (each int_lt y Q) ends) in
    let high : each after (without i Q) c ≡ true =
    and_second (after (coord i Q) z) (each after (without i Q) c)
    (sym (each-with_at after i z Q c lqi sq) ∙ sym (each_flip int_lt y Q) ∙ and_second (each int_le P y) (each int_lt y Q) ends) in
    and_both (is_cell n x) (each int_le P x && each int_lt x Q) q
    (and_both (each int_le P x) (each int_lt x Q)
    (each-with_at int_le i k P c lpi sp ∙ and_both (int_le (coord i P) k) (each int_le (without i P) c) (le_yes (coord i P) k (omega (arith, int_facts, cp, above))) low)
    (each_flip int_lt x Q ∙ each-with_at after i k Q c lqi sq ∙ and_both (after (coord i Q) k) (each after (without i Q) c) (lt_yes k (coord i Q) (omega (arith, int_facts, cq, below))) high))

-- so what a solid has in that box is all that it has over the projection
pub columns_agree : (n i : ℕ) (lo hi : List ℤ) (d t s : Vertices) → d.dim ≡ n → t.dim ≡ n → i < n → n ≤ length lo → n ≤ length hi → IsVertexList n d.rows → IsAround n lo hi d
    → coord i lo ≡ neg_ℤ (pos (limit n)) → coord i hi ≡ pos (limit n) → cells_of s ≡ clip n (take n lo) (take n hi) (cells n t.rows) → AgreesOver i d t s
columns_agree zero i lo hi d t s ed et l ll lh w a el eh e c k p = absurd (omega arith)
columns_agree (suc m) i lo hi d t s ed et l ll lh w a el eh e c k p =
    let n : ℕ = suc m in
    let x : List ℤ = with_at i k c in
    let T : List (List ℤ) = cells n t.rows in
    let less : n - 1 ≡ m = omega arith in
    let q : has (proj m i (cells n d.rows)) c ≡ true = sym (ap (λ (j : ℕ). has (proj (j - 1) i (cells j d.rows)) c) ed ∙ ap (λ (j : ℕ). has (proj j i (cells n d.rows)) c) less) ∙ p in
    let set : IsCellSet n T = cell_set-cells n t.rows in
    ap (λ S. has S x) e ∙ has-clip_of n (take n lo) (take n hi) T x set
    ∙ kept (has T x) (is_cell n x && (each int_le (take n lo) x && each int_lt x (take n hi)))
    (λ h. over_inside m i lo hi d c k ed l ll lh w a el eh q (member_passes (is_cell n) T x set.cells h))
    ∙ ap (λ (j : ℕ). has (cells j t.rows) x) (sym et)
  where
    kept : (u v : Bool) → (u ≡ true → v ≡ true) → (u && v) ≡ u
    kept true v f = f refl
    kept false v f = refl
