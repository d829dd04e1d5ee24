-- The cell that comes beside a square is a change near by.
use Rattle.std.proofs.Common.{◌≡◌, ℕ, Option, ◌≤ℤ◌, ◌<ℤ◌, ◌+ℤ◌, Bool, true, false, not, ◌&&◌, List, [], ◌∷◌, ℤ, pos, negsuc, int_le, int_lt, Some, refl, sym, ap, ap₂, ◌∙◌, subst, arith}
use Rattle.std.proofs.lemmas.Bool.{true≢false, false≢true}
use Rattle.std.proofs.lemmas.Int.{ints as int_facts}
use Rattle.evm_cells.specs.Places.{each, has, ascending}
use Rattle.evm_cells.specs.Limits.{is_cell, IsCellSet}
use Rattle.evm_cells.specs.Booleans.{xor, xor_cells, sub_cells}
use Rattle.evm_cells.specs.Vertices.{cells}
use Rattle.evm_cells.specs.Shapes.{clip}
use Rattle.evm_cells.specs.Localities.{Measure, measure, close, near, HoldsChange}
use Rattle.evm_cells.proofs.Order.{refuted, same_tests}
use Rattle.evm_cells.proofs.Coords.{le_yes, lt_yes, le_is, lt_is}
use Rattle.evm_cells.proofs.Xor.{and_first, and_second, and_both, xor_self, xor_assoc, false-xor}
use Rattle.evm_cells.proofs.Universe.{same_sets}
use Rattle.evm_cells.proofs.Booleans.{has-combine_of}
use Rattle.evm_cells.proofs.Combine.{cell_set-combine, cell_set-xor, has-xor_cells}
use Rattle.evm_cells.proofs.Corners.{cell_set-box, has-box_cells}
use Rattle.evm_cells.proofs.Insides.{cell_set-clip, has-clip_of, clip_of_xor}
use Rattle.evm_rows.specs.Rows.{Vertices}
use Rattle.evm_meter.specs.Meters.{measured, IsLess, IsNearChange}
use Rattle.evm_meter.specs.Beside.{plane_box, Shows, square, half, comer, IsBeside}

-- the place of the plane is in the box
abbrev Inside : ℤ → ℤ → ℤ → ℤ → List ℤ → Type 0
Inside a b a' b' [] = ⊥
Inside a b a' b' (x ∷ []) = ⊥
Inside a b a' b' (x ∷ y ∷ []) = (a ≤ℤ x) × (x <ℤ a') × (b ≤ℤ y) × (y <ℤ b')
Inside a b a' b' (x ∷ y ∷ z ∷ c) = ⊥

abbrev window : ℤ → ℤ → ℤ → ℤ → List ℤ → Bool
window a b a' b' c = each int_le (a ∷ b ∷ []) c && each int_lt c (a' ∷ b' ∷ [])

window_is : (a b a' b' : ℤ) (c : List ℤ) → window a b a' b' c ≡ true → Inside a b a' b' c
unfolding each
window_is a b a' b' [] h = false≢true h
window_is a b a' b' (x ∷ []) h = false≢true (and_second (int_lt x a') false (and_second (int_le a x && false) (int_lt x a' && false) h))
window_is a b a' b' (x ∷ y ∷ []) h =
    let low = and_first (int_le a x && (int_le b y && true)) (int_lt x a' && (int_lt y b' && true)) h in
    let high = and_second (int_le a x && (int_le b y && true)) (int_lt x a' && (int_lt y b' && true)) h in (
      le_is a x (and_first (int_le a x) (int_le b y && true) low),
      lt_is x a' (and_first (int_lt x a') (int_lt y b' && true) high),
      le_is b y (and_first (int_le b y) true (and_second (int_le a x) (int_le b y && true) low)),
      lt_is y b' (and_first (int_lt y b') true (and_second (int_lt x a') (int_lt y b' && true) high)),
    )
window_is a b a' b' (x ∷ y ∷ z ∷ c) h =
    let low = and_first (int_le a x && (int_le b y && false)) (int_lt x a' && (int_lt y b' && false)) h in
    false≢true (and_second (int_le b y) false (and_second (int_le a x) (int_le b y && false) low))

window_yes : (a b a' b' : ℤ) (c : List ℤ) → Inside a b a' b' c → window a b a' b' c ≡ true
unfolding each
window_yes a b a' b' [] h = absurd h
window_yes a b a' b' (x ∷ []) h = absurd h
window_yes a b a' b' (x ∷ y ∷ []) (p, q, r, s) =
    ap₂ (λ u v. u && v) (ap₂ (λ u v. u && (v && true)) (le_yes a x p) (le_yes b y r)) (ap₂ (λ u v. u && (v && true)) (lt_yes x a' q) (lt_yes y b' s))
window_yes a b a' b' (x ∷ y ∷ z ∷ c) h = absurd h

box_is : (a b a' b' : ℤ) (c : List ℤ) → has (plane_box a b a' b') c ≡ true → (is_cell 2 c ≡ true) × Inside a b a' b' c
box_is a b a' b' c h =
    let both : (is_cell 2 c && window a b a' b' c) ≡ true = sym (has-box_cells 2 (a ∷ b ∷ []) (a' ∷ b' ∷ []) c) ∙ h in
    (and_first (is_cell 2 c) (window a b a' b' c) both, window_is a b a' b' c (and_second (is_cell 2 c) (window a b a' b' c) both))

box_yes : (a b a' b' : ℤ) (c : List ℤ) → is_cell 2 c ≡ true → Inside a b a' b' c → has (plane_box a b a' b') c ≡ true
box_yes a b a' b' c m h = has-box_cells 2 (a ∷ b ∷ []) (a' ∷ b' ∷ []) c ∙ and_both (is_cell 2 c) (window a b a' b' c) m (window_yes a b a' b' c h)

box_set : (a b a' b' : ℤ) → IsCellSet 2 (plane_box a b a' b')
box_set a b a' b' = cell_set-box 2 (a ∷ b ∷ []) (a' ∷ b' ∷ [])

-- the places within 1 of the cell
abbrev Round : List ℤ → Type 0
Round c = Inside (pos 1) (negsuc 0) (pos 4) (pos 2) c

abbrev lo : List ℤ
lo = pos 1 ∷ negsuc 0 ∷ []

abbrev hi : List ℤ
hi = pos 4 ∷ pos 2 ∷ []

part_of : (a b a' b' r s r' s' : ℤ) → ((c : List ℤ) → Inside a b a' b' c → Round c → Inside r s r' s' c) → ((c : List ℤ) → Inside r s r' s' c → Inside a b a' b' c × Round c)
    → clip 2 lo hi (plane_box a b a' b') ≡ plane_box r s r' s'
part_of a b a' b' r s r' s' to from =
    same_sets (clip 2 lo hi S) P (cell_set-clip 2 lo hi S).ascends (box_set r s r' s').ascends
    (λ c. has-clip_of 2 lo hi S c (box_set a b a' b') ∙ same_tests (inside c) (has P c) (into c) (back c))
  where
    S : List (List ℤ)
    S = plane_box a b a' b'

    P : List (List ℤ)
    P = plane_box r s r' s'

    inside : List ℤ → Bool
    inside c = has S c && (is_cell 2 c && window (pos 1) (negsuc 0) (pos 4) (pos 2) c)

    into : (c : List ℤ) → inside c ≡ true → has P c ≡ true
    into c h =
        let (m, i) = box_is a b a' b' c (and_first (has S c) (is_cell 2 c && window (pos 1) (negsuc 0) (pos 4) (pos 2) c) h) in
        let w = and_second (is_cell 2 c) (window (pos 1) (negsuc 0) (pos 4) (pos 2) c) (and_second (has S c) (is_cell 2 c && window (pos 1) (negsuc 0) (pos 4) (pos 2) c) h) in
        box_yes r s r' s' c m (to c i (window_is (pos 1) (negsuc 0) (pos 4) (pos 2) c w))

    back : (c : List ℤ) → has P c ≡ true → inside c ≡ true
    back c h =
        let (m, i) = box_is r s r' s' c h in
        let (j, w) = from c i in
        and_both (has S c) (is_cell 2 c && window (pos 1) (negsuc 0) (pos 4) (pos 2) c) (box_yes a b a' b' c m j)
        (and_both (is_cell 2 c) (window (pos 1) (negsuc 0) (pos 4) (pos 2) c) m (window_yes (pos 1) (negsuc 0) (pos 4) (pos 2) c w))

half_is : clip 2 lo hi square ≡ half
half_is = part_of (pos 0) (pos 0) (pos 2) (pos 2) (pos 1) (pos 0) (pos 2) (pos 2) to from
  where
    to : (c : List ℤ) → Inside (pos 0) (pos 0) (pos 2) (pos 2) c → Round c → Inside (pos 1) (pos 0) (pos 2) (pos 2) c
    to [] h w = h
    to (x ∷ []) h w = h
    to (x ∷ y ∷ []) (p, q, r, s) (t, u, v, z) = (t, q, r, s)
    to (x ∷ y ∷ z ∷ c) h w = h

    from : (c : List ℤ) → Inside (pos 1) (pos 0) (pos 2) (pos 2) c → Inside (pos 0) (pos 0) (pos 2) (pos 2) c × Round c
    from [] h = absurd h
    from (x ∷ []) h = absurd h
    from (x ∷ y ∷ []) (p, q, r, s) = (
      (omega (arith, int_facts, p), q, r, s),
      (p, omega (arith, int_facts, q), omega (arith, int_facts, r), s),
    )
    from (x ∷ y ∷ z ∷ c) h = absurd h

comer_is : clip 2 lo hi comer ≡ comer
comer_is = part_of (pos 2) (pos 0) (pos 3) (pos 1) (pos 2) (pos 0) (pos 3) (pos 1) (λ c i w. i) from
  where
    from : (c : List ℤ) → Inside (pos 2) (pos 0) (pos 3) (pos 1) c → Inside (pos 2) (pos 0) (pos 3) (pos 1) c × Round c
    from [] h = absurd h
    from (x ∷ []) h = absurd h
    from (x ∷ y ∷ []) (p, q, r, s) = (
      (p, q, r, s),
      (omega (arith, int_facts, p), omega (arith, int_facts, q), omega (arith, int_facts, r), omega (arith, int_facts, s)),
    )
    from (x ∷ y ∷ z ∷ c) h = absurd h

-- no cell of the half is the cell that comes
apart : (c : List ℤ) → has half c ≡ true → has comer c ≡ false
apart c h = refuted (has comer c) (λ e. both c (box_is (pos 1) (pos 0) (pos 2) (pos 2) c h).1 (box_is (pos 2) (pos 0) (pos 3) (pos 1) c e).1)
  where
    both : (c : List ℤ) → Inside (pos 1) (pos 0) (pos 2) (pos 2) c → Inside (pos 2) (pos 0) (pos 3) (pos 1) c → ⊥
    both [] u v = u
    both (x ∷ []) u v = u
    both (x ∷ y ∷ []) (p, q, r, s) (t, w, v, z) = omega (arith, int_facts, q, t)
    both (x ∷ y ∷ z ∷ c) u v = u

-- ---- the change

abbrev added : List (List ℤ)
added = xor_cells 2 square comer

half_set : IsCellSet 2 half
half_set = box_set (pos 1) (pos 0) (pos 2) (pos 2)

square_set : IsCellSet 2 square
square_set = box_set (pos 0) (pos 0) (pos 2) (pos 2)

comer_set : IsCellSet 2 comer
comer_set = box_set (pos 2) (pos 0) (pos 3) (pos 1)

within : (c d : List ℤ) → Inside (pos 2) (pos 0) (pos 3) (pos 1) c → near c d ≡ true → Round d
unfolding near each close
within [] d h k = absurd h
within (x ∷ []) d h k = absurd h
within (x ∷ y ∷ []) [] h k = false≢true k
within (x ∷ y ∷ []) (u ∷ []) h k = false≢true (and_second (close x u) false k)
within (x ∷ y ∷ []) (u ∷ v ∷ []) (p, q, r, s) k =
    let (f, g) = apart_at x u (and_first (close x u) (close y v && true) k) in
    let (f', g') = apart_at y v (and_first (close y v) true (and_second (close x u) (close y v && true) k)) in
    (omega (arith, int_facts, p, f), omega (arith, int_facts, q, g), omega (arith, int_facts, r, f'), omega (arith, int_facts, s, g'))
  where
    apart_at : (x u : ℤ) → close x u ≡ true → (x ≤ℤ (u +ℤ pos 1)) × (u ≤ℤ (x +ℤ pos 1))
    apart_at x u k = (
      le_is x (u +ℤ pos 1) (and_first (int_le x (u +ℤ pos 1)) (int_le u (x +ℤ pos 1)) k),
      le_is u (x +ℤ pos 1) (and_second (int_le x (u +ℤ pos 1)) (int_le u (x +ℤ pos 1)) k),
    )
within (x ∷ y ∷ []) (u ∷ v ∷ z ∷ d) h k = false≢true (and_second (close y v) false (and_second (close x u) (close y v && false) k))
within (x ∷ y ∷ z ∷ c) d h k = absurd h

holds_change : HoldsChange 2 lo hi square added
holds_change c d m k e =
    let p : has (xor_cells 2 square added) c ≡ has comer c =
    has-xor_cells 2 square added c square_set (cell_set-xor 2 square comer)
    ∙ ap (xor (has square c)) (has-xor_cells 2 square comer c square_set comer_set)
    ∙ twice (has square c) (has comer c) in
    window_yes (pos 1) (negsuc 0) (pos 4) (pos 2) d (within c d (box_is (pos 2) (pos 0) (pos 3) (pos 1) c (sym p ∙ m)).1 k)
  where
    twice : (a b : Bool) → xor a (xor a b) ≡ b
    twice a b = sym (xor_assoc a a b) ∙ ap (λ t. xor t b) (xor_self a) ∙ false-xor b

after_part : xor_cells 2 half comer ≡ clip 2 lo hi added
after_part = sym (clip_of_xor 2 lo hi square comer square_set comer_set ∙ ap₂ (xor_cells 2) half_is comer_is)

pub beside_near : (kind : Measure) (whole before gained lost after : Vertices) → IsBeside whole before gained lost after
    → IsNearChange kind (Some (measured kind whole)) before after
beside_near kind whole before gained lost after h =
    let e : before.dim ≡ 2 = h.before_is.0 in
    let P : ℕ → Type 0 = λ n. IsNearChange kind (Some (measured kind whole)) (record { dim = n; rows = before.rows }) after in
    subst P (sym e) (at (subst (λ (n : ℕ). cells n before.rows ≡ half) e h.before_is.1))
  where
    at : cells 2 before.rows ≡ half → IsNearChange kind (Some (measured kind whole)) (record { dim = 2; rows = before.rows }) after
    at part = record {
      whole = square;
      changed = added;
      lo = lo;
      hi = hi;
      whole_cells = square_set;
      changed_cells = cell_set-xor 2 square comer;
      holds = holds_change;
      same = h.after_is.0;
      part = part ∙ sym half_is;
      part_after = h.after_is.1 ∙ after_part;
      read = ap Some (ap₂ (measure kind) h.whole_is.0 h.whole_is.1);
    }

-- what came is the cell
came : sub_cells 2 (xor_cells 2 half comer) half ≡ comer
unfolding sub_cells xor
came =
    same_sets (sub_cells 2 (xor_cells 2 half comer) half) comer (cell_set-combine (λ a b. a && not b) 2 (xor_cells 2 half comer) half).ascends comer_set.ascends
    (λ c. has-combine_of (λ a b. a && not b) 2 (xor_cells 2 half comer) half c refl (cell_set-xor 2 half comer) half_set
    ∙ ap (λ t. t && not (has half c)) (has-xor_cells 2 half comer c half_set comer_set)
    ∙ at (has half c) (has comer c) (apart c))
  where
    at : (a b : Bool) → (a ≡ true → b ≡ false) → (xor a b && not a) ≡ b
    at true true h = absurd (true≢false (h refl))
    at true false h = refl
    at false true h = refl
    at false false h = refl

-- nothing went
went : sub_cells 2 half (xor_cells 2 half comer) ≡ []
unfolding sub_cells has xor ascending
went =
    same_sets (sub_cells 2 half (xor_cells 2 half comer)) [] (cell_set-combine (λ a b. a && not b) 2 half (xor_cells 2 half comer)).ascends refl
    (λ c. has-combine_of (λ a b. a && not b) 2 half (xor_cells 2 half comer) c refl half_set (cell_set-xor 2 half comer)
    ∙ ap (λ t. has half c && not t) (has-xor_cells 2 half comer c half_set comer_set)
    ∙ at (has half c) (has comer c) (apart c))
  where
    at : (a b : Bool) → (a ≡ true → b ≡ false) → (a && not (xor a b)) ≡ false
    at true true h = absurd (true≢false (h refl))
    at true false h = refl
    at false b h = refl

pub beside_gained : (whole before gained lost after : Vertices) → IsBeside whole before gained lost after → IsLess after before gained
beside_gained whole before gained lost after h = (
  h.gained_is.0 ∙ sym h.after_is.0,
  h.gained_is.1 ∙ sym came ∙ sym (ap₂ (λ n A. sub_cells n A (cells before.dim before.rows)) h.after_is.0 h.after_is.1 ∙ ap (sub_cells 2 (xor_cells 2 half comer)) h.before_is.1),
)

pub beside_lost : (whole before gained lost after : Vertices) → IsBeside whole before gained lost after → IsLess before after lost
beside_lost whole before gained lost after h = (
  h.lost_is.0 ∙ sym h.before_is.0,
  h.lost_is.1 ∙ sym went ∙ sym (ap₂ (λ n A. sub_cells n A (cells after.dim after.rows)) h.before_is.0 h.before_is.1 ∙ ap (sub_cells 2 half) h.after_is.1),
)

-- the same of views that show these vertices, and of a meter that has read the square
pub beside_read : (kind read_kind : Measure) (reading : Option ℕ) (whole before gained lost after read_whole read_before read_after : Vertices) → IsBeside whole before gained lost after
    → kind ≡ read_kind → reading ≡ Some (measured read_kind read_whole) → read_whole ≡ whole → read_before ≡ before → read_after ≡ after
    → IsNearChange kind reading read_before read_after
beside_read kind read_kind reading whole before gained lost after read_whole read_before read_after h k r w b a =
    let reads : reading ≡ Some (measured kind whole) = r ∙ ap₂ (λ m v. Some (measured m v)) (sym k) w in
    subst (λ (v : Vertices). IsNearChange kind reading v read_after) (sym b)
    (subst (λ (v : Vertices). IsNearChange kind reading before v) (sym a)
    (subst (λ (n : Option ℕ). IsNearChange kind n before after) (sym reads) (beside_near kind whole before gained lost after h)))

pub less_read : (a b difference read_a read_b read_difference : Vertices) → IsLess a b difference → read_a ≡ a → read_b ≡ b → read_difference ≡ difference → IsLess read_a read_b read_difference
less_read a b difference read_a read_b read_difference h p q r =
    subst (λ (v : Vertices). IsLess v read_b read_difference) (sym p)
    (subst (λ (v : Vertices). IsLess a v read_difference) (sym q) (subst (λ (v : Vertices). IsLess a b v) (sym r) h))

-- the exclusive or of two views, of the half and of the cell that comes
pub after_shown : (before gained after read_before read_gained : Vertices) → Shows before half → Shows gained comer → read_before ≡ before → read_gained ≡ gained
    → after.dim ≡ read_before.dim
    → cells after.dim after.rows ≡ xor_cells read_before.dim (cells read_before.dim read_before.rows) (cells read_before.dim read_gained.rows)
    → Shows after (xor_cells 2 half comer)
after_shown before gained after read_before read_gained b g p q dim told =
    let two : read_before.dim ≡ 2 = ap (λ v. v.dim) p ∙ b.0 in
    let two' : read_gained.dim ≡ 2 = ap (λ v. v.dim) q ∙ g.0 in
    let one : cells read_before.dim read_before.rows ≡ half = ap (λ v. cells v.dim v.rows) p ∙ b.1 in
    let other : cells read_before.dim read_gained.rows ≡ comer = ap (λ n. cells n read_gained.rows) (two ∙ sym two') ∙ ap (λ v. cells v.dim v.rows) q ∙ g.1 in
    (dim ∙ two, told ∙ ap₂ (λ n A. xor_cells n A (cells read_before.dim read_gained.rows)) two one ∙ ap (xor_cells 2 half) other)
