use Rattle.evm_cells.specs.Boxes.{IsBox}
use Rattle.std.proofs.Common.{◌≡◌, ◌+◌, ◌-◌, ◌*◌, ◌<◌, ◌≤◌, ℕ, ℤ, List, arith, length, slice_index_or, take, drop, sym, ap, ap₂, ◌∙◌, subst}
use Rattle.evm_cells.specs.Unions.{Ends}
use Rattle.evm_partition.specs.BoxLists.{AreBoxes, BoxList, boxes_of}
use Rattle.evm_partition.proofs.Numbers.{box_within, box_at, box_is_long, is_box_at, next_place, place_width}
use Rattle.evm_partition.proofs.boxes.Boxes.ends.Goals as goal

-- the place of the box and the next are within the numbers
places : (b : BoxList) (n k : ℕ) (flat row : List ℤ) → record { dim = n; boxes = boxes_of n flat } ≡ b → AreBoxes n flat → k < length b.boxes → row ≡ flat
    → ((k + 1) * (2 * n) ≤ length row) × (k * (2 * n) ≤ (k + 1) * (2 * n)) × (k + 1 ≤ (k + 1) * (2 * n))
places b n k flat row view ok within same =
    let l : k < length (boxes_of n flat) = subst (λ (m : BoxList). k < length m.boxes) (sym view) within in
    let q = box_within n k flat ok l in
    let r = next_place k (2 * n) in
    let w = place_width k n ok.low in
    let e = ap length same in
    (omega (arith, q, r, e), omega (arith, r), omega (arith, w, r))

pub overflow_mul-row : goal.overflow_mul-row
overflow_mul-row c =
    let p = places c.args.self.now c.self.inside.dim c.args.index c.self.inside.flat.items c.deref.result.now c.self.view_is c.self.invariant c.requires c.deref.ensures.value in
    omega (arith, p.0, p.1, c.deref.type_inv.0)

pub overflow_add-row : goal.overflow_add-row
overflow_add-row c =
    let p = places c.args.self.now c.self.inside.dim c.args.index c.self.inside.flat.items c.deref.result.now c.self.view_is c.self.invariant c.requires c.deref.ensures.value in
    omega (arith, p.0, p.2, c.deref.type_inv.0)

pub overflow_mul-row-2 : goal.overflow_mul-row-2
overflow_mul-row-2 c =
    let p = places c.args.self.now c.self.inside.dim c.args.index c.self.inside.flat.items c.deref.result.now c.self.view_is c.self.invariant c.requires c.deref.ensures.value in
    omega (arith, p.0, c.deref.type_inv.0)

pub offset_bounds-deref-index : goal.offset_bounds-deref-index
offset_bounds-deref-index c =
    let p = places c.args.self.now c.self.inside.dim c.args.index c.self.inside.flat.items c.deref.result.now c.self.view_is c.self.invariant c.requires c.deref.ensures.value in
    omega (arith, p.0, p.1, c.deref.type_inv.1)

pub slice_bounds-row-end : goal.slice_bounds-row-end
slice_bounds-row-end c =
    let p = places c.args.self.now c.self.inside.dim c.args.index c.self.inside.flat.items c.deref.result.now c.self.view_is c.self.invariant c.requires c.deref.ensures.value in
    omega (arith, p.0)

-- the two ends are those of the box
at_place : (b : BoxList) (n k : ℕ) (flat row lo hi : List ℤ) → record { dim = n; boxes = boxes_of n flat } ≡ b → AreBoxes n flat → k < length b.boxes
    → row ≡ flat → lo ≡ take n (take ((k + 1) * (2 * n) - k * (2 * n)) (drop (k * (2 * n)) row)) → hi ≡ drop n (take ((k + 1) * (2 * n) - k * (2 * n)) (drop (k * (2 * n)) row))
    → ((d : Ends) → slice_index_or (boxes_of n flat) k d ≡ record { lo = lo; hi = hi }) × (k < length (boxes_of n flat))
at_place b n k flat row lo hi view ok within same front back =
    let l : k < length (boxes_of n flat) = subst (λ (m : BoxList). k < length m.boxes) (sym view) within in
    let r = next_place k (2 * n) in
    let w : (k + 1) * (2 * n) - k * (2 * n) ≡ 2 * n = omega (arith, r) in
    let e = ap₂ (λ m items. take m (drop (k * (2 * n)) items)) w same in
    let low = front ∙ ap (take n) e in
    let high = back ∙ ap (drop n) e in
    (λ d. box_at n k flat d ok l ∙ (λ i. record { lo = sym low i; hi = sym high i }), l)

pub returns-clause-ends : goal.returns-clause-ends
returns-clause-ends c = λ d.
    let b = c.self.inside in
    let h = at_place c.args.self.now b.dim c.args.index b.flat.items c.deref.result.now c.split_at.result.0.now c.split_at.result.1.now c.self.view_is c.self.invariant c.requires
    c.deref.ensures.value c.split_at.ensures.front c.split_at.ensures.back in
    ap (λ (m : BoxList). slice_index_or m.boxes c.args.index d) (sym c.self.view_is) ∙ h.0 d

pub returns-clause-is_box : goal.returns-clause-is_box
returns-clause-is_box c =
    let b = c.self.inside in
    let h = at_place c.args.self.now b.dim c.args.index b.flat.items c.deref.result.now c.split_at.result.0.now c.split_at.result.1.now c.self.view_is c.self.invariant c.requires
    c.deref.ensures.value c.split_at.ensures.front c.split_at.ensures.back in
    subst (λ (m : BoxList). IsBox m.dim c.split_at.result.0.now c.split_at.result.1.now) c.self.view_is
    (is_box_at b.dim c.args.index b.flat.items c.split_at.result.0.now c.split_at.result.1.now c.self.invariant h.1 h.0)

pub returns-clause-some : goal.returns-clause-some
returns-clause-some c =
    let b = c.self.inside in
    let h = at_place c.args.self.now b.dim c.args.index b.flat.items c.deref.result.now c.split_at.result.0.now c.split_at.result.1.now c.self.view_is c.self.invariant c.requires
    c.deref.ensures.value c.split_at.ensures.front c.split_at.ensures.back in
    box_is_long b.dim c.split_at.result.0.now c.split_at.result.1.now c.self.invariant.low
    (is_box_at b.dim c.args.index b.flat.items c.split_at.result.0.now c.split_at.result.1.now c.self.invariant h.1 h.0)
