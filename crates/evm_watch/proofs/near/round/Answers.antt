use Rattle.std.proofs.Common.{◌≡◌, ◌-◌, ◌<◌, ◌≤◌, w32, to_z, of_z, ℕ, ℤ, List, length, refl, sym, ap, ◌∙◌, arith, subst}
use Rattle.std.proofs.lemmas.Int.{ints}
use Rattle.std.proofs.lemmas.List.{length-set}
use Rattle.evm_cells.specs.Limits.{is_point_coord}
use Rattle.evm_cells.proofs.Slices.{coord}
use Rattle.evm_cells.proofs.Coords.{point_is, point_yes}
use Rattle.evm_rows.proofs.BoxTests.{same32}
use Rattle.evm_shapes.proofs.Shifted.{coord_32}
use Rattle.evm_watch.specs.Parts.{IsLower, IsHigher}
use Rattle.evm_rows.specs.Rows.{Vertices}
use Rattle.evm_rows.specs.View.{vertices_of}
use Rattle.evm_watch.proofs.Opened.{opened_more, opened_end, opened_box, opened_holds}
use Rattle.evm_watch.proofs.near.round.Goals as goal

pub loop-axis-preserved : goal.loop-axis-preserved
loop-axis-preserved c =
    let n : ℕ = c.dim-dim.result in
    let k : ℕ = c.loop-axis.axis in
    let a : List ℤ = c.hull-least.result.lo in
    let b : List ℤ = c.hull-least.result.hi in
    let lo : List ℤ = c.loop-axis.ends.lo in
    let hi : List ℤ = c.loop-axis.ends.hi in
    let x : ℤ = c.lower.result in
    let y : ℤ = c.higher.result in
    let i = c.loop-axis.invariant in
    let (i_low, i_high) : (length lo ≡ 6) × (length hi ≡ 6) = (i.low, i.high) in
    let d = c.args.d in
    let narrow = d.narrow in
    let dim = c.dim-dim.ensures in
    let inside : k < n = omega arith in
    let t : k < d.width - d.skip = omega (arith, dim, inside) in
    let from = c.hull-least.ensures.around.low k t in
    let to = c.hull-least.ensures.around.high k t in
    let (from_least, from_most) = point_is n (coord k a) (ap (λ (m : ℕ). is_point_coord m (coord k a)) dim ∙ from.point) in
    let (to_least, to_most) = point_is n (coord k b) (ap (λ (m : ℕ). is_point_coord m (coord k b)) dim ∙ to.point) in
    let ea : to_z w32 (of_z w32 (coord k a)) ≡ coord k a = same32 (coord k a) (coord_32 n (coord k a) (ap (λ (m : ℕ). is_point_coord m (coord k a)) dim ∙ from.point)) in
    let eb : to_z w32 (of_z w32 (coord k b)) ≡ coord k b = same32 (coord k b) (coord_32 n (coord k b) (ap (λ (m : ℕ). is_point_coord m (coord k b)) dim ∙ to.point)) in
    let low : IsLower n (coord k a) x = subst (λ z. IsLower n z x) ea c.lower.ensures in
    let high : IsHigher n (coord k b) y = subst (λ z. IsHigher n z y) eb c.higher.ensures in
    let x_least = low.least in
    let x_below = low.below in
    let y_largest = high.largest in
    let y_above = high.above in
    let ex : to_z w32 (of_z w32 x) ≡ x = same32 x (coord_32 n x (point_yes n x x_least (omega (arith, ints, x_below, from_most)))) in
    let ey : to_z w32 (of_z w32 y) ≡ y = same32 y (coord_32 n y (point_yes n y (omega (arith, ints, y_above, to_least)) y_largest)) in
    record {
      opened = opened_more n k a b lo hi (to_z w32 (of_z w32 x)) (to_z w32 (of_z w32 y)) (omega (arith, narrow, t, i_low)) (omega (arith, narrow, t, i_high)) i.opened
          (subst (IsLower n (coord k a)) (sym ex) low) (subst (IsHigher n (coord k b)) (sym ey) high);
      low = length-set lo k (to_z w32 (of_z w32 x)) ∙ i_low;
      high = length-set hi k (to_z w32 (of_z w32 y)) ∙ i_high;
    }

pub returns-clause-round : goal.returns-clause-round
returns-clause-round c =
    let d = c.args.d in
    let n : ℕ = d.width - d.skip in
    let v : Vertices = vertices_of d in
    let a : List ℤ = c.hull-least.result.lo in
    let b : List ℤ = c.hull-least.result.hi in
    let lo : List ℤ = c.loop-axis.ends.lo in
    let hi : List ℤ = c.loop-axis.ends.hi in
    let i = c.loop-axis.invariant in
    let o = opened_end n c.dim-dim.result c.loop-axis.axis a b lo hi c.dim-dim.ensures (omega arith) i.opened in
    let narrow = d.narrow in
    let some = c.requires in
    let la : n ≤ length a = let e = c.hull-least.ensures.low in omega (arith, narrow, e) in
    let lb : n ≤ length b = let e = c.hull-least.ensures.high in omega (arith, narrow, e) in
    let ll : n ≤ length lo = let e = i.low in omega (arith, narrow, e) in
    let lh : n ≤ length hi = let e = i.high in omega (arith, narrow, e) in
    record {
      box = opened_box n a b lo hi v refl la lb ll lh d.vertices (λ e. let z = ap length e in absurd (omega (arith, some, z))) c.hull-least.ensures.around o;
      holds = opened_holds n a b lo hi v refl la lb ll lh d.vertices c.hull-least.ensures.around o;
    }
