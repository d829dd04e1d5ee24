use Rattle.std.proofs.Common.{◌≡◌, ◌-◌, ◌-ℤ◌, ℕ, ℤ, List, pos, neg_ℤ, get_or, ap, ◌∙◌, arith, true, w32, to_z, of_z}
use Rattle.std.proofs.lemmas.Int.{ints}
use Rattle.evm_cells.specs.Limits.{limit, is_point_coord}
use Rattle.evm_cells.proofs.Coords.{point_yes}
use Rattle.evm_rows.specs.Rows.{rows_of}
use Rattle.evm_rows.proofs.RowsLaws.{rows_of-none}
use Rattle.evm_rows.proofs.BoxTests.{same32}
use Rattle.evm_shapes.proofs.Shifted.{coord_32}
use Rattle.evm_cutting.proofs.Planes.{ends_of}
use Rattle.evm_cutting.proofs.HullLaws.{low_start, low_step, low_end, high_start, high_step, high_end, first_point, either_point, row_point}
use Rattle.evm_cutting.proofs.hulls.span.Goals as goal

pub loop-left-init : goal.loop-left-init
loop-left-init c =
    let d = c.args.d in
    let n : ℕ = d.width - d.skip in
    let (most, least) = ends_of n c.limit-limit.result (c.limit-limit.ensures ∙ ap (λ (m : ℕ). pos (limit m)) c.dim.ensures) in
    let y : is_point_coord n (to_z w32 (of_z w32 c.limit-limit.result)) ≡ true = ap (is_point_coord n) most ∙ point_yes n (pos (limit n)) (omega (arith, ints)) (omega (arith, ints)) in
    let x : is_point_coord n (to_z w32 (of_z w32 (pos 0 -ℤ to_z w32 (of_z w32 c.limit-limit.result)))) ≡ true =
    ap (is_point_coord n) least ∙ point_yes n (neg_ℤ (pos (limit n))) (omega (arith, ints)) (omega (arith, ints)) in
    record {
      whole = d.whole;
      points = let v = d.vertices in v.points;
      low_point = y;
      low = low_start c.args.axis _ (rows_of d.flat.now d.width d.skip);
      high_point = x;
      high = high_start c.args.axis _ (rows_of d.flat.now d.width d.skip);
    }

pub loop-left-preserved : goal.loop-left-preserved
loop-left-preserved c =
    let d = c.args.d in
    let n : ℕ = d.width - d.skip in
    let q : List ℤ = c.split_row.result.0.now in
    let R : List (List ℤ) = rows_of c.loop-left.left.now d.width d.skip in
    let T : List (List ℤ) = rows_of c.split_row.result.1.now d.width d.skip in
    let i = c.loop-left.invariant in
    let (p, more) = first_point n R T q c.split_row.ensures.first i.points in
    let y : ℤ = get_or q c.args.axis (pos 0) in
    let py : is_point_coord n y ≡ true = row_point n c.args.axis q c.requires p in
    let ey : to_z w32 (of_z w32 y) ≡ y = same32 y (coord_32 n y py) in
    let here : is_point_coord n (to_z w32 (of_z w32 y)) ≡ true = ap (is_point_coord n) ey ∙ py in
    let s : ℤ = c.min-least.result in
    let ps : is_point_coord n s ≡ true = ap (is_point_coord n) c.min-least.ensures.value ∙ either_point n _ _ _ here i.low_point in
    let es : to_z w32 (of_z w32 s) ≡ s = same32 s (coord_32 n s ps) in
    let s_first = c.min-least.ensures.self_bound in
    let s_second = c.min-least.ensures.other_bound in
    let t : ℤ = c.max-largest.result in
    let pt : is_point_coord n t ≡ true = ap (is_point_coord n) c.max-largest.ensures.value ∙ either_point n _ _ _ i.high_point here in
    let et : to_z w32 (of_z w32 t) ≡ t = same32 t (coord_32 n t pt) in
    let t_first = c.max-largest.ensures.self_bound in
    let t_second = c.max-largest.ensures.other_bound in
    record {
      whole = c.split_row.ensures.whole;
      points = more;
      low_point = ap (is_point_coord n) es ∙ ps;
      low = low_step c.args.axis _ (to_z w32 (of_z w32 s)) R (rows_of d.flat.now d.width d.skip) T q c.split_row.ensures.first (omega (arith, ints, es, s_first)) (omega (arith, ints, es, ey, s_second)) i.low;
      high_point = ap (is_point_coord n) et ∙ pt;
      high = high_step c.args.axis _ (to_z w32 (of_z w32 t)) R (rows_of d.flat.now d.width d.skip) T q c.split_row.ensures.first (omega (arith, ints, et, t_first)) (omega (arith, ints, et, ey, t_second)) i.high;
    }

pub returns-clause-low : goal.returns-clause-low
returns-clause-low c =
    let d = c.args.d in
    let i = c.loop-left.invariant in
    record {
      point = i.low_point;
      rows = low_end c.args.axis _ (rows_of c.loop-left.left.now d.width d.skip) (rows_of d.flat.now d.width d.skip) (rows_of-none c.loop-left.left.now d.width d.skip (omega arith)) i.low;
    }

pub returns-clause-high : goal.returns-clause-high
returns-clause-high c =
    let d = c.args.d in
    let i = c.loop-left.invariant in
    record {
      point = i.high_point;
      rows = high_end c.args.axis _ (rows_of c.loop-left.left.now d.width d.skip) (rows_of d.flat.now d.width d.skip) (rows_of-none c.loop-left.left.now d.width d.skip (omega arith)) i.high;
    }
