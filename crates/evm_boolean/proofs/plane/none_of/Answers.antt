use Rattle.std.proofs.Common.{◌≡◌, ◌-◌, ◌<◌, [], length, arith}
use Rattle.evm_cells.specs.Vertices.{IsVertexList}
use Rattle.evm_rows.proofs.RowsLaws.{rows_of-none, rows_of-nil}
use Rattle.evm_rows.proofs.Bridge.{are_rows-nil}
use Rattle.evm_boolean.proofs.plane.none_of.Goals as goal

pub invariant_of-result : goal.invariant_of-result
invariant_of-result c =
    let a = c.args.a in
    let none : length c.split_at.result.0.now ≡ 0 = omega (arith, c.split_at.ensures.front_len) in
    let some : 0 < a.width = omega (arith, a.left) in
    let one : a.width - (a.width - 1) ≡ 1 = omega arith in
    let v : IsVertexList 1 [] = rw (rows_of-nil 1 0) at (are_rows-nil 1 (omega arith) (omega arith)).vertices in
    record {
      narrow = a.narrow;
      left = omega arith;
      whole = rw none (are_rows-nil a.width some a.narrow).whole;
      vertices = rw (one, rows_of-none c.split_at.result.0.now a.width (a.width - 1) none) v;
    }

pub returns-clause-rows : goal.returns-clause-rows
returns-clause-rows c = rows_of-none c.split_at.result.0.now c.args.a.width (c.args.a.width - 1) (omega (arith, c.split_at.ensures.front_len))
