use Rattle.std.proofs.Common.{◌≡◌, ◌+◌, ◌-◌, ◌<◌, length, arith}
use Rattle.evm_rows.proofs.RowsLaws.{rows_of-none}
use Rattle.evm_rows.proofs.Bridge.{are_rows-nil, vertices_none}
use Rattle.evm_cutting.proofs.sweeps.none_of.Goals as goal

pub invariant_of-result : goal.invariant_of-result
invariant_of-result c =
    let a = c.args.a in
    let none : length c.split_at.result.0.now ≡ 0 = omega (arith, c.split_at.ensures.front_len) in
    let left : a.skip + 1 < a.width = omega (arith, c.requires) in
    record {
      narrow = a.narrow;
      left = left;
      whole = rw none (are_rows-nil a.width (omega (arith, left)) a.narrow).whole;
      vertices = rw (rows_of-none c.split_at.result.0.now a.width (a.skip + 1) none) (vertices_none (a.width - (a.skip + 1)));
    }

pub returns-clause-rows : goal.returns-clause-rows
returns-clause-rows c = rows_of-none c.split_at.result.0.now c.args.a.width (c.args.a.skip + 1) (omega (arith, c.split_at.ensures.front_len))
