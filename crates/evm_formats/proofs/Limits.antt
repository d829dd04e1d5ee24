-- The greatest limit.
use Rattle.std.proofs.Common.{ℕ, zero, suc, ◌≤◌, ◌^◌, arith}
use Rattle.evm_cells.specs.Limits.{limit}
use Rattle.evm_cells.proofs.Coords.{limit-falls}

limit_first : limit 0 ≤ 2 ^ 30
unfolding limit
limit_first = omega arith

-- no limit is above 2 ^ 30
pub limit_small : (n : ℕ) → limit n ≤ 2 ^ 30
limit_small zero = limit_first
limit_small (suc n) = omega (arith, limit-falls n, limit_small n)
