use Rattle.std.proofs.Common.{◌≡◌, ◌&&◌, drop, int_le}
use Rattle.std.specs.List.{list_all}
use Rattle.evm_member.proofs.limits.are_between.Given as goal

abbrev pub invariant-loop-x : goal.invariant-loop-x
invariant-loop-x l = list_all (λ x. int_le l.low x && int_le x l.high) l.numbers ≡ list_all (λ x. int_le l.low x && int_le x l.high) (drop l.x-index l.numbers)
