use Rattle.std.proofs.Common.{◌≡◌, take, length, true}
use Rattle.std.specs.List.{list_all}
use Rattle.evm_script.specs.Coordinates.{is_between}
use Rattle.evm_script.proofs.coordinates.all_narrowed.Given as goal

abbrev pub invariant-loop-i : goal.invariant-loop-i
invariant-loop-i l = record {
  sized : length l.made ≡ 12;
  read : take l.i l.made ≡ take l.i l.numbers;
  between : list_all (is_between l.low l.high) (take l.i l.numbers) ≡ true;
}
