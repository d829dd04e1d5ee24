use Rattle.std.proofs.Common.{◌≡◌, ◌++◌, take}
use Rattle.evm_text.specs.Spaced.{behind_spaces}
use Rattle.evm_text.proofs.numbers.append_numbers.Given as goal

abbrev pub invariant-loop-number : goal.invariant-loop-number
invariant-loop-number l = l.text.items ≡ l.fn.text.items ++ behind_spaces (take l.number-index l.numbers)
