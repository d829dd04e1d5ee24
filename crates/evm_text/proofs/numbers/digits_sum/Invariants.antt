use Rattle.std.proofs.Common.{◌≡◌, ◌<◌, ◌^◌, take}
use Rattle.evm_text.specs.Numbers.{digits_value}
use Rattle.evm_text.proofs.numbers.digits_sum.Given as goal

abbrev pub invariant-loop-b : goal.invariant-loop-b
invariant-loop-b l = record { value : l.value ≡ digits_value (take l.b-index l.word); small : l.value < 10 ^ l.b-index }
