use Rattle.std.proofs.Common.{◌≡◌, length, ◌+◌, ◌*◌, ◌^◌, ◌≤◌, min}
use Rattle.evm_text.specs.Numbers.{digits_value}
use Rattle.evm_formats.specs.Header.{digits, after_digits}
use Rattle.evm_voxels.specs.Numbers.{capped}
use Rattle.evm_voxels.proofs.header.number.Given as goal

abbrev pub invariant-loop-b : goal.invariant-loop-b
invariant-loop-b l = record {
  so_far : min (l.value * 10 ^ length (digits l.rest) + digits_value (digits l.rest)) 4294967295 ≡ capped (digits_value (digits l.bytes));
  small : l.value ≤ 4294967295;
  left : after_digits l.rest ≡ after_digits l.bytes;
}

abbrev pub decreases-loop-b : goal.decreases-loop-b
decreases-loop-b l = length l.rest
