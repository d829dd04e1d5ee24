use Rattle.std.proofs.Common.{◌≡◌, ◌++◌, ◌≤◌, map, drop, length}
use Rattle.evm_rows.specs.Rows.{flat_of}
use Rattle.evm_voxels.specs.Marks.{bit_on}
use Rattle.evm_voxels.specs.Blocks.{places}
use Rattle.evm_voxels.proofs.blocks.append_bits.Given as goal

abbrev pub invariant-loop-z : goal.invariant-loop-z
invariant-loop-z l = record {
  within : l.z ≤ length l.words;
  so_far : l.out.items ++ flat_of (map (λ t. l.head ++ t) (places (map (bit_on l.column) (drop l.z l.words)) l.z)) ≡ l.initial.out.items ++ flat_of (map (λ t. l.head ++ t) (places (map (bit_on l.column) l.words) 0));
}
