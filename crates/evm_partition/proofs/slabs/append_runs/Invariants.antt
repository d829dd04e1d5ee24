use Rattle.std.proofs.Common.{◌≡◌, ◌++◌, [], length}
use Rattle.evm_rows.specs.View.{vertices_of}
use Rattle.evm_sections.specs.Couplets.{AreSingle, slabs_left}
use Rattle.evm_partition.specs.BoxLists.{front_of, numbers_of, numbers_after, prefixed}
use Rattle.evm_partition.proofs.SlabBoxes.{slab_boxes}
use Rattle.evm_partition.proofs.slabs.append_runs.Given as goal

abbrev pub invariant-loop-low : goal.invariant-loop-low
invariant-loop-low l = record {
  single : AreSingle l.marks;
  so_far : l.out.items ++ numbers_of (prefixed (front_of l.front) (slab_boxes 0 (slabs_left 0 [] l.marks)))
      ≡ l.fn.out.items ++ numbers_after (front_of l.front) (vertices_of l.fn.a);
}

abbrev pub decreases-loop-low : goal.decreases-loop-low
decreases-loop-low l = length l.marks
