use Rattle.std.proofs.Common.{◌≡◌, ◌+◌, ◌-◌, ◌<◌, ◌++◌, length}
use Rattle.evm_rows.specs.View.{vertices_of}
use Rattle.evm_partition.specs.BoxLists.{front_of, numbers_of, numbers_after, prefixed}
use Rattle.evm_partition.proofs.SlabBoxes.{slab_boxes}
use Rattle.evm_partition.proofs.slabs.+append_boxes.Given as goal

abbrev pub decreases-append_boxes : goal.decreases-append_boxes
decreases-append_boxes l = l.a.width - l.a.skip

abbrev pub invariant-loop-sweep : goal.invariant-loop-sweep
invariant-loop-sweep l = record {
  some : 0 < l.sweep.dim;
  deep : l.sweep.dim + 1 ≡ l.fn.a.width - l.fn.a.skip;
  so_far : l.out.items ++ numbers_of (prefixed (front_of l.front) (slab_boxes l.sweep.dim l.sweep.left))
      ≡ l.fn.out.items ++ numbers_after (front_of l.front) (vertices_of l.fn.a);
}

abbrev pub decreases-loop-sweep : goal.decreases-loop-sweep
decreases-loop-sweep l = length l.sweep.left
