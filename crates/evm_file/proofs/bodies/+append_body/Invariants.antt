use Rattle.std.proofs.Common.{◌≡◌, ◌+◌, ◌-◌, ◌<◌, ◌++◌, length}
use Rattle.evm_rows.specs.View.{vertices_of}
use Rattle.evm_formats.specs.RowBodies.{items, row_body}
use Rattle.evm_file.proofs.bodies.+append_body.Given as goal

abbrev pub decreases-append_body : goal.decreases-append_body
decreases-append_body l = l.a.width - l.a.skip

abbrev pub invariant-loop-height : goal.invariant-loop-height
invariant-loop-height l = record {
  deep : l.walk.dim + 1 ≡ l.fn.a.width - l.fn.a.skip;
  so_far : l.out.items ++ items (row_body l.walk.dim) l.walk.left
      ≡ l.fn.out.items ++ row_body (vertices_of l.fn.a).dim (vertices_of l.fn.a).rows;
}

abbrev pub decreases-loop-height : goal.decreases-loop-height
decreases-loop-height l = length l.walk.left
