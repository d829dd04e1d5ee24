use Rattle.std.proofs.Common.{◌≡◌, ◌++◌, length}
use Rattle.evm_rows.specs.View.{vertices_of}
use Rattle.evm_sections.specs.Couplets.{AreSingle}
use Rattle.evm_formats.specs.RowBodies.{items, row_body}
use Rattle.evm_file.proofs.bodies.append_line.Given as goal

abbrev pub invariant-loop-at : goal.invariant-loop-at
invariant-loop-at l = record {
  single : AreSingle l.marks;
  so_far : l.out.items ++ items (row_body 0) l.marks ≡ l.fn.out.items ++ row_body (vertices_of l.fn.a).dim (vertices_of l.fn.a).rows;
}

abbrev pub decreases-loop-at : goal.decreases-loop-at
decreases-loop-at l = length l.marks
