use Rattle.std.proofs.Common.{◌≡◌, ◌-◌, ℕ, ℤ, ap, ap₂, ◌∙◌}
use Rattle.evm_rows.specs.Rows.{cells_of}
use Rattle.evm_rows.specs.View.{vertices_of}
use Rattle.evm_boolean.specs.Tower.{sub_vertices}
use Rattle.evm_shapes.specs.Shapes.{sliced_cells}
use Rattle.evm_rows.proofs.BoxTests.{same32}
use Rattle.evm_faces.proofs.Beyond.{only_rows}
use Rattle.evm_faces.proofs.sides.only_at.Goals as goal

pub returns-clause-rows : goal.returns-clause-rows
returns-clause-rows c =
    let a = c.args.a in
    let n : ℕ = a.width - a.skip - 1 in
    let kept : cells_of c.in_ok-kept.kept ≡ sliced_cells c.args.axis c.args.here (vertices_of a) =
    c.in_ok-kept.ensures.cells ∙ ap (λ (h : ℤ). sliced_cells c.args.axis h (vertices_of a)) (same32 c.args.here c.ranges.here) in
    let taken : cells_of c.in_ok-taken.taken ≡ sliced_cells c.args.axis c.args.there (vertices_of a) =
    c.in_ok-taken.ensures.cells ∙ ap (λ (h : ℤ). sliced_cells c.args.axis h (vertices_of a)) (same32 c.args.there c.ranges.there) in
    only_rows c.in_ok-kept.kept c.in_ok-taken.taken c.in_ok-left.left n _ _ (c.in_ok-left.ensures.vertices ∙ ap₂ sub_vertices c.rows.ensures c.rows-2.ensures) c.in_ok-kept.ensures.dim c.in_ok-taken.ensures.dim kept taken
