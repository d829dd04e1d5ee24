use Rattle.std.proofs.Common.{arith, ◌∙◌, ℕ, ℤ, List, ap₂}
use Rattle.evm_cells.specs.Vertices.{cells}
use Rattle.evm_sections.proofs.Bits.{same32}
use Rattle.evm_cutting.proofs.Leveled.{whole_rows, below_made}
use Rattle.evm_cutting.proofs.levels.below.Goals as goal

pub rows_below-requires-clause-axis : goal.rows_below-requires-clause-axis
rows_below-requires-clause-axis c = let l = c.requires.axis in omega arith

pub rows_below-requires-clause-vertices : goal.rows_below-requires-clause-vertices
rows_below-requires-clause-vertices c = whole_rows c.args.a.width c.args.a.skip c.args.a.flat.now c.requires.skip c.args.a.vertices

pub from_rows-requires : goal.from_rows-requires
from_rows-requires c =
    let a = c.args.a in
    let r = c.requires in
    (below_made a.width a.skip c.args.axis c.args.at a.flat.now c.in_ok-flat.flat.items a.narrow a.left r.skip (record { axis = r.axis; low = r.low; high = r.high }) a.vertices c.in_ok-flat.ensures.whole (rw (same32 c.args.at c.ranges.at) at c.in_ok-flat.ensures.rows)).0

pub returns-clause-cells : goal.returns-clause-cells
returns-clause-cells c =
    let a = c.args.a in
    let r = c.requires in
    ap₂ (λ (n : ℕ) (W : List (List ℤ)). cells n W) c.from_rows.ensures.dim c.from_rows.ensures.rows
    ∙ (below_made a.width a.skip c.args.axis c.args.at a.flat.now c.in_ok-flat.flat.items a.narrow a.left r.skip (record { axis = r.axis; low = r.low; high = r.high }) a.vertices c.in_ok-flat.ensures.whole (rw (same32 c.args.at c.ranges.at) at c.in_ok-flat.ensures.rows)).1
