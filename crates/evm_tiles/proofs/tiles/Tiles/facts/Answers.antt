use Rattle.std.proofs.Common.{subst}
use Rattle.evm_cells.proofs.Core.{vertices-evm}
use Rattle.evm_rows.specs.Rows.{Vertices, IsSolid}
use Rattle.evm_tiles.specs.Trees.{node_cells}
use Rattle.evm_tiles.proofs.Trees.{cell_set-node}
use Rattle.evm_tiles.proofs.Showing.{shown_rows}
use Rattle.evm_tiles.proofs.tiles.Tiles.facts.Goals as goal

pub returns-clause-solid : goal.returns-clause-solid
returns-clause-solid c =
    let n = c.self.inside.dim in
    let x = c.self.inside.root.value in
    subst (λ (v : Vertices). IsSolid v) c.self.view_is
    (record { low = c.self.invariant.low; high = c.self.invariant.high; vertices = vertices-evm n (node_cells n x) (cell_set-node n x) })

pub returns-clause-vertices : goal.returns-clause-vertices
returns-clause-vertices c = shown_rows c.self.inside.dim c.self.inside.root.value c.args.self.now c.self.view_is
