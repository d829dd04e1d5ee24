use Rattle.std.proofs.Common.{◌≡◌, sym, subst}
use Rattle.evm_cells.specs.Vertices.{evm, cells}
use Rattle.evm_cells.proofs.Core.{evm-cells}
use Rattle.evm_rows.specs.Rows.{Vertices, rows_of}
use Rattle.evm_rows.proofs.Solids.{vertices_shown}
use Rattle.evm_rows.proofs.solid.Solid.facts.Goals as goal

pub returns-clause-vertices : goal.returns-clause-vertices
returns-clause-vertices c =
    let s = c.self.inside in
    subst (λ (v : Vertices). v.rows ≡ evm v.dim (cells v.dim v.rows)) c.self.view_is
    (sym (evm-cells s.dim (rows_of s.flat.items s.dim 0) (vertices_shown s.flat.items s.dim c.self.invariant)))
