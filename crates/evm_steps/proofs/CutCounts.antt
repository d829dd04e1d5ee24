-- As many couplets as cuts
use Rattle.std.proofs.Common.{◌≡◌, ◌-◌, ◌<◌, ℕ, ℤ, List, length, ap, ◌∙◌, arith}
use Rattle.std.proofs.lemmas.List.{length-map}
use Rattle.evm_cells.specs.Vertices.{evm, cells, IsVertexList}
use Rattle.evm_cells.specs.Sections.{couplet, cuts}
use Rattle.evm_rows.specs.Rows.{Vertices}
use Rattle.evm_sections.specs.Couplets.{couplets_of, couplets_in}
use Rattle.evm_sections.proofs.Heights.{couplets_are_at}
use Rattle.evm_steps.specs.Cuts.{cuts_of}

length-couplets_in : (n : ℕ) (S : List (List ℤ)) → length (couplets_in n S) ≡ length (cuts n 0 S)
unfolding couplets_in
length-couplets_in n S = length-map (cuts n 0 S) (λ h. (h, evm n (couplet n 0 h S)))

-- a view of vertices has as many couplets as its cells have cuts
pub length-couplets : (v : Vertices) → 1 < v.dim → IsVertexList v.dim v.rows → length (couplets_of v.rows) ≡ length (cuts_of v)
length-couplets v deep vertices =
    ap length (couplets_are_at v.dim (v.dim - 1) v.rows (omega arith) vertices) ∙ length-couplets_in (v.dim - 1) (cells v.dim v.rows)
