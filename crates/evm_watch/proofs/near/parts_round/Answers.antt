use Rattle.std.proofs.Common.{ℕ, List, ℤ, take, sym, ap, ◌∙◌, subst}
use Rattle.evm_cells.specs.Booleans.{xor_cells, and_cells}
use Rattle.evm_cells.specs.Vertices.{cells}
use Rattle.evm_rows.specs.Rows.{Vertices}
use Rattle.evm_rows.specs.View.{vertices_of}
use Rattle.evm_watch.specs.Parts.{IsRound}
use Rattle.evm_watch.proofs.Moved.{parts_are}
use Rattle.evm_watch.proofs.near.parts_round.Goals as goal

pub returns : goal.returns
returns c =
    let lo : List ℤ = c.round-ends.result.lo in
    let hi : List ℤ = c.round-ends.result.hi in
    let n : ℕ = c.dim-dim.result in
    let delta : Vertices = vertices_of c.args.delta in
    parts_are c.args.whole.now delta c.in_ok-before.before c.in_ok-gained.gained c.in_ok-lost.lost c.in_ok-after.after (take n lo) (take n hi) c.requires
    (subst (λ (m : ℕ). IsRound (take m lo) (take m hi) delta) (sym c.dim-dim.ensures) c.round-ends.ensures.round)
    c.in_ok-before.ensures.dim (c.in_ok-before.ensures.cells)
    (c.in_ok-after.ensures.dim ∙ ap (λ (v : Vertices). v.dim) c.rows.ensures)
    (c.in_ok-after.ensures.cells ∙ ap (λ (v : Vertices). xor_cells v.dim (cells v.dim v.rows) (cells v.dim delta.rows)) c.rows.ensures)
    (c.in_ok-lost.ensures.dim ∙ ap (λ (v : Vertices). v.dim) c.rows-2.ensures)
    (c.in_ok-lost.ensures.cells ∙ ap (λ (v : Vertices). and_cells c.in_ok-lost.lost.dim (cells c.in_ok-lost.lost.dim v.rows) (cells c.in_ok-lost.lost.dim delta.rows)) c.rows-2.ensures)
    (c.in_ok-gained.ensures.dim ∙ ap (λ (v : Vertices). v.dim) c.rows-3.ensures)
    (c.in_ok-gained.ensures.cells ∙ ap (λ (v : Vertices). xor_cells v.dim (cells v.dim v.rows) (cells v.dim delta.rows)) c.rows-3.ensures)
