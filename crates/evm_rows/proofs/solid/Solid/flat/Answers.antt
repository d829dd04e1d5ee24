use Rattle.std.proofs.Common.{◌∙◌, ap, sym}
use Rattle.evm_rows.specs.Rows.{Vertices, flat_of}
use Rattle.evm_rows.proofs.Solids.{flat_of-rows_of}
use Rattle.evm_rows.proofs.solid.Solid.flat.Goals as goal

pub returns : goal.returns
returns c =
    let s = c.self.inside in
    c.as_slice.ensures.value ∙ sym (flat_of-rows_of s.flat.items s.dim c.self.invariant.left c.self.invariant.whole) ∙ ap (λ (v : Vertices). flat_of v.rows) c.self.view_is
