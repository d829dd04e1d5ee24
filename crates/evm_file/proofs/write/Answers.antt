use Rattle.std.proofs.Common.{◌-◌, ◌++◌, ap, ◌∙◌, List, ℕ}
use Rattle.evm_rows.specs.Rows.{rows_of, Vertices}
use Rattle.evm_file.proofs.Writing.{written}
use Rattle.evm_file.proofs.write.Goals as goal

pub returns : goal.returns
returns c =
    let r = c.rows.result in
    written c.args.a.now c.dim.result (r.width - r.skip) (rows_of r.flat.now r.width r.skip) c.header.result c.extend_from_slice.new.self.items c.append_body.new.out.items c.facts.ensures.solid.vertices
    c.header.ensures c.dim.ensures (c.in_ok-extend_from_slice.ensures.items ∙ ap (λ (xs : List ℕ). xs ++ c.header.result) c.in_ok-file.ensures.items)
    (ap (λ (v : Vertices). v.dim) c.rows.ensures) (ap (λ (v : Vertices). v.rows) c.rows.ensures) c.in_ok-append_body.ensures
