use Rattle.std.proofs.Common.{◌≡◌, ◌∙◌}
use Rattle.evm_rows.specs.Rows.{Vertices, combined_rows}
use Rattle.evm_rows.specs.View.{vertices_of}
use Rattle.evm_boolean.specs.Tower.{fills}
use Rattle.evm_boolean.specs.declared.boolean.Op2.TheVariants.{And, Sub}
use Rattle.evm_boolean.proofs.Answer.{and_is, sub_is}
use Rattle.evm_delta.specs.Changes.{right_change}
use Rattle.evm_delta.proofs.Deltas.{right_or, right_and, right_sub, right_xor, from_both}
use Rattle.evm_delta.proofs.flat.right_change.Goals as goal

pub returns-in-Or-clause-part : goal.returns-in-Or-clause-part
returns-in-Or-clause-part g c =
    let a : Vertices = vertices_of c.args.a in
    let db : Vertices = vertices_of c.args.db in
    rw c.in-Or.is (from_both c.combine_slabs.result (λ s. s.dim ≡ db.dim) (λ s. s.rows ≡ combined_rows (fills Sub) db.dim db.rows a.rows) (λ s. s ≡ right_change _ a db) (λ s d r. sub_is db a s d r ∙ right_or a db) c.combine_slabs.ensures.dim c.combine_slabs.ensures.rows)

pub returns-in-And-clause-part : goal.returns-in-And-clause-part
returns-in-And-clause-part g c =
    let a : Vertices = vertices_of c.args.a in
    let db : Vertices = vertices_of c.args.db in
    rw c.in-And.is (from_both c.combine_slabs-in-And.result (λ s. s.dim ≡ db.dim) (λ s. s.rows ≡ combined_rows (fills And) db.dim db.rows a.rows) (λ s. s ≡ right_change _ a db) (λ s d r. and_is db a s d r ∙ right_and a db) c.combine_slabs-in-And.ensures.dim c.combine_slabs-in-And.ensures.rows)

pub returns-in-Sub-clause-part : goal.returns-in-Sub-clause-part
returns-in-Sub-clause-part g c =
    let a : Vertices = vertices_of c.args.a in
    let db : Vertices = vertices_of c.args.db in
    rw c.in-Sub.is (from_both c.combine_slabs-in-Sub.result (λ s. s.dim ≡ db.dim) (λ s. s.rows ≡ combined_rows (fills And) db.dim db.rows a.rows) (λ s. s ≡ right_change _ a db) (λ s d r. and_is db a s d r ∙ right_sub a db) c.combine_slabs-in-Sub.ensures.dim c.combine_slabs-in-Sub.ensures.rows)

pub returns-in-Xor-clause-part : goal.returns-in-Xor-clause-part
returns-in-Xor-clause-part g c =
    let a : Vertices = vertices_of c.args.a in
    let db : Vertices = vertices_of c.args.db in
    rw c.in-Xor.is (from_both c.own.result (λ s. s.dim ≡ db.dim) (λ s. s.rows ≡ db.rows) (λ s. s ≡ right_change _ a db) (λ s d r. right_xor a db s c.args.db.vertices d r) c.own.ensures.dim c.own.ensures.rows)
