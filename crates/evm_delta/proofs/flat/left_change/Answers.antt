use Rattle.std.proofs.Common.{◌≡◌, ◌∙◌}
use Rattle.evm_rows.specs.Rows.{Vertices, combined_rows}
use Rattle.evm_rows.specs.View.{vertices_of}
use Rattle.evm_boolean.specs.Tower.{fills}
use Rattle.evm_boolean.specs.declared.boolean.Op2.TheVariants.{And, Sub}
use Rattle.evm_boolean.proofs.Answer.{and_is, sub_is}
use Rattle.evm_delta.specs.Changes.{left_change}
use Rattle.evm_delta.proofs.Deltas.{left_or, left_and, left_sub, left_xor, from_both}
use Rattle.evm_delta.proofs.flat.left_change.Goals as goal

pub returns-in-Or-clause-part : goal.returns-in-Or-clause-part
returns-in-Or-clause-part g c =
    let da : Vertices = vertices_of c.args.da in
    let b : Vertices = vertices_of c.args.b in
    rw c.in-Or.is (from_both c.combine_slabs.result (λ s. s.dim ≡ da.dim) (λ s. s.rows ≡ combined_rows (fills Sub) da.dim da.rows b.rows) (λ s. s ≡ left_change _ da b) (λ s d r. sub_is da b s d r ∙ left_or da b) c.combine_slabs.ensures.dim c.combine_slabs.ensures.rows)

pub returns-in-And-clause-part : goal.returns-in-And-clause-part
returns-in-And-clause-part g c =
    let da : Vertices = vertices_of c.args.da in
    let b : Vertices = vertices_of c.args.b in
    rw c.in-And.is (from_both c.combine_slabs-in-And.result (λ s. s.dim ≡ da.dim) (λ s. s.rows ≡ combined_rows (fills And) da.dim da.rows b.rows) (λ s. s ≡ left_change _ da b) (λ s d r. and_is da b s d r ∙ left_and da b) c.combine_slabs-in-And.ensures.dim c.combine_slabs-in-And.ensures.rows)

pub returns-in-Sub-clause-part : goal.returns-in-Sub-clause-part
returns-in-Sub-clause-part g c =
    let da : Vertices = vertices_of c.args.da in
    let b : Vertices = vertices_of c.args.b in
    rw c.in-Sub.is (from_both c.combine_slabs-in-Sub.result (λ s. s.dim ≡ da.dim) (λ s. s.rows ≡ combined_rows (fills Sub) da.dim da.rows b.rows) (λ s. s ≡ left_change _ da b) (λ s d r. sub_is da b s d r ∙ left_sub da b) c.combine_slabs-in-Sub.ensures.dim c.combine_slabs-in-Sub.ensures.rows)

pub returns-in-Xor-clause-part : goal.returns-in-Xor-clause-part
returns-in-Xor-clause-part g c =
    let da : Vertices = vertices_of c.args.da in
    let b : Vertices = vertices_of c.args.b in
    rw c.in-Xor.is (from_both c.own.result (λ s. s.dim ≡ da.dim) (λ s. s.rows ≡ da.rows) (λ s. s ≡ left_change _ da b) (λ s d r. left_xor da b s c.args.da.vertices d r) c.own.ensures.dim c.own.ensures.rows)
