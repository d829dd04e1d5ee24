use Rattle.std.proofs.Common.{◌≡◌, ℕ, ℤ, List, ap, ap₂, sym, ◌∙◌, subst}
use Rattle.evm_cells.specs.Unions.{union_of}
use Rattle.evm_cells.specs.Vertices.{cells}
use Rattle.evm_rows.specs.Rows.{AreRows, rows_of, xor_rows}
use Rattle.evm_parts.proofs.OtherBoxes.{remainder_is}
use Rattle.evm_parts.proofs.remainder.remainder.Goals as goal

pub returns : goal.returns
returns c =
    let n = c.args.boxes.now.dim in
    let boxes = c.args.boxes.now.boxes in
    let labels = c.args.labels.now in
    let V : List (List ℤ) = rows_of c.args.a.flat.now c.args.a.width c.args.a.skip in
    let W = c.in_ok-rest.rest.rows in
    let Z = c.in_ok-part.part.rows in
    let dim = c.in_ok-part.ensures.dim ∙ c.requires.dim in
    let whole : union_of n boxes ≡ cells n V = c.requires.whole ∙ ap (λ (k : ℕ). cells k V) c.requires.dim in
    let rows : Z ≡ xor_rows n V W = c.in_ok-part.ensures.rows ∙ ap₂ (λ (k : ℕ) (U : List (List ℤ)). xor_rows k V U) c.requires.dim (ap (λ v. v.rows) c.rows.ensures) in
    record {
      are_rows = subst (λ (k : ℕ). AreRows c.into_flat.result.items k 0) dim c.into_flat.ensures.are_rows;
      rows =
          ap (λ (k : ℕ). rows_of c.into_flat.result.items k 0) (sym dim) ∙ c.into_flat.ensures.rows
          ∙ remainder_is n c.args.label labels boxes V W Z c.requires.many c.requires.apart whole c.in_ok-rest.ensures.rows rows;
    }
