use Rattle.std.proofs.Common.{◌≡◌, List, ap, ◌∙◌, subst}
use Rattle.std.specs.Prelude.{IfOk}
use Rattle.evm_rows.specs.Rows.{Vertices}
use Rattle.evm_rows.specs.View.{vertices_of}
use Rattle.evm_faces.specs.declared.counts.CutFaces.{CutFaces}
use Rattle.evm_faces.proofs.Crossed.{faces_by_front}
use Rattle.evm_faces.proofs.counts.cut_faces.Goals as goal

pub returns : goal.returns
returns c =
    let b = vertices_of c.rows.result in
    let d = ap (λ (v : Vertices). v.dim) c.rows.ensures ∙ c.in_ok-turned.ensures.dim in
    let e = ap (λ (v : Vertices). v.rows) c.rows.ensures ∙ c.in_ok-turned.ensures.rows in
    subst (λ (faces : List CutFaces). IfOk c.along_first-2.result (λ v. v.items ≡ faces))
    (faces_by_front (vertices_of c.args.a) b c.args.axis c.requires.deep d e) c.along_first-2.ensures
