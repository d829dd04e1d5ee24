use Rattle.std.proofs.Common.{◌≡◌, ◌+◌, ◌-◌, ◌++◌, ◌∷◌, ℕ, ℤ, List, sym, ap, ◌∙◌, arith, rules, w32}
use mir.Val.{SFits}
use Rattle.evm_sections.proofs.Bits.{same32}
use Rattle.evm_rows.specs.Rows.{Vertices, xor_rows}
use Rattle.evm_rows.specs.View.{vertices_of}
use Rattle.evm_faces.specs.Counts.{faces_between, faces_left}
use Rattle.evm_faces.specs.declared.counts.CutFaces.{CutFaces}
use Rattle.evm_faces.proofs.Crossed.{faces_start, faces_more}
use Rattle.evm_faces.proofs.counts.along_first.Goals as goal

pub loop-at-init : goal.loop-at-init
loop-at-init c =
    let a = c.args.a in
    let one : c.empty-below.result.dim + 1 ≡ a.width - a.skip = omega (arith, c.empty-below.ensures.dim, c.dim.ensures, c.requires) in
    record {
      dims = omega (arith, c.of-walk.ensures.dim, one);
      deep = one;
      so_far = ap (λ (out : List CutFaces). out ++ faces_left c.empty-below.result.dim c.empty-below.result.rows c.of-walk.result.left) c.new-out.ensures.items
          ∙ faces_start (vertices_of a) c.empty-below.result.dim c.empty-below.result.rows c.of-walk.result.left one a.vertices c.empty-below.ensures.rows c.of-walk.ensures.left;
    }

pub loop-at-preserved : goal.loop-at-preserved
loop-at-preserved c =
    let i = c.loop-at.invariant in
    let s = c.loop-at.below in
    let t = c.in_ok-above.above in
    let h = c.in-Some.at in
    let fits : SFits w32 h = search rules in
    let d : t.dim ≡ s.dim = c.in_ok-above.ensures.dim ∙ ap (λ (v : Vertices). v.dim) c.rows.ensures in
    let left : c.loop-at.walk.left ≡ (h, (vertices_of c.in-Some.couplet).rows) ∷ c.next_couplet.new.self.left = c.in-Some.ensures.some in
    let next : t.rows ≡ xor_rows s.dim s.rows (vertices_of c.in-Some.couplet).rows =
    c.in_ok-above.ensures.rows ∙ ap (λ (v : Vertices). xor_rows v.dim v.rows (vertices_of c.in-Some.couplet).rows) c.rows.ensures in
    let made : c.in_ok-faces.faces ≡ faces_between s.dim h s.rows t.rows =
    c.in_ok-faces.ensures
    ∙ ap (λ (z : ℤ). faces_between (vertices_of c.rows-in-Some.result).dim z (vertices_of c.rows-in-Some.result).rows (vertices_of c.rows-in-Some-2.result).rows) (same32 h fits)
    ∙ ap (λ (v : Vertices). faces_between v.dim h v.rows (vertices_of c.rows-in-Some-2.result).rows) c.rows-in-Some.ensures
    ∙ ap (λ (v : Vertices). faces_between s.dim h s.rows v.rows) c.rows-in-Some-2.ensures in
    record {
      dims = c.next_couplet.ensures.dim ∙ i.dims ∙ sym d;
      deep = omega (arith, d, i.deep);
      so_far = ap (λ (n : ℕ). c.push.new.self.items ++ faces_left n t.rows c.next_couplet.new.self.left) d
          ∙ faces_more s.dim h s.rows (vertices_of c.in-Some.couplet).rows t.rows c.loop-at.walk.left c.next_couplet.new.self.left c.in_ok-faces.faces
          c.loop-at.out.items c.push.new.self.items _ left next made c.in_ok-push.ensures.items i.so_far;
    }
