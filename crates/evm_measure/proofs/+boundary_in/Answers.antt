use Rattle.std.proofs.Common.{◌-◌, ◌∙◌, arith, zero-add}
use Rattle.evm_rows.specs.Rows.{rows_of}
use Rattle.evm_measure.proofs.Steps.{level_start}
use Rattle.evm_measure.proofs.Sums.{boundary_is_at, boundary-fits, boundary-one_at}
use Rattle.evm_measure.proofs.+boundary_in.Goals as goal

pub loop-high-init : goal.loop-high-init
loop-high-init t c =
    let a = c.args.a in
    record {
      level = level_start (a.width - a.skip) _ _ (omega (arith, c.if-dim-eq1.false, c.dim-dim.ensures, a.left)) (omega (arith, c.empty-section.ensures.dim, c.dim-dim.ensures)) c.of-walk.ensures.dim;
      fits = boundary-fits (a.width - a.skip) (rows_of a.flat.now a.width a.skip) (omega (arith, a.narrow));
      so_far = zero-add _ ∙ rw c.empty-section.ensures.rows
          (boundary_is_at (a.width - a.skip) c.empty-section.result.dim (rows_of a.flat.now a.width a.skip) _ c.of-walk.result.left (omega (arith, c.if-dim-eq1.false, c.dim-dim.ensures, c.empty-section.ensures.dim, a.left)) a.vertices c.of-walk.ensures.left);
    }

pub returns-then-dim-eq1 : goal.returns-then-dim-eq1
returns-then-dim-eq1 t c =
    let a = c.args.a in
    c.len.ensures ∙ boundary-one_at (a.width - a.skip) (rows_of a.flat.now a.width a.skip) (omega (arith, c.dim-dim.ensures, c.if-dim-eq1.true)) a.vertices
