use Rattle.std.proofs.Common.{refl, sym, ◌∙◌, arith, rules, zero-add, w32}
use mir.Val.{SFits}
use Rattle.evm_cells.specs.Vertices.{IsVertexList}
use Rattle.evm_rows.specs.Rows.{rows_of}
use Rattle.evm_sections.proofs.Bits.{same32}
use Rattle.evm_measure.proofs.Sums.{content_is_at, content-fits}
use Rattle.evm_measure.proofs.Steps.{run_more, single_rest}
use Rattle.evm_measure.proofs.runs.Goals as goal

pub loop-high-init : goal.loop-high-init
loop-high-init c =
    let a = c.args.a in
    let v : IsVertexList 1 (rows_of a.flat.now a.width a.skip) = rw (sym c.requires) a.vertices in
    record {
      single = c.of-walk.ensures.single;
      fits = content-fits 1 (rows_of a.flat.now a.width a.skip) (omega arith);
      so_far = zero-add _ ∙ content_is_at 1 0 (rows_of a.flat.now a.width a.skip) _ c.of-walk.result refl v c.of-walk.ensures.left;
    }

pub loop-high-preserved : goal.loop-high-preserved
loop-high-preserved c =
    let inv = c.loop-high.invariant in
    let fits : SFits w32 c.in-Some.high = search rules in
    record {
      single = rw c.step.ensures (single_rest c.loop-high.walk inv.single);
      fits = inv.fits;
      so_far = rw (c.step.ensures, same32 c.in-Some.high fits)
          (run_more _ c.in-Some.high c.loop-high.on c.loop-high.walk c.loop-high.total c.from-total.result _ inv.single c.in-Some.ensures (c.from-total.ensures ∙ (rw (same32 c.in-Some.high fits) at c.counted.ensures)) inv.so_far);
    }
