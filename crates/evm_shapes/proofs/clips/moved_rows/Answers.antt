use Rattle.std.proofs.Common.{◌-◌, ℤ, List, ℕ, ◌∙◌, arith, subst}
use Rattle.evm_rows.specs.Rows.{rows_of}
use Rattle.evm_cells.specs.Windows.{IsReduced}
use Rattle.evm_cells.proofs.Insides.{box_lengths}
use Rattle.evm_shapes.proofs.Clipped.{moved_rows_are}
use Rattle.evm_shapes.proofs.clips.moved_rows.Goals as goal

pub append_all_clamped-requires-clause-low : goal.append_all_clamped-requires-clause-low
append_all_clamped-requires-clause-low c = (box_lengths (c.args.a.width - c.args.a.skip) c.args.lo.now c.args.hi.now c.requires).0

pub append_all_clamped-requires-clause-high : goal.append_all_clamped-requires-clause-high
append_all_clamped-requires-clause-high c = (box_lengths (c.args.a.width - c.args.a.skip) c.args.lo.now c.args.hi.now c.requires).1

pub reduced-requires-clause-whole : goal.reduced-requires-clause-whole
reduced-requires-clause-whole c =
    let moved =
    moved_rows_are (c.args.a.width - c.args.a.skip) c.args.lo.now c.args.hi.now _ _ _ (omega (arith, c.args.a.left)) c.requires c.args.a.vertices c.in_ok-moved.ensures.items (c.as_slice.ensures.value ∙ c.in_ok-append_all_clamped.ensures) in
    rw c.dim-dim.ensures moved.0

pub returns-clause-rows : goal.returns-clause-rows
returns-clause-rows c =
    let n : ℕ = c.args.a.width - c.args.a.skip in
    let moved =
    moved_rows_are n c.args.lo.now c.args.hi.now _ _ _ (omega (arith, c.args.a.left)) c.requires c.args.a.vertices c.in_ok-moved.ensures.items (c.as_slice.ensures.value ∙ c.in_ok-append_all_clamped.ensures) in
    let r : IsReduced n (rows_of c.as_slice.result.now n 0) (rows_of c.in_ok-flat.flat.items n 0) = rw c.dim-dim.ensures at c.in_ok-flat.ensures.rows in
    subst (λ (L : List (List ℤ)). IsReduced n L (rows_of c.in_ok-flat.flat.items n 0)) moved.1 r
