use Rattle.std.proofs.Common.{◌≡◌, ◌-◌, ◌++◌, ℤ, List, ap, ◌∙◌, arith, map}
use Rattle.evm_rows.specs.Rows.{rows_of, flat_of}
use Rattle.evm_shapes.specs.Moves.{moved}
use Rattle.evm_cells.specs.Windows.{IsReduced}
use Rattle.evm_shapes.proofs.Shaped.{moved_rows}
use Rattle.evm_shapes.proofs.turns.rearranged.Goals as goal

pub reduced-requires-clause-whole : goal.reduced-requires-clause-whole
reduced-requires-clause-whole c =
    let a = c.args.a in
    let V : List (List ℤ) = rows_of a.flat.now a.width a.skip in
    let written : c.as_slice.result.now ≡ flat_of (map (moved c.args.step) V) =
    c.as_slice.ensures.value ∙ c.in_ok-append_all_moved.ensures ∙ ap (λ (u : List ℤ). u ++ flat_of (map (moved c.args.step) V)) c.in_ok-moved.ensures.items in
    rw c.dim-dim.ensures ((moved_rows c.args.step (a.width - a.skip) (a.width - a.skip) V _ (omega (arith, a.left)) c.requires.keeps c.requires.axes a.vertices written).0)

pub returns-clause-rows : goal.returns-clause-rows
returns-clause-rows c =
    let a = c.args.a in
    let V : List (List ℤ) = rows_of a.flat.now a.width a.skip in
    let written : c.as_slice.result.now ≡ flat_of (map (moved c.args.step) V) =
    c.as_slice.ensures.value ∙ c.in_ok-append_all_moved.ensures ∙ ap (λ (u : List ℤ). u ++ flat_of (map (moved c.args.step) V)) c.in_ok-moved.ensures.items in
    let rows = (moved_rows c.args.step (a.width - a.skip) (a.width - a.skip) V _ (omega (arith, a.left)) c.requires.keeps c.requires.axes a.vertices written).1 in
    let r : IsReduced (a.width - a.skip) (rows_of c.as_slice.result.now (a.width - a.skip) 0) (rows_of c.in_ok-flat.flat.items (a.width - a.skip) 0) = rw c.dim-dim.ensures at c.in_ok-flat.ensures.rows in
    rw rows at r
