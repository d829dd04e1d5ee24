use Rattle.std.proofs.Common.{rules, ◌≡◌, ◌-◌, ◌<◌, ◌++◌, ℤ, List, ℕ, map, arith, subst, get_or, pos, w32, SFits}
use Rattle.evm_cells.specs.Windows.{IsReduced}
use Rattle.evm_cells.proofs.Insides.{box_lengths}
use Rattle.evm_rows.specs.Rows.{rows_of}
use Rattle.evm_rows.specs.View.{vertices_of}
use Rattle.evm_rows.proofs.BoxTests.{same32}
use Rattle.evm_shapes.specs.Keys.{unpacked, IsLowKeys}
use Rattle.evm_shapes.specs.Moves.{raised}
use Rattle.evm_shapes.proofs.Closing.{closed_is}
use Rattle.evm_shapes.proofs.Windowed.{closed_reduced}
use Rattle.evm_shapes.proofs.inside.rows_inside_by_keys.Goals as goal

pub bounds-hi-0 : goal.bounds-hi-0
bounds-hi-0 c =
    let e = (box_lengths (c.args.a.width - c.args.a.skip) c.args.lo.now c.args.hi.now c.requires.inside).1 in
    omega (arith, c.args.a.left, e)

pub returns-clause-rows : goal.returns-clause-rows
returns-clause-rows c =
    let n : ℕ = c.args.a.width - c.args.a.skip in
    let some : 0 < n = omega (arith, c.args.a.left) in
    let h : ℤ = get_or c.args.hi.now 0 (pos 0) in
    let fits : SFits w32 h = search rules in
    let low : IsLowKeys c.args.lo.now c.args.hi.now (vertices_of c.args.a) c.in_ok-keys.field-0.keys.items c.in_ok-keys.field-0.all = c.in_ok-keys.ensures in
    let W : List (List ℤ) = map (unpacked n) c.in_ok-keys.field-0.keys.items in
    let X : List (List ℤ) = rows_of c.in_ok-flat-2.flat.items n 0 in
    let e : map (unpacked n) c.close.new.keys.items ≡ W ++ map (raised h) W = rw (c.dim-dim.ensures, same32 h fits) at c.in_ok-close.ensures.rows in
    let r : IsReduced n (map (unpacked n) c.close.new.keys.items) X = rw c.dim-dim.ensures at c.in_ok-flat-2.ensures.rows in
    closed_is n c.args.lo.now c.args.hi.now _ W X some c.requires.inside c.args.a.vertices low.lone (closed_reduced n h W X (subst (λ (L : List (List ℤ)). IsReduced n L X) e r))
