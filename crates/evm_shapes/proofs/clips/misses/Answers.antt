use Rattle.std.proofs.Common.{arith, rules, ◌≡◌, ◌≤ℤ◌, ◌+◌, ◌-◌, ℕ, ℤ, List, length, get_or, pos, int_le, true, sym, subst, w32, SFits}
use Rattle.evm_cells.proofs.Coords.{le_is}
use Rattle.evm_cells.proofs.Insides.{box_lengths}
use Rattle.evm_rows.specs.Rows.{rows_of}
use Rattle.evm_rows.proofs.BoxTests.{same32}
use Rattle.evm_shapes.proofs.Missed.{above_all, below_all}
use Rattle.evm_shapes.proofs.clips.misses.Goals as goal

pub bounds-lo-0 : goal.bounds-lo-0
bounds-lo-0 c =
    let e = (box_lengths (c.args.a.width - c.args.a.skip) c.args.lo.now c.args.hi.now c.requires).0 in
    omega (arith, c.args.a.left, e)

pub bounds-hi-0 : goal.bounds-hi-0
bounds-hi-0 c =
    let e = (box_lengths (c.args.a.width - c.args.a.skip) c.args.lo.now c.args.hi.now c.requires).1 in
    omega (arith, c.args.a.left, e)

pub returns-then-coord-lo : goal.returns-then-coord-lo
returns-then-coord-lo c =
    let a = c.args.a in
    let n : ℕ = a.width - a.skip in
    let lo = c.args.lo.now in
    let V : List (List ℤ) = rows_of a.flat.now a.width a.skip in
    let l = box_lengths n lo c.args.hi.now c.requires in
    let x : ℤ = c.coord.result in
    let y : ℤ = get_or lo 0 (pos 0) in
    let fx : SFits w32 x = search rules in
    let fy : SFits w32 y = search rules in
    let h : int_le x y ≡ true = rw (same32 x fx, same32 y fy) at c.if-coord-lo.true in
    let k : ℕ = c.len-count.result - 1 in
    let m : k + 1 ≡ length V = let s = c.len-count.ensures in let t = c.if-count-eq0.false in omega arith in
    λ u. above_all n lo c.args.hi.now V k (omega (arith, a.left)) l.0 a.vertices m (subst (λ (z : ℤ). z ≤ℤ y) (sym (c.coord.ensures (pos 0))) (le_is x y h))

pub returns : goal.returns
returns c =
    let a = c.args.a in
    let n : ℕ = a.width - a.skip in
    let hi = c.args.hi.now in
    let V : List (List ℤ) = rows_of a.flat.now a.width a.skip in
    let x : ℤ = c.coord-2.result in
    let y : ℤ = get_or hi 0 (pos 0) in
    let fx : SFits w32 x = search rules in
    let fy : SFits w32 y = search rules in
    λ u.
    let h : int_le y x ≡ true = rw (same32 y fy, same32 x fx) at u in
    below_all n c.args.lo.now hi V (omega (arith, a.left)) a.vertices (subst (λ (z : ℤ). y ≤ℤ z) (sym (c.coord-2.ensures (pos 0))) (le_is y x h))
