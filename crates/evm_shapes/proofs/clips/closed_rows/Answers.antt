use Rattle.std.proofs.Common.{rules, ◌≡◌, ◌-◌, ◌<◌, ◌++◌, ℤ, List, ℕ, map, ap, ap₂, ◌∙◌, arith, subst, get_or, pos, w32, to_z, of_z, SFits}
use Rattle.evm_cells.specs.Windows.{clamped, IsReduced}
use Rattle.evm_cells.proofs.Insides.{box_lengths}
use Rattle.evm_rows.specs.Rows.{rows_of, flat_of}
use Rattle.evm_rows.specs.Groups.{targets}
use Rattle.evm_rows.proofs.BoxTests.{same32}
use Rattle.evm_rows.proofs.Bridge.{wide-points}
use Rattle.evm_shapes.specs.Moves.{low_rows, closed}
use Rattle.evm_shapes.specs.Order.{AreLone}
use Rattle.evm_shapes.proofs.Clipped.{clamped_rows}
use Rattle.evm_shapes.proofs.Closing.{low_wide, closed_is, closed_rows_are}
use Rattle.evm_shapes.proofs.clips.closed_rows.Goals as goal

pub append_low_clamped-requires-clause-low : goal.append_low_clamped-requires-clause-low
append_low_clamped-requires-clause-low c = (box_lengths (c.args.a.width - c.args.a.skip) c.args.lo.now c.args.hi.now c.requires).0

pub append_low_clamped-requires-clause-high : goal.append_low_clamped-requires-clause-high
append_low_clamped-requires-clause-high c = (box_lengths (c.args.a.width - c.args.a.skip) c.args.lo.now c.args.hi.now c.requires).1

pub lone_rows-requires-clause-whole : goal.lone_rows-requires-clause-whole
lone_rows-requires-clause-whole c =
    let a = c.args.a in
    let n : ℕ = a.width - a.skip in
    let lo = c.args.lo.now in
    let hi = c.args.hi.now in
    let h : ℤ = get_or hi 0 (pos 0) in
    let V : List (List ℤ) = rows_of a.flat.now a.width a.skip in
    let U : List (List ℤ) = low_rows h V in
    let l = box_lengths n lo hi c.requires in
    let some : 0 < n = omega (arith, a.left) in
    let written : c.as_slice.result.now ≡ flat_of (map (clamped lo hi) U) =
    c.as_slice.ensures.value ∙ c.in_ok-append_low_clamped.ensures ∙ ap (λ (u : List ℤ). u ++ flat_of (map (clamped lo hi) U)) c.in_ok-low.ensures.items in
    let moved = clamped_rows n lo hi U _ some l.0 l.1 (low_wide n h V (wide-points n V a.vertices.points)) written in
    rw c.dim-dim.ensures moved.0

pub bounds-hi-0 : goal.bounds-hi-0
bounds-hi-0 c =
    let e = (box_lengths (c.args.a.width - c.args.a.skip) c.args.lo.now c.args.hi.now c.requires).1 in
    omega (arith, c.args.a.left, e)

pub reduced-requires-clause-whole : goal.reduced-requires-clause-whole
reduced-requires-clause-whole c =
    let a = c.args.a in
    let n : ℕ = a.width - a.skip in
    let lo = c.args.lo.now in
    let hi = c.args.hi.now in
    let h : ℤ = get_or hi 0 (pos 0) in
    let V : List (List ℤ) = rows_of a.flat.now a.width a.skip in
    let U : List (List ℤ) = low_rows h V in
    let l = box_lengths n lo hi c.requires in
    let some : 0 < n = omega (arith, a.left) in
    let written : c.as_slice.result.now ≡ flat_of (map (clamped lo hi) U) =
    c.as_slice.ensures.value ∙ c.in_ok-append_low_clamped.ensures ∙ ap (λ (u : List ℤ). u ++ flat_of (map (clamped lo hi) U)) c.in_ok-low.ensures.items in
    let moved = clamped_rows n lo hi U _ some l.0 l.1 (low_wide n h V (wide-points n V a.vertices.points)) written in
    let W : List (List ℤ) = targets c.in_ok-few.few.items in
    let r : AreLone n (rows_of c.as_slice.result.now n 0) W = rw c.dim-dim.ensures at c.in_ok-few.ensures in
    let lone : AreLone n (map (clamped lo hi) U) W = subst (λ (L : List (List ℤ)). AreLone n L W) moved.1 r in
    let fh : SFits w32 h = search rules in
    let again : c.as_slice-3.result.now ≡ flat_of (closed h W) =
    c.as_slice-3.ensures.value ∙ c.in_ok-append_closed.ensures ∙ ap₂ (λ (u : List ℤ) (V : List (List ℤ)). u ++ flat_of (closed (to_z w32 (of_z w32 h)) V)) c.in_ok-all.ensures.items (ap targets c.as_slice-2.ensures.value)
    ∙ ap (λ (z : ℤ). flat_of (closed z W)) (same32 h fh) in
    let all = closed_rows_are n h W _ some lone.wide again in
    rw c.dim-dim.ensures all.0

pub returns-clause-rows : goal.returns-clause-rows
returns-clause-rows c =
    let a = c.args.a in
    let n : ℕ = a.width - a.skip in
    let lo = c.args.lo.now in
    let hi = c.args.hi.now in
    let h : ℤ = get_or hi 0 (pos 0) in
    let V : List (List ℤ) = rows_of a.flat.now a.width a.skip in
    let U : List (List ℤ) = low_rows h V in
    let l = box_lengths n lo hi c.requires in
    let some : 0 < n = omega (arith, a.left) in
    let written : c.as_slice.result.now ≡ flat_of (map (clamped lo hi) U) =
    c.as_slice.ensures.value ∙ c.in_ok-append_low_clamped.ensures ∙ ap (λ (u : List ℤ). u ++ flat_of (map (clamped lo hi) U)) c.in_ok-low.ensures.items in
    let moved = clamped_rows n lo hi U _ some l.0 l.1 (low_wide n h V (wide-points n V a.vertices.points)) written in
    let W : List (List ℤ) = targets c.in_ok-few.few.items in
    let r : AreLone n (rows_of c.as_slice.result.now n 0) W = rw c.dim-dim.ensures at c.in_ok-few.ensures in
    let lone : AreLone n (map (clamped lo hi) U) W = subst (λ (L : List (List ℤ)). AreLone n L W) moved.1 r in
    let fh : SFits w32 h = search rules in
    let again : c.as_slice-3.result.now ≡ flat_of (closed h W) =
    c.as_slice-3.ensures.value ∙ c.in_ok-append_closed.ensures ∙ ap₂ (λ (u : List ℤ) (V : List (List ℤ)). u ++ flat_of (closed (to_z w32 (of_z w32 h)) V)) c.in_ok-all.ensures.items (ap targets c.as_slice-2.ensures.value)
    ∙ ap (λ (z : ℤ). flat_of (closed z W)) (same32 h fh) in
    let all = closed_rows_are n h W _ some lone.wide again in
    let X : List (List ℤ) = rows_of c.in_ok-flat.flat.items n 0 in
    let s : IsReduced n (rows_of c.as_slice-3.result.now n 0) X = rw c.dim-dim.ensures at c.in_ok-flat.ensures.rows in
    closed_is n lo hi V W X some c.requires a.vertices lone (subst (λ (L : List (List ℤ)). IsReduced n L X) all.1 s)
