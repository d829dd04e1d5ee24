use Rattle.std.proofs.Common.{◌≡◌, rules, ◌+◌, ◌&&◌, drop, get_or, length, pos, w32, sym, ap, ◌∙◌, arith, false}
use mir.Val.{SFits}
use Rattle.std.specs.List.{list_all}
use Rattle.std.proofs.lemmas.List.{drop_more}
use Rattle.std.proofs.lemmas.Int.{ints}
use Rattle.evm_cells.specs.Limits.{limit, is_point_coord}
use Rattle.evm_cells.proofs.Coords.{point_yes}
use Rattle.evm_rows.proofs.BoxTests.{coord_low, coord_high, point_coords}
use Rattle.evm_rows.proofs.check.is_within.Goals as goal
use Rattle.evm_rows.proofs.check.is_within.Goals.{then-x-limit-via-then-x-limit, then-x-limit-via-else-x-limit+then-limit-x}

pub loop-x-init : goal.loop-x-init
loop-x-init c = point_coords c.args.row.now

pub returns-then-x-limit : goal.returns-then-x-limit
returns-then-x-limit c =
    let row = c.args.row.now in
    let i = c.loop-x.x-index in
    let n = length row in
    let f : SFits w32 (get_or row i (pos 0)) = search rules in
    let m : c.limit-limit.result ≡ pos (limit n) = c.limit-limit.ensures in
    let h : SFits w32 c.limit-limit.result = search rules in
    let bad : is_point_coord n (get_or row i (pos 0)) ≡ false = elim c.then-x-limit.branch [
      | then-x-limit-via-then-x-limit w ↦ coord_low n (get_or row i (pos 0)) (omega (arith, ints))
      | then-x-limit-via-else-x-limit+then-limit-x w ↦ coord_high n (get_or row i (pos 0)) (omega (arith, ints))
    ] in
    sym (c.loop-x.invariant ∙ ap (list_all (is_point_coord n)) (drop_more row i (pos 0) c.loop-x-test.true)
    ∙ ap (λ t. t && list_all (is_point_coord n) (drop (i + 1) row)) bad)

pub loop-x-preserved : goal.loop-x-preserved
loop-x-preserved c =
    let row = c.args.row.now in
    let i = c.loop-x.x-index in
    let n = length row in
    let f : SFits w32 (get_or row i (pos 0)) = search rules in
    let m : c.limit-limit.result ≡ pos (limit n) = c.limit-limit.ensures in
    let h : SFits w32 c.limit-limit.result = search rules in
    c.loop-x.invariant ∙ ap (list_all (is_point_coord n)) (drop_more row i (pos 0) c.loop-x-test.true)
    ∙ ap (λ t. t && list_all (is_point_coord n) (drop (i + 1) row))
    (point_yes n (get_or row i (pos 0)) (omega (arith, ints)) (omega (arith, ints)))
