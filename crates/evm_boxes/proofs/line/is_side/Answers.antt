use Rattle.std.proofs.Common.{◌≡◌, false, pos, sym, arith, rules, w32, w64}
use mir.Val.{SFits}
use Rattle.std.proofs.lemmas.Int.{ints}
use Rattle.evm_cells.specs.Limits.{limit}
use Rattle.evm_rows.proofs.BoxTests.{side_good, side_low, side_high, side_none}
use Rattle.evm_boxes.specs.Reading.{is_side}
use Rattle.evm_boxes.proofs.line.is_side.Goals as goal
use Rattle.evm_boxes.proofs.line.is_side.Goals.{then-low-limit-via-then-low-limit, then-low-limit-via-else-low-limit+then-limit-high, then-low-limit-via-else-low-limit+else-limit-high+then-high-low}

pub returns-then-low-limit-clause-side : goal.returns-then-low-limit-clause-side
returns-then-low-limit-clause-side c =
    let n = c.args.dim in
    let a = c.args.low in
    let b = c.args.high in
    let f : SFits w64 a = search rules in
    let g : SFits w64 b = search rules in
    let h : SFits w32 c.limit.result = search rules in
    let k : SFits w64 c.from-limit.result = search rules in
    let m : c.limit.result ≡ pos (limit n) = c.limit.ensures in
    let bad : is_side n a b ≡ false =
    elim c.then-low-limit.branch [
      | then-low-limit-via-then-low-limit w ↦ side_low n a b (omega (arith, ints))
      | then-low-limit-via-else-low-limit+then-limit-high w ↦ side_high n a b (omega (arith, ints))
      | then-low-limit-via-else-low-limit+else-limit-high+then-high-low w ↦ side_none n a b (omega (arith, ints))
    ] in
    sym bad

pub returns-clause-side : goal.returns-clause-side
returns-clause-side c =
    let n = c.args.dim in
    let f : SFits w64 c.args.low = search rules in
    let g : SFits w64 c.args.high = search rules in
    let h : SFits w32 c.limit.result = search rules in
    let k : SFits w64 c.from-limit.result = search rules in
    let m : c.limit.result ≡ pos (limit n) = c.limit.ensures in
    sym (side_good n c.args.low c.args.high (omega (arith, ints)) (omega (arith, ints)) (omega (arith, ints)))
