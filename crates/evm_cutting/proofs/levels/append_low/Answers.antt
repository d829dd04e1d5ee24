use Rattle.std.proofs.Common.{refl, inl, inr, arith}
use Rattle.std.proofs.lemmas.Result.{on_ok_weaker}
use Rattle.evm_sections.proofs.Bits.{same32}
use Rattle.evm_cutting.proofs.Leveled.{cut_is}
use Rattle.evm_cutting.proofs.levels.append_low.Goals as goal

pub returns-then-low-high : goal.returns-then-low-high
returns-then-low-high c =
    let low = c.args.low.now in
    let high = c.args.high.now in
    on_ok_weaker c.append_closing.result
    (λ k. cut_is c.args.width c.args.axis c.args.at low high low _ _ _ (let l = c.requires.axis in omega arith) c.requires.low_whole (inl refl) c.in_ok-extend_from_slice.ensures.items k)
    (rw (same32 c.args.at c.ranges.at) at c.append_closing.ensures)

pub returns-else-low-high : goal.returns-else-low-high
returns-else-low-high c =
    let low = c.args.low.now in
    let high = c.args.high.now in
    on_ok_weaker c.append_closing-else-low-high.result
    (λ k. cut_is c.args.width c.args.axis c.args.at low high high _ _ _ (let l = c.requires.axis in omega arith) c.requires.low_whole (inr refl) c.in_ok-extend_from_slice.ensures.items k)
    (rw (same32 c.args.at c.ranges.at) at c.append_closing-else-low-high.ensures)
