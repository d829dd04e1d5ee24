use Rattle.std.proofs.Common.{◌≡◌, ◌∙◌, ◌++◌, ◌+◌, ℕ, ℤ, List, length, drop, ap, ap₂, subst, arith, to_z, of_z, w32}
use Rattle.std.proofs.lemmas.Result.{on_ok_weaker}
use Rattle.evm_rows.specs.Rows.{rows_of, flat_of, merge_xor}
use Rattle.evm_sections.proofs.Bits.{same32}
use Rattle.evm_cutting.specs.Levels.{IsCutInTwo}
use Rattle.evm_cutting.proofs.Leveled.{closing_numbers}
use Rattle.evm_cutting.proofs.levels.append_both.Goals as goal

pub split_at-requires : goal.split_at-requires
split_at-requires c =
    let k = closing_numbers c.args.width c.args.axis (to_z w32 (of_z w32 c.args.at)) c.args.low.now c.args.high.now c.args.below.now.items c.append_low.new.out.items c.requires.axis c.requires.low_whole c.requires.high_whole c.in_ok-append_low.ensures in
    omega (arith, k.0, c.len.ensures, ap length c.as_slice.ensures.value)

pub extend_by_xor-requires-clause-a_whole : goal.extend_by_xor-requires-clause-a_whole
extend_by_xor-requires-clause-a_whole c =
    let k = closing_numbers c.args.width c.args.axis (to_z w32 (of_z w32 c.args.at)) c.args.low.now c.args.high.now c.args.below.now.items c.append_low.new.out.items c.requires.axis c.requires.low_whole c.requires.high_whole c.in_ok-append_low.ensures in
    let kept : c.len.result ≡ length c.args.below.now.items = omega (arith, c.len.ensures) in
    let more : c.args.width + 0 ≡ c.args.width = omega arith in
    rw more (k.1 c.split_at.result.1.now (c.split_at.ensures.back ∙ ap₂ (λ (n : ℕ) (z : List ℤ). drop (n + length c.args.low.now) z) kept c.as_slice.ensures.value)).0

pub returns : goal.returns
returns c =
    let w = c.args.width in
    let high = c.args.high.now in
    let old = c.args.below.now.items in
    let new = c.append_low.new.out.items in
    let before = c.args.above.now.items in
    let k = closing_numbers w c.args.axis (to_z w32 (of_z w32 c.args.at)) c.args.low.now high old new c.requires.axis c.requires.low_whole c.requires.high_whole c.in_ok-append_low.ensures in
    let kept : c.len.result ≡ length old = omega (arith, c.len.ensures) in
    let closing = k.1 c.split_at.result.1.now (c.split_at.ensures.back ∙ ap₂ (λ (n : ℕ) (z : List ℤ). drop (n + length c.args.low.now) z) kept c.as_slice.ensures.value) in
    let more : w + 0 ≡ w = omega arith in
    on_ok_weaker c.extend_by_xor.result
    (λ e. subst (λ (u : ℤ). IsCutInTwo w c.args.axis u (rows_of c.args.low.now w 0) (rows_of high w 0) old new before c.extend_by_xor.new.out.items) (same32 c.args.at c.ranges.at)
    (record { cut = c.in_ok-append_low.ensures; rest = e ∙ ap (λ (Z : List (List ℤ)). before ++ flat_of (merge_xor Z (rows_of high w 0))) closing.1 }))
    (rw more at c.extend_by_xor.ensures)
