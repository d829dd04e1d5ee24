use Rattle.std.proofs.Common.{◌≡◌, ℕ, ◌+◌, ◌-◌, ◌*◌, ◌<◌, length, get_or, take, sym, ◌∙◌, ap, arith}
use Rattle.evm_text.specs.Numbers.{digits_value}
use Rattle.evm_text.proofs.Digits.{value_step, small_more, digit_in, digit_bounds}
use Rattle.evm_text.proofs.numbers.digits_sum.Goals as goal

pub loop-b-preserved : goal.loop-b-preserved
loop-b-preserved c =
    let i = c.loop-b.b-index in
    let ds = c.args.word.now in
    let f : c.from.result ≡ get_or ds i 0 - 48 = c.from.ensures in
    let lt : i < length ds = omega arith in
    let bounds = digit_bounds (get_or ds i 0) (digit_in ds i c.requires.each lt) in
    record {
      value = ap (λ (v : ℕ). v * 10 + c.from.result) c.loop-b.invariant.value ∙ ap (λ (d : ℕ). digits_value (take i ds) * 10 + d) f ∙ sym (value_step ds i lt);
      small = small_more i c.loop-b.value c.from.result c.loop-b.invariant.small (omega arith);
    }
