use Rattle.std.proofs.Common.{◌∙◌, ◌^◌, ℕ, sym, ap, Some, inl, inr, arith}
use Rattle.std.proofs.lemmas.Bool.{cases_lt}
use Rattle.evm_words.proofs.Numbers.{number_is, numeral_of}
use Rattle.evm_words.proofs.words.number_of.Goals as goal

pub returns-in-Ok : goal.returns-in-Ok
returns-in-Ok c =
    let read = c.in-Ok.ensures.value.0 in
    number_is c.args.text.now read.0.0 ∙ ap (λ (n : ℕ). Some n) (sym read.1)

pub returns-in-Err : goal.returns-in-Err
returns-in-Err c = λ n e.
    let is = numeral_of c.args.text.now n e in
    elim (cases_lt n (2 ^ 64)) [
      | inl below ↦ absurd (c.in-Err.ensures.value.0 (is.is, omega (arith, is.value, below)))
      | inr above ↦ above
    ]
