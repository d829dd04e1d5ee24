use Rattle.std.proofs.Common.{◌≡◌, ℤ, ◌<◌, length, take, Some, sym, ◌∙◌, ap, subst, arith, rules, to_z, of_z, w64, length-take, ◌∷◌}
use Rattle.std.proofs.lemmas.List.{take_more_set, take_all}
use Rattle.evm_text.specs.Words.{words}
use Rattle.evm_boxes.proofs.NumberRuns.{HasNumbers, one_read, all_read, too_few, too_many, no_number, by_none}
use Rattle.evm_boxes.proofs.line.read_numbers.Goals as goal

pub loop-place-preserved : goal.loop-place-preserved
loop-place-preserved c =
    let v = c.in-Some-read_number.value in
    let same : to_z w64 (of_z w64 v) ≡ v = search rules in
    let lt : c.loop-place.place-index < length c.loop-place.into = omega arith in
    subst (HasNumbers c.args.line.now c.in-Some.after.now) (sym (take_more_set c.loop-place.into c.loop-place.place-index (to_z w64 (of_z w64 v)) lt))
    (one_read c.args.line.now c.loop-place.rest.now c.in-Some.after.now c.in-Some.word.now _ (to_z w64 (of_z w64 v)) c.loop-place.invariant c.in-Some.ensures
    (sym c.in-Some-read_number.ensures.value ∙ ap (λ (n : ℤ). Some n) (sym same)))

pub returns-in_default : goal.returns-in_default
returns-in_default c =
    too_few (length c.args.into.now) c.args.line.now c.loop-place.rest.now (take c.loop-place.place-index c.loop-place.into) c.loop-place.invariant c.in_default.ensures
    (omega (arith, length-take c.loop-place.place-index c.loop-place.into))

pub returns-in_default-read_number : goal.returns-in_default-read_number
returns-in_default-read_number c =
    no_number (length c.args.into.now) c.args.line.now c.loop-place.rest.now c.in-Some.word.now c.in-Some.after.now _ c.loop-place.invariant c.in-Some.ensures
    (sym c.in_default-read_number.ensures.value)

pub returns : goal.returns
returns c =
    let line = c.args.line.now in
    let rest = c.loop-place.rest.now in
    let into = c.loop-place.into in
    let end : c.loop-place.place-index ≡ length into = omega arith in
    let all : take c.loop-place.place-index into ≡ into = take_all c.loop-place.place-index into (omega arith) in
    let read : HasNumbers line rest into = subst (HasNumbers line rest) all c.loop-place.invariant in
    let size : length into ≡ length c.args.into.now = omega arith in
    by_none (λ cut. words rest ≡ cut.0.now ∷ words cut.1.now) c.first_word-2.result c.is_none.result c.is_none.ensures c.first_word-2.ensures
    (λ w. all_read (length c.args.into.now) line rest into read w size)
    (λ cut w. too_many (length c.args.into.now) line rest cut.0.now cut.1.now into read w size)
