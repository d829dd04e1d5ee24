use Rattle.std.proofs.Common.{◌≡◌, ◌-◌, ◌%◌, List, ℤ, ap, ◌∙◌, arith, length}
use Rattle.std.proofs.lemmas.Result.{IfOk-weaker}
use Rattle.evm_rows.specs.Rows.{rows_of}
use Rattle.evm_rows.specs.Groups.{IsOddPart}
use Rattle.evm_rows.proofs.RowsPlaces.{length-rows_of}
use Rattle.evm_rows.proofs.OddParts.{two_rows, rests_whole, rests_part, merged_whole, merged_part}
use Rattle.evm_rows.proofs.check.+odd_places.Goals as goal

pub returns-in_default-clause-whole : goal.returns-in_default-clause-whole
returns-in_default-clause-whole t c = IfOk-weaker _ _ _ (λ v. rests_whole c.args.flat.now v.items c.args.width c.args.skip c.requires.left c.requires.whole) c.rests.ensures

pub returns-in_default-clause-odd : goal.returns-in_default-clause-odd
returns-in_default-clause-odd t c = IfOk-weaker _ _ _ (λ v. rests_part c.args.flat.now v.items c.args.width c.args.skip c.requires.left c.requires.whole c.in_default.ensures) c.rests.ensures

pub halves-requires-clause-several : goal.halves-requires-clause-several
halves-requires-clause-several t c =
    let f = c.in-Some.ensures.some in
    let g = c.in-Some.ensures.within in
    two_rows (length (rows_of c.args.flat.now c.args.width c.args.skip)) c.args.width (length c.args.flat.now) (omega arith) (omega arith)
    (length-rows_of c.args.flat.now c.args.width c.args.skip (omega arith) c.requires.whole)

pub returns-clause-whole : goal.returns-clause-whole
returns-clause-whole t c =
    let n = c.args.width - c.args.skip in
    let first : length c.as_slice.result.now % n ≡ 0 = ap (λ (zs : List ℤ). length zs % n) c.as_slice.ensures.value ∙ c.in_ok-a.ensures.whole in
    let second : length c.as_slice-2.result.now % n ≡ 0 = ap (λ (zs : List ℤ). length zs % n) c.as_slice-2.ensures.value ∙ c.in_ok-b.ensures.whole in
    IfOk-weaker _ _ _ (λ v. merged_whole c.as_slice.result.now c.as_slice-2.result.now v.items n (omega arith) first second) c.merged.ensures

pub returns-clause-odd : goal.returns-clause-odd
returns-clause-odd t c =
    let w = c.args.width in
    let s = c.args.skip in
    let n = w - s in
    let a = c.as_slice.result.now in
    let b = c.as_slice-2.result.now in
    let first : length a % n ≡ 0 = ap (λ (zs : List ℤ). length zs % n) c.as_slice.ensures.value ∙ c.in_ok-a.ensures.whole in
    let second : length b % n ≡ 0 = ap (λ (zs : List ℤ). length zs % n) c.as_slice-2.ensures.value ∙ c.in_ok-b.ensures.whole in
    let left : IsOddPart (rows_of c.halves.result.0.now w s) (rows_of a n 0) = rw c.as_slice.ensures.value c.in_ok-a.ensures.odd in
    let right : IsOddPart (rows_of c.halves.result.1.now w s) (rows_of b n 0) = rw c.as_slice-2.ensures.value c.in_ok-b.ensures.odd in
    IfOk-weaker _ _ _ (λ v. merged_part c.args.flat.now c.halves.result.0.now c.halves.result.1.now a b v.items w s n (omega arith) (omega arith)
    c.halves.ensures.both c.halves.ensures.first_whole first second left right) c.merged.ensures
