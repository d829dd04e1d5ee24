use Rattle.std.proofs.Common.{◌≡◌, List, ℤ, Some, true, refl, ap, ap₂, ◌∙◌, arith, rules, w32, int_lt, pos, ◌++◌}
use Rattle.std.specs.Prelude.{unwrap_or}
use mir.Val.{SFits}
use Rattle.evm_cells.specs.Booleans.{xor}
use Rattle.evm_cells.specs.Vertices.{IsVertexList}
use Rattle.evm_cells.proofs.Order.{rising}
use Rattle.evm_rows.specs.Rows.{rows_of}
use Rattle.evm_sections.proofs.Bits.{same32}
use Rattle.evm_sections.proofs.Zero.{differs}
use Rattle.evm_sections.specs.Lines.{firsts, head_of, least, if_any}
use Rattle.evm_sections.proofs.Lines.{rising-firsts, rows_of-ones}
use Rattle.evm_sections.proofs.LineSteps.{numbers-rise, firsts-numbers, two-fall, left-past, line_rows}
use Rattle.evm_sections.proofs.LineChanges.{Turning, turning_start, turning_more, turning_done, one_from, starts_at, starts_whole}
use Rattle.evm_sections.proofs.Counting.{counting_start, counting_more, counted_all, step_small, points-firsts}
use Rattle.evm_sections.proofs.line.changed.Goals as goal

pub loop-next-init : goal.loop-next-init
loop-next-init c =
    let A : List ℤ = c.args.line.now in
    let C : List ℤ = firsts (rows_of c.args.change.flat.now c.args.change.width c.args.change.skip) in
    let fits : SFits w32 c.unwrap_or-low.result = search rules in
    let vc : IsVertexList 1 (rows_of c.args.change.flat.now c.args.change.width c.args.change.skip) = rw c.requires.change at c.args.change.vertices in
    let rc : rising int_lt C ≡ true = rising-firsts (rows_of c.args.change.flat.now c.args.change.width c.args.change.skip) vc in
    let ra : rising int_lt A ≡ true = numbers-rise A c.requires.line in
    let least_of : c.unwrap_or-low.result ≡ unwrap_or (head_of C) (pos 0) =
    c.unwrap_or-low.ensures ∙ ap (λ o. unwrap_or o (pos 0)) (c.head.ensures ∙ ap head_of c.of_rows-c.ensures.left) in
    let high = one_from c.unwrap_or-low.result C rc least_of in
    let under = rw (same32 c.unwrap_or-low.result fits) at c.first_from-from.ensures.below in
    let over = rw (same32 c.unwrap_or-low.result fits) at c.first_from-from.ensures.from in
    record {
      turning = turning_start A C c.unwrap_or-low.result c.first_from-from.result c.extend_from_slice.new.self.items c.of-a.result c.of_rows-c.result c.first_from-from.ensures.within ra under high
          (rw (c.of-a.ensures.left, c.of-a.ensures.on) (starts_at A c.first_from-from.result c.unwrap_or-low.result c.first_from-from.ensures.within ra under over))
          (rw (c.of_rows-c.ensures.left, c.of_rows-c.ensures.on) (starts_whole C c.unwrap_or-low.result rc high))
          c.of-a.ensures.on c.of-a.ensures.left c.of_rows-c.ensures.on
          (c.in_ok-extend_from_slice.ensures.items ∙ ap₂ (λ x y. x ++ y) c.clear.ensures.items c.split_at.ensures.front);
      counting = rw (same32 c.unwrap_or-low.result fits)
          (counting_start A C c.unwrap_or-low.result c.of-a.result c.of_rows-c.result (points-firsts _ vc) high least_of
          (rw (c.of-a.ensures.left, c.of-a.ensures.on) (starts_at A c.first_from-from.result c.unwrap_or-low.result c.first_from-from.ensures.within ra under over))
          (rw (c.of_rows-c.ensures.left, c.of_rows-c.ensures.on) (starts_whole C c.unwrap_or-low.result rc high))
          c.of_rows-c.ensures.on c.of_rows-c.ensures.left);
    }

pub loop-next-smaller : goal.loop-next-smaller
loop-next-smaller c =
    let fits : SFits w32 c.in-Some.next = search rules in
    let fits_at : SFits w32 c.least-at.result = search rules in
    let low : Some c.in-Some.next ≡ head_of c.loop-next.c.left = c.in-Some.ensures in
    let pick : c.least-at.result ≡ least c.in-Some.next (head_of c.loop-next.a.left) = rw (same32 c.in-Some.next fits, c.head-in-Some.ensures) at c.least-at.ensures in
    let f = two-fall c.in-Some.next c.least-at.result c.loop-next.a.left c.loop-next.c.left low pick in
    let pa = left-past c.least-at.result c.loop-next.a c.pass.new.self (rw (same32 c.least-at.result fits_at) at c.pass.ensures) in
    let pc = left-past c.least-at.result c.loop-next.c c.pass-in-Some.new.self (rw (same32 c.least-at.result fits_at) at c.pass-in-Some.ensures) in
    omega (arith, f, pa, pc)

pub loop-next-preserved : goal.loop-next-preserved
loop-next-preserved c =
    let fits : SFits w32 c.in-Some.next = search rules in
    let fits_at : SFits w32 c.least-at.result = search rules in
    let low : Some c.in-Some.next ≡ head_of c.loop-next.c.left = c.in-Some.ensures in
    let pick : c.least-at.result ≡ least c.in-Some.next (head_of c.loop-next.a.left) = rw (same32 c.in-Some.next fits, c.head-in-Some.ensures) at c.least-at.ensures in
    let past_a = rw (same32 c.least-at.result fits_at) at c.pass.ensures in
    let past_c = rw (same32 c.least-at.result fits_at) at c.pass-in-Some.ensures in
    record {
      turning = turning_more c.args.line.now _ c.loop-next.out.items c.append_number.new.out.items c.loop-next.a c.loop-next.c c.pass.new.self c.pass-in-Some.new.self c.in-Some.next c.least-at.result low pick past_a past_c
          ((rw (same32 c.least-at.result fits_at) at c.in_ok-append_number.ensures)
          ∙ ap (λ t. c.loop-next.out.items ++ if_any t c.least-at.result)
          (differs _ _ ∙ ap₂ xor (differs c.on-in_a.result c.on-in_c.result ∙ ap₂ xor c.on-in_a.ensures c.on-in_c.ensures) (differs c.on.result c.on-in-Some.result ∙ ap₂ xor c.on.ensures c.on-in-Some.ensures)))
          c.loop-next.invariant.turning;
      counting = rw (same32 c.least-at.result fits_at)
          (counting_more c.args.line.now _ _ c.in-Some.next c.least-at.result c.loop-next.a c.loop-next.c c.pass.new.self c.pass-in-Some.new.self c.loop-next.across c.loop-next.shared _ _ low pick past_a past_c
          (rw (same32 c.least-at.result fits_at, c.on-in_c.ensures) at c.counted-across.ensures)
          (rw (same32 c.least-at.result fits_at, c.on-in_a.ensures, c.on-in_c.ensures) at c.counted_in_both-shared.ensures)
          c.loop-next.invariant.counting);
    }

pub overflow_add-across : goal.overflow_add-across
overflow_add-across c =
    let fits : SFits w32 c.in-Some.next = search rules in
    let fits_at : SFits w32 c.least-at.result = search rules in
    let low : Some c.in-Some.next ≡ head_of c.loop-next.c.left = c.in-Some.ensures in
    let pick : c.least-at.result ≡ least c.in-Some.next (head_of c.loop-next.a.left) = rw (same32 c.in-Some.next fits, c.head-in-Some.ensures) at c.least-at.ensures in
    let s = step_small c.args.line.now _ _ c.in-Some.next c.least-at.result c.loop-next.a c.loop-next.c c.loop-next.across c.loop-next.shared c.counted-across.result _ low pick
    (rw (same32 c.least-at.result fits_at, c.on-in_c.ensures) at c.counted-across.ensures) refl c.loop-next.invariant.counting in
    let x = s.0 in
    omega (arith, x)

pub overflow_add-shared : goal.overflow_add-shared
overflow_add-shared c =
    let fits : SFits w32 c.in-Some.next = search rules in
    let fits_at : SFits w32 c.least-at.result = search rules in
    let low : Some c.in-Some.next ≡ head_of c.loop-next.c.left = c.in-Some.ensures in
    let pick : c.least-at.result ≡ least c.in-Some.next (head_of c.loop-next.a.left) = rw (same32 c.in-Some.next fits, c.head-in-Some.ensures) at c.least-at.ensures in
    let s = step_small c.args.line.now _ _ c.in-Some.next c.least-at.result c.loop-next.a c.loop-next.c c.loop-next.across c.loop-next.shared _ c.counted_in_both-shared.result low pick refl
    (rw (same32 c.least-at.result fits_at, c.on-in_a.ensures, c.on-in_c.ensures) at c.counted_in_both-shared.ensures) c.loop-next.invariant.counting in
    let x = s.1 in
    omega (arith, x)

pub returns-clause-across : goal.returns-clause-across
returns-clause-across c =
    let V : List (List ℤ) = rows_of c.args.line.now 1 0 in
    let C : List (List ℤ) = rows_of c.args.change.flat.now c.args.change.width c.args.change.skip in
    let vc : IsVertexList 1 C = rw c.requires.change at c.args.change.vertices in
    (counted_all c.args.line.now C _ c.loop-next.a c.loop-next.c c.loop-next.across c.loop-next.shared c.requires.line.vertices vc c.in_default.ensures c.loop-next.invariant.counting).0

pub returns-clause-rows : goal.returns-clause-rows
returns-clause-rows c =
    let vc : IsVertexList 1 (rows_of c.args.change.flat.now c.args.change.width c.args.change.skip) = rw c.requires.change at c.args.change.vertices in
    let s : Turning (firsts (rows_of c.args.line.now 1 0)) (firsts (rows_of c.args.change.flat.now c.args.change.width c.args.change.skip)) c.loop-next.out.items c.loop-next.a c.loop-next.c = rw (firsts-numbers c.args.line.now) c.loop-next.invariant.turning in
    rows_of-ones _ ∙ turning_done (rows_of c.args.line.now 1 0) _ c.loop-next.out.items _ c.loop-next.a c.loop-next.c c.requires.line.vertices vc (c.in_default.ensures) c.in_ok-line.ensures s

pub returns-clause-are_rows : goal.returns-clause-are_rows
returns-clause-are_rows c =
    let V : List (List ℤ) = rows_of c.args.line.now 1 0 in
    let C : List (List ℤ) = rows_of c.args.change.flat.now c.args.change.width c.args.change.skip in
    let vc : IsVertexList 1 C = rw c.requires.change at c.args.change.vertices in
    let s : Turning (firsts V) (firsts C) c.loop-next.out.items c.loop-next.a c.loop-next.c = rw (firsts-numbers c.args.line.now) c.loop-next.invariant.turning in
    line_rows V C _ (turning_done V C c.loop-next.out.items _ c.loop-next.a c.loop-next.c c.requires.line.vertices vc (c.in_default.ensures) c.in_ok-line.ensures s)

pub returns-clause-shared : goal.returns-clause-shared
returns-clause-shared c =
    let C : List (List ℤ) = rows_of c.args.change.flat.now c.args.change.width c.args.change.skip in
    let vc : IsVertexList 1 C = rw c.requires.change at c.args.change.vertices in
    (counted_all c.args.line.now C _ c.loop-next.a c.loop-next.c c.loop-next.across c.loop-next.shared c.requires.line.vertices vc c.in_default.ensures c.loop-next.invariant.counting).1
