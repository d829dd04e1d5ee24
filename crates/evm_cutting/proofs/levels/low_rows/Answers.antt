use Rattle.std.proofs.Common.{rules, arith, ◌≡◌, ◌∙◌, ℤ, false, get_or, pos, int_le, drop, refl, ap, subst, inl, inr, w32, to_z, of_z, SFits}
use native.Mathlib.Nat.{add-mod_right, zero-mod}
use Rattle.std.proofs.lemmas.List.{drop-drop}
use Rattle.evm_cells.proofs.Clamping.{not_most}
use Rattle.evm_cells.proofs.Coords.{lt_yes}
use Rattle.evm_rows.specs.Rows.{rows_of}
use Rattle.evm_rows.proofs.RowsLaws.{rows_of-none}
use Rattle.evm_sections.proofs.Bits.{same32}
use Rattle.evm_cutting.specs.Levels.{IsParted}
use Rattle.evm_cutting.proofs.Leveled.{low_start, low_more, low_done, low_whole}
use Rattle.evm_cutting.proofs.levels.low_rows.Goals as goal
use Rattle.evm_cutting.proofs.levels.low_rows.Goals.{else-loop-later-test, then-loop-later-test+then-at-row}

pub loop-later-init : goal.loop-later-init
loop-later-init c = record {
  whole = c.requires.whole;
  counted = omega arith;
  steps = zero-mod c.args.width;
  left = refl;
  low = low_start c.args.axis c.args.width (to_z w32 (of_z w32 c.args.at)) c.args.flat.now;
}

pub loop-later-preserved : goal.loop-later-preserved
loop-later-preserved c =
    let inv = c.loop-later.invariant in
    let z : ℤ = to_z w32 (of_z w32 c.args.at) in
    let row = c.split_row.result.0.now in
    let x : ℤ = get_or row c.args.axis (pos 0) in
    let fx : SFits w32 x = search rules in
    let h : int_le z x ≡ false = rw (same32 x fx) at c.if-at-row.false in
    record {
      whole = c.split_row.ensures.whole;
      counted = omega (arith, c.split_row.ensures.shorter);
      steps = add-mod_right c.loop-later.taken c.args.width ∙ inv.steps;
      left = c.split_row.ensures.rest ∙ ap (drop c.args.width) inv.left ∙ drop-drop c.args.width c.loop-later.taken c.args.flat.now;
      low = low_more c.args.axis c.args.width c.loop-later.taken z c.args.flat.now c.loop-later.later.now row inv.counted (omega arith) inv.steps (omega arith) inv.whole inv.left c.split_row.ensures.row (lt_yes x z (not_most z x h)) inv.low;
    }

pub returns-clause-parts : goal.returns-clause-parts
returns-clause-parts c =
    let inv = c.loop-later.invariant in
    let z : ℤ = to_z w32 (of_z w32 c.args.at) in
    let n = c.loop-later.taken in
    let later = c.loop-later.later.now in
    let made : IsParted c.args.axis z (rows_of c.args.flat.now c.args.width 0) (rows_of c.split_at.result.0.now c.args.width 0) (rows_of later c.args.width 0) =
    low_done c.args.axis c.args.width n z c.args.flat.now c.split_at.result.0.now later inv.counted (omega arith) inv.steps c.split_at.ensures.front inv.left inv.low
    (elim c.loop-later-test.branch [
      | else-loop-later-test w ↦ inl (rows_of-none later c.args.width 0 (omega arith))
      | then-loop-later-test+then-at-row w ↦
          let row = w.split_row.result.0.now in
          let x : ℤ = get_or row c.args.axis (pos 0) in
          let fx : SFits w32 x = search rules in
          inr (row, rows_of w.split_row.result.1.now c.args.width 0, w.split_row.ensures.first, rw (same32 x fx) at w.if-at-row.true)
    ]) in
    subst (λ (u : ℤ). IsParted c.args.axis u (rows_of c.args.flat.now c.args.width 0) (rows_of c.split_at.result.0.now c.args.width 0) (rows_of later c.args.width 0)) (same32 c.args.at c.ranges.at) made

pub returns-clause-low_whole : goal.returns-clause-low_whole
returns-clause-low_whole c =
    let inv = c.loop-later.invariant in
    low_whole c.args.width c.loop-later.taken c.args.flat.now c.split_at.result.0.now (omega arith) inv.steps c.split_at.ensures.front
