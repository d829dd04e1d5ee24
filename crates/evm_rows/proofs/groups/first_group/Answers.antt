use Rattle.std.proofs.Common.{arith, drop, ap, ◌∙◌, inl, inr}
use native.Mathlib.Nat.{mod_self, add-mod_right}
use Rattle.std.proofs.lemmas.List.{drop-drop}
use Rattle.evm_cells.specs.Places.{same}
use Rattle.evm_rows.proofs.RowsLaws.{rows_of-none}
use Rattle.evm_rows.proofs.Lines.{front_first, front_more, front_done}
use Rattle.evm_rows.proofs.groups.first_group.Goals as goal
use Rattle.evm_rows.proofs.groups.first_group.Goals.{else-loop-later-test, then-loop-later-test+then-not-are_same}

pub loop-later-init : goal.loop-later-init
loop-later-init c = record {
  whole = c.split_row.ensures.whole;
  counted = omega (arith, c.split_row.ensures.shorter);
  steps = mod_self c.args.width;
  some = omega arith;
  left = c.split_row.ensures.rest;
  alike = front_first c.args.front c.args.width c.args.skip c.args.flat.now _ _ c.requires.some (omega arith) c.requires.whole c.split_row.ensures.row c.split_at.ensures.front;
}

pub loop-later-preserved : goal.loop-later-preserved
loop-later-preserved c =
    let inv = c.loop-later.invariant in
    record {
      whole = c.split_row-in-loop-later.ensures.whole;
      counted = omega (arith, c.split_row-in-loop-later.ensures.shorter);
      steps = add-mod_right c.loop-later.taken c.args.width ∙ inv.steps;
      some = omega arith;
      left = c.split_row-in-loop-later.ensures.rest ∙ ap (drop c.args.width) inv.left ∙ drop-drop c.args.width c.loop-later.taken c.args.flat.now;
      alike = front_more c.args.front c.args.width c.args.skip c.loop-later.taken c.args.flat.now c.loop-later.later.now _ _ _ inv.counted (omega arith) inv.steps (omega arith) inv.whole inv.left
          c.split_row-in-loop-later.ensures.row c.split_at-in-loop-later.ensures.front c.if-not-are_same.ensures inv.alike;
    }

pub returns-clause-group : goal.returns-clause-group
returns-clause-group c =
    let inv = c.loop-later.invariant in
    front_done c.args.front c.args.width c.args.skip c.loop-later.taken c.args.flat.now _ c.loop-later.later.now _ _ inv.some inv.counted c.requires.axis inv.steps c.requires.whole c.split_at-2.ensures.front inv.left
    c.requires.ascends c.split_row.ensures.row c.split_at.ensures.front inv.alike
    (elim c.loop-later-test.branch [
      | else-loop-later-test w ↦ inl (rows_of-none c.loop-later.later.now c.args.width c.args.skip (omega arith))
      | then-loop-later-test+then-not-are_same w ↦ inr (_, _, w.split_row-in-loop-later.ensures.first, w.if-not-are_same.ensures ∙ ap (λ z. same z c.split_at.result.0.now) w.split_at-in-loop-later.ensures.front)
    ])
