use Rattle.std.proofs.Common.{◌≡◌, ◌<◌, ℤ, List, [], length, take, sym, ap, ◌∙◌, arith, rules, w32, to_z, of_z}
use Rattle.std.proofs.lemmas.List.{take_all}
use Rattle.evm_boxes.specs.Fills.{low_of, high_of, events_of}
use Rattle.evm_boxes.specs.declared.BoxRow.{BoxRow}
use Rattle.std.proofs.Common.{get_or}
use Rattle.evm_boxes.proofs.EventLists.{events_more}
use Rattle.evm_boxes.proofs.heights.first_ends.Goals as goal

no_row : BoxRow
no_row = record { dim = 0; lo = []; hi = [] }

pub loop-row-preserved : goal.loop-row-preserved
unfolding no_row
loop-row-preserved c =
    let i = c.loop-row.row-index in
    let row : BoxRow = get_or c.args.rows.now i no_row in
    let a : to_z w32 (of_z w32 (low_of 0 row)) ≡ low_of 0 row = search rules in
    let b : to_z w32 (of_z w32 (high_of 0 row)) ≡ high_of 0 row = search rules in
    events_more c.args.rows.now i no_row _ _ _ _ _ (omega arith) a b c.in_ok-push.ensures.items c.in_ok-push-2.ensures.items c.loop-row.invariant

pub returns : goal.returns
returns c = c.loop-row.invariant ∙ ap events_of (take_all c.loop-row.row-index c.args.rows.now (omega arith))
