use Rattle.std.proofs.lemmas.List.Filters.{dedup_is}
use Rattle.evm_boxes.proofs.EventLists.{are_events}
use Rattle.evm_boxes.proofs.heights.heights_of.Goals as goal

pub returns : goal.returns
returns c = are_events c.args.rows.now _ _ _ c.in_ok-heights.ensures c.sort_unstable.ensures.permutation c.sort_unstable.ensures.sorted (dedup_is _ _ _ c.dedup.ensures.filtered)
