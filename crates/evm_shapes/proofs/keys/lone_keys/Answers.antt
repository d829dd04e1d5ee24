use Rattle.std.proofs.Common.{arith, [], ◌<◌, ◌-◌}
use Rattle.std.proofs.lemmas.List.Elements.{All-same, All-nil}
use Rattle.evm_rows.proofs.RowsLaws.{rows_of-none}
use Rattle.evm_shapes.specs.Keys.{room}
use Rattle.evm_shapes.proofs.Lone.{gathered_end}
use Rattle.evm_shapes.proofs.Packed.{keys_start, row_is, room_is}
use Rattle.evm_shapes.proofs.Windowed.{put_room, put_gathered}
use Rattle.evm_shapes.proofs.keys.lone_keys.Goals as goal

pub loop-left-init : goal.loop-left-init
loop-left-init c = record {
  whole = c.requires.whole;
  room = All-same (λ k. k < room (c.args.width - c.args.skip)) _ [] c.in_ok-keys.ensures.items (All-nil (λ k. k < room (c.args.width - c.args.skip)));
  so_far = keys_start (c.args.width - c.args.skip) _ _ c.in_ok-keys.ensures.items;
}

pub loop-left-preserved : goal.loop-left-preserved
loop-left-preserved c = record {
  whole = c.split_row.ensures.whole;
  room = put_room (c.args.width - c.args.skip) _ _ _ c.in_ok-put.ensures c.loop-left.invariant.room (room_is (c.args.width - c.args.skip) _ _ (let w = c.split_row.ensures.wide in omega arith) c.key_of.ensures.room);
  so_far =
      put_gathered (c.args.width - c.args.skip) _ _ _ c.split_row.result.0.now _ _ _ c.in_ok-put.ensures
      (row_is (c.args.width - c.args.skip) c.key_of.result _ (let w = c.split_row.ensures.wide in omega arith) c.key_of.ensures.row) c.split_row.ensures.first c.loop-left.invariant.so_far;
}

pub returns-clause-lone : goal.returns-clause-lone
returns-clause-lone c = gathered_end (c.args.width - c.args.skip) _ _ _ (rows_of-none c.loop-left.left.now c.args.width c.args.skip (omega arith)) c.loop-left.invariant.so_far
