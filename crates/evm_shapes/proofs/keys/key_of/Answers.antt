use Rattle.std.proofs.Common.{◌∙◌, arith, rules, pos, get_or, SFits, w32}
use Rattle.evm_sections.proofs.Bits.{same32}
use Rattle.evm_shapes.proofs.Packed.{start, key_fits, room_more, row_more}
use Rattle.evm_shapes.proofs.keys.key_of.Goals as goal

pub loop-k-init : goal.loop-k-init
loop-k-init c = record { room = start.0; row = start.1 }

pub overflow_mul-key : goal.overflow_mul-key
overflow_mul-key c = let h = key_fits c.loop-k.k c.loop-k.key 0 (let l = c.loop-k-test.true in let m = c.requires in omega arith) c.loop-k.invariant.room (omega arith) in omega arith

pub overflow_add-key : goal.overflow_add-key
overflow_add-key c = let h = key_fits c.loop-k.k c.loop-k.key c.word_of.result (let l = c.loop-k-test.true in let m = c.requires in omega arith) c.loop-k.invariant.room c.word_of.ensures.small in omega arith

pub loop-k-preserved : goal.loop-k-preserved
loop-k-preserved c = record {
  room = room_more c.loop-k.k c.loop-k.key c.word_of.result c.loop-k.invariant.room c.word_of.ensures.small;
  row = row_more c.args.row.now c.loop-k.k c.loop-k.key c.word_of.result c.loop-k-test.true c.word_of.ensures.small (let fits : SFits w32 (get_or c.args.row.now c.loop-k.k (pos 0)) = search rules in c.word_of.ensures.number ∙ same32 _ fits) c.loop-k.invariant.row;
}
