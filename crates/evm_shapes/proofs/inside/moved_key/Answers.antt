use Rattle.std.proofs.Common.{◌<◌, ◌∙◌, ◌++◌, ap, arith, rules, length, SFits, w32}
use Rattle.evm_sections.proofs.Bits.{same32}
use Rattle.evm_cells.specs.Windows.{clamped}
use Rattle.evm_shapes.proofs.Clipped.{clamped_all}
use Rattle.evm_shapes.proofs.Packed.{start, key_fits, room_more}
use Rattle.evm_shapes.proofs.Windowed.{clamped_key, key_row}
use Rattle.evm_shapes.proofs.inside.moved_key.Goals as goal

pub loop-k-init : goal.loop-k-init
loop-k-init c = record { room = start.0; row = ap (λ z. z ++ clamped c.args.lo.now c.args.hi.now c.args.row.now) start.1 }

pub overflow_mul-key : goal.overflow_mul-key
overflow_mul-key c = let h = key_fits c.loop-k.k c.loop-k.key 0 (let l = c.loop-k-test.true in let m = c.requires.narrow in omega arith) c.loop-k.invariant.room (omega arith) in omega arith

pub overflow_add-key : goal.overflow_add-key
overflow_add-key c =
    let h = key_fits c.loop-k.k c.loop-k.key c.word_of.result (let l = c.loop-k-test.true in let m = c.requires.narrow in omega arith) c.loop-k.invariant.room c.word_of.ensures.small in
    omega arith

pub loop-k-preserved : goal.loop-k-preserved
loop-k-preserved c =
    let within : c.loop-k.k < length c.args.row.now = c.loop-k-test.true in
    let below : c.loop-k.k < length c.args.lo.now = let e = c.requires.low in omega arith in
    let above : c.loop-k.k < length c.args.hi.now = let e = c.requires.high in omega arith in
    let kept : SFits w32 c.moved_at.result = search rules in
    record {
      room = room_more c.loop-k.k c.loop-k.key c.word_of.result c.loop-k.invariant.room c.word_of.ensures.small;
      row =
          clamped_key c.args.lo.now c.args.hi.now c.args.row.now c.loop-k.k c.loop-k.key c.word_of.result c.moved_at.result _ below above within c.word_of.ensures.small
          (c.word_of.ensures.number ∙ same32 c.moved_at.result kept) c.moved_at.ensures c.loop-k.invariant.row;
    }

pub returns-clause-row : goal.returns-clause-row
returns-clause-row c =
    key_row c.loop-k.k (length c.args.row.now) c.loop-k.key _ (let l = c.loop-k-test.false in let m = c.loop-k.auto.k-end in omega arith)
    (clamped_all c.args.lo.now c.args.hi.now c.args.row.now c.loop-k.k _ _ (let l = c.loop-k-test.false in let e = c.requires.low in omega arith) c.loop-k.invariant.row)
