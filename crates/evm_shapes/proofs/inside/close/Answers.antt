use Rattle.std.proofs.Common.{◌+◌, ◌^◌, ◌<◌, ◌∙◌, arith}
use Rattle.evm_rows.proofs.BoxTests.{same32}
use Rattle.evm_shapes.proofs.Windowed.{top_fits, close_room, close_rows}
use Rattle.evm_shapes.proofs.inside.close.Goals as goal

pub overflow_add-top : goal.overflow_add-top
overflow_add-top c =
    let h : c.first_word-top.result + c.low_words.result < 2 ^ 128 =
    top_fits c.args.width c.word_of.result c.index-key.result.now _ _ c.requires.some c.requires.narrow c.word_of.ensures.small c.first_word-top.ensures c.low_words.ensures in
    omega arith

pub returns-clause-room : goal.returns-clause-room
returns-clause-room c =
    close_room c.args.width c.word_of.result c.first_word-top.result c.loop-i.i _ _ c.requires.some c.word_of.ensures.small c.first_word-top.ensures c.loop-i.invariant c.requires.room

pub returns-clause-rows : goal.returns-clause-rows
returns-clause-rows c =
    close_rows c.args.width c.word_of.result c.first_word-top.result c.loop-i.i c.args.at c.args.keys.now.items _ c.requires.some c.word_of.ensures.small (c.word_of.ensures.number ∙ same32 c.args.at c.ranges.at) c.first_word-top.ensures
    (let e = c.len-i-end.ensures in let l = c.loop-i-test.false in omega arith) c.loop-i.invariant
