use Rattle.std.proofs.Common.{pos, ◌+◌, ◌∷◌, ◌∙◌, arith}
use Rattle.evm_voxels.specs.Parity.{turns}
use Rattle.evm_voxels.specs.Grids.{filled_in}
use Rattle.evm_voxels.proofs.BlockLaws.{lines_none, lines_more, lines_whole, row_none, row_past, row_next}
use Rattle.evm_voxels.proofs.blocks.fill_block.Goals as goal

pub loop-y-init : goal.loop-y-init
loop-y-init c = record {
  words = λ k l. lines_none (λ t. turns (filled_in c.args.of.now) (pos (c.args.first + k) ∷ t)) c.args.of.now.depth k _ c.clear.ensures.items;
  long = c.requires.long;
  last = λ k z l m. c.requires.clear k z l m ∙ row_none c.args.of.now (pos (c.args.first + k)) z;
}

pub loop-y-preserved : goal.loop-y-preserved
loop-y-preserved c = record {
  words = λ k l. lines_more (λ t. turns (filled_in c.args.of.now) (pos (c.args.first + k) ∷ t)) c.args.of.now.depth k c.loop-y.y c.loop-y.words.items _ (c.loop-y.invariant.words k l) (c.in_ok-append_words.ensures.words k l);
  long = c.in_ok-append_words.ensures.long;
  last = λ k z l m. row_next (filled_in c.args.of.now) (pos (c.args.first + k)) c.loop-y.y z _ (c.in_ok-append_words.ensures.last k z l m);
}

pub returns-clause-words : goal.returns-clause-words
returns-clause-words c k l = lines_whole (λ t. turns (filled_in c.args.of.now) (pos (c.args.first + k) ∷ t)) c.args.of.now.depth c.args.of.now.height c.loop-y.y _ (omega arith) (c.loop-y.invariant.words k l)

pub returns-clause-clear : goal.returns-clause-clear
returns-clause-clear c k z l m = c.loop-y.invariant.last k z l m ∙ row_past c.args.of.now (pos (c.args.first + k)) c.loop-y.y z (omega arith)
