use Rattle.std.proofs.Common.{◌≡◌, ℕ, pos, ◌-ℤ◌, ◌+◌, ◌<◌, ◌++◌, ◌∷◌, [], map, length, slice_index, true, ap, ◌∙◌, arith}
use Rattle.std.specs.Prelude.{bit_xor}
use Rattle.std.proofs.lemmas.List.{get_or_read, length-set}
use Rattle.evm_voxels.specs.Blocks.{line_of}
use Rattle.evm_voxels.specs.Parity.{turns, seam, edge}
use Rattle.evm_voxels.specs.Marks.{bit_on}
use Rattle.evm_voxels.specs.Grids.{filled_in}
use Rattle.evm_voxels.proofs.GridLines.{edge_next}
use Rattle.evm_voxels.proofs.BlockLaws.{line_none, line_more, edge_bit, parity_bit, before_none, kept_below, kept_ahead}
use Rattle.evm_voxels.proofs.blocks.append_words.Goals as goal

pub loop-z-init : goal.loop-z-init
loop-z-init c = record {
  words = λ k l. line_none (λ t. turns (filled_in c.args.of.now) (pos (c.args.first + k) ∷ pos c.args.y ∷ t)) (map (bit_on k) c.args.words.now.items);
  before = λ k l. before_none c.args.of.now (pos (c.args.first + k)) (pos c.args.y) k;
  long = c.requires.long;
  done = λ k z l m. absurd (omega arith);
  ahead = λ k z l m n. c.requires.last k z l n;
}

pub loop-z-preserved : goal.loop-z-preserved
loop-z-preserved c =
    let f = filled_in c.args.of.now in
    let z = c.loop-z.z in
    let inside : z < length c.loop-z.last.items = omega (arith, c.loop-z.invariant.long) in
    let read : c.index.result.now ≡ slice_index c.loop-z.last.items z = get_or_read c.loop-z.last.items z c.index.result.now inside c.index.ensures 0 in
    let edges : (k : ℕ) → k < 32 → bit_on k (bit_xor c.index.result.now c.seams-now.result) ≡ edge f (pos (c.args.first + k)) (pos c.args.y) (pos z ∷ []) =
    λ k l. edge_bit f (pos (c.args.first + k)) c.args.y z k c.index.result.now c.seams-now.result (ap (bit_on k) read ∙ c.loop-z.invariant.ahead k z l (omega arith) (omega arith)) (c.seams-now.ensures k l) in
    record {
      words = λ k l. line_more (λ t. turns f (pos (c.args.first + k) ∷ pos c.args.y ∷ t)) k z _ (map (bit_on k) c.args.words.now.items) c.loop-z.words.items _ (c.loop-z.invariant.words k l) c.in_ok-push.ensures.items
          (parity_bit f (pos (c.args.first + k)) (pos c.args.y) z k c.loop-z.before _ (c.loop-z.invariant.before k l) (edges k l));
      before = λ k l. edge_next f (pos (c.args.first + k)) (pos c.args.y) z _ (edges k l);
      long = length-set c.loop-z.last.items z c.seams-now.result ∙ c.loop-z.invariant.long;
      done = kept_below (λ k j. seam f (pos (c.args.first + k)) (pos c.args.y ∷ pos j ∷ [])) (λ k j. true) c.loop-z.last.items z c.seams-now.result inside c.loop-z.invariant.done (λ k l. c.seams-now.ensures k l);
      ahead = kept_ahead (λ k j. seam f (pos (c.args.first + k)) ((pos c.args.y -ℤ pos 1) ∷ pos j ∷ [])) c.loop-z.last.items z c.seams-now.result (c.args.of.now.depth + 1) c.loop-z.invariant.ahead;
    }

pub returns-clause-words : goal.returns-clause-words
returns-clause-words c k l =
    c.loop-z.invariant.words k l
    ∙ ap (λ (n : ℕ). map (bit_on k) c.args.words.now.items ++ line_of (λ t. turns (filled_in c.args.of.now) (pos (c.args.first + k) ∷ pos c.args.y ∷ t)) n) (let e : c.loop-z.z ≡ c.args.of.now.depth + 1 = omega arith in e)

pub returns-clause-last : goal.returns-clause-last
returns-clause-last c k z l m = c.loop-z.invariant.done k z l (omega arith)
