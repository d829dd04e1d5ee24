use Rattle.std.proofs.Common.{◌≡◌, pos, ◌+◌, ◌<◌, ◌∷◌, [], ◌∙◌, ap, arith, refl}
use Rattle.evm_voxels.specs.Parity.{turns}
use Rattle.evm_voxels.specs.Grids.{filled_in}
use Rattle.evm_voxels.specs.Blocks.{columns}
use Rattle.evm_voxels.proofs.BlockLaws.{columns_more, planes_are, length-words}
use Rattle.evm_voxels.proofs.blocks.append_block.Goals as goal

pub loop-k-init : goal.loop-k-init
loop-k-init c e = e ∙ ap (columns (c.args.of.now.height ∷ c.args.of.now.depth ∷ []) (turns (filled_in c.args.of.now))) (let q : c.args.first ≡ c.args.first + 0 = omega arith in q)

pub append_plane-requires-clause-whole : goal.append_plane-requires-clause-whole
append_plane-requires-clause-whole c =
    let g = c.args.of.now in
    let l : c.loop-k.k < 32 = omega arith in
    length-words g.height g.depth _ _ c.loop-k.k (λ t. turns (filled_in g) (pos (c.args.first + c.loop-k.k) ∷ t)) c.args.words.now c.args.words.now refl (c.requires.words c.loop-k.k l) refl refl

pub loop-k-preserved : goal.loop-k-preserved
loop-k-preserved c e =
    let g = c.args.of.now in
    let l : c.loop-k.k < 32 = omega arith in
    columns_more (g.height ∷ g.depth ∷ []) (turns (filled_in g)) (c.args.first + c.loop-k.k) (c.args.first + (c.loop-k.k + 1)) (c.args.first + c.loop-k.k) _ c.loop-k.out.items _ refl (omega arith) (c.loop-k.invariant e) c.in_ok-append_plane.ensures
    (planes_are g.height g.depth _ _ c.loop-k.k (λ t. turns (filled_in g) (pos (c.args.first + c.loop-k.k) ∷ t)) c.args.words.now c.args.words.now refl (c.requires.words c.loop-k.k l) refl refl)

pub returns : goal.returns
returns c e = c.loop-k.invariant e ∙ ap (columns (c.args.of.now.height ∷ c.args.of.now.depth ∷ []) (turns (filled_in c.args.of.now))) (let q : c.args.first + c.loop-k.k ≡ c.args.first + c.args.count = omega arith in q)
