use Rattle.std.proofs.Common.{pos, [], ◌∷◌, arith, rules}
use Rattle.evm_voxels.specs.Parity.{turns}
use Rattle.evm_voxels.specs.Grids.{filled_in}
use Rattle.evm_voxels.proofs.Layers.{layers_none, layers_step, layers_done, heads_are}
use Rattle.evm_voxels.proofs.narrow.append_column.Goals as goal

pub loop-y-init : goal.loop-y-init
loop-y-init c = layers_none (c.args.places.now.depth ∷ []) (λ t. turns (filled_in c.args.places.now) (pos c.args.x ∷ t)) (pos c.args.x ∷ []) c.args.out.now.items

pub loop-y-preserved : goal.loop-y-preserved
loop-y-preserved c =
    layers_step (c.args.places.now.depth ∷ []) (λ t. turns (filled_in c.args.places.now) (pos c.args.x ∷ t)) c.loop-y.y (pos c.args.x ∷ []) _ c.args.out.now.items c.loop-y.out.items _ c.loop-y.invariant
    (heads_are (pos c.args.x) (pos c.loop-y.y) (search rules) (search rules)) c.in_ok-append_line.ensures

pub returns : goal.returns
returns c = layers_done c.args.places.now.height (c.args.places.now.depth ∷ []) (λ t. turns (filled_in c.args.places.now) (pos c.args.x ∷ t)) c.loop-y.y (pos c.args.x ∷ []) c.args.out.now.items c.loop-y.out.items (omega arith) c.loop-y.invariant
