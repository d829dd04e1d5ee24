use Rattle.std.proofs.Common.{pos, [], ◌∷◌, ◌∙◌, arith, refl}
use Rattle.evm_voxels.specs.Parity.{turns}
use Rattle.evm_voxels.specs.Grids.{filled_in}
use Rattle.evm_voxels.proofs.Layers.{layers_none, layers_step, layers_done}
use Rattle.evm_voxels.proofs.GridRows.{stack_done}
use Rattle.evm_voxels.proofs.narrow.narrow_vertices.Goals as goal

pub loop-x-init : goal.loop-x-init
loop-x-init c = c.new-out.ensures.items ∙ layers_none (c.args.places.now.height ∷ c.args.places.now.depth ∷ []) (turns (filled_in c.args.places.now)) [] []

pub loop-x-preserved : goal.loop-x-preserved
loop-x-preserved c =
    layers_step (c.args.places.now.height ∷ c.args.places.now.depth ∷ []) (turns (filled_in c.args.places.now)) c.loop-x.x [] (pos c.loop-x.x ∷ []) [] c.loop-x.out.items _ c.loop-x.invariant refl c.in_ok-append_column.ensures

pub returns : goal.returns
returns c =
    let g = c.args.places.now in
    stack_done g c.loop-x.out.items c.requires.width c.requires.height c.requires.depth
    (layers_done g.width (g.height ∷ g.depth ∷ []) (turns (filled_in g)) c.loop-x.x [] [] c.loop-x.out.items (omega arith) c.loop-x.invariant)
