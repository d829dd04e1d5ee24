use Rattle.std.proofs.Common.{pos, [], ◌∷◌, ◌∙◌, arith, rules}
use Rattle.evm_voxels.specs.Parity.{turns}
use Rattle.evm_voxels.specs.Grids.{filled_flat}
use Rattle.evm_voxels.proofs.Layers.{layers_none, layers_done, head_is}
use Rattle.evm_voxels.proofs.GridRows.{image_done, flat_step}
use Rattle.evm_voxels.proofs.narrow.narrow_image.Goals as goal

pub loop-x-init : goal.loop-x-init
loop-x-init c = c.new-out.ensures.items ∙ layers_none (c.args.places.now.depth ∷ []) (turns (filled_flat c.args.places.now)) [] []

pub loop-x-preserved : goal.loop-x-preserved
loop-x-preserved c =
    flat_step c.args.places.now c.loop-x.x _ c.loop-x.out.items _ c.requires.height c.loop-x.invariant (head_is (pos c.loop-x.x) (search rules)) c.in_ok-append_line.ensures

pub returns : goal.returns
returns c =
    let g = c.args.places.now in
    image_done g c.loop-x.out.items c.requires.width c.requires.depth
    (layers_done g.width (g.depth ∷ []) (turns (filled_flat g)) c.loop-x.x [] [] c.loop-x.out.items (omega arith) c.loop-x.invariant)
