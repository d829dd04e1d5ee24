use Rattle.std.proofs.Common.{pos, [], ◌∷◌, arith, refl}
use Rattle.evm_voxels.specs.Parity.{turns}
use Rattle.evm_voxels.specs.Grids.{filled_in}
use Rattle.evm_voxels.proofs.GridLines.{none_before_z, parity_is, edge_next}
use Rattle.evm_voxels.proofs.Layers.{layers_none, row_step, layers_done}
use Rattle.evm_voxels.proofs.narrow.append_line.Goals as goal

pub loop-z-init : goal.loop-z-init
loop-z-init c = record {
  rows = layers_none [] (λ t. turns (filled_in c.args.places.now) (pos c.args.x ∷ pos c.args.y ∷ t)) c.args.head.now c.args.out.now.items;
  last = none_before_z c.args.places.now (pos c.args.x) (pos c.args.y);
}

pub loop-z-preserved : goal.loop-z-preserved
loop-z-preserved c =
    let f = filled_in c.args.places.now in
    record {
      rows = row_step (λ t. turns f (pos c.args.x ∷ pos c.args.y ∷ t)) c.loop-z.z _ c.args.head.now _ c.args.out.now.items c.loop-z.out.items _ c.loop-z.invariant.rows
          (parity_is f (pos c.args.x) (pos c.args.y) c.loop-z.z c.loop-z.before _ c.loop-z.invariant.last c.edge-now.ensures) refl c.in_ok-append_if.ensures;
      last = edge_next f (pos c.args.x) (pos c.args.y) c.loop-z.z _ c.edge-now.ensures;
    }

pub returns : goal.returns
returns c = layers_done c.args.places.now.depth [] (λ t. turns (filled_in c.args.places.now) (pos c.args.x ∷ pos c.args.y ∷ t)) c.loop-z.z c.args.head.now c.args.out.now.items c.loop-z.out.items (omega arith) c.loop-z.invariant.rows
