use Rattle.std.proofs.Common.{◌*◌, arith, refl}
use Rattle.evm_voxels.specs.Grids.{filled_in, filled_flat}
use Rattle.evm_formats.proofs.Limits.{limit_small}
use Rattle.evm_voxels.proofs.Marking.{pitch_fits}
use Rattle.evm_voxels.proofs.Filled.{rows_fit, stack_rows, image_rows}
use Rattle.evm_voxels.proofs.solid.solid_of.Goals as goal

pub from_rows-requires : goal.from_rows-requires
from_rows-requires c = rows_fit 2 (filled_flat _) _ (omega arith) (omega arith) c.in_ok-image_vertices.ensures

pub from_rows-requires-else-dim-le2 : goal.from_rows-requires-else-dim-le2
from_rows-requires-else-dim-le2 c = rows_fit 3 (filled_in _) _ (omega arith) (omega arith) c.in_ok-stack_vertices.ensures

pub returns-in_ok-image_vertices-clause-rows : goal.returns-in_ok-image_vertices-clause-rows
returns-in_ok-image_vertices-clause-rows c threshold images l m =
    image_rows _ c.args.dim c.args.extent.depth threshold images _ _ (omega arith) m c.requires.some refl c.in_ok-image_vertices.ensures c.from_rows.ensures.rows

pub returns-in_ok-stack_vertices-clause-rows : goal.returns-in_ok-stack_vertices-clause-rows
returns-in_ok-stack_vertices-clause-rows c threshold images l m =
    stack_rows _ c.args.dim threshold images _ _ (omega arith) l m (omega (arith, c.div_ceil.ensures)) c.in_ok-stack_vertices.ensures c.from_rows-else-dim-le2.ensures.rows

pub invariant_of-places-else-dim-le2-clause-small : goal.invariant_of-places-else-dim-le2-clause-small
invariant_of-places-else-dim-le2-clause-small c =
    pitch_fits c.args.extent.depth (c.args.extent.size.height * c.args.extent.size.width) c.div_ceil.result c.requires.room (omega (arith, c.requires.depth, limit_small c.args.dim)) c.div_ceil.ensures
