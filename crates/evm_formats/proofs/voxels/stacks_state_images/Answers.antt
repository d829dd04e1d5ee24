use Rattle.evm_formats.proofs.HeaderForms.{images_are_written}
use Rattle.evm_formats.proofs.HeaderLaws.{header_states, samples_state, fewer_are_short}
use Rattle.evm_formats.proofs.StackLaws.{stacks_join, stack_cells}
use Rattle.evm_formats.proofs.CellLaws.{cells_join}
use Rattle.evm_formats.proofs.PgmRefusals.{no_kind}
use Rattle.evm_formats.proofs.VoxelFiles.{image_of_four_is}
use Rattle.evm_formats.proofs.Listed.{cells_listed}
use Rattle.evm_formats.proofs.voxels.stacks_state_images.Goals as goal

pub returns-clause-header : goal.returns-clause-header
returns-clause-header c = header_states

pub returns-clause-samples : goal.returns-clause-samples
returns-clause-samples c = samples_state

pub returns-clause-short : goal.returns-clause-short
returns-clause-short c = fewer_are_short

pub returns-clause-joined : goal.returns-clause-joined
returns-clause-joined c = stacks_join

pub returns-clause-cells : goal.returns-clause-cells
returns-clause-cells c = stack_cells

pub returns-clause-never_kind : goal.returns-clause-never_kind
returns-clause-never_kind c = no_kind

pub returns-clause-worked : goal.returns-clause-worked
returns-clause-worked c = image_of_four_is

pub returns-clause-raised : goal.returns-clause-raised
returns-clause-raised c = cells_join

pub returns-clause-listed : goal.returns-clause-listed
returns-clause-listed c = cells_listed

pub returns-clause-written : goal.returns-clause-written
returns-clause-written c = images_are_written
