use Rattle.evm_formats.proofs.FrameLaws.{frames_join}
use Rattle.evm_formats.proofs.ImageSets.{cell_set-pgm, cell_set-y4m}
use Rattle.evm_formats.proofs.VoxelFiles.{stream_of_two_is}
use Rattle.evm_formats.proofs.voxels.streams_state_frames.Goals as goal

pub returns-clause-joined : goal.returns-clause-joined
returns-clause-joined c = frames_join

pub returns-clause-cell_sets : goal.returns-clause-cell_sets
returns-clause-cell_sets c = λ n threshold bytes d. (cell_set-pgm n threshold bytes d, cell_set-y4m n threshold bytes d)

pub returns-clause-worked : goal.returns-clause-worked
returns-clause-worked c = stream_of_two_is
