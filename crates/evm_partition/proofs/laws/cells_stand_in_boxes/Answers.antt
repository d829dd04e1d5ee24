use Rattle.evm_partition.proofs.Once.{cells_stand_once}
use Rattle.evm_partition.proofs.Stated.{list_is_partition}
use Rattle.evm_partition.proofs.Within.{boxes_have_room, union_of_partition}
use Rattle.evm_partition.proofs.Unique.{one_partition}
use Rattle.evm_partition.proofs.laws.cells_stand_in_boxes.Goals as goal

pub returns-clause-stated : goal.returns-clause-stated
returns-clause-stated c = list_is_partition

pub returns-clause-one : goal.returns-clause-one
returns-clause-one c = one_partition

pub returns-clause-once : goal.returns-clause-once
returns-clause-once c = cells_stand_once

pub returns-clause-boxes : goal.returns-clause-boxes
returns-clause-boxes c = boxes_have_room

pub returns-clause-union : goal.returns-clause-union
returns-clause-union c = union_of_partition
