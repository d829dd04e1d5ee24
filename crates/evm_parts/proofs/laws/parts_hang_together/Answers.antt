use Rattle.evm_parts.proofs.FloodChains.{floods_are_parts, union_of_parts, parts_stand_apart, part_is_whole, corner_joins_nothing, edge_joins_nothing, angle_is_one_part}
use Rattle.evm_parts.proofs.FloodsOnly.{parts_are_one}
use Rattle.evm_parts.proofs.laws.parts_hang_together.Goals as goal

pub returns-clause-stated : goal.returns-clause-stated
returns-clause-stated c = floods_are_parts

pub returns-clause-one : goal.returns-clause-one
returns-clause-one c = parts_are_one

pub returns-clause-union : goal.returns-clause-union
returns-clause-union c = union_of_parts

pub returns-clause-apart : goal.returns-clause-apart
returns-clause-apart c = parts_stand_apart

pub returns-clause-whole : goal.returns-clause-whole
returns-clause-whole c = part_is_whole

pub returns-clause-corner : goal.returns-clause-corner
returns-clause-corner c = corner_joins_nothing

pub returns-clause-edge : goal.returns-clause-edge
returns-clause-edge c = edge_joins_nothing

pub returns-clause-angle : goal.returns-clause-angle
returns-clause-angle c = angle_is_one_part
