use Rattle.evm_cells.proofs.Moves.{by_place, evm-shift, shift_in_range, has-mirror, has-swap}
use Rattle.evm_cells.proofs.Lifts.{has-front, has-evm-slice, has-evm-lift, proj_of_sections, proj_of_front}
use Rattle.evm_cells.proofs.LiftRanges.{lift_in_range}
use Rattle.evm_cells.proofs.shapes_move_vertices.Goals as goal

pub returns-clause-by_place : goal.returns-clause-by_place
returns-clause-by_place c = by_place

pub returns-clause-shift : goal.returns-clause-shift
returns-clause-shift c = evm-shift

pub returns-clause-in_range : goal.returns-clause-in_range
returns-clause-in_range c = shift_in_range

pub returns-clause-mirror : goal.returns-clause-mirror
returns-clause-mirror c = has-mirror

pub returns-clause-swap : goal.returns-clause-swap
returns-clause-swap c = has-swap

pub returns-clause-front : goal.returns-clause-front
returns-clause-front c = has-front

pub returns-clause-slice : goal.returns-clause-slice
returns-clause-slice c = has-evm-slice

pub returns-clause-lift : goal.returns-clause-lift
returns-clause-lift c = has-evm-lift

pub returns-clause-lift_in_range : goal.returns-clause-lift_in_range
returns-clause-lift_in_range c = lift_in_range

pub returns-clause-sections : goal.returns-clause-sections
returns-clause-sections c = proj_of_sections

pub returns-clause-first : goal.returns-clause-first
returns-clause-first c = proj_of_front
