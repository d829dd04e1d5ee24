use Rattle.evm_cells.proofs.Layers.{content_by_sections}
use Rattle.evm_cells.proofs.Counts.{boundary_by_sections}
use Rattle.evm_cells.proofs.Neighbours.{around-neighbours, one_place}
use Rattle.evm_cells.proofs.Bounds.{content_bound, boundary_bound, measures-fit}
use Rattle.evm_cells.proofs.Localities.{measures_are_local}
use Rattle.evm_cells.proofs.measures_by_sections.Goals as goal

pub returns-clause-boundary : goal.returns-clause-boundary
returns-clause-boundary c = boundary_by_sections

pub returns-clause-around : goal.returns-clause-around
returns-clause-around c = around-neighbours

pub returns-clause-content : goal.returns-clause-content
returns-clause-content c = content_by_sections

pub returns-clause-one_place : goal.returns-clause-one_place
returns-clause-one_place c = one_place

pub returns-clause-content_bound : goal.returns-clause-content_bound
returns-clause-content_bound c = content_bound

pub returns-clause-boundary_bound : goal.returns-clause-boundary_bound
returns-clause-boundary_bound c = boundary_bound

pub returns-clause-measures_fit : goal.returns-clause-measures_fit
returns-clause-measures_fit c = measures-fit

pub returns-clause-local : goal.returns-clause-local
returns-clause-local c = measures_are_local
