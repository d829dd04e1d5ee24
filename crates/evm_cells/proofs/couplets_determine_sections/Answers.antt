use Rattle.evm_cells.proofs.Slices.{slice_of_cells, next_slice}
use Rattle.evm_cells.proofs.Layers.{empty_couplet, rows-evm, cuts_are, still, slice-combine, vertices_by_couplets, cells_by_sections}
use Rattle.evm_cells.proofs.SectionSums.{section_rows, section_by_couplets}
use Rattle.evm_cells.proofs.couplets_determine_sections.Goals as goal

pub returns-clause-section_of_vertices : goal.returns-clause-section_of_vertices
returns-clause-section_of_vertices c = slice_of_cells

pub returns-clause-vertices_of_couplet : goal.returns-clause-vertices_of_couplet
returns-clause-vertices_of_couplet c = rows-evm

pub returns-clause-next_section : goal.returns-clause-next_section
returns-clause-next_section c = next_slice

pub returns-clause-cuts_of_vertices : goal.returns-clause-cuts_of_vertices
returns-clause-cuts_of_vertices c = cuts_are

pub returns-clause-section_stays : goal.returns-clause-section_stays
returns-clause-section_stays c = still

pub returns-clause-section_of_combination : goal.returns-clause-section_of_combination
returns-clause-section_of_combination c = slice-combine

pub returns-clause-vertices_by_couplets : goal.returns-clause-vertices_by_couplets
returns-clause-vertices_by_couplets c = vertices_by_couplets

pub returns-clause-cells_by_sections : goal.returns-clause-cells_by_sections
returns-clause-cells_by_sections c = cells_by_sections

pub returns-clause-empty_couplet : goal.returns-clause-empty_couplet
returns-clause-empty_couplet c = empty_couplet

pub returns-clause-cells_at_height : goal.returns-clause-cells_at_height
returns-clause-cells_at_height c = section_rows

pub returns-clause-section_by_couplets : goal.returns-clause-section_by_couplets
returns-clause-section_by_couplets c = section_by_couplets
