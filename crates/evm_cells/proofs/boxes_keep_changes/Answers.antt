use Rattle.evm_cells.proofs.Insides.{clip_of_xor, change_is_local, change_stays_inside}
use Rattle.evm_cells.proofs.Clamping.{vertices_of_clip, clip_by_rows}
use Rattle.evm_cells.proofs.Sides.{two_sides, rows_under, rows_over}
use Rattle.evm_cells.proofs.SlicedInsides.{slice_of_clip, couplet_of_clip}
use Rattle.evm_cells.proofs.boxes_keep_changes.Goals as goal

pub returns-clause-vertices : goal.returns-clause-vertices
returns-clause-vertices c = vertices_of_clip

pub returns-clause-rows : goal.returns-clause-rows
returns-clause-rows c = clip_by_rows

pub returns-clause-linear : goal.returns-clause-linear
returns-clause-linear c = clip_of_xor

pub returns-clause-local : goal.returns-clause-local
returns-clause-local c = change_is_local

pub returns-clause-inside : goal.returns-clause-inside
returns-clause-inside c = change_stays_inside

pub returns-clause-section : goal.returns-clause-section
returns-clause-section c = slice_of_clip

pub returns-clause-couplet : goal.returns-clause-couplet
returns-clause-couplet c = couplet_of_clip

pub returns-clause-sides : goal.returns-clause-sides
returns-clause-sides c = two_sides

pub returns-clause-under : goal.returns-clause-under
returns-clause-under c = rows_under

pub returns-clause-over : goal.returns-clause-over
returns-clause-over c = rows_over
