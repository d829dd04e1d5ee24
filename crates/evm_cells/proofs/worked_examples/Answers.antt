use Rattle.evm_cells.proofs.Examples.{box_of_six, shared_corner, inner_corner, cells_of_six, hole_counts, one_cube, bars_combined, no_inner_vertices, places_of_points, sections_of_stair, couplets_of_stair, cuts_of_stair}
use Rattle.evm_cells.proofs.worked_examples.Goals as goal

pub returns-clause-box_of_six : goal.returns-clause-box_of_six
returns-clause-box_of_six c = box_of_six

pub returns-clause-shared_corner : goal.returns-clause-shared_corner
returns-clause-shared_corner c = shared_corner

pub returns-clause-inner_corner : goal.returns-clause-inner_corner
returns-clause-inner_corner c = inner_corner

pub returns-clause-cells_of_six : goal.returns-clause-cells_of_six
returns-clause-cells_of_six c = cells_of_six

pub returns-clause-hole_counts : goal.returns-clause-hole_counts
returns-clause-hole_counts c = hole_counts

pub returns-clause-one_cube : goal.returns-clause-one_cube
returns-clause-one_cube c = one_cube

pub returns-clause-bars_combined : goal.returns-clause-bars_combined
returns-clause-bars_combined c = bars_combined

pub returns-clause-no_inner_vertices : goal.returns-clause-no_inner_vertices
returns-clause-no_inner_vertices c = no_inner_vertices

pub returns-clause-places_of_points : goal.returns-clause-places_of_points
returns-clause-places_of_points c = places_of_points

pub returns-clause-sections_of_stair : goal.returns-clause-sections_of_stair
returns-clause-sections_of_stair c = sections_of_stair

pub returns-clause-couplets_of_stair : goal.returns-clause-couplets_of_stair
returns-clause-couplets_of_stair c = couplets_of_stair

pub returns-clause-cuts_of_stair : goal.returns-clause-cuts_of_stair
returns-clause-cuts_of_stair c = cuts_of_stair
