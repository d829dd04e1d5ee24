-- The worked examples. What speaks of a list of all cells or points is first moved to a small window.
use Rattle.std.proofs.Common.{◌≡◌, not, ◌&&◌, ◌||◌, List, [], ◌∷◌, ℤ, pos, negsuc, refl, sym, ap, ap₂, ◌∙◌, arith}
use Rattle.evm_cells.specs.Places.{has, same, each, before, ascending, is_empty, without}
use Rattle.evm_cells.specs.Limits.{limit, ints, tuples, is_cell, is_point, is_cell_coord, is_point_coord, IsCellSet}
use Rattle.evm_cells.specs.Booleans.{xor, or_cells, and_cells, sub_cells, xor_cells}
use Rattle.evm_cells.specs.Vertices.{evm, cells, around, touches, touch, odd}
use Rattle.evm_cells.specs.Boxes.{corners, IsBox}
use Rattle.evm_cells.specs.Sections.{slice, couplet, rows_at}
use Rattle.evm_cells.specs.Measures.{boundary, open_faces, moved, is_inside, is_outside, is_on_boundary}
use Rattle.evm_cells.specs.Examples.{plane, space, diagonal, angle, ring, stair, BoxOfSix, SharedCorner, InnerCorner, CellsOfSix, HoleCounts, OneCube, SectionsOfStair, CoupletsOfStair, CutsOfStair, BarsCombined, NoInnerVertices, PlacesOfPoints}
use Rattle.evm_cells.proofs.Core.{cells-evm}
use Rattle.evm_cells.proofs.Corners.{corners_are}
use Rattle.evm_cells.proofs.SectionSums.{section_rows}
use Rattle.evm_cells.proofs.Window.{evm_in, combine_in, box_in, cuts_in}

-- ---- the sets are cell sets

set_diagonal : IsCellSet 2 diagonal
unfolding ascending before is_cell is_cell_coord limit
set_diagonal = record { ascends = refl; cells = refl }

set_angle : IsCellSet 2 angle
unfolding ascending before is_cell is_cell_coord limit
set_angle = record { ascends = refl; cells = refl }

set_ring : IsCellSet 2 ring
unfolding ascending before is_cell is_cell_coord limit
set_ring = record { ascends = refl; cells = refl }

set_cube : IsCellSet 3 (space 0 0 0 ∷ [])
unfolding ascending before is_cell is_cell_coord limit
set_cube = record { ascends = refl; cells = refl }

set_stair : IsCellSet 3 stair
unfolding ascending before is_cell is_cell_coord limit
set_stair = record { ascends = refl; cells = refl }

-- ---- vertices

vertices_diagonal : evm 2 diagonal ≡ plane 0 0 ∷ plane 0 1 ∷ plane 1 0 ∷ plane 1 2 ∷ plane 2 1 ∷ plane 2 2 ∷ []
unfolding odd around touches touch each tuples ints
vertices_diagonal = evm_in 2 (pos 0) 2 diagonal set_diagonal refl

vertices_angle : evm 2 angle ≡ plane 0 0 ∷ plane 0 2 ∷ plane 1 1 ∷ plane 1 2 ∷ plane 2 0 ∷ plane 2 1 ∷ []
unfolding odd around touches touch each tuples ints
vertices_angle = evm_in 2 (pos 0) 2 angle set_angle refl

pub shared_corner : SharedCorner
unfolding around touches touch boundary open_faces moved has same each
shared_corner = (refl, vertices_diagonal, refl)

pub inner_corner : InnerCorner
unfolding around touches touch boundary open_faces moved has same each
inner_corner = (refl, vertices_angle, refl)

pub cells_of_six : CellsOfSix
cells_of_six = ap (cells 2) (sym vertices_angle) ∙ cells-evm 2 angle set_angle

pub hole_counts : HoleCounts
unfolding odd around touches touch tuples ints boundary open_faces moved has same each
hole_counts = (refl, evm_in 2 (pos 0) 3 ring set_ring refl, refl, refl)

pub one_cube : OneCube
unfolding odd around touches touch tuples ints boundary open_faces moved has same each
one_cube = (evm_in 3 (pos 0) 1 (space 0 0 0 ∷ []) set_cube refl, refl)

pub places_of_points : PlacesOfPoints
unfolding around touches touch each is_inside is_outside is_on_boundary
places_of_points = (refl, refl, refl, refl)

-- ---- boxes and Booleans

box_six : IsBox 2 (plane 0 0) (plane 2 3)
unfolding is_point is_point_coord limit each
box_six = record { low = refl; high = refl; room = refl }

pub box_of_six : BoxOfSix
unfolding each tuples ints is_cell_coord is_point_coord limit corners
box_of_six = (
  box_in 2 (pos 0) 3 (plane 0 0) (plane 2 3) refl refl refl refl refl,
  sym (corners_are 2 (plane 0 0) (plane 2 3) box_six),
)

first_bar : IsCellSet 2 (plane 0 0 ∷ plane 1 0 ∷ [])
unfolding ascending before is_cell is_cell_coord limit
first_bar = record { ascends = refl; cells = refl }

second_bar : IsCellSet 2 (plane 1 0 ∷ plane 2 0 ∷ [])
unfolding ascending before is_cell is_cell_coord limit
second_bar = record { ascends = refl; cells = refl }

pub bars_combined : BarsCombined
unfolding or_cells and_cells sub_cells xor_cells xor tuples ints has same each
bars_combined = (
  combine_in (λ a b. a || b) 2 (pos 0) 3 (plane 0 0 ∷ plane 1 0 ∷ []) (plane 1 0 ∷ plane 2 0 ∷ []) refl first_bar second_bar refl refl,
  combine_in (λ a b. a && b) 2 (pos 0) 3 (plane 0 0 ∷ plane 1 0 ∷ []) (plane 1 0 ∷ plane 2 0 ∷ []) refl first_bar second_bar refl refl,
  combine_in (λ a b. a && not b) 2 (pos 0) 3 (plane 0 0 ∷ plane 1 0 ∷ []) (plane 1 0 ∷ plane 2 0 ∷ []) refl first_bar second_bar refl refl,
  combine_in xor 2 (pos 0) 3 (plane 0 0 ∷ plane 1 0 ∷ []) (plane 1 0 ∷ plane 2 0 ∷ []) refl first_bar second_bar refl refl,
)

first_square : IsCellSet 2 (plane 0 0 ∷ [])
unfolding ascending before is_cell is_cell_coord limit
first_square = record { ascends = refl; cells = refl }

second_square : IsCellSet 2 (plane 1 0 ∷ [])
unfolding ascending before is_cell is_cell_coord limit
second_square = record { ascends = refl; cells = refl }

joined : or_cells 2 (plane 0 0 ∷ []) (plane 1 0 ∷ []) ≡ plane 0 0 ∷ plane 1 0 ∷ []
unfolding or_cells tuples ints has same each
joined = combine_in (λ x y. x || y) 2 (pos 0) 2 (plane 0 0 ∷ []) (plane 1 0 ∷ []) refl first_square second_square refl refl

vertices_joined : evm 2 (plane 0 0 ∷ plane 1 0 ∷ []) ≡ plane 0 0 ∷ plane 0 1 ∷ plane 2 0 ∷ plane 2 1 ∷ []
unfolding odd around touches touch each tuples ints
vertices_joined = evm_in 2 (pos 0) 2 (plane 0 0 ∷ plane 1 0 ∷ []) first_bar refl

pub no_inner_vertices : NoInnerVertices
no_inner_vertices = ap (evm 2) joined ∙ vertices_joined

-- ---- sections, couplets and cuts

pub sections_of_stair : SectionsOfStair
unfolding rows_at without
sections_of_stair = (
  section_rows 2 0 (pos 0) stair set_stair (omega arith),
  section_rows 2 0 (pos 1) stair set_stair (omega arith),
  section_rows 2 0 (pos 2) stair set_stair (omega arith),
)

set_two : IsCellSet 2 (plane 0 0 ∷ plane 0 1 ∷ [])
unfolding ascending before is_cell is_cell_coord limit
set_two = record { ascends = refl; cells = refl }

set_none : IsCellSet 2 []
unfolding ascending
set_none = record { ascends = refl; cells = refl }

below_stair : slice 2 0 (negsuc 0) stair ≡ []
unfolding rows_at without
below_stair = section_rows 2 0 (negsuc 0) stair set_stair (omega arith)

pub couplets_of_stair : CoupletsOfStair
unfolding couplet xor_cells xor tuples ints has same each
couplets_of_stair = let (a, b, c) = sections_of_stair in (
  ap₂ (xor_cells 2) below_stair a ∙ combine_in xor 2 (pos 0) 2 [] (plane 0 0 ∷ plane 0 1 ∷ []) refl set_none set_two refl refl,
  ap₂ (xor_cells 2) a b ∙ combine_in xor 2 (pos 0) 2 (plane 0 0 ∷ plane 0 1 ∷ []) (plane 0 0 ∷ []) refl set_two first_square refl refl,
  ap₂ (xor_cells 2) b c ∙ combine_in xor 2 (pos 0) 2 (plane 0 0 ∷ []) [] refl first_square set_none refl refl,
)

-- the vertices of the stair
abbrev stair_vertices : List (List ℤ)
stair_vertices =
    space 0 0 0 ∷ space 0 0 2 ∷ space 0 1 0 ∷ space 0 1 2 ∷ space 1 0 1 ∷ space 1 0 2 ∷ space 1 1 1 ∷ space 1 1 2 ∷ space 2 0 0 ∷ space 2 0 1 ∷ space 2 1 0 ∷ space 2 1 1 ∷ []

vertices_stair : evm 3 stair ≡ stair_vertices
unfolding odd around touches touch each tuples ints
vertices_stair = evm_in 3 (pos 0) 2 stair set_stair refl

pub cuts_of_stair : CutsOfStair
unfolding rows_at without is_empty ints is_point_coord limit
cuts_of_stair = (
  cuts_in 2 0 (pos 0) 3 stair stair_vertices set_stair (omega arith) vertices_stair refl refl,
  cuts_in 2 1 (pos 0) 3 stair stair_vertices set_stair (omega arith) vertices_stair refl refl,
)
