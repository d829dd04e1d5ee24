-- Worked examples: small cell sets at which the definitions say what geometry says.
use Rattle.std.specs.Prelude.{◌≡◌, ℕ, true, false, ℤ, pos, List, [], ◌∷◌}
use Rattle.evm_cells.specs.Places.{has}
use Rattle.evm_cells.specs.Booleans.{or_cells, and_cells, sub_cells, xor_cells}
use Rattle.evm_cells.specs.Vertices.{around, evm, cells}
use Rattle.evm_cells.specs.Boxes.{box_cells}
use Rattle.evm_cells.specs.Sections.{slice, couplet, cuts}
use Rattle.evm_cells.specs.Measures.{content, boundary, is_inside, is_outside, is_on_boundary}

-- places of two and of three coordinates
abbrev pub plane : ℕ → ℕ → List ℤ
plane x y = pos x ∷ pos y ∷ []

abbrev pub space : ℕ → ℕ → ℕ → List ℤ
space x y z = pos x ∷ pos y ∷ pos z ∷ []

-- two unit squares that share just a corner
abbrev pub diagonal : List (List ℤ)
diagonal = plane 0 0 ∷ plane 1 1 ∷ []

-- three unit squares in the shape of an L
abbrev pub angle : List (List ℤ)
angle = plane 0 0 ∷ plane 0 1 ∷ plane 1 0 ∷ []

-- eight unit squares round a hole
abbrev pub ring : List (List ℤ)
ring = plane 0 0 ∷ plane 0 1 ∷ plane 0 2 ∷ plane 1 0 ∷ plane 1 2 ∷ plane 2 0 ∷ plane 2 1 ∷ plane 2 2 ∷ []

-- a bar of two unit cubes with a third one beside its end
abbrev pub stair : List (List ℤ)
stair = space 0 0 0 ∷ space 0 0 1 ∷ space 1 0 0 ∷ []

-- the box from (0, 0) to (2, 3) has six cells, and its four corners as extreme vertices
abbrev pub BoxOfSix : Type 0
BoxOfSix = (box_cells 2 (plane 0 0) (plane 2 3) ≡ plane 0 0 ∷ plane 0 1 ∷ plane 0 2 ∷ plane 1 0 ∷ plane 1 1 ∷ plane 1 2 ∷ [])
    × (evm 2 (box_cells 2 (plane 0 0) (plane 2 3)) ≡ plane 0 0 ∷ plane 0 3 ∷ plane 2 0 ∷ plane 2 3 ∷ [])

-- two squares that share a corner: two cells stand round it, so it is no extreme vertex; the six other corners are
abbrev pub SharedCorner : Type 0
SharedCorner = (around diagonal (plane 1 1) ≡ 2)
    × (evm 2 diagonal ≡ plane 0 0 ∷ plane 0 1 ∷ plane 1 0 ∷ plane 1 2 ∷ plane 2 1 ∷ plane 2 2 ∷ [])
    × (boundary 2 diagonal ≡ 8)

-- an L: three cells stand round its inner corner, which is an extreme vertex
abbrev pub InnerCorner : Type 0
InnerCorner = (around angle (plane 1 1) ≡ 3)
    × (evm 2 angle ≡ plane 0 0 ∷ plane 0 2 ∷ plane 1 1 ∷ plane 1 2 ∷ plane 2 0 ∷ plane 2 1 ∷ [])
    × (boundary 2 angle ≡ 8)

-- its six extreme vertices stand for its three cells
abbrev pub CellsOfSix : Type 0
CellsOfSix = cells 2 (plane 0 0 ∷ plane 0 2 ∷ plane 1 1 ∷ plane 1 2 ∷ plane 2 0 ∷ plane 2 1 ∷ []) ≡ angle

-- a ring: its middle is no cell, the corners outside and round the hole are extreme vertices, and both boundaries count
abbrev pub HoleCounts : Type 0
HoleCounts = (has ring (plane 1 1) ≡ false)
    × (evm 2 ring ≡ plane 0 0 ∷ plane 0 3 ∷ plane 1 1 ∷ plane 1 2 ∷ plane 2 1 ∷ plane 2 2 ∷ plane 3 0 ∷ plane 3 3 ∷ [])
    × (content ring ≡ 8) × (boundary 2 ring ≡ 16)

-- one cell of three dimensions has eight extreme vertices and six faces
abbrev pub OneCube : Type 0
OneCube = (evm 3 (space 0 0 0 ∷ []) ≡ space 0 0 0 ∷ space 0 0 1 ∷ space 0 1 0 ∷ space 0 1 1 ∷ space 1 0 0 ∷ space 1 0 1 ∷ space 1 1 0 ∷ space 1 1 1 ∷ [])
    × (boundary 3 (space 0 0 0 ∷ []) ≡ 6)

-- the stair along its first axis: two cells at height 0, one at height 1, none above
abbrev pub SectionsOfStair : Type 0
SectionsOfStair = (slice 2 0 (pos 0) stair ≡ plane 0 0 ∷ plane 0 1 ∷ [])
    × (slice 2 0 (pos 1) stair ≡ plane 0 0 ∷ [])
    × (slice 2 0 (pos 2) stair ≡ [])

-- its couplets are where these sections differ
abbrev pub CoupletsOfStair : Type 0
CoupletsOfStair = (couplet 2 0 (pos 0) stair ≡ plane 0 0 ∷ plane 0 1 ∷ [])
    × (couplet 2 0 (pos 1) stair ≡ plane 0 1 ∷ [])
    × (couplet 2 0 (pos 2) stair ≡ plane 0 0 ∷ [])

-- so it has three cuts along its first axis, and two along its second
abbrev pub CutsOfStair : Type 0
CutsOfStair = (cuts 2 0 stair ≡ pos 0 ∷ pos 1 ∷ pos 2 ∷ []) × (cuts 2 1 stair ≡ pos 0 ∷ pos 1 ∷ [])

-- two overlapping bars of two squares each
abbrev pub BarsCombined : Type 0
BarsCombined = (or_cells 2 (plane 0 0 ∷ plane 1 0 ∷ []) (plane 1 0 ∷ plane 2 0 ∷ []) ≡ plane 0 0 ∷ plane 1 0 ∷ plane 2 0 ∷ [])
    × (and_cells 2 (plane 0 0 ∷ plane 1 0 ∷ []) (plane 1 0 ∷ plane 2 0 ∷ []) ≡ plane 1 0 ∷ [])
    × (sub_cells 2 (plane 0 0 ∷ plane 1 0 ∷ []) (plane 1 0 ∷ plane 2 0 ∷ []) ≡ plane 0 0 ∷ [])
    × (xor_cells 2 (plane 0 0 ∷ plane 1 0 ∷ []) (plane 1 0 ∷ plane 2 0 ∷ []) ≡ plane 0 0 ∷ plane 2 0 ∷ [])

-- the two joined squares have no vertex on the side that they share
abbrev pub NoInnerVertices : Type 0
NoInnerVertices = evm 2 (or_cells 2 (plane 0 0 ∷ []) (plane 1 0 ∷ [])) ≡ plane 0 0 ∷ plane 0 1 ∷ plane 2 0 ∷ plane 2 1 ∷ []

-- (1, 1) is inside where all four squares round it are filled, and on the boundary where three or two are; (4, 4) is outside of the ring
abbrev pub PlacesOfPoints : Type 0
PlacesOfPoints = (is_inside 2 (plane 0 0 ∷ plane 0 1 ∷ plane 1 0 ∷ plane 1 1 ∷ []) (plane 1 1) ≡ true)
    × (is_on_boundary 2 ring (plane 1 1) ≡ true) × (is_on_boundary 2 diagonal (plane 1 1) ≡ true) × (is_outside ring (plane 4 4) ≡ true)
