-- Which places of a grid of marks are filled.
use Rattle.std.specs.Prelude.{List, [], ◌∷◌, Bool, ℤ, get_or}
use Rattle.evm_voxels.specs.declared.grid.Grid.{Grid}
use Rattle.evm_formats.specs.Images.{within, of_three}
use Rattle.evm_voxels.specs.Marks.{marked_at}

-- a place (x, y, z) within the sizes is filled where its mark is set
unfoldable pub filled_in : Grid → List ℤ → Bool
filled_in g = within (g.width ∷ g.height ∷ g.depth ∷ []) (of_three (marked_at g.marks.now g.pitch g.width))

-- the same of a place (x, y) in a grid of one row an image, whose images are the rows of one image
unfoldable pub filled_flat : Grid → List ℤ → Bool
filled_flat g = within (g.width ∷ g.depth ∷ []) (λ c. marked_at g.marks.now g.pitch g.width (get_or c 0 0) 0 (get_or c 1 0))
