-- What a clause sees of a tree of tiles.
use Rattle.std.specs.Prelude.{◌≡◌, ℕ, ◌-◌, ◌<◌, ◌≤◌, Bool, true, ℤ, pos, int_le, List, get_or}
use Rattle.std.specs.List.{list_all}
use Rattle.evm_cells.specs.Booleans.{xor_cells}
use Rattle.evm_cells.specs.Sections.{slice}
use Rattle.evm_cells.specs.Shapes.{clip}
use Rattle.evm_cells.specs.Vertices.{evm}
use Rattle.evm_rows.specs.Rows.{Vertices, cells_of, xor_rows}
use Rattle.evm_tiles.specs.declared.node.Node.{Node}
use Rattle.evm_tiles.specs.Trees.{node_cells, is_well}

-- the extreme vertices of the cells of a tree
abbrev pub tiles_shown : ℕ → Node → Vertices
tiles_shown n x = record { dim = n; rows = evm n (node_cells n x) }

-- a sound tree of dimension 1 to 6
pub record IsShown (n : ℕ) (x : Node) : Type 0 where
  pub low : 0 < n
  pub high : n ≤ 6
  pub well : is_well n x ≡ true

-- the cells of a solid in a box
abbrev pub window_cells : Vertices → List ℤ → List ℤ → List (List ℤ)
window_cells v lo hi = clip v.dim lo hi (cells_of v)

-- the section of a solid at a height of the first axis
abbrev pub section_cells : Vertices → ℤ → List (List ℤ)
section_cells v at = slice (v.dim - 1) 0 at (cells_of v)

-- the cells, and the rows, of just one of two solids of the dimension of the first
abbrev pub just_one : Vertices → Vertices → List (List ℤ)
just_one v d = xor_cells v.dim (cells_of v) (cells_of d)

abbrev pub just_one_rows : Vertices → Vertices → List (List ℤ)
just_one_rows v d = xor_rows v.dim v.rows d.rows

-- no row is above a height of an axis, and none below
abbrev pub no_row_above : ℕ → ℤ → Vertices → Bool
no_row_above axis at v = list_all (λ q. int_le (get_or q axis (pos 0)) at) v.rows

abbrev pub no_row_below : ℕ → ℤ → Vertices → Bool
no_row_below axis at v = list_all (λ q. int_le at (get_or q axis (pos 0))) v.rows
