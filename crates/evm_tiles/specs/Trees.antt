-- What a tree of tiles stands for.
use Rattle.evm_cells.specs.Windows.{is_under, is_over}
use Rattle.std.specs.Prelude.{◌≡◌, ℕ, suc, ◌+◌, Bool, ◌&&◌, ◌==◌, nat_lt, ℤ, pos, neg_ℤ, int_lt, List, length}
use Rattle.std.specs.List.{list_all}
use Rattle.evm_cells.specs.Booleans.{xor_cells}
use Rattle.evm_cells.specs.Limits.{limit}
use Rattle.evm_cells.specs.Shapes.{clip}
use Rattle.evm_cells.specs.Vertices.{cells}
use Rattle.evm_rows.specs.Rows.{Vertices, cells_of}
use Rattle.evm_tiles.specs.declared.node.Node.{Node}
use Rattle.evm_tiles.specs.declared.node.Node.TheVariants.{Leaf, Cut'}

-- the cells of a tree of dimension n: those of all its leaves, by exclusive or
unfoldable pub node_cells : ℕ → Node → List (List ℤ)
node_cells n (Leaf s most) = cells n s.rows
node_cells n (Cut' axis at p low q high) = xor_cells n (node_cells n low) (node_cells n high)

-- a tree, and a solid, with the cells of just one of two trees
abbrev pub IsBoth : ℕ → Node → Node → Node → Type 0
IsBoth n x low high = node_cells n x ≡ xor_cells n (node_cells n low) (node_cells n high)

abbrev pub IsOne : ℕ → Vertices → Node → Node → Type 0
IsOne n v low high = cells_of v ≡ xor_cells n (node_cells n low) (node_cells n high)

-- the tree y is x after a change
abbrev pub IsChanged : Node → Vertices → Node → Type 0
IsChanged x d y = node_cells d.dim y ≡ xor_cells d.dim (node_cells d.dim x) (cells_of d)

-- all cells of the two sides of a cut are on theirs
abbrev pub are_apart : ℕ → ℕ → ℤ → Node → Node → Bool
are_apart n axis at low high = list_all (is_under axis at) (node_cells n low) && list_all (is_over axis at) (node_cells n high)

-- the cells of a tree in a box, by the dimension that its ends have
abbrev pub node_window : Node → List ℤ → List ℤ → List (List ℤ)
node_window x lo hi = clip (length lo) lo hi (node_cells (length lo) x)

-- a tree of dimension n: its leaves have this dimension, and at each cut the one side has cells below the height alone, the other
-- cells above it alone
unfoldable pub is_well : ℕ → Node → Bool
is_well n (Leaf s most) = s.dim == n
is_well n (Cut' axis at p low q high) =
    (nat_lt axis n && (int_lt (neg_ℤ (pos (limit n))) at && int_lt at (pos (limit n))))
    && (are_apart n axis at low high && (is_well n low && is_well n high))

-- the number of nodes
unfoldable pub node_count : Node → ℕ
node_count (Leaf s most) = 1
node_count (Cut' axis at p low q high) = suc (node_count low + node_count high)
