-- What a clause sees of a tree of tiles, and the cells of the tree.
use Rattle.std.proofs.Common.{◌≡◌, ℕ, Bool, true, List, [], ◌∷◌, length, ℤ, refl, sym, ap, ◌∙◌, arith}
use Rattle.std.specs.List.{list_all}
use Rattle.evm_cells.specs.Booleans.{xor_cells}
use Rattle.evm_cells.specs.Shapes.{clip}
use Rattle.evm_cells.specs.Vertices.{evm, cells}
use Rattle.evm_cells.proofs.Core.{cells-evm}
use Rattle.evm_cells.proofs.Layers.{cells-empty}
use Rattle.evm_cells.proofs.Universe.{cell_set-cells}
use Rattle.evm_rows.specs.Rows.{Vertices, cells_of, xor_rows, combined_rows}
use Rattle.evm_tiles.specs.declared.node.Node.{Node}
use Rattle.evm_tiles.specs.Trees.{node_cells}
use Rattle.evm_tiles.specs.Shown.{tiles_shown}
use Rattle.evm_tiles.proofs.Trees.{cell_set-node}
use Rattle.evm_tiles.proofs.Parts.{xor_right_none, xor_other}

-- the cells that a tree shows are its cells
pub shown_cells : (n : ℕ) (x : Node) → cells_of (tiles_shown n x) ≡ node_cells n x
shown_cells n x = cells-evm n (node_cells n x) (cell_set-node n x)

-- the tree shows v, so its cells are those of v
pub cells_shown : (n : ℕ) (x : Node) (v : Vertices) → tiles_shown n x ≡ v → node_cells n x ≡ cells_of v
cells_shown n x v e = sym (shown_cells n x) ∙ ap cells_of e

pub xor_rows_are : (n : ℕ) (V W : List (List ℤ)) → xor_rows n V W ≡ evm n (xor_cells n (cells n V) (cells n W))
unfolding xor_rows combined_rows xor_cells
xor_rows_are n V W = refl

-- a window of a tree is that of what it shows
pub window_shown : (n m : ℕ) (x y : Node) (v : Vertices) (lo hi : List ℤ) → m ≡ n → y ≡ x → tiles_shown n x ≡ v → clip m lo hi (node_cells m y) ≡ clip v.dim lo hi (cells_of v)
window_shown n m x y v lo hi e f g =
    ap (λ (k : ℕ). clip k lo hi (node_cells k y)) e ∙ ap (λ z. clip n lo hi (node_cells n z)) f ∙ ap (clip n lo hi) (sym (shown_cells n x)) ∙ ap (λ (w : Vertices). clip w.dim lo hi (cells_of w)) g

-- the tree z of dimension n has the cells of y, of dimension m, and those of d; so it shows the exclusive or
pub xor_shown_cells : (n m : ℕ) (x y z : Node) (v d : Vertices) → m ≡ n → d.dim ≡ m → y ≡ x → tiles_shown n x ≡ v → node_cells m z ≡ xor_cells m (node_cells m y) (cells_of d) → node_cells n z ≡ xor_cells v.dim (cells_of v) (cells_of d)
xor_shown_cells n m x y z v d e k f g h =
    sym (ap (λ (j : ℕ). node_cells j z) e) ∙ h ∙ ap (λ (j : ℕ). xor_cells j (node_cells j y) (cells_of d)) e
    ∙ ap (λ u. xor_cells n (node_cells n u) (cells_of d)) f ∙ ap (λ A. xor_cells n A (cells_of d)) (cells_shown n x v g)
    ∙ ap (λ (w : Vertices). xor_cells w.dim (cells_of v) (cells_of d)) g

-- and as rows
pub xor_shown_rows : (n : ℕ) (x z : Node) (v d : Vertices) → tiles_shown n x ≡ v → d.dim ≡ v.dim → node_cells n z ≡ xor_cells v.dim (cells_of v) (cells_of d) → evm n (node_cells n z) ≡ xor_rows v.dim v.rows d.rows
xor_shown_rows n x z v d g e h =
    ap (λ (w : Vertices). evm w.dim (node_cells n z)) g ∙ ap (evm v.dim) h ∙ ap (λ (k : ℕ). evm v.dim (xor_cells v.dim (cells_of v) (cells k d.rows))) e ∙ sym (xor_rows_are v.dim v.rows d.rows)

-- no change
pub none_cells : (d : Vertices) → d.rows ≡ [] → cells_of d ≡ []
none_cells d e = ap (cells d.dim) e ∙ cells-empty d.dim

pub same_cells_none : (v d : Vertices) → d.rows ≡ [] → cells_of v ≡ xor_cells v.dim (cells_of v) (cells_of d)
same_cells_none v d e = sym (ap (xor_cells v.dim (cells_of v)) (none_cells d e) ∙ xor_right_none v.dim (cells_of v) (cell_set-cells v.dim v.rows))

pub same_rows_none : (v d : Vertices) → d.rows ≡ [] → d.dim ≡ v.dim → v.rows ≡ evm v.dim (cells_of v) → v.rows ≡ xor_rows v.dim v.rows d.rows
same_rows_none v d e k r =
    r ∙ ap (evm v.dim) (same_cells_none v d e) ∙ ap (λ (j : ℕ). evm v.dim (xor_cells v.dim (cells_of v) (cells j d.rows))) k ∙ sym (xor_rows_are v.dim v.rows d.rows)

-- what a tree shows is the vertices of its cells
pub shown_rows : (n : ℕ) (x : Node) (v : Vertices) → tiles_shown n x ≡ v → v.rows ≡ evm v.dim (cells_of v)
shown_rows n x v e = sym (ap (λ (w : Vertices). w.rows) e) ∙ ap (evm n) (cells_shown n x v e) ∙ ap (λ (w : Vertices). evm w.dim (cells_of v)) e

pub no_rows : (V : List (List ℤ)) → length V ≡ 0 → V ≡ []
no_rows [] e = refl
no_rows (p ∷ V) e = absurd (omega arith)

-- a test of rows, when none is left
pub none_left : (t : List ℤ → Bool) (R A : List (List ℤ)) → R ≡ [] → list_all t R ≡ list_all t A → true ≡ list_all t A
none_left t R A e h = sym (ap (list_all t) e) ∙ h

-- the two in the other order
pub xor_rows_other : (n : ℕ) (V W : List (List ℤ)) → xor_rows n V W ≡ xor_rows n W V
xor_rows_other n V W = xor_rows_are n V W ∙ ap (evm n) (xor_other n (cells n V) (cells n W) (cell_set-cells n V) (cell_set-cells n W)) ∙ sym (xor_rows_are n W V)
