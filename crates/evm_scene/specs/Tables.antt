-- The table of names: nodes with their solids, and the value of a node where those of its operands are given.
use Rattle.std.specs.Prelude.{ℕ, ◌≡◌, Bool, true, false, pos, List, [], ◌∷◌, map, Option, None, Some, is_some, bytes_eq, if◌then◌else◌}
use Rattle.std.specs.Map.{lookup}
use Rattle.evm_cells.specs.Vertices.{cells}
use Rattle.evm_rows.specs.Rows.{Vertices}
use Rattle.evm_script.specs.declared.formula.Formula.{Formula}
use Rattle.evm_model.specs.Figures.{Figure, nothing}
use Rattle.evm_model.specs.Orders.{is_among}
use Rattle.evm_model.specs.Scene.{Scene, Entry, What, Given, Made, operands, formula_value, formula_stays, is_dim}
use Rattle.evm_formulas.specs.Stated.{figure_of, operand_dim, FormulaStated}
use Rattle.evm_scene.specs.declared.node.Node.{Node}

-- names with their nodes, in the order of their making
abbrev pub Table : Type 0
Table = List (List ℕ × Node)

-- the node of a name, or none where the name does not stand
abbrev pub node_at : Table → List ℕ → Option Node
node_at t x = lookup (bytes_eq x) t

-- the names that a node reads
abbrev pub made_reads : Option Formula → List (List ℕ)
made_reads None = []
made_reads (Some f) = operands f

abbrev pub node_reads : Option Node → List (List ℕ)
node_reads None = []
node_reads (Some n) = made_reads n.formula

-- the names that a name reads
abbrev pub reads_at : Table → List ℕ → List (List ℕ)
reads_at t x = node_reads (node_at t x)

-- the value of a node at the values of its operands: an input's is its own solid
abbrev pub made_value : Figure → Option Formula → (List ℕ → Figure) → Figure
made_value own None at = own
made_value own (Some f) at = formula_value f at

abbrev pub node_value : Option Node → (List ℕ → Figure) → Figure
node_value None at = nothing 0
node_value (Some n) at = made_value (figure_of n.solid) n.formula at

-- the figure of the solid that is kept for a name
abbrev pub node_figure : Option Node → Figure
node_figure None = nothing 0
node_figure (Some n) = figure_of n.solid

abbrev pub kept : Table → List ℕ → Figure
kept t x = node_figure (node_at t x)

-- the dimension of a name
abbrev pub node_dim : Option Node → ℕ
node_dim None = 0
node_dim (Some n) = n.dim

abbrev pub dim_at : Table → List ℕ → ℕ
dim_at t x = node_dim (node_at t x)

-- whether a name stands for a formula
abbrev pub is_made : Option Node → Bool
is_made None = false
is_made (Some n) = is_some n.formula

-- a formula has this dimension, where its operands have these, and the numbers that it states are in their limits
abbrev pub FormulaSized : ℕ → Formula → (List ℕ → ℕ) → Type 0
FormulaSized n f dims = ((o : List ℕ) → is_among o (operands f) ≡ true → dims o ≡ operand_dim n f) × FormulaStated n f

abbrev pub MadeSized : ℕ → Option Formula → (List ℕ → ℕ) → Type 0
MadeSized n None dims = Unit {0}
MadeSized n (Some f) dims = FormulaSized n f dims

-- a node's dimension is one of named solids, that of its solid, and that of its formula
abbrev pub NodeSized : Option Node → (List ℕ → ℕ) → Type 0
NodeSized None dims = Unit {0}
NodeSized (Some n) dims = (is_dim (pos n.dim) ≡ true) × (n.solid.dim ≡ n.dim) × MadeSized n.dim n.formula dims

-- whether what a node makes of the values of its operands has no cell out of the limits
abbrev pub made_stays : Option Formula → (List ℕ → Figure) → Bool
made_stays None at = true
made_stays (Some f) at = formula_stays f at

abbrev pub node_stays : Option Node → (List ℕ → Figure) → Bool
node_stays None at = true
node_stays (Some n) at = made_stays n.formula at

-- the table where the node of a name becomes another
abbrev pub put_node : (Node → Node) → Table → List ℕ → Table
put_node to [] x = []
put_node to (e ∷ es) x = if bytes_eq x e.0 then (e.0, to e.1) ∷ es else e ∷ put_node to es x

-- the node with another solid, and the table with another solid under a name
abbrev pub with_solid : Node → Vertices → Node
with_solid n s = record n { solid = s }

abbrev pub put_solid : Table → List ℕ → Vertices → Table
put_solid t x s = put_node (λ n. with_solid n s) t x

-- the same with another formula too
abbrev pub with_made : Node → Formula → Vertices → Node
with_made n f s = record n { formula = Some f; solid = s }

abbrev pub put_made : Table → List ℕ → Formula → Vertices → Table
put_made t x f s = put_node (λ n. with_made n f s) t x

-- the scene that a table shows, without slots: of an input its cells, of a formula the formula
abbrev pub what_of : Vertices → Option Formula → What
what_of own None = Given (cells own.dim own.rows)
what_of own (Some f) = Made f

abbrev pub entry_view : List ℕ × Node → Entry
entry_view p = record { name = p.0; dim = p.1.dim; what = what_of p.1.solid p.1.formula }

abbrev pub entries_of : Table → List Entry
entries_of t = map entry_view t

abbrev pub scene_of : Table → Scene
scene_of t = record { entries = entries_of t; slots = [] }

-- what each name of a table keeps: its node is sound, its solid is that of its formula, and its formula moves no cell out of the limits
abbrev pub AllSized : Table → Type 0
AllSized t = (x : List ℕ) → NodeSized (node_at t x) (dim_at t)

abbrev pub AllFixed : Table → Type 0
AllFixed t = (x : List ℕ) → kept t x ≡ node_value (node_at t x) (kept t)

abbrev pub AllStay : Table → Type 0
AllStay t = (x : List ℕ) → node_stays (node_at t x) (kept t) ≡ true
