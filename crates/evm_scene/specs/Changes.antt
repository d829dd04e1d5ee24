-- Changes of the names of a table that are made and not yet in place.
use Rattle.std.specs.Prelude.{ℕ, ◌≡◌, true, false, cond, List, [], ◌∷◌, Option, None, Some, bytes_eq, length}
use Rattle.std.specs.List.{IsDistinct}
use Rattle.std.specs.Map.{lookup, keys_of}
use Rattle.evm_cells.specs.Vertices.{cells}
use Rattle.evm_script.specs.declared.formula.Formula.{Formula}
use Rattle.evm_model.specs.Figures.{Figure, same_figure}
use Rattle.evm_model.specs.Orders.{is_among, AllSeen}
use Rattle.evm_formulas.specs.Stated.{figure_of}
use Rattle.evm_scene.specs.Tables.{Table, node_at, reads_at, node_value, node_stays, node_figure, is_made, put_solid, put_made, with_solid, kept}
use Rattle.evm_scene.specs.declared.node.Node.{Node}
use Rattle.evm_formulas.specs.declared.changes.Change.{Change}
use Rattle.evm_formulas.specs.Changes.{after_of, IsChange}

-- the change is one of a formula
abbrev pub MovesNode : Option Change → Option Node → Type 0
MovesNode None n = Unit {0}
MovesNode (Some c) n = (same_figure (node_figure n) (figure_of c.after) ≡ false) × (is_made n ≡ true)

-- changes under their names
abbrev pub Pending : Type 0
Pending = List (List ℕ × Change)

abbrev pub change_at : Pending → List ℕ → Option Change
change_at p x = lookup (bytes_eq x) p

-- each is a change of the solid that is kept for its name
abbrev pub AllChange : Table → Pending → Type 0
AllChange t p = (x : List ℕ) → IsChange (change_at p x) (kept t x)

-- the figures with the changes in place
abbrev pub moved : Table → Pending → List ℕ → Figure
moved t p x = after_of (change_at p x) (kept t x)

-- each name but the edited one has its formula at the figures of its operands, which moves no cell out of the limits there,
-- and no name before it changes
pub record IsCarried (t : Table) (front : List (List ℕ)) (name : List ℕ) (old p : Pending) : Type 0 where
  pub fixed : (x : List ℕ) → bytes_eq x name ≡ false → moved t p x ≡ node_value (node_at t x) (moved t p)
  pub stays : (x : List ℕ) → bytes_eq x name ≡ false → node_stays (node_at t x) (moved t p) ≡ true
  pub early : (x : List ℕ) → is_among x front ≡ true → change_at p x ≡ None
  pub seed : change_at p name ≡ change_at old name
  pub change : (x : List ℕ) → IsChange (change_at p x) (kept t x)
  pub moves : (x : List ℕ) → bytes_eq x name ≡ false → MovesNode (change_at p x) (node_at t x)

-- one name is done, with its change or without one
pub record IsCarriedTo (t : Table) (name : List ℕ) (p q : Pending) : Type 0 where
  pub made : Option Change
  pub put : (x : List ℕ) → change_at q x ≡ cond (bytes_eq name x) made (change_at p x)
  pub after : after_of made (kept t name) ≡ node_value (node_at t name) (moved t p)
  pub stays : node_stays (node_at t name) (moved t p) ≡ true
  pub change : IsChange made (kept t name)
  pub moves : MovesNode made (node_at t name)

-- the changes when a name was met whose formula, at the figures with them in place, moves a cell out of the limits: the names
-- that were seen before, but the edited one, have their formulas there, and what it reads was seen
pub record IsHalted (t : Table) (name : List ℕ) (old : Pending) : Type 0 where
  pub pending : Pending
  pub seen : List (List ℕ)
  pub last : List ℕ
  pub seed : change_at pending name ≡ change_at old name
  pub closed : (x : List ℕ) → is_among x seen ≡ true → bytes_eq x name ≡ false → AllSeen seen (reads_at t x)
  pub fixed : (x : List ℕ) → is_among x seen ≡ true → bytes_eq x name ≡ false → moved t pending x ≡ node_value (node_at t x) (moved t pending)
  pub other : bytes_eq last name ≡ false
  pub reads : AllSeen seen (reads_at t last)
  pub out : node_stays (node_at t last) (moved t pending) ≡ false

-- how many names change their cells, where `rest` are all changes but the own one of the edited name
pub record IsCount (own : Change) (all rest : Pending) (names : ℕ) : Type 0 where
  pub still : cells own.delta.dim own.delta.rows ≡ [] → names ≡ length rest
  pub moved : (cells own.delta.dim own.delta.rows ≡ [] → ⊥) → names ≡ length all
  pub apart : IsDistinct bytes_eq (keys_of all)
  pub rest_apart : IsDistinct bytes_eq (keys_of rest)

-- the table with each change in place
abbrev pub put_all : Table → Pending → Table
put_all t [] = t
put_all t (e ∷ es) = put_solid (put_all t es) e.0 e.1.after

-- a node with its change in place
abbrev pub moved_node : Option Node → Option Change → Option Node
moved_node None c = None
moved_node (Some n) None = Some n
moved_node (Some n) (Some c) = Some (with_solid n c.after)

-- the changes that follow from another figure of a name
pub record IsRedefined (t : Table) (front : List (List ℕ)) (name : List ℕ) (new : Figure) (p : Pending) : Type 0 where
  pub own : Change
  pub carried : IsCarried t front name ((name, own) ∷ []) p
  pub value : figure_of own.after ≡ new

-- those that were made when a formula was met that moves a cell out of the limits
pub record IsStuck (t : Table) (name : List ℕ) (new : Figure) : Type 0 where
  pub own : Change
  pub halted : IsHalted t name ((name, own) ∷ [])
  pub value : figure_of own.after ≡ new

-- the changes that follow from that of an input are in place; n of them are changes of cells
pub record IsPlaced (t u : Table) (name : List ℕ) (p : Pending) (n : ℕ) : Type 0 where
  pub rest : Pending
  pub own : Change
  pub here : change_at p name ≡ Some own
  pub without : (x : List ℕ) → change_at rest x ≡ cond (bytes_eq name x) None (change_at p x)
  pub placed : u ≡ put_solid (put_all t rest) name own.after
  pub count : IsCount own p rest n

-- the changes of a formula and of the names that read it are in place; n of them are changes of cells
pub record IsInstalled (t u : Table) (name : List ℕ) (f : Formula) (p : Pending) (n : ℕ) : Type 0 where
  pub rest : Pending
  pub own : Change
  pub here : change_at p name ≡ Some own
  pub without : (x : List ℕ) → change_at rest x ≡ cond (bytes_eq name x) None (change_at p x)
  pub placed : u ≡ put_made (put_all t rest) name f own.after
  pub count : IsCount own p rest n
