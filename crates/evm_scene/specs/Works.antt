-- The work of carrying a change to the names that come later.
use Rattle.std.specs.Prelude.{ℕ, ◌≡◌, ◌+◌, ◌-◌, ◌*◌, false, if◌then◌else◌, List, Option, None, Some, bytes_eq, length, sum_by}
use Rattle.evm_cells.specs.Places.{is_empty}
use Rattle.evm_cells.specs.Limits.{IsCellSet}
use Rattle.evm_cells.specs.Sections.{cuts}
use Rattle.evm_script.specs.declared.formula.Formula.{Formula}
use Rattle.evm_model.specs.Figures.{Figure}
use Rattle.evm_model.specs.Scene.{Scene, Entry, Made, operands, value}
use Rattle.evm_model.specs.Edits.{Edit, after}
use Rattle.evm_model.specs.Work.{change_between, operand_cuts, is_moved, what_cuts, entry_work}
use Rattle.evm_formulas.specs.declared.changes.Change.{Change}
use Rattle.evm_formulas.specs.Stated.{figure_of}
use Rattle.evm_formulas.specs.Changes.{IsChange, Moves}
use Rattle.evm_scene.specs.declared.node.Node.{Node}
use Rattle.evm_scene.specs.Tables.{Table, node_at, node_value, kept}
use Rattle.evm_scene.specs.Changes.{Pending, change_at}

-- values of names where the edited one has this figure and each other follows its formula, also where a cell is out of the limits
pub record IsOutcome (t : Table) (name : List ℕ) (own : Figure) (V : List ℕ → Figure) : Type 0 where
  pub seed : V name ≡ own
  pub fixed : (x : List ℕ) → bytes_eq x name ≡ false → V x ≡ node_value (node_at t x) V

-- a change that moves each figure that it can be one of
abbrev pub IsMoving : Option Change → Type 0
IsMoving c = (own : Figure) → IsCellSet own.dim own.cells → IsChange c own → Moves c own

-- a change that is noted has cells
abbrev pub MovesCells : Option Change → Figure → Type 0
MovesCells None own = Unit {0}
MovesCells (Some c) own = is_empty (change_between own (figure_of c.after)) ≡ false

abbrev pub AllMove : Table → Pending → Type 0
AllMove t p = (x : List ℕ) → MovesCells (change_at p x) (kept t x)

-- how many steps the change of a name takes at most, by the values of names before and after: none where no operand changes
abbrev pub made_cost : Option Formula → (List ℕ → Figure) → (List ℕ → Figure) → ℕ
made_cost None old new = 0
made_cost (Some f) old new = if is_moved (Made f) old new then 6 * (1 + operand_cuts f old new) else 0

abbrev pub node_cost : Option Node → (List ℕ → Figure) → (List ℕ → Figure) → ℕ
node_cost None old new = 0
node_cost (Some n) old new = made_cost n.formula old new

abbrev pub cost : Table → (List ℕ → Figure) → List ℕ → ℕ
cost t V x = node_cost (node_at t x) (kept t) V

-- the same of an entry, none for the edited name
abbrev pub entry_cost : List ℕ → (List ℕ → Figure) → (List ℕ → Figure) → Entry → ℕ
entry_cost name old new e =
    if bytes_eq e.name name then 0
    else if is_moved e.what old new then 6 * (1 + what_cuts e.what old new)
    else 0

-- how many steps the changes of all names but the edited one take at most, from one scene to another
abbrev pub follow_cost : List ℕ → Scene → Scene → ℕ
follow_cost name old new = sum_by (entry_cost name (value old) (value new)) new.entries

-- the work of an edit that no early cause refuses
abbrev pub whole_work : Scene → Edit → ℕ
whole_work scene edit = sum_by (entry_work edit (value scene) (value (after scene edit))) (after scene edit).entries

-- how many steps a formula takes at most where it is evaluated anew: the cuts of its operands
abbrev pub figure_cuts : Figure → ℕ
figure_cuts a = length (cuts (a.dim - 1) 0 a.cells)

abbrev pub formula_cuts : Formula → (List ℕ → Figure) → ℕ
formula_cuts f at = sum_by (λ o. figure_cuts (at o)) (operands f)
