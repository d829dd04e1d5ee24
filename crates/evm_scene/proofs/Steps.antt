-- The steps of a walk that carries a change.
use Rattle.std.proofs.Common.{◌≡◌, ℕ, ◌+◌, ◌<◌, ◌≤◌, Bool, true, false, List, Option, None, Some, refl, sym, ap, subst, take, drop, get_or, length, sum_by, bytes_eq, arith}
use Rattle.std.proofs.lemmas.List.Sums.{sum_by_more, sum_by-take-le}
use Rattle.evm_model.specs.Figures.{Figure}
use Rattle.evm_model.proofs.Names.{same_name}
use Rattle.evm_formulas.specs.Changes.{Moves}
use Rattle.evm_formulas.specs.declared.changes.Change.{Change}
use Rattle.evm_scene.specs.declared.node.Node.{Node}
use Rattle.evm_scene.specs.Tables.{Table, node_at, kept, node_figure}
use Rattle.evm_scene.specs.Changes.{Pending, change_at, moved, MovesNode}
use Rattle.evm_scene.specs.Works.{IsOutcome, IsMoving, AllMove, node_cost, cost}
use Rattle.evm_scene.proofs.Nodes.{node_set}
use Rattle.evm_scene.proofs.Costs.{moves_cells, node_cost_same}
use Rattle.evm_scene.proofs.Walks.{Walk, walk_at}

-- so many steps were taken from the start on, at names that were passed
abbrev pub Within : Table → List ℕ → Pending → ℕ → ℕ → List (List ℕ) → Type 0
Within t name old s r xs = (V : List ℕ → Figure) → IsOutcome t name (moved t old name) V → r ≤ s + sum_by (cost t V) xs

pub within_none : (t : Table) (name : List ℕ) (old : Pending) (s : ℕ) (xs : List (List ℕ)) → Within t name old s s xs
within_none t name old s xs V out = omega arith

-- each change that is noted in a walk has cells, where that of the edited name does
node_moves : (c : Option Change) (n : Option Node) → MovesNode c n → Moves c (node_figure n)
node_moves None n h = tt
node_moves (Some c) n h = h.0

pub all_move : (t : Table) (front : List (List ℕ)) (name : List ℕ) (old p : Pending) (rest : List (List ℕ)) → Walk t front name old p rest → IsMoving (change_at old name) → AllMove t p
all_move t front name old p rest w seed x = moves_cells (change_at p x) (kept t x) (node_set (node_at t x)) (w.change x) (by (bytes_eq x name) refl)
  where
    own : Moves (change_at p name) (kept t name)
    own = subst (λ (c : Option Change). IsMoving c) (sym w.seed) seed (kept t name) (node_set (node_at t name)) (w.change name)

    by : (b : Bool) → bytes_eq x name ≡ b → Moves (change_at p x) (kept t x)
    by true e = subst (λ (k : List ℕ). Moves (change_at p k) (kept t k)) (sym (same_name x name e)) own
    by false e = node_moves (change_at p x) (node_at t x) (w.moves x e)

-- one more name is passed
module _ (t : Table) (front : List (List ℕ)) (name : List ℕ) (old p : Pending) (xs : List (List ℕ)) (i : ℕ) (x : List ℕ) (s m r : ℕ)
    (inside : i < length xs) (here : x ≡ get_or xs i x) (w : Walk t front name old p (drop i xs))
    (before : Within t name old s m (take i xs)) (few : r ≤ m + node_cost (node_at t x) (kept t) (moved t p)) where
  at_outcome : (V : List ℕ → Figure) → IsOutcome t name (moved t old name) V → node_cost (node_at t x) (kept t) (moved t p) ≡ cost t V x
  at_outcome V out =
      let v = walk_at t front name old p p xs i x inside here w in
      node_cost_same (kept t) (moved t p) V (node_at t x) (λ o h. v.same V out o (v.left.1 o h))

  pub within_more : Within t name old s r (take (i + 1) xs)
  within_more V out =
      omega (arith, few, before V out, at_outcome V out, sum_by_more (cost t V) xs i x inside, ap (cost t V) here)

  pub within_all : Within t name old s r xs
  within_all V out = omega (arith, within_more V out, sum_by-take-le (cost t V) xs (i + 1))

pub within_end : (t : Table) (name : List ℕ) (old : Pending) (s r : ℕ) (xs : List (List ℕ)) (i : ℕ) → Within t name old s r (take i xs) → Within t name old s r xs
within_end t name old s r xs i h V out = omega (arith, h V out, sum_by-take-le (cost t V) xs i)
