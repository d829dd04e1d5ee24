-- What a scene keeps, and how an order of names is parted at one of them.
use Rattle.std.specs.Prelude.{ℕ, ◌≡◌, Bool, true, false, not, ◌||◌, ◌+◌, List, [], ◌∷◌, length, is_some, bytes_eq}
use Rattle.std.specs.List.{list_any}
use Rattle.evm_model.specs.Orders.{is_among, AllSeen, Ordered}
use Rattle.evm_scene.specs.Tables.{Table, node_at, reads_at, node_value, node_stays, kept, dim_at, NodeSized}

-- whether one of these names is among those
abbrev pub meets : List (List ℕ) → List (List ℕ) → Bool
meets reach names = list_any (λ o. is_among o reach) names

-- whether a name is another than this
abbrev pub is_other : List ℕ → List ℕ → Bool
is_other name x = not (bytes_eq x name)

-- operands come first in the order, which holds just the names of the table; dimensions agree; and the kept solid of each
-- name is its formula at the kept solids of its operands, which moves no cell out of the limits there
pub record IsKept (t : Table) (order : List (List ℕ)) : Type 0 where
  pub ordered : Ordered (reads_at t) [] order
  pub whole : (x : List ℕ) → is_among x order ≡ is_some (node_at t x)
  pub size : length order ≡ length t
  pub sized : (x : List ℕ) → NodeSized (node_at t x) (dim_at t)
  pub fixed : (x : List ℕ) → kept t x ≡ node_value (node_at t x) (kept t)
  pub stays : (x : List ℕ) → node_stays (node_at t x) (kept t) ≡ true

-- an order parted into `front`, the names that do not reach `name`, and `reach`, those that do and `name` itself;
-- the names of `rest` are still to be parted
pub record Parted (reads : List ℕ → List (List ℕ)) (order : List (List ℕ)) (name : List ℕ) (front reach rest : List (List ℕ)) : Type 0 where
  pub seen : List (List ℕ)
  pub left : Ordered reads seen rest
  pub whole : (x : List ℕ) → is_among x order ≡ (is_among x seen || is_among x rest)
  pub size : length front + length reach + length rest ≡ length order
  pub members : (x : List ℕ) → is_among x seen ≡ (is_among x front || is_among x reach)
  pub disjoint : (x : List ℕ) → is_among x front ≡ true → is_among x reach ≡ false
  pub tail : List (List ℕ)
  pub starts : reach ≡ name ∷ tail
  pub named : is_among name reach ≡ true
  pub closed : (x : List ℕ) → is_among x seen ≡ true → AllSeen seen (reads x)
  pub exact : (x : List ℕ) → is_among x seen ≡ true → is_among x reach ≡ (bytes_eq x name || meets reach (reads x))
  pub first : Ordered reads [] front
  pub after : Ordered reads front reach
