-- The change of a Boolean is made of the changes of its operands.
use Rattle.std.proofs.Common.{◌≡◌, ℕ, Bool, true, false, ◌&&◌, List, [], ◌∷◌, length, ℤ, Result, Ok, Err, IfOk, refl, sym, ap, ap₂, ◌∙◌, arith}
use Rattle.evm_cells.specs.Places.{has}
use Rattle.evm_cells.specs.Limits.{IsCellSet}
use Rattle.evm_cells.specs.Booleans.{xor, combine, xor_cells, and_cells, sub_cells}
use Rattle.evm_cells.specs.Vertices.{evm, cells, IsVertexList}
use Rattle.evm_cells.proofs.Universe.{same_sets, cell_set-cells}
use Rattle.evm_cells.proofs.Booleans.{has-combine_of}
use Rattle.evm_cells.proofs.Combine.{cell_set-combine, cell_set-xor, has-xor_cells}
use Rattle.evm_cells.proofs.Core.{evm-cells, cells-evm}
use Rattle.evm_cells.proofs.Layers.{cells-empty}
use Rattle.evm_rows.specs.Rows.{Vertices, xor_rows, combined_rows, cells_of}
use Rattle.evm_boolean.specs.declared.boolean.Op2.{Op2}
use Rattle.evm_boolean.specs.declared.boolean.Op2.TheVariants.{Or, And, Sub, Xor}
use Rattle.evm_boolean.specs.Tower.{fills, and_vertices, sub_vertices}
use Rattle.evm_cutting.specs.Changes.{follows_left, follows_right}
use Rattle.evm_delta.specs.Changes.{op_cells, value_before, value_after, change_vertices, left_change, right_change}
use Rattle.evm_cutting.proofs.Tables.{change_at, fills-nothing, xor_twice}

-- the parts of a change, on cells
abbrev pub left_cells : Op2 → ℕ → List (List ℤ) → List (List ℤ) → List (List ℤ)
left_cells op n DA B = combine (λ d r. d && follows_left op r) n DA B

abbrev pub right_cells : Op2 → ℕ → List (List ℤ) → List (List ℤ) → List (List ℤ)
right_cells op n A DB = combine (λ d l. d && follows_right op l) n DB A

abbrev pub change_cells : Op2 → ℕ → List (List ℤ) → List (List ℤ) → List (List ℤ) → List (List ℤ) → List (List ℤ)
change_cells op n A DA B DB = xor_cells n (op_cells op n A B) (op_cells op n (xor_cells n A DA) (xor_cells n B DB))

cell_set-op : (op : Op2) (n : ℕ) (A B : List (List ℤ)) → IsCellSet n (op_cells op n A B)
unfolding op_cells
cell_set-op op n A B = cell_set-combine (fills op) n A B

has-op : (op : Op2) (n : ℕ) (A B : List (List ℤ)) (c : List ℤ) → IsCellSet n A → IsCellSet n B → has (op_cells op n A B) c ≡ fills op (has A c) (has B c)
unfolding op_cells
has-op op n A B c a b = has-combine_of (fills op) n A B c (fills-nothing op) a b

-- the change, place by place
has-change : (op : Op2) (n : ℕ) (A DA B DB : List (List ℤ)) (c : List ℤ) → IsCellSet n A → IsCellSet n DA → IsCellSet n B → IsCellSet n DB
    → has (change_cells op n A DA B DB) c ≡ xor (has DA c && follows_left op (xor (has B c) (has DB c))) (has DB c && follows_right op (has A c))
has-change op n A DA B DB c a da b db =
    has-xor_cells n (op_cells op n A B) (op_cells op n (xor_cells n A DA) (xor_cells n B DB)) c (cell_set-op op n A B) (cell_set-op op n (xor_cells n A DA) (xor_cells n B DB))
    ∙ ap₂ xor (has-op op n A B c a b)
    (has-op op n (xor_cells n A DA) (xor_cells n B DB) c (cell_set-xor n A DA) (cell_set-xor n B DB)
    ∙ ap₂ (fills op) (has-xor_cells n A DA c a da) (has-xor_cells n B DB c b db))
    ∙ change_at op (has A c) (has DA c) (has B c) (has DB c)

has-left : (op : Op2) (n : ℕ) (DA B : List (List ℤ)) (c : List ℤ) → IsCellSet n DA → IsCellSet n B → has (left_cells op n DA B) c ≡ (has DA c && follows_left op (has B c))
has-left op n DA B c da b = has-combine_of (λ d r. d && follows_left op r) n DA B c refl da b

has-right : (op : Op2) (n : ℕ) (A DB : List (List ℤ)) (c : List ℤ) → IsCellSet n A → IsCellSet n DB → has (right_cells op n A DB) c ≡ (has DB c && follows_right op (has A c))
has-right op n A DB c a db = has-combine_of (λ d l. d && follows_right op l) n DB A c refl db a

-- a cell set that has what the change has is the change
is_change : (op : Op2) (n : ℕ) (A DA B DB S : List (List ℤ)) → IsCellSet n A → IsCellSet n DA → IsCellSet n B → IsCellSet n DB → IsCellSet n S
    → ((c : List ℤ) → has S c ≡ xor (has DA c && follows_left op (xor (has B c) (has DB c))) (has DB c && follows_right op (has A c))) → S ≡ change_cells op n A DA B DB
is_change op n A DA B DB S a da b db s e =
    let x : IsCellSet n (change_cells op n A DA B DB) = cell_set-xor n (op_cells op n A B) (op_cells op n (xor_cells n A DA) (xor_cells n B DB)) in
    same_sets S (change_cells op n A DA B DB) s.ascends x.ascends (λ c. e c ∙ sym (has-change op n A DA B DB c a da b db))

pub has-none : (n : ℕ) (c : List ℤ) → has (cells n []) c ≡ false
unfolding has
has-none n c = ap (λ (S : List (List ℤ)). has S c) (cells-empty n)

-- both operands change
pub both_parts : (op : Op2) (n : ℕ) (A DA B DB : List (List ℤ)) → IsCellSet n A → IsCellSet n DA → IsCellSet n B → IsCellSet n DB
    → xor_cells n (left_cells op n DA (xor_cells n B DB)) (right_cells op n A DB) ≡ change_cells op n A DA B DB
both_parts op n A DA B DB a da b db =
    let l : IsCellSet n (left_cells op n DA (xor_cells n B DB)) = cell_set-combine (λ d r. d && follows_left op r) n DA (xor_cells n B DB) in
    let r : IsCellSet n (right_cells op n A DB) = cell_set-combine (λ d l. d && follows_right op l) n DB A in
    is_change op n A DA B DB (xor_cells n (left_cells op n DA (xor_cells n B DB)) (right_cells op n A DB)) a da b db (cell_set-xor n (left_cells op n DA (xor_cells n B DB)) (right_cells op n A DB))
    (λ c. has-xor_cells n (left_cells op n DA (xor_cells n B DB)) (right_cells op n A DB) c l r
    ∙ ap₂ xor (has-left op n DA (xor_cells n B DB) c da (cell_set-xor n B DB) ∙ ap (λ t. has DA c && follows_left op t) (has-xor_cells n B DB c b db)) (has-right op n A DB c a db))

-- an exclusive or changes by the exclusive or of the changes
pub xor_parts : (n : ℕ) (A DA B DB : List (List ℤ)) → IsCellSet n A → IsCellSet n DA → IsCellSet n B → IsCellSet n DB → xor_cells n DA DB ≡ change_cells Xor n A DA B DB
xor_parts n A DA B DB a da b db =
    is_change Xor n A DA B DB (xor_cells n DA DB) a da b db (cell_set-xor n DA DB)
    (λ c. has-xor_cells n DA DB c da db ∙ ap₂ xor (sym (and_yes (has DA c))) (sym (and_yes (has DB c))))
  where
    and_yes : (t : Bool) → (t && true) ≡ t
    and_yes true = refl
    and_yes false = refl

-- the value before and the change make the value after
pub carries_over : (n : ℕ) (S T : List (List ℤ)) → IsCellSet n S → IsCellSet n T → xor_cells n S (xor_cells n S T) ≡ T
carries_over n S T s t =
    let x : IsCellSet n (xor_cells n S (xor_cells n S T)) = cell_set-xor n S (xor_cells n S T) in
    same_sets (xor_cells n S (xor_cells n S T)) T x.ascends t.ascends
    (λ c. has-xor_cells n S (xor_cells n S T) c s (cell_set-xor n S T) ∙ ap (xor (has S c)) (has-xor_cells n S T c s t) ∙ xor_twice (has S c) (has T c))

-- ---- the same on vertices

pub xor_rows_is : (n : ℕ) (V W : List (List ℤ)) → xor_rows n V W ≡ evm n (xor_cells n (cells n V) (cells n W))
unfolding xor_rows combined_rows xor_cells
xor_rows_is n V W = refl

both_rows : (op : Op2) (n : ℕ) (V DV W DW X : List (List ℤ)) → X ≡ xor_rows n W DW
    → xor_rows n (evm n (left_cells op n (cells n DV) (cells n X))) (evm n (right_cells op n (cells n V) (cells n DW)))
    ≡ evm n (change_cells op n (cells n V) (cells n DV) (cells n W) (cells n DW))
both_rows op n V DV W DW X e =
    let x : cells n X ≡ xor_cells n (cells n W) (cells n DW) = ap (cells n) (e ∙ xor_rows_is n W DW) ∙ cells-evm n (xor_cells n (cells n W) (cells n DW)) (cell_set-xor n (cells n W) (cells n DW)) in
    let l : cells n (evm n (left_cells op n (cells n DV) (cells n X))) ≡ left_cells op n (cells n DV) (xor_cells n (cells n W) (cells n DW)) =
    cells-evm n (left_cells op n (cells n DV) (cells n X)) (cell_set-combine (λ d r. d && follows_left op r) n (cells n DV) (cells n X)) ∙ ap (left_cells op n (cells n DV)) x in
    let r : cells n (evm n (right_cells op n (cells n V) (cells n DW))) ≡ right_cells op n (cells n V) (cells n DW) =
    cells-evm n (right_cells op n (cells n V) (cells n DW)) (cell_set-combine (λ d l. d && follows_right op l) n (cells n DW) (cells n V)) in
    xor_rows_is n (evm n (left_cells op n (cells n DV) (cells n X))) (evm n (right_cells op n (cells n V) (cells n DW)))
    ∙ ap (evm n) (ap₂ (xor_cells n) l r ∙ both_parts op n (cells n V) (cells n DV) (cells n W) (cells n DW) (cell_set-cells n V) (cell_set-cells n DV) (cell_set-cells n W) (cell_set-cells n DW))

-- the change, with the cells of all operands in one dimension
change_in : (op : Op2) (a da b db s : Vertices) → da.dim ≡ a.dim → b.dim ≡ a.dim → db.dim ≡ a.dim → s.dim ≡ a.dim
    → s.rows ≡ evm a.dim (change_cells op a.dim (cells a.dim a.rows) (cells a.dim da.rows) (cells a.dim b.rows) (cells a.dim db.rows)) → s ≡ change_vertices op a da b db
unfolding change_vertices
change_in op a da b db s p q o sd sr =
    let P : a.dim ≡ da.dim = sym p in
    let Q : a.dim ≡ b.dim = sym q in
    let O : a.dim ≡ db.dim = sym o in
    let rows : s.rows ≡ evm a.dim (change_cells op a.dim (cells_of a) (cells_of da) (cells_of b) (cells_of db)) =
    sr ∙ (λ i. evm a.dim (change_cells op a.dim (cells a.dim a.rows) (cells (P i) da.rows) (cells (Q i) b.rows) (cells (O i) db.rows))) in
    λ i. record { dim = sd i; rows = rows i }

pub both_is : (op : Op2) (a da b db f l r s : Vertices) → da.dim ≡ a.dim → b.dim ≡ a.dim → db.dim ≡ a.dim → f.rows ≡ xor_rows b.dim b.rows db.rows
    → l ≡ left_change op da f → r ≡ right_change op a db → s.dim ≡ l.dim → s.rows ≡ xor_rows l.dim l.rows r.rows → s ≡ change_vertices op a da b db
unfolding left_change right_change
both_is op a da b db f l r s p q o fr le re sd sr =
    let ld : l.dim ≡ a.dim = ap (λ (v : Vertices). v.dim) le ∙ p in
    let lr : l.rows ≡ evm a.dim (left_cells op a.dim (cells a.dim da.rows) (cells a.dim f.rows)) =
    ap (λ (v : Vertices). v.rows) le ∙ ap (λ m. evm m (left_cells op m (cells m da.rows) (cells m f.rows))) p in
    let rr : r.rows ≡ evm a.dim (right_cells op a.dim (cells a.dim a.rows) (cells a.dim db.rows)) =
    ap (λ (v : Vertices). v.rows) re ∙ ap (λ m. evm m (right_cells op m (cells m a.rows) (cells m db.rows))) o in
    let after : f.rows ≡ xor_rows a.dim b.rows db.rows = fr ∙ ap (λ m. xor_rows m b.rows db.rows) q in
    change_in op a da b db s p q o (sd ∙ ld) (sr ∙ (λ i. xor_rows (ld i) (lr i) (rr i)) ∙ both_rows op a.dim a.rows da.rows b.rows db.rows f.rows after)

pub xor_is : (op : Op2) (a da b db s : Vertices) → op ≡ Xor → da.dim ≡ a.dim → b.dim ≡ a.dim → db.dim ≡ a.dim → s.dim ≡ da.dim → s.rows ≡ xor_rows da.dim da.rows db.rows → s ≡ change_vertices op a da b db
xor_is op a da b db s x p q o sd sr =
    change_in op a da b db s p q o (sd ∙ p)
    (sr ∙ ap (λ m. xor_rows m da.rows db.rows) p ∙ xor_rows_is a.dim da.rows db.rows
    ∙ ap (evm a.dim) (xor_parts a.dim (cells a.dim a.rows) (cells a.dim da.rows) (cells a.dim b.rows) (cells a.dim db.rows) (cell_set-cells a.dim a.rows) (cell_set-cells a.dim da.rows) (cell_set-cells a.dim b.rows) (cell_set-cells a.dim db.rows)
    ∙ ap (λ z. change_cells z a.dim (cells a.dim a.rows) (cells a.dim da.rows) (cells a.dim b.rows) (cells a.dim db.rows)) (sym x)))

-- what the vertices of the change say of its cells
pub change_is : (op : Op2) (a da b db s : Vertices) → s ≡ change_vertices op a da b db → cells_of s ≡ xor_cells s.dim (value_before op a b) (value_after op a da b db)
unfolding change_vertices
change_is op a da b db s e =
    let X : List (List ℤ) = xor_cells a.dim (value_before op a b) (value_after op a da b db) in
    ap cells_of e ∙ cells-evm a.dim X (cell_set-xor a.dim (value_before op a b) (value_after op a da b db))
    ∙ ap (λ (v : Vertices). xor_cells v.dim (value_before op a b) (value_after op a da b db)) (sym e)

pub change_carries : (op : Op2) (a da b db s : Vertices) → s ≡ change_vertices op a da b db → xor_cells s.dim (value_before op a b) (cells_of s) ≡ value_after op a da b db
unfolding change_vertices
change_carries op a da b db s e =
    let d : s.dim ≡ a.dim = ap (λ (v : Vertices). v.dim) e in
    ap (xor_cells s.dim (value_before op a b)) (change_is op a da b db s e)
    ∙ ap (λ m. xor_cells m (value_before op a b) (xor_cells m (value_before op a b) (value_after op a da b db))) d
    ∙ carries_over a.dim (value_before op a b) (value_after op a da b db) (cell_set-op op a.dim (cells_of a) (cells_of b)) (cell_set-op op a.dim (xor_cells a.dim (cells_of a) (cells_of da)) (xor_cells a.dim (cells_of b) (cells_of db)))

-- ---- what the parts of the code make

pub left_or : (da b : Vertices) → sub_vertices da b ≡ left_change Or da b
unfolding sub_vertices sub_cells left_change
left_or da b = refl

pub left_and : (da b : Vertices) → and_vertices da b ≡ left_change And da b
unfolding and_vertices and_cells left_change
left_and da b = refl

pub left_sub : (da b : Vertices) → sub_vertices da b ≡ left_change Sub da b
unfolding sub_vertices sub_cells left_change
left_sub da b = refl

pub right_or : (a db : Vertices) → sub_vertices db a ≡ right_change Or a db
unfolding sub_vertices sub_cells right_change
right_or a db = refl

pub right_and : (a db : Vertices) → and_vertices db a ≡ right_change And a db
unfolding and_vertices and_cells right_change
right_and a db = refl

pub right_sub : (a db : Vertices) → and_vertices db a ≡ right_change Sub a db
unfolding and_vertices and_cells right_change
right_sub a db = refl

all_kept : (n : ℕ) (V W : List (List ℤ)) → IsVertexList n V → evm n (combine (λ d r. d && true) n (cells n V) (cells n W)) ≡ V
all_kept n V W v =
    let x : IsCellSet n (combine (λ d r. d && true) n (cells n V) (cells n W)) = cell_set-combine (λ d r. d && true) n (cells n V) (cells n W) in
    let y : IsCellSet n (cells n V) = cell_set-cells n V in
    ap (evm n) (same_sets (combine (λ d r. d && true) n (cells n V) (cells n W)) (cells n V) x.ascends y.ascends
    (λ c. has-combine_of (λ d r. d && true) n (cells n V) (cells n W) c refl y (cell_set-cells n W) ∙ and_yes (has (cells n V) c)))
    ∙ evm-cells n V v
  where
    and_yes : (t : Bool) → (t && true) ≡ t
    and_yes true = refl
    and_yes false = refl

pub left_xor : (da b s : Vertices) → IsVertexList da.dim da.rows → s.dim ≡ da.dim → s.rows ≡ da.rows → s ≡ left_change Xor da b
unfolding left_change
left_xor da b s v d e = let r : s.rows ≡ _ = e ∙ sym (all_kept da.dim da.rows b.rows v) in λ i. record { dim = d i; rows = r i }

pub right_xor : (a db s : Vertices) → IsVertexList db.dim db.rows → s.dim ≡ db.dim → s.rows ≡ db.rows → s ≡ right_change Xor a db
unfolding right_change
right_xor a db s v d e = let r : s.rows ≡ _ = e ∙ sym (all_kept db.dim db.rows a.rows v) in λ i. record { dim = d i; rows = r i }

-- ---- results that are returned as they are

pub from_both : {X Y : Type 0} (r : Result X Y) (P Q R : X → Type 0) → ((x : X) → P x → Q x → R x) → IfOk r P → IfOk r Q → IfOk r R
from_both (Ok x) P Q R f p q = f x p q
from_both (Err y) P Q R f p q = tt

pub no_rows : (v : Vertices) → length v.rows ≡ 0 → v.rows ≡ []
no_rows v e = none v.rows e
  where
    none : (xs : List (List ℤ)) → length xs ≡ 0 → xs ≡ []
    none [] e = refl
    none (x ∷ xs) e = absurd (omega (arith, e))

pub left_dim : (op : Op2) (da b l : Vertices) → l ≡ left_change op da b → l.dim ≡ da.dim
unfolding left_change
left_dim op da b l e = ap (λ (v : Vertices). v.dim) e

pub right_dim : (op : Op2) (a db r : Vertices) → r ≡ right_change op a db → r.dim ≡ db.dim
unfolding right_change
right_dim op a db r e = ap (λ (v : Vertices). v.dim) e
