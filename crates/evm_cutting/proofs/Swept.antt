-- A Boolean changes by what the changes of its operands meet.
use Rattle.std.proofs.Common.{◌≡◌, ℕ, Bool, true, false, ◌&&◌, List, ℤ, refl, sym, ap, ap₂, ◌∙◌}
use Rattle.std.proofs.lemmas.Bool.{true≢false}
use denote.Enum.Bare.{sameb}
use Rattle.evm_cells.specs.Places.{has}
use Rattle.evm_cells.specs.Limits.{IsCellSet}
use Rattle.evm_cells.specs.Booleans.{xor, combine, xor_cells}
use Rattle.evm_cells.specs.Vertices.{evm, cells, IsVertexList}
use Rattle.evm_cells.specs.Windows.{change_of}
use Rattle.evm_cells.proofs.Universe.{same_sets, cell_set-cells}
use Rattle.evm_cells.proofs.Booleans.{has-combine_of}
use Rattle.evm_cells.proofs.Combine.{cell_set-combine, cell_set-xor, has-xor_cells}
use Rattle.evm_cells.proofs.Core.{cells-evm}
use Rattle.evm_cells.proofs.Insides.{cell_set-change, has-change_of}
use Rattle.evm_rows.specs.Rows.{Vertices, xor_rows, combined_rows}
use Rattle.evm_rows.proofs.Bridge.{vertices-op}
use Rattle.evm_boolean.specs.contracts.boolean.Op2.{the_type}
use Rattle.evm_boolean.specs.declared.boolean.Op2.{Op2}
use Rattle.evm_boolean.specs.declared.boolean.Op2.TheVariants.{Or, And, Sub, Xor}
use Rattle.evm_boolean.specs.Tower.{fills}
use Rattle.evm_cutting.specs.Changes.{follows_left, follows_right, left_part, right_part}
use Rattle.evm_cutting.specs.Hulls.{AgreesOn}
use Rattle.evm_cutting.proofs.HullLaws.{of_dim}
use Rattle.evm_cutting.proofs.Tables.{change_at, fills-nothing}

-- ---- the two parts

part_left : (op : Op2) → (op ≡ Xor → ⊥) → (d r : Bool) → fills (left_part op) d r ≡ (d && follows_left op r)
part_left Or x d r = refl
part_left And x d r = refl
part_left Sub x d r = refl
part_left Xor x d r = absurd (x refl)

part_right : (op : Op2) → (op ≡ Xor → ⊥) → (d l : Bool) → fills (right_part op) d l ≡ (d && follows_right op l)
part_right Or x d l = refl
part_right And x d l = refl
part_right Sub x d l = refl
part_right Xor x d l = absurd (x refl)

-- the parts fill nothing where there is no change
pub left_stays : (op : Op2) → (op ≡ Xor → ⊥) → (r : Bool) → fills (left_part op) false r ≡ false
left_stays op x r = part_left op x false r

pub right_stays : (op : Op2) → (op ≡ Xor → ⊥) → (l : Bool) → fills (right_part op) false l ≡ false
right_stays op x l = part_right op x false l

-- ---- on cells

parts_make_change : (op : Op2) (n : ℕ) (A DA B DB : List (List ℤ)) → (op ≡ Xor → ⊥) → IsCellSet n A → IsCellSet n DA → IsCellSet n B → IsCellSet n DB
    → xor_cells n (combine (fills (left_part op)) n DA (xor_cells n B DB)) (combine (fills (right_part op)) n DB A) ≡ change_of (fills op) n A DA B DB
parts_make_change op n A DA B DB x a da b db =
    let L : List (List ℤ) = combine (fills (left_part op)) n DA (xor_cells n B DB) in
    let R : List (List ℤ) = combine (fills (right_part op)) n DB A in
    let l : IsCellSet n L = cell_set-combine (fills (left_part op)) n DA (xor_cells n B DB) in
    let r : IsCellSet n R = cell_set-combine (fills (right_part op)) n DB A in
    let p : IsCellSet n (xor_cells n L R) = cell_set-xor n L R in
    let q : IsCellSet n (change_of (fills op) n A DA B DB) = cell_set-change (fills op) n A DA B DB in
    same_sets (xor_cells n L R) (change_of (fills op) n A DA B DB) p.ascends q.ascends
    (λ c. has-xor_cells n L R c l r
    ∙ ap₂ xor
    (has-combine_of (fills (left_part op)) n DA (xor_cells n B DB) c (fills-nothing (left_part op)) da (cell_set-xor n B DB)
    ∙ ap (fills (left_part op) (has DA c)) (has-xor_cells n B DB c b db) ∙ part_left op x (has DA c) (xor (has B c) (has DB c)))
    (has-combine_of (fills (right_part op)) n DB A c (fills-nothing (right_part op)) db a ∙ part_right op x (has DB c) (has A c))
    ∙ sym (has-change_of (fills op) n A DA B DB c (fills-nothing op) a da b db ∙ change_at op (has A c) (has DA c) (has B c) (has DB c)))

-- only the cells of a change are looked at
combine_near : (f : Bool → Bool → Bool) (n : ℕ) (D S T : List (List ℤ)) → ((r : Bool) → f false r ≡ false) → IsCellSet n D → IsCellSet n S → IsCellSet n T → ((c : List ℤ) → has D c ≡ true → has S c ≡ has T c)
    → combine f n D S ≡ combine f n D T
combine_near f n D S T z d s t h =
    let x : IsCellSet n (combine f n D S) = cell_set-combine f n D S in
    let y : IsCellSet n (combine f n D T) = cell_set-combine f n D T in
    same_sets (combine f n D S) (combine f n D T) x.ascends y.ascends
    (λ c. has-combine_of f n D S c (z false) d s ∙ at (has D c) (has S c) (has T c) (h c) ∙ sym (has-combine_of f n D T c (z false) d t))
  where
    at : (x y z' : Bool) → (x ≡ true → y ≡ z') → f x y ≡ f x z'
    at true y z' g = ap (f true) (g refl)
    at false y z' g = z y ∙ sym (z z')

-- ---- on rows

cells_of_op : (f : Bool → Bool → Bool) (n : ℕ) (V W : List (List ℤ)) → cells n (combined_rows f n V W) ≡ combine f n (cells n V) (cells n W)
unfolding combined_rows
cells_of_op f n V W = cells-evm n (combine f n (cells n V) (cells n W)) (cell_set-combine f n (cells n V) (cells n W))

cells_of_xor : (n : ℕ) (V W : List (List ℤ)) → cells n (xor_rows n V W) ≡ xor_cells n (cells n V) (cells n W)
unfolding xor_rows xor_cells
cells_of_xor n V W = cells_of_op xor n V W

xor_is : (n : ℕ) (V W : List (List ℤ)) → xor_rows n V W ≡ evm n (xor_cells n (cells n V) (cells n W))
unfolding xor_rows combined_rows xor_cells
xor_is n V W = refl

pub gain_rows : (op : Op2) (n : ℕ) (V DV W DW : List (List ℤ)) → (op ≡ Xor → ⊥)
    → xor_rows n (combined_rows (fills (left_part op)) n DV (xor_rows n W DW)) (combined_rows (fills (right_part op)) n DW V)
    ≡ xor_rows n (combined_rows (fills op) n V W) (combined_rows (fills op) n (xor_rows n V DV) (xor_rows n W DW))
unfolding change_of
gain_rows op n V DV W DW x =
    let l = fills (left_part op) in
    let r = fills (right_part op) in
    xor_is n (combined_rows l n DV (xor_rows n W DW)) (combined_rows r n DW V)
    ∙ ap (evm n)
    (ap₂ (xor_cells n)
    (cells_of_op l n DV (xor_rows n W DW) ∙ ap (combine l n (cells n DV)) (cells_of_xor n W DW))
    (cells_of_op r n DW V)
    ∙ parts_make_change op n (cells n V) (cells n DV) (cells n W) (cells n DW) x (cell_set-cells n V) (cell_set-cells n DV) (cell_set-cells n W) (cell_set-cells n DW)
    ∙ sym (ap₂ (xor_cells n)
    (cells_of_op (fills op) n V W)
    (cells_of_op (fills op) n (xor_rows n V DV) (xor_rows n W DW) ∙ ap₂ (combine (fills op) n) (cells_of_xor n V DV) (cells_of_xor n W DW))))
    ∙ sym (xor_is n (combined_rows (fills op) n V W) (combined_rows (fills op) n (xor_rows n V DV) (xor_rows n W DW)))

pub near_rows : (f : Bool → Bool → Bool) (n : ℕ) (d t s : Vertices) → ((r : Bool) → f false r ≡ false) → d.dim ≡ n → t.dim ≡ n → s.dim ≡ n → AgreesOn d t s
    → combined_rows f n d.rows s.rows ≡ combined_rows f n d.rows t.rows
unfolding combined_rows
near_rows f n d t s z ed et es h =
    ap (evm n) (combine_near f n (cells n d.rows) (cells n s.rows) (cells n t.rows) z (cell_set-cells n d.rows) (cell_set-cells n s.rows) (cell_set-cells n t.rows)
    (λ c m. sym (of_dim n s c es) ∙ h c (of_dim n d c ed ∙ m) ∙ of_dim n t c et))

-- what the couplets at a height add to the answer, by what is near them of the second section after its change and the first before
pub gains_are : (op : Op2) (n : ℕ) (a da b db next near_a near_b gain_a gain_b : Vertices) → (op ≡ Xor → ⊥) → a.dim ≡ n → da.dim ≡ n → db.dim ≡ n → next.dim ≡ n → near_a.dim ≡ n → near_b.dim ≡ n
    → AgreesOn db a near_a → AgreesOn da next near_b → next.rows ≡ xor_rows n b.rows db.rows
    → gain_a.rows ≡ combined_rows (fills (left_part op)) n da.rows near_b.rows → gain_b.rows ≡ combined_rows (fills (right_part op)) n db.rows near_a.rows
    → xor_rows n gain_a.rows gain_b.rows ≡ xor_rows n (combined_rows (fills op) n a.rows b.rows) (combined_rows (fills op) n (xor_rows n a.rows da.rows) next.rows)
gains_are op n a da b db next near_a near_b gain_a gain_b x ea eda edb en ena enb ha hb e p q =
    ap₂ (xor_rows n)
    (p ∙ near_rows (fills (left_part op)) n da next near_b (left_stays op x) eda en enb hb ∙ ap (combined_rows (fills (left_part op)) n da.rows) e)
    (q ∙ near_rows (fills (right_part op)) n db a near_a (right_stays op x) edb ea ena ha)
    ∙ gain_rows op n a.rows da.rows b.rows db.rows x
    ∙ ap (λ V. xor_rows n (combined_rows (fills op) n a.rows b.rows) (combined_rows (fills op) n (xor_rows n a.rows da.rows) V)) (sym e)

-- ---- steps of the walk

pub xor_list : (n : ℕ) (V W : List (List ℤ)) → IsVertexList n (xor_rows n V W)
unfolding xor_rows
xor_list n V W = vertices-op xor n V W

pub not_xor : (op : Op2) → sameb the_type op Xor ≡ false → op ≡ Xor → ⊥
not_xor op e x = true≢false (sym (ap (λ o. sameb the_type o Xor) x) ∙ e)
