-- What an operand has at the cells of a change is enough for the change of a Boolean.
use Rattle.std.proofs.Common.{◌≡◌, ℕ, Bool, true, false, ◌&&◌, List, [], ℤ, refl, sym, ap, ◌∙◌}
use Rattle.evm_cells.specs.Places.{has}
use Rattle.evm_cells.specs.Limits.{IsCellSet}
use Rattle.evm_cells.specs.Booleans.{xor, combine, xor_cells}
use Rattle.evm_cells.specs.Vertices.{evm, cells}
use Rattle.evm_cells.proofs.Universe.{same_sets, cell_set-cells}
use Rattle.evm_cells.proofs.Booleans.{has-combine_of}
use Rattle.evm_cells.proofs.Combine.{cell_set-combine, has-xor_cells}
use Rattle.evm_cells.proofs.Layers.{cells-empty, evm-empty}
use Rattle.evm_cells.proofs.Core.{cells-evm}
use Rattle.evm_cells.proofs.Combine.{cell_set-xor}
use Rattle.evm_rows.specs.Rows.{Vertices, cells_of, xor_rows}
use Rattle.evm_boolean.specs.declared.boolean.Op2.{Op2}
use Rattle.evm_tiles.proofs.Showing.{same_cells_none}
use Rattle.evm_cutting.proofs.HullLaws.{of_dim}
use Rattle.evm_cutting.specs.Changes.{follows_left, follows_right}
use Rattle.evm_delta.specs.Changes.{left_change, right_change, change_vertices, after_change}
use Rattle.evm_cutting.specs.Hulls.{AgreesOn}
use Rattle.evm_delta.proofs.Deltas.{has-none, xor_rows_is, both_is}

-- ---- on cells

cut_down : (w : Bool → Bool) (n : ℕ) (D S : List (List ℤ)) (c : List ℤ) → IsCellSet n D → IsCellSet n S → has (combine (λ d r. d && w r) n D S) c ≡ (has D c && w (has S c))
cut_down w n D S c d s = has-combine_of (λ d r. d && w r) n D S c refl d s

-- only the cells of the change are looked at
alike : (w : Bool → Bool) (n : ℕ) (D S T : List (List ℤ)) → IsCellSet n D → IsCellSet n S → IsCellSet n T → ((c : List ℤ) → has D c ≡ true → has S c ≡ has T c)
    → combine (λ d r. d && w r) n D S ≡ combine (λ d r. d && w r) n D T
alike w n D S T d s t h =
    let x : IsCellSet n (combine (λ d r. d && w r) n D S) = cell_set-combine (λ d r. d && w r) n D S in
    let y : IsCellSet n (combine (λ d r. d && w r) n D T) = cell_set-combine (λ d r. d && w r) n D T in
    same_sets (combine (λ d r. d && w r) n D S) (combine (λ d r. d && w r) n D T) x.ascends y.ascends
    (λ c. cut_down w n D S c d s ∙ at (has D c) (has S c) (has T c) (h c) ∙ sym (cut_down w n D T c d t))
  where
    at : (x y z : Bool) → (x ≡ true → y ≡ z) → (x && w y) ≡ (x && w z)
    at true y z f = ap w (f refl)
    at false y z f = refl

-- nothing is left of no change
none_left : (w : Bool → Bool) (n : ℕ) (S : List (List ℤ)) → IsCellSet n S → combine (λ d r. d && w r) n (cells n []) S ≡ []
none_left w n S s =
    let x : IsCellSet n (combine (λ d r. d && w r) n (cells n []) S) = cell_set-combine (λ d r. d && w r) n (cells n []) S in
    let y : IsCellSet n (cells n []) = cell_set-cells n [] in
    same_sets (combine (λ d r. d && w r) n (cells n []) S) (cells n []) x.ascends y.ascends
    (λ c. cut_down w n (cells n []) S c (cell_set-cells n []) s ∙ ap (λ t. t && w (has S c)) (has-none n c) ∙ sym (has-none n c))
    ∙ cells-empty n

-- ---- on vertices

agrees_in : (n : ℕ) (d t s : Vertices) (c : List ℤ) → d.dim ≡ n → t.dim ≡ n → s.dim ≡ n → AgreesOn d t s → has (cells n d.rows) c ≡ true → has (cells n s.rows) c ≡ has (cells n t.rows) c
agrees_in n d t s c ed et es h m = sym (of_dim n s c es) ∙ h c (of_dim n d c ed ∙ m) ∙ of_dim n t c et

pub left_agrees : (op : Op2) (da b s : Vertices) → b.dim ≡ da.dim → s.dim ≡ da.dim → AgreesOn da b s → left_change op da s ≡ left_change op da b
unfolding left_change
left_agrees op da b s eb es h =
    let n : ℕ = da.dim in
    ap (λ S. the_vertices n (evm n S))
    (alike (follows_left op) n (cells n da.rows) (cells n s.rows) (cells n b.rows) (cell_set-cells n da.rows) (cell_set-cells n s.rows) (cell_set-cells n b.rows)
    (λ c m. agrees_in n da b s c refl eb es h m))
  where
    the_vertices : ℕ → List (List ℤ) → Vertices
    the_vertices m V = record { dim = m; rows = V }

pub right_agrees : (op : Op2) (a db s : Vertices) → a.dim ≡ db.dim → s.dim ≡ db.dim → AgreesOn db a s → right_change op s db ≡ right_change op a db
unfolding right_change
right_agrees op a db s ea es h =
    let n : ℕ = db.dim in
    ap (λ S. the_vertices n (evm n S))
    (alike (follows_right op) n (cells n db.rows) (cells n s.rows) (cells n a.rows) (cell_set-cells n db.rows) (cell_set-cells n s.rows) (cell_set-cells n a.rows)
    (λ c m. agrees_in n db a s c refl ea es h m))
  where
    the_vertices : ℕ → List (List ℤ) → Vertices
    the_vertices m V = record { dim = m; rows = V }

pub no_left : (op : Op2) (da b s : Vertices) → da.rows ≡ [] → s.dim ≡ da.dim → s.rows ≡ [] → s ≡ left_change op da b
unfolding left_change
no_left op da b s e d r =
    let n : ℕ = da.dim in
    let rows : s.rows ≡ evm n (combine (λ d r. d && follows_left op r) n (cells n da.rows) (cells n b.rows)) =
    r ∙ sym (ap (λ V. evm n (combine (λ d r. d && follows_left op r) n (cells n V) (cells n b.rows))) e ∙ ap (evm n) (none_left (follows_left op) n (cells n b.rows) (cell_set-cells n b.rows)) ∙ evm-empty n) in
    λ i. record { dim = d i; rows = rows i }

pub no_right : (op : Op2) (a db s : Vertices) → db.rows ≡ [] → s.dim ≡ db.dim → s.rows ≡ [] → s ≡ right_change op a db
unfolding right_change
no_right op a db s e d r =
    let n : ℕ = db.dim in
    let rows : s.rows ≡ evm n (combine (λ d l. d && follows_right op l) n (cells n db.rows) (cells n a.rows)) =
    r ∙ sym (ap (λ V. evm n (combine (λ d l. d && follows_right op l) n (cells n V) (cells n a.rows))) e ∙ ap (evm n) (none_left (follows_right op) n (cells n a.rows) (cell_set-cells n a.rows)) ∙ evm-empty n) in
    λ i. record { dim = d i; rows = rows i }

-- where s has what b has, s xor db has what b xor db has
pub agrees_after : (d b db s x : Vertices) → s.dim ≡ b.dim → db.dim ≡ b.dim → AgreesOn d b s → x.dim ≡ s.dim → cells_of x ≡ xor_cells s.dim (cells_of s) (cells s.dim db.rows) → AgreesOn d (after_change b db) x
unfolding after_change
agrees_after d b db s x es ed h xd xc c m =
    let n : ℕ = b.dim in
    let B : List (List ℤ) = cells n b.rows in
    let E : List (List ℤ) = cells n db.rows in
    let S : List (List ℤ) = cells n s.rows in
    ap (λ T. has T c) (xc ∙ ap (λ (k : ℕ). xor_cells k (cells k s.rows) (cells k db.rows)) es)
    ∙ has-xor_cells n S E c (cell_set-cells n s.rows) (cell_set-cells n db.rows)
    ∙ ap (λ t. xor t (has E c)) (sym (of_dim n s c es) ∙ h c m)
    ∙ sym (ap (λ T. has (cells n T) c) (xor_rows_is n b.rows db.rows)
    ∙ ap (λ T. has T c) (cells-evm n (xor_cells n B E) (cell_set-xor n B E))
    ∙ has-xor_cells n B E c (cell_set-cells n b.rows) (cell_set-cells n db.rows))

-- ---- the two parts of a change, and the change

-- v has what b has near the change, and x is v after it
pub left_near_is : (op : Op2) (da b db v x part : Vertices) → b.dim ≡ da.dim → db.dim ≡ da.dim → v.dim ≡ b.dim → AgreesOn da b v → x.dim ≡ v.dim → cells_of x ≡ xor_cells v.dim (cells_of v) (cells v.dim db.rows)
    → part ≡ left_change op da x → part ≡ left_change op da (after_change b db)
unfolding after_change
left_near_is op da b db v x part eb ed ev h xd xc e =
    e ∙ left_agrees op da (after_change b db) x eb (xd ∙ ev ∙ eb) (agrees_after da b db v x ev (ed ∙ sym eb) h xd xc)

-- v has what b has near the change, and b stays
pub left_near_stays : (op : Op2) (da b db v part : Vertices) → db.rows ≡ [] → b.dim ≡ da.dim → db.dim ≡ da.dim → v.dim ≡ b.dim → AgreesOn da b v → part ≡ left_change op da v → part ≡ left_change op da (after_change b db)
left_near_stays op da b db v part r eb ed ev h e =
    left_near_is op da b db v v part eb ed ev h refl
    (same_cells_none v db r ∙ ap (λ (m : ℕ). xor_cells v.dim (cells_of v) (cells m db.rows)) (ed ∙ sym (ev ∙ eb))) e

pub near_is : (op : Op2) (a da b db l r s : Vertices) → da.dim ≡ a.dim → b.dim ≡ a.dim → db.dim ≡ a.dim → l ≡ left_change op da (after_change b db) → r ≡ right_change op a db
    → s.dim ≡ l.dim → s.rows ≡ xor_rows l.dim l.rows r.rows → s ≡ change_vertices op a da b db
unfolding after_change
near_is op a da b db l r s p q o le re sd sr = both_is op a da b db (after_change b db) l r s p q o refl le re sd sr
