-- What is inside a box, cell by cell.
use Rattle.std.proofs.Common.{◌≡◌, ℕ, Bool, true, false, ◌&&◌, List, length, ℤ, int_le, int_lt, refl, sym, ap, ap₂, ◌∙◌}
use Rattle.evm_cells.specs.Places.{each, has}
use Rattle.evm_cells.specs.Limits.{is_point, is_cell, IsCellSet}
use Rattle.evm_cells.specs.Booleans.{xor, combine, and_cells, xor_cells}
use Rattle.evm_cells.specs.Boxes.{is_box, box_cells}
use Rattle.evm_cells.specs.Shapes.{clip}
use Rattle.evm_cells.specs.Windows.{change_of, ChangeIsLocal, ChangeStaysInside, ClipOfXor}
use Rattle.evm_cells.proofs.Xor.{and_first, and_second, xor_self, xor-false, and-true, and-false, xor-and}
use Rattle.evm_cells.proofs.Universe.{point_parts, same_sets}
use Rattle.evm_cells.proofs.Booleans.{has-combine_of}
use Rattle.evm_cells.proofs.Combine.{cell_set-combine, cell_set-xor, has-xor_cells}
use Rattle.evm_cells.proofs.Corners.{cell_set-box, has-box_cells}

-- the ends of a box have its dimension's length
pub box_lengths : (n : ℕ) (lo hi : List ℤ) → is_box n lo hi ≡ true → (length lo ≡ n) × (length hi ≡ n)
box_lengths n lo hi h =
    let both : (is_point n lo && is_point n hi) ≡ true = and_first (is_point n lo && is_point n hi) (each int_lt lo hi) h in
    let (e, a) = point_parts n lo (and_first (is_point n lo) (is_point n hi) both) in
    let (f, b) = point_parts n hi (and_second (is_point n lo) (is_point n hi) both) in
    (e, f)

pub cell_set-clip : (n : ℕ) (lo hi : List ℤ) (S : List (List ℤ)) → IsCellSet n (clip n lo hi S)
unfolding clip and_cells
cell_set-clip n lo hi S = cell_set-combine (λ a b. a && b) n S (box_cells n lo hi)

pub has-clip_of : (n : ℕ) (lo hi : List ℤ) (S : List (List ℤ)) (c : List ℤ) → IsCellSet n S → has (clip n lo hi S) c ≡ (has S c && (is_cell n c && (each int_le lo c && each int_lt c hi)))
unfolding clip and_cells
has-clip_of n lo hi S c s = has-combine_of (λ a b. a && b) n S (box_cells n lo hi) c refl s (cell_set-box n lo hi) ∙ ap (λ t. has S c && t) (has-box_cells n lo hi c)

pub clip_of_xor : ClipOfXor
clip_of_xor n lo hi A B a b =
    let x : IsCellSet n (xor_cells n A B) = cell_set-xor n A B in
    let p : IsCellSet n (clip n lo hi (xor_cells n A B)) = cell_set-clip n lo hi (xor_cells n A B) in
    let q : IsCellSet n (xor_cells n (clip n lo hi A) (clip n lo hi B)) = cell_set-xor n (clip n lo hi A) (clip n lo hi B) in
    same_sets (clip n lo hi (xor_cells n A B)) (xor_cells n (clip n lo hi A) (clip n lo hi B)) p.ascends q.ascends
    (λ c. let w : Bool = is_cell n c && (each int_le lo c && each int_lt c hi) in
    has-clip_of n lo hi (xor_cells n A B) c x ∙ ap (λ t. t && w) (has-xor_cells n A B c a b) ∙ xor-and (has A c) (has B c) w
    ∙ sym (has-xor_cells n (clip n lo hi A) (clip n lo hi B) c (cell_set-clip n lo hi A) (cell_set-clip n lo hi B) ∙ ap₂ xor (has-clip_of n lo hi A c a) (has-clip_of n lo hi B c b)))

-- ---- changes

pub cell_set-change : (op : Bool → Bool → Bool) (n : ℕ) (A DA B DB : List (List ℤ)) → IsCellSet n (change_of op n A DA B DB)
unfolding change_of
cell_set-change op n A DA B DB = cell_set-xor n (combine op n A B) (combine op n (xor_cells n A DA) (xor_cells n B DB))

pub has-change_of : (op : Bool → Bool → Bool) (n : ℕ) (A DA B DB : List (List ℤ)) (c : List ℤ) → op false false ≡ false → IsCellSet n A → IsCellSet n DA → IsCellSet n B → IsCellSet n DB
    → has (change_of op n A DA B DB) c ≡ xor (op (has A c) (has B c)) (op (xor (has A c) (has DA c)) (xor (has B c) (has DB c)))
unfolding change_of
has-change_of op n A DA B DB c z a da b db =
    has-xor_cells n (combine op n A B) (combine op n (xor_cells n A DA) (xor_cells n B DB)) c (cell_set-combine op n A B) (cell_set-combine op n (xor_cells n A DA) (xor_cells n B DB))
    ∙ ap₂ xor (has-combine_of op n A B c z a b)
    (has-combine_of op n (xor_cells n A DA) (xor_cells n B DB) c z (cell_set-xor n A DA) (cell_set-xor n B DB) ∙ ap₂ op (has-xor_cells n A DA c a da) (has-xor_cells n B DB c b db))

-- one place: w tells whether it is in the box
local_at : (op : Bool → Bool → Bool) (a da b db w : Bool) → op false false ≡ false → (da && w) ≡ da → (db && w) ≡ db
    → xor (op a b) (op (xor a da) (xor b db)) ≡ xor (op (a && w) (b && w)) (op (xor (a && w) da) (xor (b && w) db))
local_at op a da b db true z e f = ap₂ (λ x y. xor (op x y) (op (xor x da) (xor y db))) (sym (and-true a)) (sym (and-true b))
local_at op a da b db false z e f =
    let p : da ≡ false = sym e ∙ and-false da in
    let q : db ≡ false = sym f ∙ and-false db in
    ap₂ (λ x y. xor (op a b) (op x y)) (ap (xor a) p ∙ xor-false a) (ap (xor b) q ∙ xor-false b) ∙ xor_self (op a b)
    ∙ sym (ap₂ (λ x y. xor (op x y) (op (xor x da) (xor y db))) (and-false a) (and-false b)
    ∙ ap₂ (λ x y. xor (op false false) (op x y)) (ap (xor false) p ∙ xor-false false) (ap (xor false) q ∙ xor-false false) ∙ xor_self (op false false))

pub change_is_local : ChangeIsLocal
change_is_local op n lo hi A DA B DB z a da b db e f =
    let p : IsCellSet n (change_of op n A DA B DB) = cell_set-change op n A DA B DB in
    let q : IsCellSet n (change_of op n (clip n lo hi A) DA (clip n lo hi B) DB) = cell_set-change op n (clip n lo hi A) DA (clip n lo hi B) DB in
    same_sets (change_of op n A DA B DB) (change_of op n (clip n lo hi A) DA (clip n lo hi B) DB) p.ascends q.ascends
    (λ c. let w : Bool = is_cell n c && (each int_le lo c && each int_lt c hi) in
    has-change_of op n A DA B DB c z a da b db
    ∙ local_at op (has A c) (has DA c) (has B c) (has DB c) w z (sym (has-clip_of n lo hi DA c da) ∙ ap (λ S. has S c) e) (sym (has-clip_of n lo hi DB c db) ∙ ap (λ S. has S c) f)
    ∙ ap₂ (λ x y. xor (op x y) (op (xor x (has DA c)) (xor y (has DB c)))) (sym (has-clip_of n lo hi A c a)) (sym (has-clip_of n lo hi B c b))
    ∙ sym (has-change_of op n (clip n lo hi A) DA (clip n lo hi B) DB c z (cell_set-clip n lo hi A) da (cell_set-clip n lo hi B) db))

pub change_stays_inside : ChangeStaysInside
change_stays_inside op n lo hi A DA B DB z a da b db e f =
    let p : IsCellSet n (change_of op n A DA B DB) = cell_set-change op n A DA B DB in
    let q : IsCellSet n (clip n lo hi (change_of op n A DA B DB)) = cell_set-clip n lo hi (change_of op n A DA B DB) in
    same_sets (clip n lo hi (change_of op n A DA B DB)) (change_of op n A DA B DB) q.ascends p.ascends
    (λ c. let w : Bool = is_cell n c && (each int_le lo c && each int_lt c hi) in
    has-clip_of n lo hi (change_of op n A DA B DB) c p
    ∙ ap (λ t. t && w) (has-change_of op n A DA B DB c z a da b db)
    ∙ kept op (has A c) (has DA c) (has B c) (has DB c) w (sym (has-clip_of n lo hi DA c da) ∙ ap (λ S. has S c) e) (sym (has-clip_of n lo hi DB c db) ∙ ap (λ S. has S c) f)
    ∙ sym (has-change_of op n A DA B DB c z a da b db))
  where
    kept : (op : Bool → Bool → Bool) (a da b db w : Bool) → (da && w) ≡ da → (db && w) ≡ db
        → (xor (op a b) (op (xor a da) (xor b db)) && w) ≡ xor (op a b) (op (xor a da) (xor b db))
    kept op a da b db true e f = and-true (xor (op a b) (op (xor a da) (xor b db)))
    kept op a da b db false e f =
        let p : da ≡ false = sym e ∙ and-false da in
        let q : db ≡ false = sym f ∙ and-false db in
        and-false (xor (op a b) (op (xor a da) (xor b db)))
        ∙ sym (ap₂ (λ x y. xor (op a b) (op x y)) (ap (xor a) p ∙ xor-false a) (ap (xor b) q ∙ xor-false b) ∙ xor_self (op a b))
