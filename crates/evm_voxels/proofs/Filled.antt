-- Marked samples fill the cells that the samples fill.
use Rattle.std.proofs.Common.{◌≡◌, ℕ, ◌+◌, ◌*◌, ◌<◌, ◌≤◌, Bool, true, false, ◌&&◌, List, [], ◌∷◌, map, length, get_or, ℤ, pos, negsuc, ◌≤ℤ◌, ◌<ℤ◌, int_le, int_lt, refl, sym, ap, subst, ◌∙◌, arith, mul_comm, zero-mul}
use Rattle.std.proofs.lemmas.Bool.{false≢true}
use Rattle.std.proofs.lemmas.Int.{ints as int_facts}
use Rattle.std.proofs.lemmas.Nat.{mul-add-lt}
use Rattle.evm_cells.specs.Limits.{cells_where}
use Rattle.evm_cells.specs.Vertices.{evm, IsVertexList}
use Rattle.evm_cells.proofs.Core.{vertices-evm}
use Rattle.evm_cells.proofs.Xor.{and_first, and_second}
use Rattle.evm_cells.proofs.Coords.{le_is, lt_is}
use Rattle.evm_rows.specs.Rows.{AreRows, rows_of, flat_of}
use Rattle.evm_rows.proofs.Bridge.{are_rows-flat, wide-points}
use Rattle.evm_rows.proofs.RowsOrder.{rows_of-flat_of}
use Rattle.evm_voxels.specs.declared.grid.Grid.{Grid}
use Rattle.evm_formats.specs.Images.{Picture, at_least, nat_of, in_sizes, within, of_two, of_three, in_image, in_stack, cells_of_images}
use Rattle.evm_voxels.specs.Marks.{is_marked, marked_at}
use Rattle.evm_voxels.specs.Grids.{filled_in, filled_flat}
use Rattle.evm_voxels.specs.Shots.{AreMarked, words_of}
use Rattle.evm_cells.proofs.Combine.{cell_set-filter}

-- ---- places within sizes

abbrev IsBelow : List ℕ → List ℤ → Type 0
IsBelow [] [] = Unit {0}
IsBelow [] (x ∷ c) = ⊥
IsBelow (m ∷ ms) [] = ⊥
IsBelow (m ∷ ms) (x ∷ c) = (nat_of x < m) × IsBelow ms c

below_one : (x : ℤ) (m : ℕ) → (int_le (pos 0) x && int_lt x (pos m)) ≡ true → nat_of x < m
below_one (pos n) m e = let h : pos n <ℤ pos m = lt_is (pos n) (pos m) (and_second (int_le (pos 0) (pos n)) (int_lt (pos n) (pos m)) e) in omega (arith, int_facts)
below_one (negsuc n) m e = let h : pos 0 ≤ℤ negsuc n = le_is (pos 0) (negsuc n) (and_first (int_le (pos 0) (negsuc n)) (int_lt (negsuc n) (pos m)) e) in absurd (omega (arith, int_facts))

below : (ms : List ℕ) (c : List ℤ) → in_sizes ms c ≡ true → IsBelow ms c
unfolding in_sizes
below [] [] e = tt
below [] (x ∷ c) e = absurd (false≢true e)
below (m ∷ ms) [] e = absurd (false≢true e)
below (m ∷ ms) (x ∷ c) e =
    (below_one x m (and_first (int_le (pos 0) x && int_lt x (pos m)) (in_sizes ms c) e), below ms c (and_second (int_le (pos 0) x && int_lt x (pos m)) (in_sizes ms c) e))

and_same : (a x y : Bool) → (a ≡ true → x ≡ y) → (a && x) ≡ (a && y)
and_same true x y e = e refl
and_same false x y e = refl

-- tests that agree below three sizes, or two
within_three : (w h d : ℕ) (f g : ℕ → ℕ → ℕ → Bool) → ((x y z : ℕ) → x < w → y < h → z < d → f x y z ≡ g x y z) → (c : List ℤ) → within (w ∷ h ∷ d ∷ []) (of_three f) c ≡ within (w ∷ h ∷ d ∷ []) (of_three g) c
unfolding within
within_three w h d f g e c = and_same (in_sizes (w ∷ h ∷ d ∷ []) c) (of_three f (map nat_of c)) (of_three g (map nat_of c)) (λ k. at c (below (w ∷ h ∷ d ∷ []) c k))
  where
    at : (c : List ℤ) → IsBelow (w ∷ h ∷ d ∷ []) c → of_three f (map nat_of c) ≡ of_three g (map nat_of c)
    at [] k = absurd k
    at (x ∷ []) k = absurd k.1
    at (x ∷ y ∷ []) k = absurd k.1.1
    at (x ∷ y ∷ z ∷ []) k = e (nat_of x) (nat_of y) (nat_of z) k.0 k.1.0 k.1.1.0
    at (x ∷ y ∷ z ∷ t ∷ c) k = absurd k.1.1.1

within_two : (w h : ℕ) (f g : List ℕ → Bool) → ((x y : ℕ) → x < w → y < h → f (x ∷ y ∷ []) ≡ g (x ∷ y ∷ [])) → (c : List ℤ) → within (w ∷ h ∷ []) f c ≡ within (w ∷ h ∷ []) g c
unfolding within
within_two w h f g e c = and_same (in_sizes (w ∷ h ∷ []) c) (f (map nat_of c)) (g (map nat_of c)) (λ k. at c (below (w ∷ h ∷ []) c k))
  where
    at : (c : List ℤ) → IsBelow (w ∷ h ∷ []) c → f (map nat_of c) ≡ g (map nat_of c)
    at [] k = absurd k
    at (x ∷ []) k = absurd k.1
    at (x ∷ y ∷ []) k = e (nat_of x) (nat_of y) k.0 k.1.0
    at (x ∷ y ∷ z ∷ c) k = absurd k.1.1

-- ---- marks and samples

index_below : (x y w h : ℕ) → x < w → y < h → y * w + x < h * w
index_below x y w h a b = omega (arith, mul-add-lt y w x h b a, mul_comm w h)

pub stack_filled : (g : Grid) (threshold : ℕ) (images : List Picture) → length images ≡ g.depth → AreMarked g.marks.now (g.height * g.width) g.depth threshold images → g.pitch ≡ 32 * words_of (g.height * g.width)
    → cells_where 3 (filled_in g) ≡ cells_where 3 (in_stack threshold g.width g.height images)
unfolding filled_in in_stack at_least marked_at
stack_filled g threshold images n m p =
    ap (λ (f : List ℤ → Bool). cells_where 3 f)
    (λ i c. within_three g.width g.height g.depth (marked_at g.marks.now g.pitch g.width) (at_least threshold g.width images)
    (λ x y z a b d. ap (λ (q : ℕ). is_marked g.marks.now (z * q + (y * g.width + x))) p ∙ m.marked z (y * g.width + x) d (index_below x y g.width g.height a b)) c i)
    ∙ ap (λ (d : ℕ). cells_where 3 (within (g.width ∷ g.height ∷ d ∷ []) (of_three (at_least threshold g.width images)))) (sym n)

-- the rows of the first image
pub image_filled : (g : Grid) (depth threshold : ℕ) (images : List Picture) → AreMarked g.marks.now (g.depth * g.width) depth threshold images → 1 ≤ depth → g.pitch ≡ g.width
    → cells_where 2 (filled_flat g) ≡ cells_where 2 (in_image threshold g.width g.depth images)
unfolding filled_flat in_image at_least marked_at
image_filled g depth threshold images m some p =
    ap (λ (f : List ℤ → Bool). cells_where 2 f)
    (λ i c. within_two g.width g.depth (λ c. marked_at g.marks.now g.pitch g.width (get_or c 0 0) 0 (get_or c 1 0)) (of_two (at_least threshold g.width images))
    (λ x y a b.
    ap (λ (q : ℕ). is_marked g.marks.now (y * q + (0 * g.width + x))) p
    ∙ ap (is_marked g.marks.now) (let e : y * g.width + (0 * g.width + x) ≡ 0 * (32 * words_of (g.depth * g.width)) + (y * g.width + x) = omega (arith, zero-mul g.width, zero-mul (32 * words_of (g.depth * g.width))) in e)
    ∙ m.marked 0 (y * g.width + x) some (index_below x y g.width g.depth a b)) c i)

-- ---- the numbers of the extreme vertices are the rows of a solid

pub rows_fit : (n : ℕ) (f : List ℤ → Bool) (flat : List ℤ) → 0 < n → n ≤ 6 → flat ≡ flat_of (evm n (cells_where n f)) → AreRows flat n 0
rows_fit n f flat low high e = subst (λ (xs : List ℤ). AreRows xs n 0) (sym e) (are_rows-flat n (evm n (cells_where n f)) low high (vertices-evm n (cells_where n f) (cell_set-filter n f)))

rows_are : (n : ℕ) (f : List ℤ → Bool) (flat : List ℤ) → 0 < n → flat ≡ flat_of (evm n (cells_where n f)) → rows_of flat n 0 ≡ evm n (cells_where n f)
rows_are n f flat low e =
    let v : IsVertexList n (evm n (cells_where n f)) = vertices-evm n (cells_where n f) (cell_set-filter n f) in
    ap (λ (xs : List ℤ). rows_of xs n 0) e ∙ rows_of-flat_of n (evm n (cells_where n f)) low (wide-points n (evm n (cells_where n f)) v.points)

of_two_dims : (n threshold w h : ℕ) (images : List Picture) → n ≡ 2 → evm 2 (cells_where 2 (in_image threshold w h images)) ≡ evm n (cells_of_images n threshold w h images)
of_two_dims n threshold w h images e = ap (λ (m : ℕ). evm m (cells_of_images m threshold w h images)) (sym e)

of_three_dims : (n threshold w h : ℕ) (images : List Picture) → n ≡ 3 → evm 3 (cells_where 3 (in_stack threshold w h images)) ≡ evm n (cells_of_images n threshold w h images)
of_three_dims n threshold w h images e = ap (λ (m : ℕ). evm m (cells_of_images m threshold w h images)) (sym e)

pub stack_rows : (g : Grid) (n threshold : ℕ) (images : List Picture) (flat : List ℤ) (rows : List (List ℤ)) → n ≡ 3 → length images ≡ g.depth → AreMarked g.marks.now (g.height * g.width) g.depth threshold images
    → g.pitch ≡ 32 * words_of (g.height * g.width) → flat ≡ flat_of (evm 3 (cells_where 3 (filled_in g))) → rows ≡ rows_of flat 3 0 → rows ≡ evm n (cells_of_images n threshold g.width g.height images)
stack_rows g n threshold images flat rows d l m p e r =
    r ∙ rows_are 3 (filled_in g) flat (omega arith) e ∙ ap (evm 3) (stack_filled g threshold images l m p) ∙ of_three_dims n threshold g.width g.height images d

pub image_rows : (g : Grid) (n depth threshold : ℕ) (images : List Picture) (flat : List ℤ) (rows : List (List ℤ)) → n ≡ 2 → AreMarked g.marks.now (g.depth * g.width) depth threshold images → 1 ≤ depth
    → g.pitch ≡ g.width → flat ≡ flat_of (evm 2 (cells_where 2 (filled_flat g))) → rows ≡ rows_of flat 2 0 → rows ≡ evm n (cells_of_images n threshold g.width g.depth images)
image_rows g n depth threshold images flat rows d m some p e r =
    r ∙ rows_are 2 (filled_flat g) flat (omega arith) e ∙ ap (evm 2) (image_filled g depth threshold images m some p) ∙ of_two_dims n threshold g.width g.depth images d
