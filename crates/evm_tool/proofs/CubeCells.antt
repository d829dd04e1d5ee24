-- Cells that stay in a cube.
use Rattle.std.proofs.Common.{◌≡◌, ℕ, ◌≤◌, Bool, true, false, ◌&&◌, not, ◌||◌, cond, List, [], ◌∷◌, filter, ℤ, pos, ◌+ℤ◌, int_le, int_lt, refl, sym, ◌∙◌, arith}
use Rattle.std.specs.List.{list_all}
use Rattle.std.proofs.lemmas.Bool.{false≢true, and_parts, and_from}
use Rattle.std.proofs.lemmas.Int.{ints as int_facts}
use Rattle.evm_cells.specs.Places.{each, has}
use Rattle.evm_cells.specs.Limits.{every_cell, is_cell, is_cell_coord, limit}
use Rattle.evm_cells.specs.Booleans.{xor, combine, or_cells, sub_cells, xor_cells}
use Rattle.evm_cells.specs.Boxes.{box_cells}
use Rattle.evm_cells.specs.Shapes.{added, shift_fits}
use Rattle.evm_cells.proofs.Lists.{all_weaker}
use Rattle.evm_cells.proofs.Universe.{member_passes, cell_from}

-- whether a cell stands in the cube from 0 to 64
abbrev pub in_cube : List ℤ → Bool
in_cube c = each int_le (pos 0 ∷ pos 0 ∷ pos 0 ∷ []) c && each int_lt c (pos 64 ∷ pos 64 ∷ pos 64 ∷ [])

-- whether cells stand in it
abbrev pub all_in_cube : List (List ℤ) → Bool
all_in_cube cells = list_all in_cube cells

-- what passes a filter has what the filter shows
pub filter_passes : {X : Type 0} (p t : X → Bool) (xs : List X) → ((x : X) → t x ≡ true → p x ≡ true) → list_all p (filter t xs) ≡ true
filter_passes p t [] h = refl
filter_passes {X} p t (x ∷ xs) h = at (t x) refl (filter_passes p t xs h)
  where
    at : (b : Bool) → t x ≡ b → list_all p (filter t xs) ≡ true → list_all p (cond b (x ∷ filter t xs) (filter t xs)) ≡ true
    at true e k = and_from (p x) (list_all p (filter t xs)) (h x e) k
    at false e k = k

-- two relations, one behind the other
each_chain : (r s q : ℤ → ℤ → Bool) → ((x y z : ℤ) → r x y ≡ true → s y z ≡ true → q x z ≡ true) → (xs ys zs : List ℤ) → each r xs ys ≡ true → each s ys zs ≡ true → each q xs zs ≡ true
unfolding each
each_chain r s q f [] [] [] h k = refl
each_chain r s q f [] [] (z ∷ zs) h k = absurd (false≢true k)
each_chain r s q f [] (y ∷ ys) zs h k = absurd (false≢true h)
each_chain r s q f (x ∷ xs) [] zs h k = absurd (false≢true h)
each_chain r s q f (x ∷ xs) (y ∷ ys) [] h k = absurd (false≢true k)
each_chain r s q f (x ∷ xs) (y ∷ ys) (z ∷ zs) h k =
    let a = and_parts (r x y) _ h in
    let b = and_parts (s y z) _ k in
    and_from (q x z) _ (f x y z a.0 b.0) (each_chain r s q f xs ys zs a.1 b.1)

le_chain : (x y z : ℤ) → int_le x y ≡ true → int_le y z ≡ true → int_le x z ≡ true
le_chain x y z h k = grind (arith, int_facts)

lt_chain : (x y z : ℤ) → int_lt x y ≡ true → int_le y z ≡ true → int_lt x z ≡ true
lt_chain x y z h k = grind (arith, int_facts)

-- the cells of a box in the cube
pub box_in_cube : (lo hi : List ℤ) → each int_le (pos 0 ∷ pos 0 ∷ pos 0 ∷ []) lo ≡ true → each int_le hi (pos 64 ∷ pos 64 ∷ pos 64 ∷ []) ≡ true → all_in_cube (box_cells 3 lo hi) ≡ true
unfolding box_cells
box_in_cube lo hi a b = filter_passes in_cube (λ c. each int_le lo c && each int_lt c hi) (every_cell 3) (λ c h.
    let both = and_parts (each int_le lo c) _ h in
    and_from (each int_le (pos 0 ∷ pos 0 ∷ pos 0 ∷ []) c) _
    (each_chain int_le int_le int_le le_chain (pos 0 ∷ pos 0 ∷ pos 0 ∷ []) lo c a both.0)
    (each_chain int_lt int_le int_lt lt_chain c hi (pos 64 ∷ pos 64 ∷ pos 64 ∷ []) both.1 b))

-- a Boolean of cells in the cube, which is false of two falses
boolean_in_cube : (op : Bool → Bool → Bool) (A B : List (List ℤ)) → op false false ≡ false → all_in_cube A ≡ true → all_in_cube B ≡ true → all_in_cube (combine op 3 A B) ≡ true
unfolding combine
boolean_in_cube op A B none a b = filter_passes in_cube (λ c. op (has A c) (has B c)) (every_cell 3) (λ c h. by c (has A c) (has B c) h (member_passes in_cube A c a) (member_passes in_cube B c b))
  where
    by : (c : List ℤ) (x y : Bool) → op x y ≡ true → (x ≡ true → in_cube c ≡ true) → (y ≡ true → in_cube c ≡ true) → in_cube c ≡ true
    by c true y h f g = f refl
    by c false true h f g = g refl
    by c false false h f g = absurd (false≢true (sym none ∙ h))

pub or_in_cube : (A B : List (List ℤ)) → all_in_cube A ≡ true → all_in_cube B ≡ true → all_in_cube (or_cells 3 A B) ≡ true
unfolding or_cells
or_in_cube A B a b = boolean_in_cube (λ x y. x || y) A B refl a b

pub sub_in_cube : (A B : List (List ℤ)) → all_in_cube A ≡ true → all_in_cube B ≡ true → all_in_cube (sub_cells 3 A B) ≡ true
unfolding sub_cells
sub_in_cube A B a b = boolean_in_cube (λ x y. x && not y) A B refl a b

pub xor_in_cube : (A B : List (List ℤ)) → all_in_cube A ≡ true → all_in_cube B ≡ true → all_in_cube (xor_cells 3 A B) ≡ true
unfolding xor_cells xor
xor_in_cube A B a b = boolean_in_cube xor A B refl a b

-- a coordinate in the cube, moved by at most 3
moved_coord : (x : ℤ) (d : ℕ) → d ≤ 3 → int_le (pos 0) x ≡ true → int_lt x (pos 64) ≡ true → is_cell_coord 3 (x +ℤ pos d) ≡ true
unfolding is_cell_coord limit
moved_coord x d small h k = grind (arith, int_facts)

-- a cell in the cube, moved as the script moves it
moved_cell : (c : List ℤ) → in_cube c ≡ true → is_cell 3 (added (pos 1 ∷ pos 2 ∷ pos 3 ∷ []) c) ≡ true
unfolding each added
moved_cell [] h = absurd (false≢true h)
moved_cell (x ∷ []) h = absurd (false≢true (and_parts (int_le (pos 0) x) false (and_parts (int_le (pos 0) x && false) _ h).0).1)
moved_cell (x ∷ y ∷ []) h =
    absurd (false≢true (and_parts (int_le (pos 0) y) false (and_parts (int_le (pos 0) x) _ (and_parts (int_le (pos 0) x && (int_le (pos 0) y && false)) _ h).0).1).1)
moved_cell (x ∷ y ∷ z ∷ []) h =
    let both = and_parts (int_le (pos 0) x && (int_le (pos 0) y && (int_le (pos 0) z && true))) _ h in
    let l = and_parts (int_le (pos 0) x) _ both.0 in
    let m = and_parts (int_le (pos 0) y) _ l.1 in
    let n = and_parts (int_le (pos 0) z) _ m.1 in
    let t = and_parts (int_lt x (pos 64)) _ both.1 in
    let u = and_parts (int_lt y (pos 64)) _ t.1 in
    let v = and_parts (int_lt z (pos 64)) _ u.1 in
    cell_from 3 ((x +ℤ pos 1) ∷ (y +ℤ pos 2) ∷ (z +ℤ pos 3) ∷ []) refl
    (and_from (is_cell_coord 3 (x +ℤ pos 1)) _ (moved_coord x 1 (omega arith) l.0 t.0)
    (and_from (is_cell_coord 3 (y +ℤ pos 2)) _ (moved_coord y 2 (omega arith) m.0 u.0)
    (and_from (is_cell_coord 3 (z +ℤ pos 3)) true (moved_coord z 3 (omega arith) n.0 v.0) refl)))
moved_cell (x ∷ y ∷ z ∷ w ∷ c) h =
    let both = and_parts (int_le (pos 0) x && (int_le (pos 0) y && (int_le (pos 0) z && false))) _ h in
    absurd (false≢true (and_parts (int_le (pos 0) z) false (and_parts (int_le (pos 0) y) _ (and_parts (int_le (pos 0) x) _ both.0).1).1).1)

-- cells in the cube stay cells where the script moves them
pub moved_stay : (S : List (List ℤ)) → all_in_cube S ≡ true → shift_fits 3 (pos 1 ∷ pos 2 ∷ pos 3 ∷ []) S ≡ true
unfolding shift_fits
moved_stay S h = all_weaker in_cube (λ c. is_cell 3 (added (pos 1 ∷ pos 2 ∷ pos 3 ∷ []) c)) moved_cell S h
