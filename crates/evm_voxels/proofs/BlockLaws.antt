-- Words of 32 columns, line after line, and the rows that their bits give.
use Rattle.std.proofs.Common.{◌≡◌, ℕ, zero, suc, ◌+◌, ◌-◌, ◌*◌, ◌/◌, ◌^◌, ◌<◌, ◌≤◌, ◌==◌, Bool, true, false, cond, List, [], ◌∷◌, ◌++◌, map, flat_map, length, get_or, slice_index, take, drop, replicate, ℤ, pos, ◌-ℤ◌, ◌+ℤ◌, refl, sym, ap, ap₂, ◌∙◌, arith, append_assoc, append-nil, length-append, add-one, suc-mul, drop-cons, ⊎_elim}
use Rattle.std.specs.Prelude.{bit_xor, bit_and}
use Rattle.std.proofs.lemmas.Int.{ints as int_facts}
use Rattle.std.proofs.lemmas.Bool.{cases_lt}
use Rattle.std.proofs.lemmas.List.{map-append, take-append-le, drop-append-le, take_all, take-map, drop-map, length-map, drop_all, get_or-replicate}
use Rattle.std.proofs.Math.ListN.{set}
use Rattle.std.proofs.Common.{get_or-set_same, get_or-set_other}
use Rattle.evm_cells.specs.Booleans.{xor}
use Rattle.evm_cells.specs.Limits.{ints}
use Rattle.evm_rows.specs.Rows.{flat_of}
use Rattle.evm_rows.proofs.BoxTests.{flat_of-append}
use Rattle.evm_voxels.specs.declared.grid.Grid.{Grid}
use Rattle.evm_formats.specs.VoxelLaws.{listed}
use Rattle.evm_voxels.specs.Parity.{turns, grid, seam, edge}
use Rattle.evm_voxels.specs.Marks.{bit_on}
use Rattle.evm_voxels.specs.Grids.{filled_in, filled_flat}
use Rattle.evm_voxels.specs.Blocks.{table, line_of, places, planes, columns}
use Rattle.evm_voxels.proofs.GridLines.{bit_one, turns_three, none_before_z, size_no, seam_off_y}
use Rattle.evm_voxels.proofs.Layers.{flat_map-more}
use Rattle.evm_voxels.proofs.GridRows.{no_heads, flat_line}
use Rattle.evm_voxels.proofs.Marking.{no_bit}
use Rattle.evm_voxels.proofs.Windows.{bit_on-xor}

-- ---- the words of a line

pub line_none : (f : List ℤ → Bool) (base : List Bool) → base ≡ base ++ line_of f 0
unfolding ints
line_none f base = sym (append-nil base)

pub line_more : (f : List ℤ → Bool) (k z word : ℕ) (base : List Bool) (words new : List ℕ) → map (bit_on k) words ≡ base ++ line_of f z → new ≡ words ++ word ∷ [] → bit_on k word ≡ f (pos z ∷ []) → map (bit_on k) new ≡ base ++ line_of f (z + 1)
line_more f k z word base words new h e b =
    ap (map (bit_on k)) e ∙ map-append (bit_on k) words (word ∷ [])
    ∙ ap₂ (λ (s : List Bool) (t : Bool). s ++ t ∷ []) h b
    ∙ append_assoc base (line_of f z) (f (pos z ∷ []) ∷ [])
    ∙ ap (λ (t : List Bool). base ++ t) (sym (flat_map-more (λ y. f (y ∷ []) ∷ []) z))

-- the differences of two rows, and the parity
pub edge_bit : (f : List ℤ → Bool) (x : ℤ) (y z k last now : ℕ) → bit_on k last ≡ seam f x ((pos y -ℤ pos 1) ∷ pos z ∷ []) → bit_on k now ≡ seam f x (pos y ∷ pos z ∷ []) → bit_on k (bit_xor last now) ≡ edge f x (pos y) (pos z ∷ [])
unfolding edge
edge_bit f x y z k last now p q = bit_on-xor last now k ∙ ap₂ xor p q

pub parity_bit : (f : List ℤ → Bool) (x y : ℤ) (z k before now : ℕ) → bit_on k before ≡ edge f x y ((pos z -ℤ pos 1) ∷ []) → bit_on k now ≡ edge f x y (pos z ∷ []) → bit_on k (bit_xor before now) ≡ turns f (x ∷ y ∷ pos z ∷ [])
parity_bit f x y z k before now p q = bit_on-xor before now k ∙ ap₂ xor p q ∙ turns_three f x y (pos z)

pub before_none : (g : Grid) (x y : ℤ) (k : ℕ) → bit_on k 0 ≡ edge (filled_in g) x y ((pos 0 -ℤ pos 1) ∷ [])
before_none g x y k = no_bit k ∙ none_before_z g x y

-- ---- the line that is kept: places below z have row y, the others row y - 1

pub kept_below : (P Q : ℕ → ℕ → Bool) (old : List ℕ) (z now : ℕ) → z < length old → ((k j : ℕ) → k < 32 → j < z → bit_on k (slice_index old j) ≡ P k j) → ((k : ℕ) → k < 32 → bit_on k now ≡ P k z)
    → (k j : ℕ) → k < 32 → j < z + 1 → bit_on k (slice_index (set old z now) j) ≡ P k j
kept_below P Q old z now l h n k j m b =
    ⊎_elim
    (λ (c : j < z). let ne : j ≡ z → ⊥ = λ e. absurd (omega arith) in ap (bit_on k) (get_or-set_other old z j now 0 ne) ∙ h k j m c)
    (λ (c : z ≤ j). let e : j ≡ z = omega arith in ap (λ (i : ℕ). bit_on k (slice_index (set old z now) i)) e ∙ ap (bit_on k) (get_or-set_same old z now 0 l) ∙ n k m ∙ ap (P k) (sym e))
    (cases_lt j z)

pub kept_ahead : (Q : ℕ → ℕ → Bool) (old : List ℕ) (z now d : ℕ) → ((k j : ℕ) → k < 32 → z ≤ j → j < d → bit_on k (slice_index old j) ≡ Q k j) → (k j : ℕ) → k < 32 → z + 1 ≤ j → j < d → bit_on k (slice_index (set old z now) j) ≡ Q k j
kept_ahead Q old z now d h k j m b c = let ne : j ≡ z → ⊥ = λ e. absurd (omega arith) in ap (bit_on k) (get_or-set_other old z j now 0 ne) ∙ h k j m (omega arith) c

-- ---- the words of all lines

abbrev pub lines_of : (List ℤ → Bool) → ℕ → ℕ → List Bool
lines_of f d n = flat_map (λ y. table (d ∷ []) (λ c. f (y ∷ c))) (ints (pos 0) n)

pub lines_none : (f : List ℤ → Bool) (d k : ℕ) (words : List ℕ) → words ≡ [] → map (bit_on k) words ≡ lines_of f d 0
unfolding ints
lines_none f d k words e = ap (map (bit_on k)) e

pub lines_more : (f : List ℤ → Bool) (d k y : ℕ) (words new : List ℕ) → map (bit_on k) words ≡ lines_of f d y → map (bit_on k) new ≡ map (bit_on k) words ++ line_of (λ c. f (pos y ∷ c)) (d + 1) → map (bit_on k) new ≡ lines_of f d (y + 1)
unfolding table
lines_more f d k y words new p e =
    e ∙ ap₂ (λ (s : List Bool) (n : ℕ). s ++ line_of (λ c. f (pos y ∷ c)) n) p (let q : d + 1 ≡ suc d = omega arith in q)
    ∙ sym (flat_map-more (λ y. table (d ∷ []) (λ c. f (y ∷ c))) y)

pub lines_whole : (f : List ℤ → Bool) (d h n : ℕ) (bs : List Bool) → n ≡ h + 1 → bs ≡ lines_of f d n → bs ≡ table (h ∷ d ∷ []) f
unfolding table
lines_whole f d h n bs e b = b ∙ ap (lines_of f d) (let z : n ≡ suc h = omega arith in z)

-- no row before the first, or past the last
pub row_none : (g : Grid) (x : ℤ) (z : ℕ) → false ≡ seam (filled_in g) x ((pos 0 -ℤ pos 1) ∷ pos z ∷ [])
row_none g x z = sym (seam_off_y g x (pos 0 -ℤ pos 1) (pos z ∷ []) refl)

pub row_past : (g : Grid) (x : ℤ) (y z : ℕ) → y ≡ g.height + 1 → seam (filled_in g) x ((pos y -ℤ pos 1) ∷ pos z ∷ []) ≡ false
row_past g x y z e =
    ap (λ (v : ℤ). seam (filled_in g) x (v ∷ pos z ∷ [])) (let q : pos y -ℤ pos 1 ≡ pos g.height = omega (arith, int_facts) in q)
    ∙ seam_off_y g x (pos g.height) (pos z ∷ []) (size_no g.height g.height (omega arith))

pub row_next : (f : List ℤ → Bool) (x : ℤ) (y z : ℕ) (b : Bool) → b ≡ seam f x (pos y ∷ pos z ∷ []) → b ≡ seam f x ((pos (y + 1) -ℤ pos 1) ∷ pos z ∷ [])
row_next f x y z b e = e ∙ ap (λ (v : ℤ). seam f x (v ∷ pos z ∷ [])) (let q : pos y ≡ pos (y + 1) -ℤ pos 1 = omega (arith, int_facts) in q)

-- ---- the rows of one word after the other
pub flat_step : (head : List ℤ) (b : Bool) (z : ℕ) (bs : List Bool) → flat_of (map (λ t. head ++ t) (places (b ∷ bs) z)) ≡ cond b (head ++ pos z ∷ []) [] ++ flat_of (map (λ t. head ++ t) (places bs (z + 1)))
unfolding places
flat_step head true z bs = refl
flat_step head false z bs = refl

pub next_drop : (ws : List ℕ) (z : ℕ) → z < length ws → drop z ws ≡ get_or ws z 0 ∷ drop (z + 1) ws
next_drop ws z l = rw add-one (drop-cons ws z 0 l)

pub line_ends : (head out whole : List ℤ) (k : ℕ) (ws : List ℕ) (z : ℕ) → z ≤ length ws → length ws ≤ z
    → out ++ flat_of (map (λ t. head ++ t) (places (map (bit_on k) (drop z ws)) z)) ≡ whole → out ≡ whole
unfolding places
line_ends head out whole k ws z l m h =
    sym (append-nil out) ∙ ap (λ (t : List ℕ). out ++ flat_of (map (λ r. head ++ r) (places (map (bit_on k) t) z))) (sym (drop_all z ws m)) ∙ h

pub line_step : (head out new whole : List ℤ) (k : ℕ) (ws : List ℕ) (z : ℕ) → z < length ws
    → out ++ flat_of (map (λ t. head ++ t) (places (map (bit_on k) (drop z ws)) z)) ≡ whole
    → new ≡ out ++ cond (bit_on k (get_or ws z 0)) (head ++ pos z ∷ []) []
    → new ++ flat_of (map (λ t. head ++ t) (places (map (bit_on k) (drop (z + 1) ws)) (z + 1))) ≡ whole
line_step head out new whole k ws z l h e =
    ap (λ (t : List ℤ). t ++ flat_of (map (λ r. head ++ r) (places (map (bit_on k) (drop (z + 1) ws)) (z + 1)))) e
    ∙ append_assoc out (cond (bit_on k (get_or ws z 0)) (head ++ pos z ∷ []) []) (flat_of (map (λ r. head ++ r) (places (map (bit_on k) (drop (z + 1) ws)) (z + 1))))
    ∙ ap (λ (t : List ℤ). out ++ t) (sym (flat_step head (bit_on k (get_or ws z 0)) z (map (bit_on k) (drop (z + 1) ws))))
    ∙ ap (λ (t : List ℕ). out ++ flat_of (map (λ r. head ++ r) (places (map (bit_on k) t) z))) (sym (next_drop ws z l))
    ∙ h

pub line_push : (head out new whole : List ℤ) (k word : ℕ) (ws : List ℕ) (z : ℕ) → z < length ws → word ≡ get_or ws z 0
    → out ++ flat_of (map (λ t. head ++ t) (places (map (bit_on k) (drop z ws)) z)) ≡ whole
    → new ≡ out ++ cond (bit_and (word / 2 ^ k) 1 == 1) (head ++ pos z ∷ []) []
    → new ++ flat_of (map (λ t. head ++ t) (places (map (bit_on k) (drop (z + 1) ws)) (z + 1))) ≡ whole
line_push head out new whole k word ws z l w h e =
    line_step head out new whole k ws z l h (e ∙ ap (λ b. out ++ cond b (head ++ pos z ∷ []) []) (bit_one word k ∙ ap (bit_on k) w))

-- ---- the rows of a line
one_place : (g : List ℤ → Bool) (z : ℤ) (b : Bool) → cond b ((z ∷ []) ∷ []) [] ≡ map (λ t. z ∷ t) (cond b ([] ∷ []) [])
one_place g z true = refl
one_place g z false = refl

places-line : (g : List ℤ → Bool) (a n : ℕ) → places (flat_map (λ y. g (y ∷ []) ∷ []) (ints (pos a) n)) a ≡ flat_map (λ z. map (λ t. z ∷ t) (grid [] (λ c. g (z ∷ c)))) (ints (pos a) n)
unfolding places ints listed
places-line g a zero = refl
places-line g a (suc n) = ap₂ (λ (s t : List (List ℤ)). s ++ t) (one_place g (pos a) (g (pos a ∷ []))) (places-line g (a + 1) n)

pub places-table : (g : List ℤ → Bool) (m : ℕ) → places (table (m ∷ []) g) 0 ≡ grid (m ∷ []) g
unfolding table listed
places-table g m = places-line g 0 (suc m)

-- ---- the rows of a plane
length-ints : (a : ℤ) (n : ℕ) → length (ints a n) ≡ n
unfolding ints
length-ints a zero = refl
length-ints a (suc n) = ap suc (length-ints (a +ℤ pos 1) n)

length-singles : (g : ℤ → Bool) (xs : List ℤ) → length (flat_map (λ y. g y ∷ []) xs) ≡ length xs
length-singles g [] = refl
length-singles g (x ∷ xs) = ap suc (length-singles g xs)

length-line : (g : List ℤ → Bool) (d : ℕ) → length (table (d ∷ []) g) ≡ suc d
unfolding table
length-line g d = length-singles (λ y. g (y ∷ [])) (ints (pos 0) (suc d)) ∙ length-ints (pos 0) (suc d)

planes-lines : (g : List ℤ → Bool) (d l n y : ℕ) → l ≡ suc d → planes l n y (flat_map (λ y. table (d ∷ []) (λ c. g (y ∷ c))) (ints (pos y) n)) ≡ flat_map (λ y. map (λ t. y ∷ t) (grid (d ∷ []) (λ c. g (y ∷ c)))) (ints (pos y) n)
unfolding planes ints
planes-lines g d l zero y e = refl
planes-lines g d l (suc n) y e =
    let f : length (table (d ∷ []) (λ c. g (pos y ∷ c))) ≡ l = length-line (λ c. g (pos y ∷ c)) d ∙ sym e in
    ap₂ (λ (s t : List Bool). map (λ r. pos y ∷ r) (places s 0) ++ planes l n (y + 1) t)
    (take_front (table (d ∷ []) (λ c. g (pos y ∷ c))) (flat_map (λ y. table (d ∷ []) (λ c. g (y ∷ c))) (ints (pos (y + 1)) n)) l f)
    (drop_front (table (d ∷ []) (λ c. g (pos y ∷ c))) (flat_map (λ y. table (d ∷ []) (λ c. g (y ∷ c))) (ints (pos (y + 1)) n)) l f)
    ∙ ap₂ (λ (s t : List (List ℤ)). map (λ r. pos y ∷ r) s ++ t) (places-table (λ c. g (pos y ∷ c)) d) (planes-lines g d l n (y + 1) e)
  where
    take_front : (xs ys : List Bool) (m : ℕ) → length xs ≡ m → take m (xs ++ ys) ≡ xs
    take_front xs ys m q = take-append-le m xs ys (omega arith) ∙ take_all m xs (omega arith)

    drop_front : (xs ys : List Bool) (m : ℕ) → length xs ≡ m → drop m (xs ++ ys) ≡ ys
    drop_front xs ys m q = drop-append-le m xs ys (omega arith) ∙ ap (λ (t : List Bool). t ++ ys) (drop_all m xs (omega arith))

pub planes-table : (g : List ℤ → Bool) (d h l n : ℕ) → l ≡ d + 1 → n ≡ h + 1 → planes l n 0 (table (h ∷ d ∷ []) g) ≡ grid (h ∷ d ∷ []) g
unfolding table listed
planes-table g d h l n e f =
    ap (λ (m : ℕ). planes l m 0 (flat_map (λ y. table (d ∷ []) (λ c. g (y ∷ c))) (ints (pos 0) (suc h)))) (let q : n ≡ suc h = omega arith in q)
    ∙ planes-lines g d l (suc h) 0 (omega arith)

-- one line of a plane
map_two : (a b : ℤ) (ps : List (List ℤ)) → map (λ t. a ∷ b ∷ t) ps ≡ map (λ t. a ∷ t) (map (λ t. b ∷ t) ps)
map_two a b [] = refl
map_two a b (p ∷ ps) = ap (λ (t : List (List ℤ)). (a ∷ b ∷ p) ∷ t) (map_two a b ps)

pub plane_step : (x y y' k l n n' : ℕ) (rest front later : List ℕ) (hd out new whole : List ℤ) → n ≡ suc n' → y' ≡ y + 1 → front ≡ take l rest → later ≡ drop l rest
    → out ++ flat_of (map (λ t. pos x ∷ t) (planes l n y (map (bit_on k) rest))) ≡ whole
    → new ≡ out ++ flat_of (map (λ t. hd ++ t) (places (map (bit_on k) front) 0)) → hd ≡ pos x ∷ pos y ∷ []
    → new ++ flat_of (map (λ t. pos x ∷ t) (planes l n' y' (map (bit_on k) later))) ≡ whole
unfolding planes
plane_step x y y' k l n n' rest front later hd out new whole en ey ef el h e q =
    ap (λ (t : List ℤ). t ++ flat_of (map (λ t. pos x ∷ t) (planes l n' y' (map (bit_on k) later)))) (e ∙ ap₂ (λ (u : List ℤ) (v : List ℕ). out ++ flat_of (map (λ t. u ++ t) (places (map (bit_on k) v) 0))) q ef)
    ∙ append_assoc out (flat_of (map (λ t. pos x ∷ pos y ∷ t) (places (map (bit_on k) (take l rest)) 0))) (flat_of (map (λ t. pos x ∷ t) (planes l n' y' (map (bit_on k) later))))
    ∙ ap (λ (t : List ℤ). out ++ t)
    (ap₂ (λ (u v : List ℤ). u ++ v)
    (ap flat_of (map_two (pos x) (pos y) (places (map (bit_on k) (take l rest)) 0) ∙ ap (λ (bs : List Bool). map (λ t. pos x ∷ t) (map (λ t. pos y ∷ t) (places bs 0))) (sym (take-map (bit_on k) l rest))))
    (ap₂ (λ (j : ℕ) (bs : List Bool). flat_of (map (λ t. pos x ∷ t) (planes l n' j bs))) ey (ap (map (bit_on k)) el ∙ sym (drop-map (bit_on k) l rest)))
    ∙ sym (flat_of-append (map (λ t. pos x ∷ t) (map (λ t. pos y ∷ t) (places (take l (map (bit_on k) rest)) 0))) (map (λ t. pos x ∷ t) (planes l n' (y + 1) (drop l (map (bit_on k) rest)))))
    ∙ ap flat_of (sym (map-append (λ t. pos x ∷ t) (map (λ t. pos y ∷ t) (places (take l (map (bit_on k) rest)) 0)) (planes l n' (y + 1) (drop l (map (bit_on k) rest))))))
    ∙ ap (λ (m : ℕ). out ++ flat_of (map (λ t. pos x ∷ t) (planes l m y (map (bit_on k) rest)))) (sym en)
    ∙ h

pub plane_ends : (x y k l n : ℕ) (rest : List ℕ) (out whole : List ℤ) → n ≡ 0 → out ++ flat_of (map (λ t. pos x ∷ t) (planes l n y (map (bit_on k) rest))) ≡ whole → out ≡ whole
unfolding planes
plane_ends x y k l n rest out whole e h = sym (append-nil out) ∙ ap (λ (m : ℕ). out ++ flat_of (map (λ t. pos x ∷ t) (planes l m y (map (bit_on k) rest)))) (sym e) ∙ h

pub planes_are : (h d l n k : ℕ) (g : List ℤ → Bool) (words words' : List ℕ) → words' ≡ words → map (bit_on k) words ≡ table (h ∷ d ∷ []) g → l ≡ d + 1 → n ≡ h + 1 → planes l n 0 (map (bit_on k) words') ≡ grid (h ∷ d ∷ []) g
planes_are h d l n k g words words' v b i j = ap (planes l n 0) (ap (map (bit_on k)) v ∙ b) ∙ planes-table g d h l n i j

length-lines : (g : List ℤ → Bool) (d : ℕ) (xs : List ℤ) → length (flat_map (λ y. table (d ∷ []) (λ c. g (y ∷ c))) xs) ≡ length xs * suc d
length-lines g d [] = omega arith
length-lines g d (x ∷ xs) =
    length-append (table (d ∷ []) (λ c. g (x ∷ c))) (flat_map (λ y. table (d ∷ []) (λ c. g (y ∷ c))) xs)
    ∙ ap₂ (λ (a b : ℕ). a + b) (length-line (λ c. g (x ∷ c)) d) (length-lines g d xs)
    ∙ (let q : suc (length xs) * suc d ≡ length xs * suc d + suc d = suc-mul (length xs) (suc d) in let r : suc d + length xs * suc d ≡ suc (length xs) * suc d = omega arith in r)

pub length-words : (h d l n k : ℕ) (g : List ℤ → Bool) (words words' : List ℕ) → words' ≡ words → map (bit_on k) words ≡ table (h ∷ d ∷ []) g → l ≡ d + 1 → n ≡ h + 1 → length words' ≡ n * l
unfolding table
length-words h d l n k g words words' v b i j =
    ap (λ (t : List ℕ). length t) v
    ∙ sym (length-map words (bit_on k)) ∙ ap (λ (t : List Bool). length t) b
    ∙ length-lines g d (ints (pos 0) (suc h))
    ∙ ap (λ (m : ℕ). m * suc d) (length-ints (pos 0) (suc h))
    ∙ ap₂ (λ (a b : ℕ). a * b) (let q : suc h ≡ n = omega arith in q) (let q : suc d ≡ l = omega arith in q)

pub one_less_line : (n l : ℕ) (a b : ℕ) → 0 < n → a ≡ n * l → b + l ≡ a → b ≡ (n - 1) * l
one_less_line zero l a b h e q = absurd (omega arith)
one_less_line (suc n) l a b h e q = let f : suc n * l ≡ n * l + l = suc-mul n l in let g : suc n - 1 ≡ n = omega arith in (let r : b ≡ n * l = omega arith in r) ∙ ap (λ (m : ℕ). m * l) (sym g)

-- ---- columns

pub columns_none : (ms : List ℕ) (f : List ℤ → Bool) (out : List ℤ) → out ≡ [] → out ≡ columns ms f 0
unfolding columns ints
columns_none ms f out e = e

pub columns_more : (ms : List ℕ) (f : List ℤ → Bool) (n n' x : ℕ) (rows : List (List ℤ)) (out new : List ℤ) → x ≡ n → n' ≡ n + 1 → out ≡ columns ms f n
    → new ≡ out ++ flat_of (map (λ t. pos x ∷ t) rows) → rows ≡ grid ms (λ c. f (pos x ∷ c)) → new ≡ columns ms f n'
unfolding columns
columns_more ms f n n' x rows out new i j h e r =
    let layer : ℤ → List (List ℤ) = λ x. map (λ t. x ∷ t) (grid ms (λ c. f (x ∷ c))) in
    e
    ∙ ap₂ (λ (s : List ℤ) (t : List (List ℤ)). s ++ flat_of (map (λ r. pos x ∷ r) t)) h r
    ∙ sym (flat_of-append (flat_map layer (ints (pos 0) n)) (layer (pos x)))
    ∙ ap (λ (k : ℕ). flat_of (flat_map layer (ints (pos 0) n) ++ layer (pos k))) i
    ∙ ap flat_of (sym (flat_map-more layer n))
    ∙ ap (λ (k : ℕ). flat_of (flat_map layer (ints (pos 0) k))) (sym j)

pub columns_all : (g : Grid) (n : ℕ) (out : List ℤ) → n ≡ g.width + 1 → out ≡ columns (g.height ∷ g.depth ∷ []) (turns (filled_in g)) n
    → out ≡ [] ++ flat_of (map (λ t. [] ++ t) (grid (g.width ∷ g.height ∷ g.depth ∷ []) (turns (filled_in g))))
unfolding columns listed
columns_all g n out e h =
    h ∙ ap (λ (k : ℕ). columns (g.height ∷ g.depth ∷ []) (turns (filled_in g)) k) (let q : n ≡ suc g.width = omega arith in q)
    ∙ ap flat_of (sym (no_heads (grid (g.width ∷ g.height ∷ g.depth ∷ []) (turns (filled_in g)))))

pub clear_line : (k z n : ℕ) (line : List ℕ) → line ≡ replicate n 0 → z < n → bit_on k (slice_index line z) ≡ false
clear_line k z n line e l = ap (λ (xs : List ℕ). bit_on k (slice_index xs z)) e ∙ ap (bit_on k) (get_or-replicate n z 0 0 l) ∙ no_bit k

-- ---- one image, whose rows are the images of a grid of height 1

table_parts : (h d : ℕ) (g : List ℤ → Bool) → table (h ∷ d ∷ []) g ≡ table (d ∷ []) (λ c. g (pos 0 ∷ c)) ++ flat_map (λ y. table (d ∷ []) (λ c. g (y ∷ c))) (ints (pos 1) h)
unfolding table ints
table_parts h d g = refl

-- the first of the lines of words
pub first_line : (k h d : ℕ) (g : List ℤ → Bool) (words front : List ℕ) → front ≡ take (d + 1) words → map (bit_on k) words ≡ table (h ∷ d ∷ []) g → map (bit_on k) front ≡ table (d ∷ []) (λ c. g (pos 0 ∷ c))
first_line k h d g words front e b =
    let line : List Bool = table (d ∷ []) (λ c. g (pos 0 ∷ c)) in
    let later : List Bool = flat_map (λ y. table (d ∷ []) (λ c. g (y ∷ c))) (ints (pos 1) h) in
    let long : length line ≡ suc d = length-line (λ c. g (pos 0 ∷ c)) d in
    ap (map (bit_on k)) e ∙ sym (take-map (bit_on k) (d + 1) words) ∙ ap (take (d + 1)) (b ∙ table_parts h d g)
    ∙ take-append-le (d + 1) line later (omega arith) ∙ take_all (d + 1) line (omega arith)

pub two_lines : (h l : ℕ) → h ≡ 1 → l ≤ (h + 1) * l
two_lines h l e = rw e (omega arith)

-- the rows of a column of the image
pub column_are : (g : Grid) (x k : ℕ) (words : List ℕ) → g.height ≡ 1 → map (bit_on k) words ≡ table (g.depth ∷ []) (λ c. turns (filled_in g) (pos x ∷ pos 0 ∷ c))
    → places (map (bit_on k) words) 0 ≡ grid (g.depth ∷ []) (λ c. turns (filled_flat g) (pos x ∷ c))
column_are g x k words one b =
    ap (λ (bs : List Bool). places bs 0) b ∙ places-table (λ c. turns (filled_in g) (pos x ∷ pos 0 ∷ c)) g.depth ∙ flat_line g (pos x) one

pub image_columns_all : (g : Grid) (n : ℕ) (out : List ℤ) → n ≡ g.width + 1 → out ≡ columns (g.depth ∷ []) (turns (filled_flat g)) n
    → out ≡ [] ++ flat_of (map (λ t. [] ++ t) (grid (g.width ∷ g.depth ∷ []) (turns (filled_flat g))))
unfolding columns listed
image_columns_all g n out e h =
    h ∙ ap (λ (k : ℕ). columns (g.depth ∷ []) (turns (filled_flat g)) k) (let q : n ≡ suc g.width = omega arith in q)
    ∙ ap flat_of (sym (no_heads (grid (g.width ∷ g.depth ∷ []) (turns (filled_flat g)))))
