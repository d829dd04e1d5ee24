-- The couplets of a vertex list are those of its cells
use Rattle.std.proofs.Common.{◌≡◌, ℕ, suc, ◌+◌, Bool, true, false, not, cond, ◌&&◌, ◌||◌, List, [], ◌∷◌, ◌++◌, map, filter, get_or, ℤ, pos, ◌<ℤ◌, ◌≤ℤ◌, refl, sym, ap, ap₂, ◌∙◌, subst, arith, int_lt, int_eq, append-nil, ⊎_elim}
use Rattle.std.specs.List.{list_any, list_all, AllByRecursion}
use Rattle.std.proofs.lemmas.Bool.{cases_Bool}
use Rattle.std.proofs.lemmas.Int.{ints as int_facts}
use Rattle.evm_cells.specs.Places.{is_empty, without}
use Rattle.evm_cells.specs.Limits.{is_point, is_point_coord, point_coords}
use Rattle.evm_cells.specs.Vertices.{evm, cells, IsVertexList}
use Rattle.evm_cells.specs.Sections.{couplet, cuts, rows_at}
use Rattle.evm_cells.proofs.Xor.{and_first, and_second, and_both}
use Rattle.evm_cells.proofs.Order.{rising, rising-filter, any-filter, same_lists}
use Rattle.evm_cells.proofs.Lists.{all_weaker}
use Rattle.evm_cells.proofs.Coords.{strict_ints, eq_is, eq_yes, eq_no, lt_is, lt_yes, rising-point_coords, any-point_coords}
use Rattle.evm_cells.proofs.Universe.{absorb, point_parts, cell_set-cells}
use Rattle.evm_cells.proofs.Core.{evm-cells, vertices-evm}
use Rattle.evm_cells.proofs.Slices.{cell_set-couplet}
use Rattle.evm_cells.proofs.Layers.{rows-evm, cuts_are}
use Rattle.evm_rows.proofs.Bridge.{ascends_from, wide-points}
use Rattle.evm_sections.specs.Couplets.{couplets_of, couplets_in, put_row, rise, rise_above, joined, AllVertices}
use Rattle.evm_sections.proofs.Rising.{joined-couplets_of, couplets_of-rise}

-- the couplet of the height h, empty where there is none
abbrev pub couplet_at : ℤ → List (ℤ × List (List ℤ)) → List (List ℤ)
couplet_at h [] = []
couplet_at h ((k, c) ∷ cs) = cond (int_eq k h) c (couplet_at h cs)

abbrev pub heights : List (ℤ × List (List ℤ)) → List ℤ
heights [] = []
heights ((h, c) ∷ cs) = h ∷ heights cs

-- ---- the rows at a height

pub rows_at-append : (h : ℤ) (V W : List (List ℤ)) → rows_at 0 h (V ++ W) ≡ rows_at 0 h V ++ rows_at 0 h W
unfolding rows_at
rows_at-append h [] W = refl
rows_at-append h (p ∷ V) W = at (int_eq (get_or p 0 (pos 0)) h) refl (rows_at-append h V W)
  where
    at : (b : Bool) → int_eq (get_or p 0 (pos 0)) h ≡ b → rows_at 0 h (V ++ W) ≡ rows_at 0 h V ++ rows_at 0 h W → rows_at 0 h (p ∷ (V ++ W)) ≡ rows_at 0 h (p ∷ V) ++ rows_at 0 h W
    at true e r = rw e (ap (λ zs. without 0 p ∷ zs) r)
    at false e r = rw e r

pub rows_at-yes : (h k : ℤ) (c : List (List ℤ)) → int_eq k h ≡ true → rows_at 0 h (map (λ r. k ∷ r) c) ≡ c
unfolding rows_at without
rows_at-yes h k [] e = refl
rows_at-yes h k (r ∷ c) e = rw e (ap (λ zs. r ∷ zs) (rows_at-yes h k c e))

pub rows_at-no : (h k : ℤ) (c : List (List ℤ)) → int_eq k h ≡ false → rows_at 0 h (map (λ r. k ∷ r) c) ≡ []
unfolding rows_at
rows_at-no h k [] e = refl
rows_at-no h k (r ∷ c) e = rw e (rows_at-no h k c e)

pub rows_at-none : (h : ℤ) → rows_at 0 h [] ≡ []
unfolding rows_at
rows_at-none h = refl

pub rise-later : (k : ℤ) (c : List (List ℤ)) (cs : List (ℤ × List (List ℤ))) → rise ((k, c) ∷ cs) ≡ true → rise cs ≡ true
rise-later k c [] e = refl
rise-later k c ((h, d) ∷ cs) e = and_second (int_lt k h) (rise_above h cs) e

pub couplet_at-high : (low h : ℤ) (cs : List (ℤ × List (List ℤ))) → rise_above low cs ≡ true → h ≤ℤ low → couplet_at h cs ≡ []
couplet_at-high low h [] e l = refl
couplet_at-high low h ((k, c) ∷ cs) e l =
    let m : low <ℤ k = lt_is low k (and_first (int_lt low k) (rise_above k cs) e) in
    rw (eq_no k h (λ q. omega (arith, int_facts))) (couplet_at-high k h cs (and_second (int_lt low k) (rise_above k cs) e) (omega (arith, int_facts)))

rows_at-high : (low h : ℤ) (cs : List (ℤ × List (List ℤ))) → rise_above low cs ≡ true → h ≤ℤ low → rows_at 0 h (joined cs) ≡ []
rows_at-high low h [] e l = rows_at-none h
rows_at-high low h ((k, c) ∷ cs) e l =
    let m : low <ℤ k = lt_is low k (and_first (int_lt low k) (rise_above k cs) e) in
    rows_at-append h (map (λ r. k ∷ r) c) (joined cs)
    ∙ ap (λ zs. zs ++ rows_at 0 h (joined cs)) (rows_at-no h k c (eq_no k h (λ q. omega (arith, int_facts))))
    ∙ rows_at-high k h cs (and_second (int_lt low k) (rise_above k cs) e) (omega (arith, int_facts))

pub rows_at-joined : (h : ℤ) (cs : List (ℤ × List (List ℤ))) → rise cs ≡ true → rows_at 0 h (joined cs) ≡ couplet_at h cs
rows_at-joined h [] e = rows_at-none h
rows_at-joined h ((k, c) ∷ cs) e =
    rows_at-append h (map (λ r. k ∷ r) c) (joined cs) ∙ at (int_eq k h) refl (rows_at-joined h cs (rise-later k c cs e))
  where
    at : (b : Bool) → int_eq k h ≡ b → rows_at 0 h (joined cs) ≡ couplet_at h cs → rows_at 0 h (map (λ r. k ∷ r) c) ++ rows_at 0 h (joined cs) ≡ cond (int_eq k h) c (couplet_at h cs)
    at true q r =
        rw (q, rows_at-yes h k c q, rows_at-high k h cs e (let s : k ≡ h = eq_is k h q in omega (arith, int_facts))) (append-nil c)
    at false q r = rw (q, rows_at-no h k c q) r

-- ---- heights

pub heights-above : (low : ℤ) (cs : List (ℤ × List (List ℤ))) → rise_above low cs ≡ true → list_all (int_lt low) (heights cs) ≡ true
heights-above low [] e = refl
heights-above low ((k, c) ∷ cs) e =
    let m : int_lt low k ≡ true = and_first (int_lt low k) (rise_above k cs) e in
    let up : rise_above k cs ≡ true = and_second (int_lt low k) (rise_above k cs) e in
    and_both (int_lt low k) (list_all (int_lt low) (heights cs)) m
    (all_weaker (int_lt k) (int_lt low) (λ x l. let a : low <ℤ k = lt_is low k m in let b : k <ℤ x = lt_is k x l in lt_yes low x (omega (arith, int_facts))) (heights cs) (heights-above k cs up))

rising-heights : (cs : List (ℤ × List (List ℤ))) → rise cs ≡ true → rising int_lt (heights cs) ≡ true
unfolding rising
rising-heights [] e = refl
rising-heights ((k, c) ∷ cs) e = and_both (list_all (int_lt k) (heights cs)) (rising int_lt (heights cs)) (heights-above k cs e) (rising-heights cs (rise-later k c cs e))

-- each couplet has a row
abbrev Full : List (ℤ × List (List ℤ)) → Type 0
Full = AllByRecursion (λ p. is_empty p.1 ≡ false)

full-put : (h : ℤ) (r : List ℤ) (cs : List (ℤ × List (List ℤ))) → Full cs → Full (put_row h r cs)
unfolding is_empty
full-put h r [] f = (refl, tt)
full-put h r ((k, c) ∷ cs) f = ⊎_elim (λ (t : int_eq h k ≡ true). rw t (refl, f.1)) (λ (t : int_eq h k ≡ false). rw t (refl, f)) (cases_Bool (int_eq h k))

full-couplets_of : (rs : List (List ℤ)) → Full (couplets_of rs)
unfolding couplets_of
full-couplets_of [] = tt
full-couplets_of ([] ∷ rs) = full-couplets_of rs
full-couplets_of ((h ∷ r) ∷ rs) = full-put h r (couplets_of rs) (full-couplets_of rs)

-- the heights are the places at which a couplet is
any-heights : (h : ℤ) (cs : List (ℤ × List (List ℤ))) → Full cs → list_any (int_eq h) (heights cs) ≡ not (is_empty (couplet_at h cs))
unfolding is_empty
any-heights h [] f = refl
any-heights h ((k, c) ∷ cs) f = at (int_eq k h) refl (any-heights h cs f.1)
  where
    at : (b : Bool) → int_eq k h ≡ b → list_any (int_eq h) (heights cs) ≡ not (is_empty (couplet_at h cs)) → (int_eq h k || list_any (int_eq h) (heights cs)) ≡ not (is_empty (cond (int_eq k h) c (couplet_at h cs)))
    at true q r = rw (q, eq_yes h k (sym (eq_is k h q)), f.0) refl
    at false q r = rw (q, eq_no h k (λ e. let bad : false ≡ true = sym q ∙ eq_yes k h (sym e) in cc)) r

first-points : (n : ℕ) (p : ℤ → Bool) (h : ℤ) (r : List ℤ) (cs : List (ℤ × List (List ℤ))) → p h ≡ true → list_all p (heights cs) ≡ true → list_all p (heights (put_row h r cs)) ≡ true
first-points n p h r [] e a = and_both (p h) true e refl
first-points n p h r ((k, c) ∷ cs) e a = ⊎_elim
    (λ (t : int_eq h k ≡ true). rw t (and_both (p h) (list_all p (heights cs)) e (and_second (p k) (list_all p (heights cs)) a)))
    (λ (t : int_eq h k ≡ false). rw t (and_both (p h) (p k && list_all p (heights cs)) e a))
    (cases_Bool (int_eq h k))

pub points-heights : (n : ℕ) (V : List (List ℤ)) → list_all (is_point n) V ≡ true → list_all (is_point_coord n) (heights (couplets_of V)) ≡ true
unfolding couplets_of
points-heights n [] a = refl
points-heights n ([] ∷ V) a = points-heights n V (and_second (is_point n []) (list_all (is_point n) V) a)
points-heights n ((h ∷ r) ∷ V) a =
    let (e, b) = point_parts n (h ∷ r) (and_first (is_point n (h ∷ r)) (list_all (is_point n) V) a) in
    first-points n (is_point_coord n) h r (couplets_of V) (and_first (is_point_coord n h) (list_all (is_point_coord n) r) b) (points-heights n V (and_second (is_point n (h ∷ r)) (list_all (is_point n) V) a))

map_on : {X Y : Type 0} (p : X → Bool) (f g : X → Y) (xs : List X) → list_all p xs ≡ true → ((x : X) → p x ≡ true → f x ≡ g x) → map f xs ≡ map g xs
map_on p f g [] a e = refl
map_on p f g (x ∷ xs) a e = ap₂ (λ y ys. y ∷ ys) (e x (and_first (p x) (list_all p xs) a)) (map_on p f g xs (and_second (p x) (list_all p xs) a) e)

-- couplets by their heights
by_heights : (cs : List (ℤ × List (List ℤ))) → rise cs ≡ true → map (λ h. (h, couplet_at h cs)) (heights cs) ≡ cs
by_heights [] e = refl
by_heights ((k, c) ∷ cs) e =
    ap₂ (λ (b : Bool) (zs : List (ℤ × List (List ℤ))). (k, cond b c (couplet_at k cs)) ∷ zs) (eq_yes k k refl)
    (map_on (int_lt k) (λ h. (h, cond (int_eq k h) c (couplet_at h cs))) (λ h. (h, couplet_at h cs)) (heights cs) (heights-above k cs e)
    (λ h l. let m : k <ℤ h = lt_is k h l in ap (λ b. (h, cond b c (couplet_at h cs))) (eq_no k h (λ q. omega (arith, int_facts))))
    ∙ by_heights cs (rise-later k c cs e))

heights_are : (xs : List ℤ) (cs : List (ℤ × List (List ℤ))) → rising int_lt xs ≡ true → rise cs ≡ true → Full cs → ((h : ℤ) → list_any (int_eq h) (heights cs) ≡ true → list_any (int_eq h) xs ≡ true)
    → filter (λ h. not (is_empty (couplet_at h cs))) xs ≡ heights cs
heights_are xs cs a e f g =
    same_lists int_eq int_lt strict_ints (filter (λ h. not (is_empty (couplet_at h cs))) xs) (heights cs)
    (rising-filter int_eq int_lt strict_ints (λ h. not (is_empty (couplet_at h cs))) xs a) (rising-heights cs e)
    (λ h. any-filter int_eq int_lt strict_ints (λ k. not (is_empty (couplet_at k cs))) h xs
    ∙ ap (λ b. list_any (int_eq h) xs && b) (sym (any-heights h cs f))
    ∙ absorb (list_any (int_eq h) xs) (list_any (int_eq h) (heights cs)) (g h))

any_passes : (p : ℤ → Bool) (h : ℤ) (xs : List ℤ) → list_all p xs ≡ true → list_any (int_eq h) xs ≡ true → p h ≡ true
any_passes p h [] a m = cc
any_passes p h (x ∷ xs) a m = ⊎_elim
    (λ (t : int_eq h x ≡ true). ap p (eq_is h x t) ∙ and_first (p x) (list_all p xs) a)
    (λ (t : int_eq h x ≡ false). any_passes p h xs (and_second (p x) (list_all p xs) a) (rw t at m))
    (cases_Bool (int_eq h x))

pub couplets_rise : (n : ℕ) (V : List (List ℤ)) → IsVertexList n V → rise (couplets_of V) ≡ true
couplets_rise n V v = couplets_of-rise V (ascends_from V v.ascends)

-- at each height stands the couplet of the cells
pub couplet_at-is : (n : ℕ) (V : List (List ℤ)) (h : ℤ) → IsVertexList (suc n) V → couplet_at h (couplets_of V) ≡ evm n (couplet n 0 h (cells (suc n) V))
couplet_at-is n V h v =
    sym (rows_at-joined h (couplets_of V) (couplets_rise (suc n) V v))
    ∙ ap (rows_at 0 h) (joined-couplets_of (suc n) V (omega arith) (wide-points (suc n) V v.points) ∙ sym (evm-cells (suc n) V v))
    ∙ rows-evm n 0 h (cells (suc n) V) (cell_set-cells (suc n) V) (omega arith)

pub cuts-heights : (n : ℕ) (V : List (List ℤ)) → IsVertexList (suc n) V → cuts n 0 (cells (suc n) V) ≡ heights (couplets_of V)
cuts-heights n V v =
    let S : List (List ℤ) = cells (suc n) V in
    let cs : List (ℤ × List (List ℤ)) = couplets_of V in
    cuts_are n 0 S (cell_set-cells (suc n) V) (omega arith)
    ∙ ap (λ t. filter t (point_coords (suc n)))
    (λ i h. not (is_empty ((rows-evm n 0 h S (cell_set-cells (suc n) V) (omega arith) ∙ sym (couplet_at-is n V h v)) i)))
    ∙ heights_are (point_coords (suc n)) cs (rising-point_coords (suc n)) (couplets_rise (suc n) V v) (full-couplets_of V)
    (λ h m. any-point_coords (suc n) h ∙ any_passes (is_point_coord (suc n)) h (heights cs) (points-heights (suc n) V v.points) m)

-- the couplets of a vertex list are those of the cuts of its cells
pub couplets_are : (n : ℕ) (V : List (List ℤ)) → IsVertexList (suc n) V → couplets_of V ≡ couplets_in n (cells (suc n) V)
unfolding couplets_in
couplets_are n V v =
    let S : List (List ℤ) = cells (suc n) V in
    sym (by_heights (couplets_of V) (couplets_rise (suc n) V v))
    ∙ ap (λ hs. map (λ h. (h, couplet_at h (couplets_of V))) hs) (sym (cuts-heights n V v))
    ∙ ap (λ (f : ℤ → ℤ × List (List ℤ)). map f (cuts n 0 S)) (λ i h. (h, couplet_at-is n V h v i))

all-map_by : (n : ℕ) (F : ℤ → List (List ℤ)) (hs : List ℤ) → ((h : ℤ) → IsVertexList n (F h)) → AllVertices n (map (λ h. (h, F h)) hs)
all-map_by n F [] e = tt
all-map_by n F (h ∷ hs) e = (e h, all-map_by n F hs e)

-- and so each is a vertex list
pub couplets-vertices : (n : ℕ) (V : List (List ℤ)) → IsVertexList (suc n) V → AllVertices n (couplets_of V)
unfolding couplets_in
couplets-vertices n V v =
    let S : List (List ℤ) = cells (suc n) V in
    let P : List (ℤ × List (List ℤ)) → Type 0 = λ cs. AllVertices n cs in
    subst P (sym (couplets_are n V v)) (all-map_by n (λ h. evm n (couplet n 0 h S)) (cuts n 0 S) (λ h. vertices-evm n (couplet n 0 h S) (cell_set-couplet n 0 h S)))

pub couplets_are_at : (m n : ℕ) (V : List (List ℤ)) → n + 1 ≡ m → IsVertexList m V → couplets_of V ≡ couplets_in n (cells m V)
couplets_are_at m n V e v =
    let q : m ≡ suc n = omega arith in
    let w : IsVertexList (suc n) V = rw (← q) v in
    couplets_are n V w ∙ ap (λ k. couplets_in n (cells k V)) (sym q)

pub couplets-vertices_at : (m n : ℕ) (V : List (List ℤ)) → n + 1 ≡ m → IsVertexList m V → AllVertices n (couplets_of V)
couplets-vertices_at m n V e v =
    let q : m ≡ suc n = omega arith in
    let w : IsVertexList (suc n) V = rw (← q) v in
    couplets-vertices n V w
