-- How a row is moved in a flat list.
use Rattle.std.proofs.Common.{◌≡◌, ℕ, zero, suc, ◌+◌, ◌-◌, ◌<◌, ◌≤◌, true, List, [], ◌∷◌, ◌++◌, length, take, drop, get_or, set, map, ℤ, pos, neg_ℤ, ◌-ℤ◌, refl, sym, ap, ap₂, ◌∙◌, arith, add-one, append_assoc, append-nil, FitsSigned, w32, length-append}
use Rattle.std.specs.Prelude.{swap}
use Rattle.std.proofs.lemmas.Int.{ints as int_facts}
use Rattle.std.proofs.lemmas.List.{take_rest, get_or-append-add, set-append_right}
use Rattle.std.proofs.lemmas.List.Edits.{swap_is}
use Rattle.evm_cells.specs.Places.{without, with_at}
use Rattle.evm_cells.specs.Limits.{is_point, is_point_coord}
use Rattle.evm_cells.specs.Shapes.{negated, fronted}
use Rattle.evm_cells.proofs.Coords.{point_is, limit-small}
use Rattle.evm_cells.proofs.Universe.{point_parts}
use Rattle.evm_cells.proofs.Slices.{all-coord}
use Rattle.evm_rows.specs.Rows.{flat_of}

pub fits_negated : (n i : ℕ) (row : List ℤ) → is_point n row ≡ true → i < n → FitsSigned w32 (pos 0 -ℤ get_or row i (pos 0))
fits_negated n i row h l =
    let (e, a) = point_parts n row h in
    let (u, v) = point_is n (get_or row i (pos 0)) (all-coord (is_point_coord n) i row (omega arith) a) in
    let m = limit-small n in
    grind (arith, int_facts)

negated_parts : (i : ℕ) (row : List ℤ) → i < length row → negated i row ≡ take i row ++ (neg_ℤ (get_or row i (pos 0)) ∷ drop (suc i) row)
unfolding negated
negated_parts i [] l = absurd (omega arith)
negated_parts zero (x ∷ row) l = refl
negated_parts (suc i) (x ∷ row) l = ap (λ z. x ∷ z) (negated_parts i row (omega arith))

pub without_parts : (i : ℕ) (row : List ℤ) → without i row ≡ take i row ++ drop (suc i) row
unfolding without
without_parts zero [] = refl
without_parts (suc i) [] = refl
without_parts zero (x ∷ row) = refl
without_parts (suc i) (x ∷ row) = ap (λ z. x ∷ z) (without_parts i row)

pub with_at_parts : (i : ℕ) (k : ℤ) (row : List ℤ) → i ≤ length row → with_at i k row ≡ take i row ++ (k ∷ drop i row)
unfolding with_at
with_at_parts zero k row l = refl
with_at_parts (suc i) k [] l = absurd (omega arith)
with_at_parts (suc i) k (x ∷ row) l = ap (λ z. x ∷ z) (with_at_parts i k row (omega arith))

-- the moved row stands at the end of the list
pub mirror_done : (out one two three row : List ℤ) (i : ℕ) (y : ℤ) → i < length row → y ≡ pos 0 -ℤ get_or row i (pos 0) → one ≡ out ++ take i row → two ≡ one ++ y ∷ [] → three ≡ two ++ take (length row - (i + 1)) (drop (i + 1) row) → three ≡ out ++ negated i row
mirror_done out one two three row i y l e a b c =
    c
    ∙ ap₂ (λ (u v : List ℤ). u ++ v) (b ∙ ap (λ (u : List ℤ). u ++ y ∷ []) a) (take_rest row (i + 1))
    ∙ append_assoc (out ++ take i row) (y ∷ []) (drop (i + 1) row)
    ∙ append_assoc out (take i row) (y ∷ drop (i + 1) row)
    ∙ ap (λ (u : List ℤ). out ++ u)
    (ap₂ (λ (z : ℤ) (k : ℕ). take i row ++ (z ∷ drop k row)) (let x : ℤ = get_or row i (pos 0) in let f : y ≡ neg_ℤ x = omega (arith, int_facts) in f) (add-one i) ∙ sym (negated_parts i row l))

pub front_done : (out one two three row : List ℤ) (i : ℕ) (x : ℤ) → x ≡ get_or row i (pos 0) → one ≡ out ++ x ∷ [] → two ≡ one ++ take i row → three ≡ two ++ take (length row - (i + 1)) (drop (i + 1) row) → three ≡ out ++ fronted i row
unfolding fronted
front_done out one two three row i x e a b c =
    c
    ∙ ap₂ (λ (u v : List ℤ). u ++ v) (b ∙ ap (λ (u : List ℤ). u ++ take i row) a) (take_rest row (i + 1))
    ∙ append_assoc (out ++ x ∷ []) (take i row) (drop (i + 1) row)
    ∙ append_assoc out (x ∷ []) (take i row ++ drop (i + 1) row)
    ∙ ap (λ (u : List ℤ). out ++ u)
    (ap₂ (λ (y : ℤ) (k : ℕ). y ∷ (take i row ++ drop k row)) e (add-one i) ∙ ap (λ (u : List ℤ). get_or row i (pos 0) ∷ u) (sym (without_parts i row)))

pub raise_done : (out one two three row : List ℤ) (i : ℕ) (k : ℤ) → i ≤ length row → one ≡ out ++ take i row → two ≡ one ++ k ∷ [] → three ≡ two ++ take (length row - i) (drop i row) → three ≡ out ++ with_at i k row
raise_done out one two three row i k l a b c =
    c
    ∙ ap₂ (λ (u v : List ℤ). u ++ v) (b ∙ ap (λ (u : List ℤ). u ++ k ∷ []) a) (take_rest row i)
    ∙ append_assoc (out ++ take i row) (k ∷ []) (drop i row)
    ∙ append_assoc out (take i row) (k ∷ drop i row)
    ∙ ap (λ (u : List ℤ). out ++ u) (sym (with_at_parts i k row l))

-- an exchange in the part that was appended
pub swap_done : (out row : List ℤ) (i j : ℕ) → i < length row → j < length row → swap (out ++ row) (length out + i) (length out + j) ≡ out ++ swap row i j
swap_done out row i j a b =
    let n = length-append out row in
    let x : ℤ = get_or row i (pos 0) in
    let y : ℤ = get_or row j (pos 0) in
    let u : get_or (out ++ row) (length out + i) (pos 0) ≡ x = get_or-append-add out row i (pos 0) in
    let v : get_or (out ++ row) (length out + j) (pos 0) ≡ y = get_or-append-add out row j (pos 0) in
    let s : set (out ++ row) (length out + i) y ≡ out ++ set row i y =
    set-append_right out row (length out) (length out + i) y refl (omega arith) ∙ ap (λ (k : ℕ). out ++ set row k y) (let e : length out + i - length out ≡ i = omega arith in e) in
    let t : set (out ++ set row i y) (length out + j) x ≡ out ++ set (set row i y) j x =
    set-append_right out (set row i y) (length out) (length out + j) x refl (omega arith) ∙ ap (λ (k : ℕ). out ++ set (set row i y) k x) (let e : length out + j - length out ≡ j = omega arith in e) in
    sym (swap_is (out ++ row) (length out + i) (length out + j) (pos 0) (omega arith) (omega arith))
    ∙ ap₂ (λ (p q : ℤ). set (set (out ++ row) (length out + i) p) (length out + j) q) v u
    ∙ ap (λ (z : List ℤ). set z (length out + j) x) s ∙ t
    ∙ ap (λ (z : List ℤ). out ++ z) (swap_is row i j (pos 0) a b)

-- no row is left to move
pub all_done : (f : List ℤ → List ℤ) (out all : List ℤ) (R : List (List ℤ)) → R ≡ [] → out ++ flat_of (map f R) ≡ all → out ≡ all
all_done f out all R e h = sym (append-nil out) ∙ ap (λ (z : List (List ℤ)). out ++ flat_of (map f z)) (sym e) ∙ h
