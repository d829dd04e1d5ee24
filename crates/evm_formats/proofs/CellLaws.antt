-- The cells of images behind other images.
use Rattle.std.proofs.Common.{◌≡◌, ℕ, suc, map, ◌+◌, ◌-◌, ◌*◌, ◌≤◌, ◌<◌, nat_le, Bool, true, false, ◌&&◌, ◌||◌, List, [], ◌∷◌, ◌++◌, length, get_or, ℤ, pos, negsuc, ◌-ℤ◌, ◌<ℤ◌, ◌≤ℤ◌, int_le, int_lt, refl, sym, ap, ap₂, ◌∙◌, arith, ⊎_elim, length-append}
use Rattle.std.proofs.lemmas.Bool.{cases_lt}
use Rattle.std.proofs.lemmas.Int.{ints as int_facts}
use Rattle.std.proofs.lemmas.List.{get_or_append_left, get_or-append_right}
use Rattle.evm_cells.specs.Limits.{cells_where}
use Rattle.evm_cells.proofs.Coords.{le_yes, lt_yes, le_is, lt_is}
use Rattle.evm_cells.proofs.Order.{refuted}
use Rattle.evm_cells.proofs.Xor.{and_second}
use Rattle.evm_formats.specs.Images.{Picture, sample, no_picture, at_least, nat_of, in_sizes, within, in_stack}
use Rattle.evm_formats.specs.VoxelLaws.{lowered, CellsJoin}

abbrev in_size : ℤ → ℕ → Bool
in_size x m = int_le (pos 0) x && int_lt x (pos m)

inside : (x : ℤ) (m : ℕ) → pos 0 ≤ℤ x → x <ℤ pos m → in_size x m ≡ true
inside x m a b = ap₂ (λ s t. s && t) (le_yes (pos 0) x a) (lt_yes x (pos m) b)

below : (x : ℤ) (m : ℕ) → x <ℤ pos 0 → in_size x m ≡ false
below x m a = ap (λ b. b && int_lt x (pos m)) (refuted (int_le (pos 0) x) (λ h. let k : pos 0 ≤ℤ x = le_is (pos 0) x h in omega (arith, int_facts)))

above : (x : ℤ) (m : ℕ) → pos m ≤ℤ x → in_size x m ≡ false
above x m a = ap (λ b. int_le (pos 0) x && b) (refuted (int_lt x (pos m)) (λ h. let k : x <ℤ pos m = lt_is x (pos m) h in omega (arith, int_facts))) ∙ none (int_le (pos 0) x)
  where
    none : (b : Bool) → (b && false) ≡ false
    none true = refl
    none false = refl

length-sizes : (ms : List ℕ) (c : List ℤ) → in_sizes ms c ≡ true → length c ≡ length ms
unfolding in_sizes
length-sizes [] [] e = refl
length-sizes [] (x ∷ c) e = absurd (cc e)
length-sizes (m ∷ ms) [] e = absurd (cc e)
length-sizes (m ∷ ms) (x ∷ c) e = ap suc (length-sizes ms c (and_second (int_le (pos 0) x && int_lt x (pos m)) (in_sizes ms c) e))

-- a place of the stack, by the tests on its axes
abbrev filled : Bool → Bool → Bool → Bool → Bool
filled bx by bz s = (bx && (by && (bz && true))) && s

off : (bx by s : Bool) → filled bx by false s ≡ false
off true true s = refl
off true false s = refl
off false by s = refl

both_off : (b c : Bool) → b ≡ false → c ≡ false → (b || c) ≡ false
both_off b c p q = ap₂ (λ s t. s || t) p q

or_false : (b : Bool) → (b || false) ≡ b
or_false true = refl
or_false false = refl

of_sample : (threshold i : ℕ) (p q : Picture) → p ≡ q → nat_le threshold (sample p i) ≡ nat_le threshold (sample q i)
of_sample threshold i p q e = ap (λ (t : Picture). nat_le threshold (sample t i)) e

at_place : (threshold w h : ℕ) (ps qs : List Picture) (x y z : ℤ)
    → in_stack threshold w h (ps ++ qs) (x ∷ y ∷ z ∷ []) ≡ (in_stack threshold w h ps (x ∷ y ∷ z ∷ []) || in_stack threshold w h qs (x ∷ y ∷ (z -ℤ pos (length ps)) ∷ []))
unfolding in_stack within in_sizes at_least
at_place threshold w h ps qs x y (negsuc m) =
    let k = length ps in
    let i : ℕ = nat_of y * w + nat_of x in
    ap (λ b. filled (in_size x w) (in_size y h) b (nat_le threshold (sample (get_or (ps ++ qs) 0 no_picture) i))) (below (negsuc m) (length (ps ++ qs)) (omega (arith, int_facts)))
    ∙ off (in_size x w) (in_size y h) (nat_le threshold (sample (get_or (ps ++ qs) 0 no_picture) i))
    ∙ sym (both_off (filled (in_size x w) (in_size y h) (in_size (negsuc m) (length ps)) (nat_le threshold (sample (get_or ps 0 no_picture) i))) _
    (ap (λ b. filled (in_size x w) (in_size y h) b (nat_le threshold (sample (get_or ps 0 no_picture) i))) (below (negsuc m) (length ps) (omega (arith, int_facts))) ∙ off (in_size x w) (in_size y h) _)
    (ap (λ b. filled (in_size x w) (in_size y h) b (nat_le threshold (sample (get_or qs (nat_of (negsuc m -ℤ pos (length ps))) no_picture) i))) (below (negsuc m -ℤ pos (length ps)) (length qs) (omega (arith, int_facts))) ∙ off (in_size x w) (in_size y h) _))
at_place threshold w h ps qs x y (pos m) =
    let i : ℕ = nat_of y * w + nat_of x in
    let s : ℕ → Bool = λ (t : ℕ). nat_le threshold (sample (get_or qs t no_picture) i) in
    ⊎_elim
    (λ (l : m < length ps).
    ap₂ (filled (in_size x w) (in_size y h))
    (inside (pos m) (length (ps ++ qs)) (omega (arith, int_facts)) (omega (arith, int_facts, length-append ps qs)) ∙ sym (inside (pos m) (length ps) (omega (arith, int_facts)) (omega (arith, int_facts))))
    (of_sample threshold i _ _ (get_or_append_left ps qs no_picture m l))
    ∙ sym (or_false _)
    ∙ ap (λ b. filled (in_size x w) (in_size y h) (in_size (pos m) (length ps)) (nat_le threshold (sample (get_or ps m no_picture) i)) || b)
    (sym (ap (λ b. filled (in_size x w) (in_size y h) b (nat_le threshold (sample (get_or qs (nat_of (pos m -ℤ pos (length ps))) no_picture) i))) (below (pos m -ℤ pos (length ps)) (length qs) (omega (arith, int_facts))) ∙ off (in_size x w) (in_size y h) _)))
    (λ (l : length ps ≤ m).
    let j : ℕ = m - length ps in
    let e : pos (m - length ps) ≡ pos m -ℤ pos (length ps) = omega (arith, int_facts) in
    ap₂ (filled (in_size x w) (in_size y h))
    (same_size (pos m) (pos (m - length ps)) (length (ps ++ qs)) (length qs) (omega (arith, int_facts)) (omega (arith, int_facts)) (λ a. omega (arith, int_facts, length-append ps qs)) (λ a. omega (arith, int_facts, length-append ps qs)))
    (of_sample threshold i _ _ (get_or-append_right ps qs (length ps) m no_picture refl l))
    ∙ ap (λ (t : ℤ). filled (in_size x w) (in_size y h) (in_size t (length qs)) (nat_le threshold (sample (get_or qs (nat_of t) no_picture) i))) e
    ∙ ap (λ b. b || filled (in_size x w) (in_size y h) (in_size (pos m -ℤ pos (length ps)) (length qs)) (nat_le threshold (sample (get_or qs (nat_of (pos m -ℤ pos (length ps))) no_picture) i)))
    (sym (ap (λ b. filled (in_size x w) (in_size y h) b (nat_le threshold (sample (get_or ps m no_picture) i))) (above (pos m) (length ps) (omega (arith, int_facts))) ∙ off (in_size x w) (in_size y h) _)))
    (cases_lt m (length ps))
  where
    same_size : (x y : ℤ) (m n : ℕ) → pos 0 ≤ℤ x → pos 0 ≤ℤ y → (x <ℤ pos m → y <ℤ pos n) → (y <ℤ pos n → x <ℤ pos m) → in_size x m ≡ in_size y n
    same_size x y m n a b f g = ap₂ (λ s t. s && t) (le_yes (pos 0) x a ∙ sym (le_yes (pos 0) y b)) (one (int_lt x (pos m)) (int_lt y (pos n)) (λ e. lt_yes y (pos n) (f (lt_is x (pos m) e))) (λ e. lt_yes x (pos m) (g (lt_is y (pos n) e))))
      where
        one : (s t : Bool) → (s ≡ true → t ≡ true) → (t ≡ true → s ≡ true) → s ≡ t
        one true t f g = sym (f refl)
        one false true f g = g refl
        one false false f g = refl

-- places of other lengths are in no stack
not_there : (threshold w h : ℕ) (ps : List Picture) (c : List ℤ) → (length c ≡ 3 → ⊥) → in_stack threshold w h ps c ≡ false
unfolding in_stack within
not_there threshold w h ps c n =
    ap (λ b. b && at_least threshold w ps (get_or (map nat_of c) 0 0) (get_or (map nat_of c) 1 0) (get_or (map nat_of c) 2 0))
    (refuted (in_sizes (w ∷ h ∷ length ps ∷ []) c) (λ e. n (length-sizes (w ∷ h ∷ length ps ∷ []) c e)))

off_place : (threshold w h : ℕ) (ps qs : List Picture) (c : List ℤ) → (length c ≡ 3 → ⊥) → in_stack threshold w h (ps ++ qs) c ≡ (in_stack threshold w h ps c || in_stack threshold w h qs c)
off_place threshold w h ps qs c n =
    not_there threshold w h (ps ++ qs) c n ∙ sym (both_off (in_stack threshold w h ps c) (in_stack threshold w h qs c) (not_there threshold w h ps c n) (not_there threshold w h qs c n))

pub cells_join : CellsJoin
cells_join threshold w h ps qs = ap (λ (f : List ℤ → Bool). cells_where 3 f) (λ i c. at c i)
  where
    at : (c : List ℤ) → in_stack threshold w h (ps ++ qs) c ≡ (in_stack threshold w h ps c || in_stack threshold w h qs (lowered (length ps) c))
    at [] = off_place threshold w h ps qs [] (λ e. omega (arith, e))
    at (x ∷ []) = off_place threshold w h ps qs (x ∷ []) (λ e. omega (arith, e))
    at (x ∷ y ∷ []) = off_place threshold w h ps qs (x ∷ y ∷ []) (λ e. omega (arith, e))
    at (x ∷ y ∷ z ∷ []) = at_place threshold w h ps qs x y z
    at (x ∷ y ∷ z ∷ t ∷ c) = off_place threshold w h ps qs (x ∷ y ∷ z ∷ t ∷ c) (λ e. omega (arith, e))
