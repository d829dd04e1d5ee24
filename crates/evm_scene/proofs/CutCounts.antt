-- How many cuts the operands of a formula have, by the heights that a definition looks at.
use Rattle.std.proofs.Common.{◌≡◌, ℕ, zero, suc, ◌+◌, ◌-◌, ◌*◌, ◌≤◌, Bool, true, false, not, ◌||◌, List, [], ◌∷◌, map, length, ℤ, pos, neg_ℤ, ◌+ℤ◌, sym, ap, ◌∙◌, count_by, sum_by, arith}
use Rattle.std.specs.List.{list_any}
use Rattle.std.proofs.lemmas.Int.{ints as int_facts}
use Rattle.std.proofs.lemmas.List.Sums.{length-filter, sum_by-cons}
use Rattle.evm_cells.specs.Places.{is_empty}
use Rattle.evm_cells.specs.Limits.{limit, ints, point_coords}
use Rattle.evm_cells.specs.Sections.{couplet, cuts}
use Rattle.evm_cells.specs.Heights.{is_cut, is_cut_of}
use Rattle.evm_cells.proofs.Coords.{limit-falls}
use Rattle.evm_script.specs.declared.formula.Formula.{Formula}
use Rattle.evm_model.specs.Figures.{Figure}
use Rattle.evm_model.specs.Formulas.{Parts, Both, Block, Shaped, parts_of, parts_operands}
use Rattle.evm_model.specs.Orders.{is_among}
use Rattle.evm_model.specs.Scene.{operands}
use Rattle.evm_model.specs.Work.{dim_of_first, made_cuts}
use Rattle.evm_model.proofs.Names.{by_among, among_here, among_later, among_none, or_left, or_right}
use Rattle.evm_model.proofs.Counts.{count_cons, count_fewer}
use Rattle.evm_scene.specs.Works.{figure_cuts, formula_cuts}

-- ---- no dimension has points further out than dimension 2

count_longer : (p : ℤ → Bool) (a : ℤ) (n m : ℕ) → n ≤ m → count_by p (ints a n) ≤ count_by p (ints a m)
unfolding ints
count_longer p a zero m h = omega arith
count_longer p a (suc n) zero h = absurd (omega (arith, h))
count_longer p a (suc n) (suc m) h =
    omega (arith, count_cons p a (ints (a +ℤ pos 1) n), count_cons p a (ints (a +ℤ pos 1) m), count_longer p (a +ℤ pos 1) n m (omega (arith, h)))

count_lower : (p : ℤ → Bool) (a : ℤ) (j n : ℕ) → count_by p (ints (a +ℤ pos j) n) ≤ count_by p (ints a (n + j))
unfolding ints
count_lower p a zero n =
    let e : a +ℤ pos 0 ≡ a = omega (arith, int_facts) in
    let k : n + 0 ≡ n = omega arith in
    omega (arith, ap (λ (b : ℤ). count_by p (ints b n)) e, ap (λ (m : ℕ). count_by p (ints a m)) k)
count_lower p a (suc j) n =
    let e : a +ℤ pos (suc j) ≡ a +ℤ pos 1 +ℤ pos j = omega (arith, int_facts) in
    let k : n + suc j ≡ suc (n + j) = omega arith in
    omega (arith, ap (λ (b : ℤ). count_by p (ints b n)) e, ap (λ (m : ℕ). count_by p (ints a m)) k, count_cons p a (ints (a +ℤ pos 1) (n + j)), count_lower p (a +ℤ pos 1) j n)

count_wider : (p : ℤ → Bool) (l m : ℕ) → l ≤ m → count_by p (ints (neg_ℤ (pos l)) (2 * l + 1)) ≤ count_by p (ints (neg_ℤ (pos m)) (2 * m + 1))
count_wider p l m h =
    let e : neg_ℤ (pos m) +ℤ pos (m - l) ≡ neg_ℤ (pos l) = omega (arith, int_facts, h) in
    omega (
      arith,
      ap (λ (b : ℤ). count_by p (ints b (2 * l + 1))) e,
      count_lower p (neg_ℤ (pos m)) (m - l) (2 * l + 1),
      count_longer p (neg_ℤ (pos m)) (2 * l + 1 + (m - l)) (2 * m + 1) (omega (arith, h)),
    )

limit_deeper : (n : ℕ) → limit (suc (suc n)) ≤ limit 2
limit_deeper zero = omega arith
limit_deeper (suc n) = omega (arith, limit-falls (suc (suc n)), limit_deeper n)

limit_most : (n : ℕ) → limit n ≤ limit 2
unfolding limit
limit_most zero = omega arith
limit_most (suc zero) = omega arith
limit_most (suc (suc n)) = limit_deeper n

count_points : (p : ℤ → Bool) (n : ℕ) → count_by p (point_coords n) ≤ count_by p (point_coords 2)
unfolding point_coords
count_points p n = count_wider p (limit n) (limit 2) (limit_most n)

-- ---- the cuts of an operand are among those heights

cuts_counted : (n : ℕ) (S : List (List ℤ)) → length (cuts n 0 S) ≡ count_by (λ h. not (is_empty (couplet n 0 h S))) (point_coords (suc n))
unfolding cuts
cuts_counted n S = length-filter (λ h. not (is_empty (couplet n 0 h S))) (point_coords (suc n))

any_of : (names : List (List ℕ)) (at : List ℕ → Figure) (q : List (List ℤ) → Bool) (o : List ℕ) → is_among o names ≡ true → q (at o).cells ≡ true → list_any q (map (λ x. (at x).cells) names) ≡ true
any_of [] at q o m h = among_none o m
any_of (x ∷ xs) at q o m h =
    by_among o x xs m
    (λ e. or_left (q (at x).cells) (list_any q (map (λ y. (at y).cells) xs)) (sym (ap (λ (z : List ℕ). q (at z).cells) e) ∙ h))
    (λ d late. or_right (q (at x).cells) (list_any q (map (λ y. (at y).cells) xs)) (any_of xs at q o late h))

first_dim : (names : List (List ℕ)) (at : List ℕ → Figure) (n : ℕ) → ((o : List ℕ) → is_among o names ≡ true → (at o).dim ≡ n) → (o : List ℕ) → is_among o names ≡ true → dim_of_first names at ≡ n
first_dim [] at n dims o m = among_none o m
first_dim (x ∷ xs) at n dims o m = dims x (among_here x xs)

module _ (f : Formula) (old new : Figure) (at : List ℕ → Figure) (n : ℕ) (dims : (o : List ℕ) → is_among o (operands f) ≡ true → (at o).dim ≡ n) where
  abbrev looked : ℤ → Bool
  looked h = is_cut_of new.dim (old.cells ∷ new.cells ∷ []) h || is_cut_of (dim_of_first (operands f) at) (map (λ o. (at o).cells) (operands f)) h

  abbrev here : List ℕ → ℤ → Bool
  here o h = not (is_empty (couplet ((at o).dim - 1) 0 h (at o).cells))

  made_counted : made_cuts f old new at ≡ count_by looked (point_coords 2)
  made_counted = length-filter looked (point_coords 2)

  operand_fewer : (o : List ℕ) → is_among o (operands f) ≡ true → figure_cuts (at o) ≤ made_cuts f old new at
  operand_fewer o m =
      omega (
        arith,
        cuts_counted ((at o).dim - 1) (at o).cells,
        count_points (here o) (suc ((at o).dim - 1)),
        count_fewer (here o) looked seen (point_coords 2),
        made_counted,
      )
    where
      seen : (h : ℤ) → here o h ≡ true → looked h ≡ true
      seen h e =
          or_right (is_cut_of new.dim (old.cells ∷ new.cells ∷ []) h) (is_cut_of (dim_of_first (operands f) at) (map (λ x. (at x).cells) (operands f)) h)
          (any_of (operands f) at (λ S. is_cut (dim_of_first (operands f) at) S h) o m
          (ap (λ (k : ℕ). is_cut k (at o).cells h) (first_dim (operands f) at n dims o m ∙ sym (dims o m)) ∙ e))

  -- of two operands at most
  pub formula_fewer : formula_cuts f at ≤ 2 * made_cuts f old new at
  formula_fewer = by (parts_of f) operand_fewer
    where
      by : (p : Parts) → ((o : List ℕ) → is_among o (parts_operands p) ≡ true → figure_cuts (at o) ≤ made_cuts f old new at)
          → sum_by (λ o. figure_cuts (at o)) (parts_operands p) ≤ 2 * made_cuts f old new at
      by (Both op a b) h =
          omega (
            arith,
            sum_by-cons (λ (o : List ℕ). figure_cuts (at o)) a (b ∷ []),
            sum_by-cons (λ (o : List ℕ). figure_cuts (at o)) b [],
            h a (among_here a (b ∷ [])),
            h b (among_later b a (b ∷ []) (among_here b [])),
          )
      by (Block dim nums) h = omega arith
      by (Shaped shape a) h = omega (arith, sum_by-cons (λ (o : List ℕ). figure_cuts (at o)) a [], h a (among_here a []))
