-- Two solids, combined by their parts on the two sides of a plane.
use Rattle.std.proofs.Common.{◌≡◌, ℕ, Bool, true, false, not, ◌&&◌, List, filter, ℤ, int_le, int_lt, refl, sym, ap, ap₂, ◌∙◌, arith}
use Rattle.std.proofs.lemmas.Int.{ints as int_facts}
use Rattle.evm_cells.specs.Booleans.{xor, combine, xor_cells}
use Rattle.evm_cells.specs.Limits.{is_cell, IsCellSet}
use Rattle.evm_cells.specs.Places.{has}
use Rattle.evm_cells.specs.Windows.{is_under, is_over}
use Rattle.evm_cells.proofs.Combine.{cell_set-combine, cell_set-xor, has-combine, has-xor_cells}
use Rattle.evm_cells.proofs.Coords.{by_order, le_yes, le_no, lt_yes, lt_no}
use Rattle.evm_cells.proofs.Sides.{cell_set-part}
use Rattle.evm_cells.proofs.Slices.{coord}
use Rattle.evm_cells.proofs.Universe.{ascending-filter, has-filter, same_sets}
use Rattle.evm_cells.proofs.Xor.{xor-false, false-xor}

-- above a plane is where it is not below
above_is : (at x : ℤ) → int_le at x ≡ not (int_lt x at)
above_is at x =
    by_order x at (λ l. le_no at x l ∙ ap not (sym (lt_yes x at l)))
    (λ e. le_yes at x (omega (arith, int_facts)) ∙ ap not (sym (lt_no x at (omega (arith, int_facts)))))
    (λ l. le_yes at x (omega (arith, int_facts)) ∙ ap not (sym (lt_no x at (omega (arith, int_facts)))))

-- of a place, by the side that it is on
one_side : (op : Bool → Bool → Bool) → op false false ≡ false → (k a b u : Bool)
    → xor (k && op (a && u) (b && u)) (k && op (a && not u) (b && not u)) ≡ (k && op a b)
unfolding xor
one_side op e false a b u = refl
one_side op e true true true true = ap (xor (op true true)) e ∙ xor-false (op true true)
one_side op e true true false true = ap (xor (op true false)) e ∙ xor-false (op true false)
one_side op e true false true true = ap (xor (op false true)) e ∙ xor-false (op false true)
one_side op e true false false true = ap (xor (op false false)) e ∙ xor-false (op false false)
one_side op e true true true false = ap (λ t. xor t (op true true)) e ∙ false-xor (op true true)
one_side op e true true false false = ap (λ t. xor t (op true false)) e ∙ false-xor (op true false)
one_side op e true false true false = ap (λ t. xor t (op false true)) e ∙ false-xor (op false true)
one_side op e true false false false = ap (λ t. xor t (op false false)) e ∙ false-xor (op false false)

-- what is combined cell by cell is combined on each side of a plane alone
pub combined_by_sides : (op : Bool → Bool → Bool) (n i : ℕ) (at : ℤ) (A B : List (List ℤ)) → op false false ≡ false
    → xor_cells n (combine op n (filter (is_under i at) A) (filter (is_under i at) B)) (combine op n (filter (is_over i at) A) (filter (is_over i at) B))
    ≡ combine op n A B
combined_by_sides op n i at A B e =
    let L : List (List ℤ) = combine op n (filter (is_under i at) A) (filter (is_under i at) B) in
    let H : List (List ℤ) = combine op n (filter (is_over i at) A) (filter (is_over i at) B) in
    let l : IsCellSet n L = cell_set-combine op n (filter (is_under i at) A) (filter (is_under i at) B) in
    let h : IsCellSet n H = cell_set-combine op n (filter (is_over i at) A) (filter (is_over i at) B) in
    let x : IsCellSet n (xor_cells n L H) = cell_set-xor n L H in
    let y : IsCellSet n (combine op n A B) = cell_set-combine op n A B in
    same_sets (xor_cells n L H) (combine op n A B) x.ascends y.ascends
    (λ c. has-xor_cells n L H c l h
    ∙ ap₂ xor
    (has-combine op n (filter (is_under i at) A) (filter (is_under i at) B) c
    ∙ ap₂ (λ s t. is_cell n c && op s t) (has-filter (is_under i at) A c) (has-filter (is_under i at) B c))
    (has-combine op n (filter (is_over i at) A) (filter (is_over i at) B) c
    ∙ ap₂ (λ s t. is_cell n c && op s t) (has-filter (is_over i at) A c) (has-filter (is_over i at) B c)
    ∙ ap (λ o. is_cell n c && op (has A c && o) (has B c && o)) (above_is at (coord i c)))
    ∙ one_side op e (is_cell n c) (has A c) (has B c) (int_lt (coord i c) at)
    ∙ sym (has-combine op n A B c))

other_side : (a u : Bool) → xor a (a && u) ≡ (a && not u)
unfolding xor
other_side true true = refl
other_side true false = refl
other_side false u = refl

-- what is above a plane is in just one of the whole and of what is below
pub above_by_xor : (n i : ℕ) (at : ℤ) (S : List (List ℤ)) → IsCellSet n S → xor_cells n S (filter (is_under i at) S) ≡ filter (is_over i at) S
above_by_xor n i at S s =
    let u : IsCellSet n (filter (is_under i at) S) = cell_set-part n (is_under i at) S s in
    let x : IsCellSet n (xor_cells n S (filter (is_under i at) S)) = cell_set-xor n S (filter (is_under i at) S) in
    same_sets (xor_cells n S (filter (is_under i at) S)) (filter (is_over i at) S) x.ascends (ascending-filter (is_over i at) S s.ascends)
    (λ c. has-xor_cells n S (filter (is_under i at) S) c s u
    ∙ ap (xor (has S c)) (has-filter (is_under i at) S c)
    ∙ other_side (has S c) (int_lt (coord i c) at)
    ∙ sym (has-filter (is_over i at) S c ∙ ap (λ o. has S c && o) (above_is at (coord i c))))
