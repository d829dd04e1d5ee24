-- The cells round a point.
use Rattle.std.proofs.Common.{◌≡◌, ℕ, ◌^◌, Bool, true, false, not, ◌&&◌, ◌||◌, ◌==◌, eqb-true, List, [], ◌∷◌, map, filter, length, count_by, ℤ, pos, ◌-ℤ◌, refl, sym, ap, ap₂, ◌∙◌, arith, int_lt, int_eq}
use Rattle.std.specs.List.{list_any}
use Rattle.std.proofs.lemmas.Int.{ints as int_facts}
use Rattle.std.proofs.lemmas.List.Sums.{length-filter}
use Rattle.std.proofs.lemmas.Nat.{pow_pos}
use Rattle.evm_cells.specs.Places.{has, same, each, ascending}
use Rattle.evm_cells.specs.Vertices.{touch, touches, around}
use Rattle.evm_cells.specs.Boxes.{corners}
use Rattle.evm_cells.specs.Measures.{neighbours, is_inside, is_outside, is_on_boundary}
use Rattle.evm_cells.proofs.Xor.{and_both, and_comm, and-false}
use Rattle.evm_cells.proofs.Lists.{any-append, any-map, any-and_left, any_never}
use Rattle.evm_cells.proofs.Coords.{lt_yes}
use Rattle.evm_cells.proofs.Places.{ascending-rising, has-any}
use Rattle.evm_cells.proofs.Corners.{rising-corners}
use Rattle.evm_cells.proofs.Universe.{same_sets, ascending-filter, has-filter}

or-and : (a b c : Bool) → ((a && c) || (b && c)) ≡ ((a || b) && c)
or-and true true true = refl
or-and true false true = refl
or-and true b false = and-false b
or-and false b c = refl

any-neighbours : (p c : List ℤ) → list_any (same c) (neighbours p) ≡ each touch c p
unfolding same each touch neighbours corners
any-neighbours [] [] = refl
any-neighbours [] (y ∷ c) = refl
any-neighbours (x ∷ p) [] =
    any-append (each int_eq []) (map (λ t. (x -ℤ pos 1) ∷ t) (neighbours p)) (map (λ t. x ∷ t) (neighbours p))
    ∙ ap₂ (λ a b. a || b) (any-map (each int_eq []) (λ t. (x -ℤ pos 1) ∷ t) (neighbours p) ∙ any_never (neighbours p)) (any-map (each int_eq []) (λ t. x ∷ t) (neighbours p) ∙ any_never (neighbours p))
any-neighbours (x ∷ p) (y ∷ c) =
    any-append (each int_eq (y ∷ c)) (map (λ t. (x -ℤ pos 1) ∷ t) (neighbours p)) (map (λ t. x ∷ t) (neighbours p))
    ∙ ap₂ (λ a b. a || b)
    (any-map (each int_eq (y ∷ c)) (λ t. (x -ℤ pos 1) ∷ t) (neighbours p) ∙ any-and_left (int_eq y (x -ℤ pos 1)) (each int_eq c) (neighbours p))
    (any-map (each int_eq (y ∷ c)) (λ t. x ∷ t) (neighbours p) ∙ any-and_left (int_eq y x) (each int_eq c) (neighbours p))
    ∙ or-and (int_eq y (x -ℤ pos 1)) (int_eq y x) (list_any (each int_eq c) (neighbours p))
    ∙ ap (λ b. (int_eq y (x -ℤ pos 1) || int_eq y x) && b) (any-neighbours p c)

one_less : (p : List ℤ) → each int_lt (map (λ x. x -ℤ pos 1) p) p ≡ true
unfolding each
one_less [] = refl
one_less (x ∷ p) = and_both (int_lt (x -ℤ pos 1) x) (each int_lt (map (λ y. y -ℤ pos 1) p) p) (lt_yes (x -ℤ pos 1) x (omega (arith, int_facts))) (one_less p)

ascending-neighbours : (p : List ℤ) → ascending (neighbours p) ≡ true
unfolding neighbours
ascending-neighbours p = ascending-rising (corners (map (λ x. x -ℤ pos 1) p) p) ∙ rising-corners (map (λ x. x -ℤ pos 1) p) p (one_less p)

-- of the cells round a point, those that are filled
pub around-neighbours : (S : List (List ℤ)) (p : List ℤ) → ascending S ≡ true → around S p ≡ count_by (has S) (neighbours p)
unfolding around touches
around-neighbours S p a =
    sym (length-filter (λ c. each touch c p) S)
    ∙ ap length (same_sets (filter (λ c. each touch c p) S) (filter (has S) (neighbours p))
    (ascending-filter (λ c. each touch c p) S a) (ascending-filter (has S) (neighbours p) (ascending-neighbours p))
    (λ c. has-filter (λ d. each touch d p) S c ∙ and_comm (has S c) (each touch c p)
    ∙ ap (λ b. b && has S c) (sym (has-any (neighbours p) c ∙ any-neighbours p c)) ∙ sym (has-filter (has S) (neighbours p) c)))
    ∙ length-filter (has S) (neighbours p)

-- exactly one of the three places is that of a point
pub one_place : (n : ℕ) (S : List (List ℤ)) (p : List ℤ) → count_by (λ test. test) (is_inside n S p ∷ is_outside S p ∷ is_on_boundary n S p ∷ []) ≡ 1
unfolding is_inside is_outside is_on_boundary
one_place n S p =
    at (around S p == 2 ^ n) (around S p == 0)
    (λ e f. let a = eqb-true (around S p) (2 ^ n) e in let b = eqb-true (around S p) 0 f in let c = pow_pos n in omega arith)
  where
    at : (a b : Bool) → (a ≡ true → b ≡ true → ⊥) → count_by (λ test. test) (a ∷ b ∷ (not a && not b) ∷ []) ≡ 1
    at true true f = absurd (f refl refl)
    at true false f = refl
    at false true f = refl
    at false false f = refl
