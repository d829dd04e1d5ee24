-- No other list is that of the parts of a cell set.
use Rattle.std.proofs.Common.{◌≡◌, ◌≢◌, ℕ, zero, suc, ◌<◌, ◌≤◌, ⊎_elim, Bool, true, false, List, [], ◌∷◌, map, length, get_or, ℤ, refl, sym, ap, ap₂, ◌∙◌, arith}
use Rattle.std.specs.List.{list_any, Contains}
use Rattle.std.proofs.lemmas.Bool.{false≢true, or_left, or_right, or_cases, cases_order}
use Rattle.std.proofs.lemmas.List.Elements.{All-contains, at_from_Contains}
use Rattle.std.proofs.lemmas.Simd.{map-map}
use Rattle.evm_cells.specs.Places.{has, same}
use Rattle.evm_cells.specs.Limits.{IsCellSet}
use Rattle.evm_cells.specs.Parts.{flood, begins_with, parts}
use Rattle.evm_cells.proofs.Xor.{and_both}
use Rattle.evm_cells.proofs.Order.{same_tests}
use Rattle.evm_cells.proofs.Places.{strict_places}
use Rattle.evm_cells.proofs.Universe.{has-filter, ascending-filter, same_sets}
use Rattle.evm_partition.proofs.Once.{bit}
use Rattle.evm_parts.specs.Chains.{AreJoined, AreParts, least}
use Rattle.evm_parts.specs.Laws.{PartsAreOne}
use Rattle.evm_parts.proofs.Floods.{ascending-flood}
use Rattle.evm_parts.proofs.FloodBoxes.{count_two}
use Rattle.evm_parts.proofs.FloodChains.{first_is_least, joined_start, flood_joined, joined_flood, flood-same, begins, heads, head_parts}

-- ---- lists of sets

from_map : {X : Type 0} (g : X → List ℤ) (xs : List X) (c : List ℤ) → has (map g xs) c ≡ true → (x : X) × Contains xs x × (c ≡ g x)
unfolding has
from_map g [] c m = absurd (false≢true m)
from_map g (y ∷ xs) c m = ⊎_elim
    (λ e. (y, (0, omega arith, refl), strict_places.equal c (g y) e))
    (λ n. let (x, p, e) = from_map g xs c n in (x, (suc p.0, (let l = p.1 in omega arith), p.2), e))
    (or_cases (same c (g y)) (list_any (same c) (map g xs)) m)

to_map : {X : Type 0} (g : X → List ℤ) (xs : List X) (x : X) (k : ℕ) → k < length xs → get_or xs k x ≡ x → has (map g xs) (g x) ≡ true
unfolding has
to_map g [] x k l e = absurd (omega arith)
to_map g (y ∷ xs) x zero l e = or_left (same (g x) (g y)) (list_any (same (g x)) (map g xs)) (ap (λ z. same (g x) (g z)) e ∙ strict_places.itself (g x))
to_map g (y ∷ xs) x (suc k) l e = or_right (same (g x) (g y)) (list_any (same (g x)) (map g xs)) (to_map g xs x k (omega arith) e)

map_itself : {X : Type 0} (f : X → X) (xs : List X) → ((x : X) → Contains xs x → x ≡ f x) → xs ≡ map f xs
map_itself f [] h = refl
map_itself f (y ∷ xs) h = ap₂ (λ z zs. z ∷ zs) (h y (0, omega arith, refl)) (map_itself f xs (λ x p. h x (suc p.0, (let l = p.1 in omega arith), p.2)))

least_in : (A : List (List ℤ)) → A ≢ [] → has A (least A) ≡ true
unfolding has
least_in [] h = absurd (h refl)
least_in (c ∷ A) h = or_left (same c c) (list_any (same c) A) (strict_places.itself c)

least_begins : (A : List (List ℤ)) → A ≢ [] → begins_with (least A) A ≡ true
unfolding begins_with
least_begins [] h = absurd (h refl)
least_begins (c ∷ A) h = strict_places.itself c

at_most : (v : Bool) → bit v ≤ 1
at_most true = omega arith
at_most false = omega arith

-- ---- a list of the parts

module _ (n : ℕ) (S : List (List ℤ)) (s : IsCellSet n S) (As : List (List (List ℤ))) (p : AreParts n S As) where
  -- sets of the list with a cell in common are one
  one_set : (A B : List (List ℤ)) (c : List ℤ) → Contains As A → Contains As B → has A c ≡ true → has B c ≡ true → A ≡ B
  one_set A B c a b u v =
      let (i, k, e) = at_from_Contains As A a in
      let (j, l, f) = at_from_Contains As B b in
      let q = p.once c in
      let r = at_most (has S c) in
      let y = ap (λ T. has T c) (e []) ∙ u in
      let z = ap (λ T. has T c) (f []) ∙ v in
      ⊎_elim
      (λ g. sym (e []) ∙ ap (λ t. get_or As t []) g ∙ f [])
      (⊎_elim
      (λ g. let w = count_two (λ T. has T c) [] As i j g l y z in absurd (omega (arith, q, r, w)))
      (λ g. let w = count_two (λ T. has T c) [] As j i g k z y in absurd (omega (arith, q, r, w))))
      (cases_order i j)

  module _ (A : List (List ℤ)) (a : Contains As A) where
    has_least : has A (least A) ≡ true
    has_least = least_in A (All-contains (λ T. T ≢ []) As A p.filled a)

    joined_to : (d : List ℤ) → has A d ≡ true → AreJoined S (least A) d
    joined_to d m = (p.joined (least A) d).0 (A, a, has_least, m)

    least_is_cell : has S (least A) ≡ true
    least_is_cell = joined_start S (least A) (least A) (joined_to (least A) has_least)

    -- each is the flood of its least cell
    set_is_flood : A ≡ flood S (least A)
    set_is_flood =
        same_sets A (flood S (least A)) (All-contains (IsCellSet n) As A p.cell_sets a).ascends (ascending-flood S (least A) least_is_cell s.ascends)
        (λ d. same_tests (has A d) (has (flood S (least A)) d)
        (λ m. joined_flood S (least A) d (joined_to d m))
        (λ m.
        let (B, b, u, v) = (p.joined (least A) d).1 (flood_joined S (least A) d least_is_cell m) in
        ap (λ T. has T d) (one_set A B (least A) a b has_least u) ∙ v))

  leasts : map least As ≡ heads S s.ascends
  leasts =
      same_sets (map least As) (heads S s.ascends) p.ascends (ascending-filter (begins S s.ascends) S s.ascends)
      (λ c. same_tests (has (map least As) c) (has (heads S s.ascends) c)
      (λ m.
      let (A, a, e) = from_map least As c m in
      let b = ap (begins_with (least A)) (sym (set_is_flood A a)) ∙ least_begins A (All-contains (λ T. T ≢ []) As A p.filled a) in
      ap (has (heads S s.ascends)) e ∙ has-filter (begins S s.ascends) S (least A) ∙ and_both (has S (least A)) (begins S s.ascends (least A)) (least_is_cell A a) b)
      (λ m.
      let (k, b) = head_parts S s.ascends c m in
      let (A, a, u, v) = (p.joined c c).1 (AreJoined.here c k) in
      let r = joined_to A a c u in
      let e = ap least (set_is_flood A a ∙ flood-same S s.ascends (least A) c r) ∙ first_is_least (flood S c) c b in
      ap (has (map least As)) (sym e) ∙ to_map least As A a.0 a.1 a.2))

  only : As ≡ parts S
  unfolding parts
  only =
      map_itself (λ A. flood S (least A)) As set_is_flood
      ∙ sym (map-map (flood S) least As)
      ∙ ap (map (flood S)) leasts

pub parts_are_one : PartsAreOne
parts_are_one n S As s p = only n S s As p
