-- There is one stated partition.
use Rattle.std.proofs.Common.{◌≡◌, ℕ, zero, suc, Bool, true, ◌&&◌, List, [], ◌∷◌, map, ℤ, pos, ◌-ℤ◌, refl, sym, ap, ap₂, ◌∙◌, arith}
use Rattle.std.specs.List.{list_any}
use Rattle.std.proofs.lemmas.Int.{ints as int_facts}
use Rattle.std.proofs.lemmas.List.Folds.{Any-from_list_any, list_any_at}
use Rattle.std.proofs.lemmas.List.Elements.{All-contains}
use Rattle.evm_cells.specs.Places.{same, before}
use Rattle.evm_cells.specs.Sections.{slice}
use Rattle.evm_cells.specs.Unions.{Ends}
use Rattle.evm_cells.proofs.Xor.{and_both, and_first, and_second}
use Rattle.evm_cells.proofs.Order.{IsStrict, rising, same_lists, same_tests}
use Rattle.evm_cells.proofs.Places.{strict_places, ascending-rising}
use Rattle.evm_cells.proofs.Lists.{all-map}
use Rattle.evm_cells.proofs.Coords.{by_order}
use Rattle.evm_partition.specs.Partition.{IsRun, IsBoxAt, IsBoxOfSome, IsPartition}
use Rattle.evm_partition.specs.Laws.{OnePartition}

one_run : (n : ℕ) (S : List (List ℤ)) (k low high low2 high2 : ℤ) → IsRun n S k low high → IsRun n S k low2 high2 → (low ≡ low2) × (high ≡ high2)
one_run n S k low high low2 high2 a b = (
  by_order low low2
      (λ l. let u = b.from in let v = a.to in absurd (b.begins (a.alike (low2 -ℤ pos 1) (omega (arith, int_facts)) (omega (arith, int_facts)))))
      (λ e. e)
      (λ l. let u = a.from in let v = b.to in absurd (a.begins (b.alike (low -ℤ pos 1) (omega (arith, int_facts)) (omega (arith, int_facts))))),
  by_order high high2
      (λ l. let u = b.from in let v = a.to in absurd (a.ends (b.alike high (omega (arith, int_facts)) l)))
      (λ e. e)
      (λ l. let u = a.from in let v = b.to in absurd (b.ends (a.alike high2 (omega (arith, int_facts)) l))),
)

one_box_at : (n : ℕ) (S : List (List ℤ)) (c lo hi lo2 hi2 : List ℤ) → IsBoxAt n S c lo hi → IsBoxAt n S c lo2 hi2 → (lo ≡ lo2) × (hi ≡ hi2)
one_box_at zero S [] [] [] [] [] a b = (refl, refl)
one_box_at (suc n) S (k ∷ c) (low ∷ lo) (high ∷ hi) (low2 ∷ lo2) (high2 ∷ hi2) a b =
    let r = one_run n S k low high low2 high2 a.0 b.0 in
    let q = one_box_at n (slice n 0 k S) c lo hi lo2 hi2 a.1 b.1 in
    (ap₂ (λ x y. x ∷ y) r.0 q.0, ap₂ (λ x y. x ∷ y) r.1 q.1)
one_box_at n S c lo hi lo2 hi2 a b = grind arith

-- ---- boxes in their order

eq : Ends → Ends → Bool
eq a b = same a.lo b.lo && same a.hi b.hi

lt : Ends → Ends → Bool
lt a b = before a.lo b.lo

eq_is : (a b : Ends) → eq a b ≡ true → a ≡ b
unfolding eq
eq_is a b e =
    let u = strict_places.equal a.lo b.lo (and_first (same a.lo b.lo) (same a.hi b.hi) e) in
    let v = strict_places.equal a.hi b.hi (and_second (same a.lo b.lo) (same a.hi b.hi) e) in
    λ i. record { lo = u i; hi = v i }

eq_itself : (a : Ends) → eq a a ≡ true
unfolding eq
eq_itself a = and_both (same a.lo a.lo) (same a.hi a.hi) (strict_places.itself a.lo) (strict_places.itself a.hi)

strict_boxes : IsStrict eq lt
unfolding lt
strict_boxes = record { equal = eq_is; itself = eq_itself; one_way = λ a b h k. strict_places.one_way a.lo b.lo h k }

rising-lows : (bs : List Ends) → rising before (map (λ b. b.lo) bs) ≡ rising lt bs
unfolding rising lt
rising-lows [] = refl
rising-lows (b ∷ bs) = ap₂ (λ u v. u && v) (all-map (before b.lo) (λ a. a.lo) bs) (rising-lows bs)

module _ (n : ℕ) (S : List (List ℤ)) where
  -- what one has, the other has
  passes : (As Bs : List Ends) → IsPartition n S As → IsPartition n S Bs → (a : Ends) → list_any (eq a) As ≡ true → list_any (eq a) Bs ≡ true
  passes As Bs p q a m =
      let (k, x, l, e, h) = Any-from_list_any (eq a) As m in
      let (c, w, box) = All-contains (IsBoxOfSome n S) As x p.of_cells (k, l, e) in
      let (b, (j, r, f), box2) = q.all_cells c w in
      let u = one_box_at n S c x.lo x.hi b.lo b.hi box box2 in
      let v : x ≡ b = λ i. record { lo = u.0 i; hi = u.1 i } in
      list_any_at (eq a) Bs j b r (ap (eq a) (f ∙ sym v) ∙ h)

pub one_partition : OnePartition
one_partition n S As Bs p q =
    same_lists eq lt strict_boxes As Bs
    (sym (rising-lows As) ∙ sym (ascending-rising (map (λ b. b.lo) As)) ∙ p.ascends)
    (sym (rising-lows Bs) ∙ sym (ascending-rising (map (λ b. b.lo) Bs)) ∙ q.ascends)
    (λ a. same_tests (list_any (eq a) As) (list_any (eq a) Bs) (passes n S As Bs p q a) (passes n S Bs As q p a))
