-- The parts of a cell set are what hangs together by faces.
use Rattle.std.proofs.Common.{◌≡◌, ◌≢◌, All, ℕ, zero, suc, ◌+◌, ◌<◌, ◌≤◌, ⊎_elim, Bool, true, false, ◌&&◌, List, [], ◌∷◌, map, filter, length, get_or, count_by, ℤ, refl, sym, ap, ap₂, ◌∙◌, arith}
use Rattle.std.specs.List.{list_any, list_all, Contains}
use Rattle.std.proofs.lemmas.Bool.{false≢true, or_left, or_right, or_cases, cases_Bool}
use Rattle.std.proofs.lemmas.List.Elements.{All-map}
use Rattle.evm_cells.specs.Places.{has, same, each, before, ascending}
use Rattle.evm_cells.specs.Limits.{is_cell, IsCellSet}
use Rattle.evm_cells.specs.Unions.{or_all}
use Rattle.evm_cells.specs.Parts.{share_face, spread, spread_rounds, flood, begins_with, parts}
use Rattle.evm_cells.proofs.Xor.{and_first, and_second, and_both}
use Rattle.evm_cells.proofs.Order.{same_tests, refuted}
use Rattle.evm_cells.proofs.Lists.{any-map, all_members}
use Rattle.evm_cells.proofs.Places.{strict_places}
use Rattle.evm_cells.proofs.Universe.{has-filter, ascending-filter, member_passes, same_sets, absorb}
use Rattle.evm_cells.proofs.Unions.{cell_set-or_all, has-or_all}
use Rattle.evm_partition.proofs.Once.{bit, count-cons}
use Rattle.evm_parts.specs.Chains.{AreJoined, least}
use Rattle.evm_parts.specs.Laws.{FloodsAreParts, UnionOfParts, PartsStandApart, PartIsWhole, CornerJoinsNothing, EdgeJoinsNothing, AngleIsOnePart}
use Rattle.evm_parts.proofs.Floods.{IsClosed, share_face_sym, any_place, place_any, one_counts, one_is, one_has, flood_within, flood_has, flood_closed, flood_passes, ascending-flood}

-- ---- lists that are made of places

map_contains : {X : Type 0} (f : List ℤ → X) (xs : List (List ℤ)) (x : List ℤ) → has xs x ≡ true → Contains (map f xs) (f x)
unfolding has
map_contains f [] x m = absurd (false≢true m)
map_contains f (y ∷ xs) x m = ⊎_elim
    (λ e. (0, omega arith, ap f (sym (strict_places.equal x y e))))
    (λ h. let (k, l, e) = map_contains f xs x h in (suc k, omega arith, e))
    (or_cases (same x y) (list_any (same x) xs) m)

contains_map : {X : Type 0} (f : List ℤ → X) (xs : List (List ℤ)) (z : X) (k : ℕ) → k < length (map f xs) → get_or (map f xs) k z ≡ z → (x : List ℤ) × (has xs x ≡ true) × (z ≡ f x)
unfolding has
contains_map f [] z k l e = absurd (omega arith)
contains_map f (y ∷ xs) z zero l e = (y, or_left (same y y) (list_any (same y) xs) (strict_places.itself y), sym e)
contains_map f (y ∷ xs) z (suc k) l e = let (x, m, h) = contains_map f xs z k (omega arith) e in (x, or_right (same x y) (list_any (same x) xs) m, h)

place_at : (xs : List (List ℤ)) (k : ℕ) (d : List ℤ) → k < length xs → has xs (get_or xs k d) ≡ true
unfolding has
place_at [] k d l = absurd (omega arith)
place_at (x ∷ xs) zero d l = or_left (same x x) (list_any (same x) xs) (strict_places.itself x)
place_at (x ∷ xs) (suc k) d l = or_right (same (get_or xs k d) x) (list_any (same (get_or xs k d)) xs) (place_at xs k d (omega arith))

map_back : {X : Type 0} (g : X → List ℤ) (f : List ℤ → X) (xs : List (List ℤ)) → ((x : List ℤ) → has xs x ≡ true → g (f x) ≡ x) → map g (map f xs) ≡ xs
unfolding has
map_back g f [] h = refl
map_back g f (x ∷ xs) h =
    ap₂ (λ y ys. y ∷ ys) (h x (or_left (same x x) (list_any (same x) xs) (strict_places.itself x)))
    (map_back g f xs (λ y m. h y (or_right (same y x) (list_any (same y) xs) m)))

count-map : {X : Type 0} (p : X → Bool) (f : List ℤ → X) (xs : List (List ℤ)) → count_by p (map f xs) ≡ count_by (λ x. p (f x)) xs
count-map p f [] = refl
count-map p f (x ∷ xs) = count-cons p (f x) (map f xs) ∙ ap (λ k. bit (p (f x)) + k) (count-map p f xs) ∙ sym (count-cons (λ y. p (f y)) x xs)

count_none : (p : List ℤ → Bool) (xs : List (List ℤ)) → ((x : List ℤ) → has xs x ≡ true → p x ≡ true → ⊥) → count_by p xs ≡ 0
unfolding has
count_none p [] h = refl
count_none p (x ∷ xs) h =
    let u = count-cons p x xs in
    let v = ap bit (refuted (p x) (h x (or_left (same x x) (list_any (same x) xs) (strict_places.itself x)))) in
    let w = count_none p xs (λ y m. h y (or_right (same y x) (list_any (same y) xs) m)) in
    omega (arith, u, v, w)

-- where those that pass are one place, at most one counts
count_once : (p : List ℤ → Bool) (xs : List (List ℤ)) → ascending xs ≡ true → ((x y : List ℤ) → has xs x ≡ true → has xs y ≡ true → p x ≡ true → p y ≡ true → x ≡ y) → count_by p xs ≤ 1
unfolding has ascending
count_once p [] a h = omega arith
count_once p (x ∷ xs) a h =
    let u = count-cons p x xs in
    let here = or_left (same x x) (list_any (same x) xs) (strict_places.itself x) in
    let later : (y : List ℤ) → has xs y ≡ true → has (x ∷ xs) y ≡ true = λ y m. or_right (same y x) (list_any (same y) xs) m in
    let up = and_first (list_all (before x) xs) (ascending xs) a in
    ⊎_elim
    (λ (e : p x ≡ true).
    let v = ap bit e in
    let w = count_none p xs (λ y m q.
    let l = member_passes (before x) xs y up m in
    let l2 = ap (before x) (h x y here (later y m) e q) ∙ l in
    strict_places.one_way x x l2 l2) in
    omega (arith, u, v, w))
    (λ (e : p x ≡ false).
    let v = ap bit e in
    let w = count_once p xs (and_second (list_all (before x) xs) (ascending xs) a) (λ y z m k. h y z (later y m) (later z k)) in
    omega (arith, u, v, w))
    (cases_Bool (p x))

-- ---- first cells

some_first : (T : List (List ℤ)) (c : List ℤ) → has T c ≡ true → (h : List ℤ) × (has T h ≡ true) × (begins_with h T ≡ true)
unfolding has begins_with
some_first [] c m = absurd (false≢true m)
some_first (h ∷ T) c m = (h, or_left (same h h) (list_any (same h) T) (strict_places.itself h), strict_places.itself h)

one_first : (T : List (List ℤ)) (c d : List ℤ) → begins_with c T ≡ true → begins_with d T ≡ true → c ≡ d
unfolding begins_with
one_first [] c d h k = absurd (false≢true h)
one_first (x ∷ T) c d h k = strict_places.equal c x h ∙ sym (strict_places.equal d x k)

pub first_is_least : (T : List (List ℤ)) (c : List ℤ) → begins_with c T ≡ true → least T ≡ c
unfolding begins_with
first_is_least [] c h = absurd (false≢true h)
first_is_least (x ∷ T) c h = sym (strict_places.equal c x h)

-- ---- chains

module _ (S : List (List ℤ)) where
  pub joined_start : (c d : List ℤ) → AreJoined S c d → has S c ≡ true
  joined_start _ _ (AreJoined.here c m) = m
  joined_start _ _ (AreJoined.onward c d e m h r) = m

  joined_on : (c d e : List ℤ) → AreJoined S c d → share_face d e ≡ true → has S e ≡ true → AreJoined S c e
  joined_on _ _ e (AreJoined.here c m) h k = AreJoined.onward c e e m h (AreJoined.here e k)
  joined_on _ _ e (AreJoined.onward c x d m g r) h k = AreJoined.onward c x e m g (joined_on x d e r h k)

  pub joined_back : (c d : List ℤ) → AreJoined S c d → AreJoined S d c
  joined_back _ _ (AreJoined.here c m) = AreJoined.here c m
  joined_back _ _ (AreJoined.onward c x d m g r) = joined_on d x c (joined_back x d r) (share_face_sym x c ∙ g) m

  pub joined_both : (c d e : List ℤ) → AreJoined S c d → AreJoined S d e → AreJoined S c e
  joined_both _ _ e (AreJoined.here c m) s = s
  joined_both _ _ e (AreJoined.onward c x d m g r) s = AreJoined.onward c x e m g (joined_both x d e r s)

  -- a closed list has whole chains
  closed_joined : (T : List (List ℤ)) → IsClosed S T → (c d : List ℤ) → AreJoined S c d → has T c ≡ true → has T d ≡ true
  closed_joined T closed _ _ (AreJoined.here c m) t = t
  closed_joined T closed _ _ (AreJoined.onward c x d m g r) t = closed_joined T closed x d r (closed x c (joined_start x d r) t (share_face_sym x c ∙ g))

  joined_within : (T : List (List ℤ)) → IsClosed S T → (c d : List ℤ) → AreJoined S c d → has T c ≡ true → AreJoined T c d
  joined_within T closed _ _ (AreJoined.here c m) t = AreJoined.here c t
  joined_within T closed _ _ (AreJoined.onward c x d m g r) t = AreJoined.onward c x d t g (joined_within T closed x d r (closed x c (joined_start x d r) t (share_face_sym x c ∙ g)))

  -- a flood has what hangs together with its cell
  pub flood_joined : (c d : List ℤ) → has S c ≡ true → has (flood S c) d ≡ true → AreJoined S c d
  flood_joined c d m = flood_passes S c m (AreJoined S c) (λ e f k r h. joined_on c f e r (share_face_sym f e ∙ h) k) (AreJoined.here c m) d

  pub joined_flood : (c d : List ℤ) → AreJoined S c d → has (flood S c) d ≡ true
  joined_flood c d r = let m = joined_start c d r in closed_joined (flood S c) (flood_closed S c m) c d r (flood_has S c m)

  module _ (up : ascending S ≡ true) where
    pub flood-same : (c d : List ℤ) → AreJoined S c d → flood S c ≡ flood S d
    flood-same c d r =
        let m = joined_start c d r in
        let b = joined_back c d r in
        let k = joined_start d c b in
        same_sets (flood S c) (flood S d) (ascending-flood S c m up) (ascending-flood S d k up)
        (λ e. same_tests (has (flood S c) e) (has (flood S d) e)
        (λ h. joined_flood d e (joined_both d c e b (flood_joined c e m h)))
        (λ h. joined_flood c e (joined_both c d e r (flood_joined d e k h))))

    -- ---- heads of parts

    abbrev pub begins : List ℤ → Bool
    begins c = begins_with c (flood S c)

    abbrev pub heads : List (List ℤ)
    heads = filter begins S

    pub head_parts : (h : List ℤ) → has heads h ≡ true → (has S h ≡ true) × (begins h ≡ true)
    head_parts h m = let u = sym (has-filter begins S h) ∙ m in (and_first (has S h) (begins h) u, and_second (has S h) (begins h) u)

    head_of : (c : List ℤ) → has S c ≡ true → (h : List ℤ) × (has heads h ≡ true) × (AreJoined S h c)
    head_of c m =
        let (h, t, b) = some_first (flood S c) c (flood_has S c m) in
        let r = flood_joined c h m t in
        (h, has-filter begins S h ∙ and_both (has S h) (begins h) (flood_within S c m h t) (ap (begins_with h) (sym (flood-same c h r)) ∙ b), joined_back c h r)

    one_head : (c h k : List ℤ) → has heads h ≡ true → has heads k ≡ true → has (flood S h) c ≡ true → has (flood S k) c ≡ true → h ≡ k
    one_head c h k m n a b =
        let (u, v) = head_parts h m in
        let (x, y) = head_parts k n in
        let r = joined_both h c k (flood_joined h c u a) (joined_back k c (flood_joined k c x b)) in
        one_first (flood S h) h k v (ap (begins_with k) (flood-same h k r) ∙ y)

    counted : (c : List ℤ) → count_by (λ h. has (flood S h) c) heads ≡ bit (has S c)
    counted c = ⊎_elim
        (λ (e : has S c ≡ true).
        let (h, m, r) = head_of c e in
        let l = one_counts (λ x. has (flood S x) c) h (joined_flood h c r) heads m in
        let k = count_once (λ x. has (flood S x) c) heads (ascending-filter begins S up) (λ x y. one_head c x y) in
        rw e (omega (arith, l, k)))
        (λ (e : has S c ≡ false).
        rw e (count_none (λ x. has (flood S x) c) heads (λ h m t. false≢true (sym e ∙ flood_within S h (head_parts h m).0 c t))))
        (cases_Bool (has S c))

    -- the part that has the cell, and its head
    part_is : (A : List (List ℤ)) → Contains (parts S) A → (h : List ℤ) × (has heads h ≡ true) × (A ≡ flood S h)
    unfolding parts
    part_is A p = contains_map (flood S) heads A p.0 p.1 p.2

    head_has : (h : List ℤ) → has heads h ≡ true → Contains (parts S) (flood S h)
    unfolding parts
    head_has h m = map_contains (flood S) heads h m

    joined_in : (c d : List ℤ) (A : List (List ℤ)) → Contains (parts S) A → has A c ≡ true → has A d ≡ true → AreJoined S c d
    joined_in c d A p u v =
        let (h, m, e) = part_is A p in
        let k = (head_parts h m).0 in
        joined_both c h d (joined_back h c (flood_joined h c k (ap (λ T. has T c) (sym e) ∙ u))) (flood_joined h d k (ap (λ T. has T d) (sym e) ∙ v))

    in_one : (c d : List ℤ) → AreJoined S c d → (A : List (List ℤ)) × Contains (parts S) A × (has A c ≡ true) × (has A d ≡ true)
    in_one c d r =
        let (h, m, q) = head_of c (joined_start c d r) in
        (flood S h, head_has h m, joined_flood h c q, joined_flood h d (joined_both h c d q r))

    apart : (A B : List (List ℤ)) (c d : List ℤ) → Contains (parts S) A → Contains (parts S) B → has A c ≡ true → has B d ≡ true → share_face c d ≡ true → A ≡ B
    apart A B c d p q u v g =
        let (h, m, e) = part_is A p in
        let (k, n, f) = part_is B q in
        let x = (head_parts h m).0 in
        let y = (head_parts k n).0 in
        let s = flood_joined k d y (ap (λ T. has T d) (sym f) ∙ v) in
        let r = joined_on h c d (flood_joined h c x (ap (λ T. has T c) (sym e) ∙ u)) g (joined_start d k (joined_back k d s)) in
        e ∙ flood-same h k (joined_both h d k r (joined_back k d s)) ∙ sym f

    ascend : ascending (map least (parts S)) ≡ true
    unfolding parts
    ascend =
        ap ascending (map_back least (flood S) heads (λ h m. first_is_least (flood S h) h (head_parts h m).1))
        ∙ ascending-filter begins S up

    any_part : (c : List ℤ) → list_any (λ A. has A c) (parts S) ≡ has S c
    unfolding parts
    any_part c = any-map (λ A. has A c) (flood S) heads ∙ same_tests (list_any (λ h. has (flood S h) c) heads) (has S c)
        (λ t. let (h, m, u) = any_place (λ x. has (flood S x) c) heads t in flood_within S h (head_parts h m).0 c u)
        (λ m. let (h, k, r) = head_of c m in place_any (λ x. has (flood S x) c) heads h k (joined_flood h c r))

-- ---- a part by itself

module _ (S : List (List ℤ)) (up : ascending S ≡ true) (h : List ℤ) (m : has S h ≡ true) where
  abbrev whole : List (List ℤ)
  whole = flood S h

  rises : ascending whole ≡ true
  rises = ascending-flood S h m up

  flood_again : (c : List ℤ) → has whole c ≡ true → flood whole c ≡ whole
  flood_again c t =
      let closed = flood_closed S h m in
      same_sets (flood whole c) whole (ascending-flood whole c t rises) rises
      (λ d. same_tests (has (flood whole c) d) (has whole d) (flood_within whole c t d)
      (λ u. joined_flood whole c d (joined_within S whole closed c d (joined_both S c h d (joined_back S h c (flood_joined S h c m t)) (flood_joined S h d m u)) t)))

  only_head : begins_with h whole ≡ true → filter (λ c. begins_with c (flood whole c)) whole ≡ h ∷ []
  unfolding ascending
  only_head b =
      let test : List ℤ → Bool = λ c. begins_with c (flood whole c) in
      same_sets (filter test whole) (h ∷ []) (ascending-filter test whole rises) refl
      (λ c. same_tests (has (filter test whole) c) (has (h ∷ []) c)
      (λ t.
      let u = sym (has-filter test whole c) ∙ t in
      let v = and_first (has whole c) (test c) u in
      let e = one_first whole c h (ap (begins_with c) (sym (flood_again c v)) ∙ and_second (has whole c) (test c) u) b in
      ap (has (h ∷ [])) e ∙ one_has h)
      (λ t.
      let e = one_is h c t in
      let v = flood_has S h m in
      ap (has (filter test whole)) e ∙ has-filter test whole h ∙ and_both (has whole h) (test h) v (ap (begins_with h) (flood_again h v) ∙ b)))

  one_part : begins_with h whole ≡ true → parts whole ≡ whole ∷ []
  unfolding parts
  one_part b = ap (map (flood whole)) (only_head b) ∙ ap (λ A. A ∷ []) (flood_again h (flood_has S h m))

-- ---- the laws

pub union_of_parts : UnionOfParts
union_of_parts n S s =
    same_sets (or_all n (parts S)) S (cell_set-or_all n (parts S)).ascends s.ascends
    (λ c. has-or_all n (parts S) c ∙ ap (λ t. is_cell n c && t) (any_part S s.ascends c) ∙ absorb (is_cell n c) (has S c) (member_passes (is_cell n) S c s.cells))

pub parts_stand_apart : PartsStandApart
parts_stand_apart n S A B c d s = apart S s.ascends A B c d

head_at : (n : ℕ) (S : List (List ℤ)) (s : IsCellSet n S) (P : List (List ℤ) → Type 0) → ((h : List ℤ) → has S h ≡ true → P (flood S h)) → All P (parts S)
unfolding parts
head_at n S s P f = All-map P (flood S) (heads S s.ascends)
    (λ k d l. let h = get_or (heads S s.ascends) k d in f h (head_parts S s.ascends h (place_at (heads S s.ascends) k d l)).0)

not_empty : (T : List (List ℤ)) (c : List ℤ) → has T c ≡ true → T ≢ []
unfolding has
not_empty T c m e = false≢true (sym (ap (λ U. has U c) e) ∙ m)

pub floods_are_parts : FloodsAreParts
unfolding parts has
floods_are_parts n S s = record {
  cell_sets = head_at n S s (IsCellSet n) (λ h m. record {
    ascends = ascending-flood S h m s.ascends;
    cells = all_members same before strict_places (is_cell n) (flood S h) (λ c t. member_passes (is_cell n) S c s.cells (flood_within S h m c t));
  });
  filled = head_at n S s (λ A. A ≢ []) (λ h m. not_empty (flood S h) h (flood_has S h m));
  ascends = ascend S s.ascends;
  once = λ c. count-map (λ A. has A c) (flood S) (heads S s.ascends) ∙ counted S s.ascends c;
  joined = λ c d. (λ p. joined_in S s.ascends c d p.0 p.1 p.2 p.3, in_one S s.ascends c d);
}

pub part_is_whole : PartIsWhole
part_is_whole n S A s p =
    let (h, m, e) = part_is S s.ascends A p in
    let (u, b) = head_parts S s.ascends h m in
    ap parts e ∙ one_part S s.ascends h u b ∙ ap (λ T. T ∷ []) (sym e)

-- ---- worked examples

pub corner_joins_nothing : CornerJoinsNothing
unfolding parts flood spread_rounds spread begins_with share_face has same each
corner_joins_nothing = refl

pub edge_joins_nothing : EdgeJoinsNothing
unfolding parts flood spread_rounds spread begins_with share_face has same each
edge_joins_nothing = refl

pub angle_is_one_part : AngleIsOnePart
unfolding parts flood spread_rounds spread begins_with share_face has same each
angle_is_one_part = refl
