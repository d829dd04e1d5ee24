-- The parameters of the first line of a stream.
use Rattle.std.proofs.Common.{◌≡◌, ℕ, ◌+◌, ◌<◌, ◌≤◌, ◌==◌, nat_le, min, Bool, true, false, cond, ◌&&◌, List, [], ◌∷◌, ◌++◌, length, take, drop, flat_map, Option, Some, None, get_or, refl, sym, ap, ap₂, ◌∙◌, subst, arith, append-nil, append_assoc, add-one, drop-cons}
use Rattle.std.specs.Prelude.{option_map}
use Rattle.std.specs.List.{list_all, slice_split, onto_first}
use Rattle.std.proofs.lemmas.Bool.Decides.{nat_tests}
use Rattle.std.proofs.lemmas.List.{drop_all, take_more}
use Rattle.evm_text.specs.Numbers.{is_digit, digits_value}
use Rattle.evm_formats.specs.Header.{digits, after_digits}
use Rattle.evm_voxels.specs.Numbers.{capped}
use denote.Ref.{Bor}
use Rattle.evm_voxels.specs.declared.stream.Found.{Found}
use Rattle.evm_voxels.specs.declared.stream.Found.TheVariants.{Once, Often}
use Rattle.evm_voxels.specs.Streams.{Shows}
use Rattle.evm_formats.specs.Y4m.{cut_at, value_of, values, number_of, only_number}

-- ---- bytes cut at a byte

-- the bytes in front of what is cut
abbrev pub behind : List ℕ → Option (List ℕ × List ℕ) → Option (List ℕ × List ℕ)
behind front o = option_map (λ (r : List ℕ × List ℕ). (front ++ r.0, r.1)) o

cut_here : (stop : ℕ) (front after : List ℕ) → behind front (cut_at stop (stop ∷ after)) ≡ Some (front, after)
unfolding cut_at
cut_here stop front after =
    ap (λ t. behind front (cond t (Some ([], after)) (option_map (λ (r : List ℕ × List ℕ). (stop ∷ r.0, r.1)) (cut_at stop after)))) (let e : (stop == stop) ≡ true = grind (arith, nat_tests) in e)
    ∙ ap (λ (t : List ℕ). Some (t, after)) (append-nil front)

cut_later : (stop b : ℕ) (front rest : List ℕ) → (b == stop) ≡ false → behind front (cut_at stop (b ∷ rest)) ≡ behind (front ++ b ∷ []) (cut_at stop rest)
unfolding cut_at
cut_later stop b front rest e =
    ap (λ t. behind front (cond t (Some ([], rest)) (option_map (λ (r : List ℕ × List ℕ). (b ∷ r.0, r.1)) (cut_at stop rest)))) e ∙ join (cut_at stop rest)
  where
    join : (o : Option (List ℕ × List ℕ)) → behind front (option_map (λ (r : List ℕ × List ℕ). (b ∷ r.0, r.1)) o) ≡ behind (front ++ b ∷ []) o
    join None = refl
    join (Some r) = ap (λ (t : List ℕ). Some (t, r.1)) (sym (append_assoc front (b ∷ []) r.0))

next_of : (bs : List ℕ) (i : ℕ) → i < length bs → drop i bs ≡ get_or bs i 0 ∷ drop (i + 1) bs
next_of bs i l = rw add-one (drop-cons bs i 0 l)

pub cut_first : (stop : ℕ) (bs : List ℕ) → cut_at stop bs ≡ behind (take 0 bs) (cut_at stop (drop 0 bs))
cut_first stop bs = same (cut_at stop bs)
  where
    same : (o : Option (List ℕ × List ℕ)) → o ≡ behind [] o
    same None = refl
    same (Some r) = refl

pub cut_found : (stop i : ℕ) (bs front after : List ℕ) → i < length bs → get_or bs i 0 ≡ stop → cut_at stop bs ≡ behind (take i bs) (cut_at stop (drop i bs)) → front ≡ take i bs → after ≡ drop 1 (drop i bs) → Some (front, after) ≡ cut_at stop bs
cut_found stop i bs front after l e h p q =
    let n : drop i bs ≡ stop ∷ drop (i + 1) bs = next_of bs i l ∙ ap (λ (b : ℕ). b ∷ drop (i + 1) bs) e in
    ap₂ (λ (a b : List ℕ). Some (a, b)) p (q ∙ ap (drop 1) n)
    ∙ sym (h ∙ ap (λ (t : List ℕ). behind (take i bs) (cut_at stop t)) n ∙ cut_here stop (take i bs) (drop (i + 1) bs))

pub cut_more : (stop i : ℕ) (bs : List ℕ) → i < length bs → (get_or bs i 0 == stop) ≡ false → cut_at stop bs ≡ behind (take i bs) (cut_at stop (drop i bs)) → cut_at stop bs ≡ behind (take (i + 1) bs) (cut_at stop (drop (i + 1) bs))
cut_more stop i bs l e h =
    h ∙ ap (λ (t : List ℕ). behind (take i bs) (cut_at stop t)) (next_of bs i l) ∙ cut_later stop (get_or bs i 0) (take i bs) (drop (i + 1) bs) e
    ∙ ap (λ (t : List ℕ). behind t (cut_at stop (drop (i + 1) bs))) (sym (take_more bs i 0 l))

pub cut_none : (stop i : ℕ) (bs : List ℕ) → length bs ≤ i → cut_at stop bs ≡ behind (take i bs) (cut_at stop (drop i bs)) → None ≡ cut_at stop bs
unfolding cut_at
cut_none stop i bs l h = sym (h ∙ ap (λ (t : List ℕ). behind (take i bs) (cut_at stop t)) (drop_all i bs l))

-- ---- what was found

pub once_more : (found : Found) (v : Bor (List ℕ)) (vs : List (List ℕ)) (w : List ℕ) → found ≡ Once v → Shows found vs → Shows Often (vs ++ w ∷ [])
once_more found v vs w e h =
    let one : vs ≡ v.now ∷ [] = subst (λ (f : Found). Shows f vs) e h in
    (v.now, w, [], ap (λ (t : List (List ℕ)). t ++ w ∷ []) one)

pub often_more : (found : Found) (vs : List (List ℕ)) (w : List ℕ) → found ≡ Often → Shows found vs → Shows Often (vs ++ w ∷ [])
often_more found vs w e h =
    let two = subst (λ (f : Found). Shows f vs) e h in
    (two.0, two.1, two.2 ++ w ∷ [], ap (λ (t : List (List ℕ)). t ++ w ∷ []) two.3)

-- ---- the parameters, one after another

split_none : (bs : List ℕ) → cut_at 32 bs ≡ None → slice_split (λ b. b == 32) bs ≡ bs ∷ []
unfolding cut_at
split_none [] e = refl
split_none (b ∷ bs) e = at (b == 32) (cut_at 32 bs) (split_none bs) e
  where
    at : (t : Bool) (o : Option (List ℕ × List ℕ)) → (o ≡ None → slice_split (λ b. b == 32) bs ≡ bs ∷ []) → cond {A = Option (List ℕ × List ℕ)} t (Some ([], bs)) (option_map (λ (r : List ℕ × List ℕ). (b ∷ r.0, r.1)) o) ≡ None
        → cond t ([] ∷ slice_split (λ b. b == 32) bs) (onto_first b (slice_split (λ b. b == 32) bs)) ≡ (b ∷ bs) ∷ []
    at true o h e = absurd (cc e)
    at false None h e = ap (onto_first b) (h refl)
    at false (Some r) h e = absurd (cc e)

split_some : (bs front after : List ℕ) → cut_at 32 bs ≡ Some (front, after) → slice_split (λ b. b == 32) bs ≡ front ∷ slice_split (λ b. b == 32) after
unfolding cut_at
split_some [] front after e = absurd (cc e)
split_some (b ∷ bs) front after e = at (b == 32) (cut_at 32 bs) (λ f a. split_some bs f a) e
  where
    at : (t : Bool) (o : Option (List ℕ × List ℕ)) → ((f a : List ℕ) → o ≡ Some (f, a) → slice_split (λ b. b == 32) bs ≡ f ∷ slice_split (λ b. b == 32) a)
        → cond {A = Option (List ℕ × List ℕ)} t (Some ([], bs)) (option_map (λ (r : List ℕ × List ℕ). (b ∷ r.0, r.1)) o) ≡ Some (front, after)
        → cond t ([] ∷ slice_split (λ b. b == 32) bs) (onto_first b (slice_split (λ b. b == 32) bs)) ≡ front ∷ slice_split (λ b. b == 32) after
    at true o h e =
        let p : [] ≡ front = ap first e in let q : bs ≡ after = ap second e in
        ap₂ (λ (f a : List ℕ). f ∷ slice_split (λ b. b == 32) a) p q
      where
        first : Option (List ℕ × List ℕ) → List ℕ
        first None = []
        first (Some r) = r.0

        second : Option (List ℕ × List ℕ) → List ℕ
        second None = []
        second (Some r) = r.1
    at false None h e = absurd (cc e)
    at false (Some r) h e =
        let p : b ∷ r.0 ≡ front = ap first e in let q : r.1 ≡ after = ap second e in
        ap (onto_first b) (h r.0 r.1 refl) ∙ ap₂ (λ (f a : List ℕ). f ∷ slice_split (λ b. b == 32) a) p q
      where
        first : Option (List ℕ × List ℕ) → List ℕ
        first None = []
        first (Some r) = r.0

        second : Option (List ℕ × List ℕ) → List ℕ
        second None = []
        second (Some r) = r.1

pub values_last : (letter : ℕ) (bs : List ℕ) → cut_at 32 bs ≡ None → values letter bs ≡ value_of letter bs
unfolding values
values_last letter bs e = ap (λ (ps : List (List ℕ)). flat_map (value_of letter) ps) (split_none bs e) ∙ append-nil (value_of letter bs)

pub values_more : (letter : ℕ) (bs front after : List ℕ) → cut_at 32 bs ≡ Some (front, after) → values letter bs ≡ value_of letter front ++ values letter after
unfolding values
values_more letter bs front after e = ap (λ (ps : List (List ℕ)). flat_map (value_of letter) ps) (split_some bs front after e)

-- ---- the parameters that were passed

pub find_more : (letter : ℕ) (line rest front after : List ℕ) (vs : List (List ℕ)) → Some (front, after) ≡ cut_at 32 rest → vs ++ values letter rest ≡ values letter line
    → (vs ++ value_of letter front) ++ values letter after ≡ values letter line
find_more letter line rest front after vs e h =
    append_assoc vs (value_of letter front) (values letter after) ∙ ap (λ (t : List (List ℕ)). vs ++ t) (sym (values_more letter rest front after (sym e))) ∙ h

pub find_last : (letter : ℕ) (line rest : List ℕ) (vs : List (List ℕ)) → None ≡ cut_at 32 rest → vs ++ values letter rest ≡ values letter line → vs ++ value_of letter rest ≡ values letter line
find_last letter line rest vs e h = ap (λ (t : List (List ℕ)). vs ++ t) (sym (values_last letter rest (sym e))) ∙ h

pub shows_same : (found : Found) (vs ws : List (List ℕ)) → vs ≡ ws → Shows found vs → Shows found ws
shows_same found vs ws e h = subst (Shows found) e h

cut-shorter_at : (stop : ℕ) (bs front after : List ℕ) → cut_at stop bs ≡ Some (front, after) → length after < length bs
unfolding cut_at
cut-shorter_at stop [] front after e = absurd (cc e)
cut-shorter_at stop (b ∷ bs) front after e = at (b == stop) (cut_at stop bs) (λ f a. cut-shorter_at stop bs f a) e
  where
    at : (t : Bool) (o : Option (List ℕ × List ℕ)) → ((f a : List ℕ) → o ≡ Some (f, a) → length a < length bs)
        → cond {A = Option (List ℕ × List ℕ)} t (Some ([], bs)) (option_map (λ (r : List ℕ × List ℕ). (b ∷ r.0, r.1)) o) ≡ Some (front, after) → length after < length (b ∷ bs)
    at true o h e = let q : bs ≡ after = ap second e in omega (arith, ap (λ (t : List ℕ). length t) q)
      where
        second : Option (List ℕ × List ℕ) → List ℕ
        second None = []
        second (Some r) = r.1
    at false None h e = absurd (cc e)
    at false (Some r) h e = let q : r.1 ≡ after = ap second e in omega (arith, ap (λ (t : List ℕ). length t) q, h r.0 r.1 refl)
      where
        second : Option (List ℕ × List ℕ) → List ℕ
        second None = []
        second (Some r) = r.1

pub cut-shorter : (stop : ℕ) (bs front after : List ℕ) → Some (front, after) ≡ cut_at stop bs → length after < length bs
cut-shorter stop bs front after e = cut-shorter_at stop bs front after (sym e)

-- ---- numbers

digits_all : (ds : List ℕ) → after_digits ds ≡ [] → (list_all is_digit ds ≡ true) × (digits ds ≡ ds)
unfolding after_digits digits
digits_all [] e = (refl, refl)
digits_all (d ∷ ds) e = at (is_digit d) refl (digits_all ds) e
  where
    at : (t : Bool) → is_digit d ≡ t → (after_digits ds ≡ [] → (list_all is_digit ds ≡ true) × (digits ds ≡ ds)) → cond t (after_digits ds) (d ∷ ds) ≡ []
        → ((is_digit d && list_all is_digit ds) ≡ true) × (cond (is_digit d) (d ∷ digits ds) [] ≡ d ∷ ds)
    at true p h e = let (a, b) = h e in (ap₂ (λ s t. s && t) p a, ap (λ t. cond t (d ∷ digits ds) []) p ∙ ap (λ (t : List ℕ). d ∷ t) b)
    at false p h e = absurd (cc e)

not_all : (ds : List ℕ) → 0 < length (after_digits ds) → list_all is_digit ds ≡ false
unfolding after_digits
not_all [] l = absurd (omega arith)
not_all (d ∷ ds) l = at (is_digit d) refl (not_all ds) l
  where
    at : (t : Bool) → is_digit d ≡ t → (0 < length (after_digits ds) → list_all is_digit ds ≡ false) → 0 < length (cond t (after_digits ds) (d ∷ ds)) → (is_digit d && list_all is_digit ds) ≡ false
    at true p h l = ap₂ (λ s t. s && t) p (h l)
    at false p h l = ap (λ s. s && list_all is_digit ds) p

-- the number as far as 32 bits go
abbrev pub cap : Option ℕ → Option ℕ
cap o = option_map capped o

told : (a b c : Bool) (ds : List ℕ) → nat_le 1 (length ds) ≡ a → list_all is_digit ds ≡ b → nat_le 1 (digits_value ds) ≡ c → cap (number_of ds) ≡ cap (cond (a && (b && c)) (Some (digits_value ds)) None)
told a b c ds p q r = ap (λ t. cap (cond t (Some (digits_value ds)) None)) (ap₂ (λ s t. s && t) p (ap₂ (λ s t. s && t) q r))

pub number_none : (ds : List ℕ) → length ds ≤ 0 → None ≡ cap (number_of ds)
number_none ds l = sym (told false (list_all is_digit ds) (nat_le 1 (digits_value ds)) ds (let e : nat_le 1 (length ds) ≡ false = grind (arith, nat_tests) in e) refl refl)

pub number_other : (ds : List ℕ) → 0 < length (after_digits ds) → None ≡ cap (number_of ds)
number_other ds l = sym (ap (λ t. cap (cond t (Some (digits_value ds)) None)) (ap (λ t. nat_le 1 (length ds) && (t && nat_le 1 (digits_value ds))) (not_all ds l) ∙ no_and (nat_le 1 (length ds))))
  where
    no_and : (a : Bool) → (a && false) ≡ false
    no_and true = refl
    no_and false = refl

pub number_zero : (ds after : List ℕ) (v : ℕ) → after ≡ after_digits ds → length after ≤ 0 → v ≡ capped (digits_value (digits ds)) → v ≡ 0 → None ≡ cap (number_of ds)
number_zero ds after v e l c z =
    let none : after_digits ds ≡ [] = empty (after_digits ds) (let q : length (after_digits ds) ≤ 0 = omega (arith, ap (λ (t : List ℕ). length t) e) in q) in
    let same : digits ds ≡ ds = (digits_all ds none).1 in
    let zero_is : digits_value ds ≡ 0 = let k : min (digits_value ds) 4294967295 ≡ 0 = ap (λ (t : List ℕ). capped (digits_value t)) (sym same) ∙ sym c ∙ z in omega arith in
    let test : nat_le 1 (digits_value ds) ≡ false = grind (arith, nat_tests) in
    sym (ap (λ t. cap (cond t (Some (digits_value ds)) None)) (ap (λ t. nat_le 1 (length ds) && (list_all is_digit ds && t)) test ∙ no_last (nat_le 1 (length ds)) (list_all is_digit ds)))
  where
    no_last : (a b : Bool) → (a && (b && false)) ≡ false
    no_last true true = refl
    no_last true false = refl
    no_last false b = refl

    empty : (xs : List ℕ) → length xs ≤ 0 → xs ≡ []
    empty [] l = refl
    empty (x ∷ xs) l = absurd (omega arith)

pub number_some : (ds after : List ℕ) (v : ℕ) → 0 < length ds → after ≡ after_digits ds → length after ≤ 0 → v ≡ capped (digits_value (digits ds)) → (v ≡ 0 → ⊥) → Some v ≡ cap (number_of ds)
number_some ds after v some e l c z =
    let none : after_digits ds ≡ [] = empty (after_digits ds) (let q : length (after_digits ds) ≤ 0 = omega (arith, ap (λ (t : List ℕ). length t) e) in q) in
    let (all, same) = digits_all ds none in
    let is : v ≡ min (digits_value ds) 4294967295 = c ∙ ap (λ (t : List ℕ). capped (digits_value t)) same in
    let one : 1 ≤ digits_value ds = omega arith in
    sym (told true true true ds (let e : nat_le 1 (length ds) ≡ true = grind (arith, nat_tests) in e) all (let e : nat_le 1 (digits_value ds) ≡ true = grind (arith, nat_tests) in e) ∙ ap (λ (n : ℕ). Some n) (sym is))
  where
    empty : (xs : List ℕ) → length xs ≤ 0 → xs ≡ []
    empty [] l = refl
    empty (x ∷ xs) l = absurd (omega arith)

pub once_number : (found : Found) (v : Bor (List ℕ)) (vs : List (List ℕ)) (r : Option ℕ) → found ≡ Once v → Shows found vs → r ≡ cap (number_of v.now) → r ≡ cap (only_number vs)
once_number found v vs r e h q = q ∙ ap (λ (t : List (List ℕ)). cap (only_number t)) (sym (subst (λ (f : Found). Shows f vs) e h))
