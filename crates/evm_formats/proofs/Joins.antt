-- Images behind images: what follows does not change what stands before, nor do numbers that are within the limit.
use Rattle.std.proofs.Common.{◌≡◌, ℕ, zero, suc, ◌+◌, ◌≤◌, ◌<◌, ◌==◌, Bool, true, false, not, cond, ◌&&◌, List, [], ◌∷◌, ◌++◌, length, Option, Some, None, Ok, Err, refl, sym, ap, ap₂, ◌∙◌, arith}
use Rattle.std.specs.Prelude.{Result, option_and_then}
use Rattle.evm_cells.proofs.Xor.{and_first, and_second}
use Rattle.evm_text.specs.Numbers.{is_digit, digits_value}
use Rattle.evm_formats.specs.declared.voxels.VoxelError.{VoxelError}
use Rattle.evm_formats.specs.Images.{Picture, Taken, Takes, map_ok, all_images}
use Rattle.evm_formats.specs.Header.{is_white, is_end, is_blank, begins, after_blank, digits, after_digits, spaced_number, Fields, ended, maxval_and_end, height_on, fields}
use Rattle.evm_formats.proofs.Images.{TakesBytes, all-end, all-next, all-refused}
use Rattle.evm_formats.proofs.Lengths.{then_some, ok_found}

-- ---- images one after another

-- an image at the front stays where bytes are appended
abbrev pub Extends : Takes → List ℕ → Type 0
Extends take_image ys = (z : ℕ) (xs : List ℕ) (t : Taken) → take_image z xs ≡ Ok t → take_image z (xs ++ ys) ≡ Ok (record { picture = t.picture; rest = t.rest ++ ys })

-- an image is the same with a greater number that is below a bound
abbrev pub Renumbers : Takes → ℕ → ℕ → Type 0
Renumbers take_image k most = (z : ℕ) (xs : List ℕ) (t : Taken) → z + k < most → take_image z xs ≡ Ok t → take_image (z + k) xs ≡ Ok t

-- the first of all images
record IsFirst (take_image : Takes) (z : ℕ) (bs : List ℕ) (ps : List Picture) : Type 0 where
  pub taken : Taken
  pub others : List Picture
  pub there : take_image z bs ≡ Ok taken
  pub rest : all_images take_image (z + 1) taken.rest ≡ Ok others
  pub whole : taken.picture ∷ others ≡ ps

first_of : (take_image : Takes) → TakesBytes take_image → (z : ℕ) (bs : List ℕ) (ps : List Picture) → 0 < length bs → all_images take_image z bs ≡ Ok ps → IsFirst take_image z bs ps
first_of take_image shorter z bs ps l e = at (take_image z bs) refl
  where
    at : (r : Result Taken VoxelError) → take_image z bs ≡ r → IsFirst take_image z bs ps
    at (Err x) q = absurd (cc (all-refused take_image z bs x l q, e))
    at (Ok t) q =
        let (qs, a, b) = ok_found (λ (ps : List Picture). t.picture ∷ ps) (all_images take_image (z + 1) t.rest) ps (sym (all-next take_image shorter z bs t l q) ∙ e) in
        record { taken = t; others = qs; there = q; rest = a; whole = b }

no_bytes : (take_image : Takes) (z : ℕ) (ps : List Picture) → all_images take_image z [] ≡ Ok ps → ps ≡ []
no_bytes take_image z ps e = same (all_images take_image z []) (all-end take_image z [] (omega arith)) e
  where
    same : (r : Result (List Picture) VoxelError) → r ≡ Ok [] → r ≡ Ok ps → ps ≡ []
    same r a b = cc (a, b)

join_within : (take_image : Takes) → TakesBytes take_image → (ys : List ℕ) → Extends take_image ys → (m z : ℕ) (xs : List ℕ) (ps qs : List Picture) → length xs ≤ m
    → all_images take_image z xs ≡ Ok ps → all_images take_image (z + length ps) ys ≡ Ok qs → all_images take_image z (xs ++ ys) ≡ Ok (ps ++ qs)
join_within take_image shorter ys more m z [] ps qs l e f =
    let none : ps ≡ [] = no_bytes take_image z ps e in
    ap (λ (k : ℕ). all_images take_image k ys) (let c : z ≡ z + length ps = omega (arith, ap length none) in c) ∙ f ∙ ap (λ (t : List Picture). Ok (t ++ qs)) (sym none)
join_within take_image shorter ys more zero z (x ∷ xs) ps qs l e f = absurd (omega arith)
join_within take_image shorter ys more (suc m) z (x ∷ xs) ps qs l e f =
    let h = first_of take_image shorter z (x ∷ xs) ps (omega arith) e in
    let s : length h.taken.rest < length (x ∷ xs) = shorter z (x ∷ xs) h.taken h.there in
    let count : z + 1 + length h.others ≡ z + length ps = omega (arith, ap length h.whole) in
    let later = join_within take_image shorter ys more m (z + 1) h.taken.rest h.others qs (omega arith) h.rest (ap (λ (k : ℕ). all_images take_image k ys) count ∙ f) in
    all-next take_image shorter z ((x ∷ xs) ++ ys) (record { picture = h.taken.picture; rest = h.taken.rest ++ ys }) (omega arith) (more z (x ∷ xs) h.taken h.there)
    ∙ ap (map_ok (λ (ps : List Picture). h.taken.picture ∷ ps)) later
    ∙ ap (λ (ps : List Picture). Ok (ps ++ qs)) h.whole

pub all-join : (take_image : Takes) → TakesBytes take_image → (ys : List ℕ) → Extends take_image ys → (z : ℕ) (xs : List ℕ) (ps qs : List Picture)
    → all_images take_image z xs ≡ Ok ps → all_images take_image (z + length ps) ys ≡ Ok qs → all_images take_image z (xs ++ ys) ≡ Ok (ps ++ qs)
all-join take_image shorter ys more z xs ps qs = join_within take_image shorter ys more (length xs) z xs ps qs (omega arith)

renumber_within : (take_image : Takes) → TakesBytes take_image → (k most : ℕ) → Renumbers take_image k most → (m z : ℕ) (xs : List ℕ) (ps : List Picture) → length xs ≤ m → z + k + length ps ≤ most
    → all_images take_image z xs ≡ Ok ps → all_images take_image (z + k) xs ≡ Ok ps
renumber_within take_image shorter k most same m z [] ps l b e =
    all-end take_image (z + k) [] (omega arith) ∙ sym (all-end take_image z [] (omega arith)) ∙ e
renumber_within take_image shorter k most same zero z (x ∷ xs) ps l b e = absurd (omega arith)
renumber_within take_image shorter k most same (suc m) z (x ∷ xs) ps l b e =
    let h = first_of take_image shorter z (x ∷ xs) ps (omega arith) e in
    let s : length h.taken.rest < length (x ∷ xs) = shorter z (x ∷ xs) h.taken h.there in
    let count : 1 + length h.others ≡ length ps = omega (arith, ap length h.whole) in
    let later = renumber_within take_image shorter k most same m (z + 1) h.taken.rest h.others (omega arith) (omega arith) h.rest in
    all-next take_image shorter (z + k) (x ∷ xs) h.taken (omega arith) (same z (x ∷ xs) h.taken (omega arith) h.there)
    ∙ ap (λ (j : ℕ). map_ok (λ (ps : List Picture). h.taken.picture ∷ ps) (all_images take_image j h.taken.rest)) (let c : z + k + 1 ≡ z + 1 + k = omega arith in c)
    ∙ ap (map_ok (λ (ps : List Picture). h.taken.picture ∷ ps)) later
    ∙ ap (λ (ps : List Picture). Ok ps) h.whole

pub all-renumber : (take_image : Takes) → TakesBytes take_image → (k most : ℕ) → Renumbers take_image k most → (z : ℕ) (xs : List ℕ) (ps : List Picture) → z + k + length ps ≤ most
    → all_images take_image z xs ≡ Ok ps → all_images take_image (z + k) xs ≡ Ok ps
all-renumber take_image shorter k most same z xs ps = renumber_within take_image shorter k most same (length xs) z xs ps (omega arith)

-- ---- a header, and what is appended

begins-append : (test : ℕ → Bool) (xs ys : List ℕ) → begins test xs ≡ true → (begins test (xs ++ ys) ≡ true) × (0 < length xs)
begins-append test [] ys e = absurd (cc e)
begins-append test (x ∷ xs) ys e = (e, omega arith)

blank-append : (inside : Bool) (bs ys : List ℕ) → 0 < length (after_blank inside bs) → after_blank inside (bs ++ ys) ≡ after_blank inside bs ++ ys
unfolding after_blank
blank-append inside [] ys l = absurd (omega arith)
blank-append true (b ∷ bs) ys l = blank-append (not (is_end b)) bs ys l
blank-append false (b ∷ bs) ys l = at (is_white b) (b == 35) (blank-append false bs ys) (blank-append true bs ys) l
  where
    at : (w h : Bool) → (0 < length (after_blank false bs) → after_blank false (bs ++ ys) ≡ after_blank false bs ++ ys) → (0 < length (after_blank true bs) → after_blank true (bs ++ ys) ≡ after_blank true bs ++ ys)
        → 0 < length (cond w (after_blank false bs) (cond h (after_blank true bs) (b ∷ bs)))
        → cond w (after_blank false (bs ++ ys)) (cond h (after_blank true (bs ++ ys)) (b ∷ (bs ++ ys))) ≡ cond w (after_blank false bs) (cond h (after_blank true bs) (b ∷ bs)) ++ ys
    at true h p q l = p l
    at false true p q l = q l
    at false false p q l = refl

digits-append : (bs ys : List ℕ) → 0 < length (after_digits bs) → (digits (bs ++ ys) ≡ digits bs) × (after_digits (bs ++ ys) ≡ after_digits bs ++ ys)
unfolding digits after_digits
digits-append [] ys l = absurd (omega arith)
digits-append (b ∷ bs) ys l = at (is_digit b) (digits-append bs ys) l
  where
    at : (t : Bool) → (0 < length (after_digits bs) → (digits (bs ++ ys) ≡ digits bs) × (after_digits (bs ++ ys) ≡ after_digits bs ++ ys)) → 0 < length (cond t (after_digits bs) (b ∷ bs))
        → (cond t (b ∷ digits (bs ++ ys)) [] ≡ cond t (b ∷ digits bs) []) × (cond t (after_digits (bs ++ ys)) (b ∷ (bs ++ ys)) ≡ cond t (after_digits bs) (b ∷ bs) ++ ys)
    at true h l = let (p, q) = h l in (ap (λ (t : List ℕ). b ∷ t) p, q)
    at false h l = (refl, refl)

number-append : (bs ys : List ℕ) (r : ℕ × List ℕ) → spaced_number bs ≡ Some r → 0 < length r.1 → (spaced_number (bs ++ ys) ≡ Some (r.0, r.1 ++ ys)) × (0 < length bs)
unfolding spaced_number
number-append bs ys r e l = at (begins is_blank bs && begins is_digit (after_blank false bs)) refl e
  where
    second : Option (ℕ × List ℕ) → List ℕ
    second None = []
    second (Some p) = p.1

    first : Option (ℕ × List ℕ) → ℕ
    first None = 0
    first (Some p) = p.0

    at : (t : Bool) → (begins is_blank bs && begins is_digit (after_blank false bs)) ≡ t
        → cond {A = Option (ℕ × List ℕ)} t (Some (digits_value (digits (after_blank false bs)), after_digits (after_blank false bs))) None ≡ Some r
        → (cond {A = Option (ℕ × List ℕ)} (begins is_blank (bs ++ ys) && begins is_digit (after_blank false (bs ++ ys)))
        (Some (digits_value (digits (after_blank false (bs ++ ys))), after_digits (after_blank false (bs ++ ys)))) None ≡ Some (r.0, r.1 ++ ys)) × (0 < length bs)
    at false p e = absurd (cc e)
    at true p e =
        let found = after_blank false bs in
        let (blank, some) = begins-append is_blank bs ys (and_first (begins is_blank bs) (begins is_digit (after_blank false bs)) p) in
        let (digit, more) = begins-append is_digit (after_blank false bs) ys (and_second (begins is_blank bs) (begins is_digit (after_blank false bs)) p) in
        let over : after_blank false (bs ++ ys) ≡ after_blank false bs ++ ys = blank-append false bs ys more in
        let rest : after_digits (after_blank false bs) ≡ r.1 = ap second e in
        let number : digits_value (digits (after_blank false bs)) ≡ r.0 = ap first e in
        let (a, b) = digits-append (after_blank false bs) ys (omega (arith, l, ap length rest)) in (
          ap₂ (λ t u. cond {A = Option (ℕ × List ℕ)} (t && begins is_digit u) (Some (digits_value (digits u), after_digits u)) None) blank over
              ∙ ap (λ t. cond {A = Option (ℕ × List ℕ)} t (Some (digits_value (digits (after_blank false bs ++ ys)), after_digits (after_blank false bs ++ ys))) None) digit
              ∙ ap₂ (λ (u : ℕ) (v : List ℕ). Some (u, v)) (ap digits_value a ∙ number) (b ∙ ap (λ (t : List ℕ). t ++ ys) rest),
          some,
        )

ended-append : (w h m : ℕ) (bs ys : List ℕ) (f : Fields) → ended w h m bs ≡ Some f → (ended w h m (bs ++ ys) ≡ Some (record f { rest = f.rest ++ ys })) × (0 < length bs)
unfolding ended
ended-append w h m [] ys f e = absurd (cc e)
ended-append w h m (b ∷ bs) ys f e = (at (is_white b) e, omega arith)
  where
    after : Option Fields → Option Fields
    after None = None
    after (Some g) = Some (record g { rest = g.rest ++ ys })

    at : (t : Bool) → cond {A = Option Fields} t (Some (record { width = w; height = h; maxval = m; rest = bs })) None ≡ Some f
        → cond {A = Option Fields} t (Some (record { width = w; height = h; maxval = m; rest = bs ++ ys })) None ≡ Some (record f { rest = f.rest ++ ys })
    at true e = ap after e
    at false e = absurd (cc e)

pub fields-append : (bs ys : List ℕ) (f : Fields) → fields bs ≡ Some f → fields (bs ++ ys) ≡ Some (record f { rest = f.rest ++ ys })
unfolding fields
fields-append bs ys f e =
    let (w, p, e1) = then_some (λ (w : ℕ × List ℕ). height_on w.0 w.1) (spaced_number bs) f e in
    let (h, q, e2) = then_some (λ (h : ℕ × List ℕ). maxval_and_end w.0 h.0 h.1) (spaced_number w.1) f e1 in
    let (m, r, e3) = then_some (λ (m : ℕ × List ℕ). ended w.0 h.0 m.0 m.1) (spaced_number h.1) f e2 in
    let (d, ld) = ended-append w.0 h.0 m.0 m.1 ys f e3 in
    let (c, lc) = number-append h.1 ys m r ld in
    let (b, lb) = number-append w.1 ys h q lc in
    let (a, la) = number-append bs ys w p lb in
    ap (option_and_then (λ (w : ℕ × List ℕ). height_on w.0 w.1)) a
    ∙ ap (option_and_then (λ (h : ℕ × List ℕ). maxval_and_end w.0 h.0 h.1)) b
    ∙ ap (option_and_then (λ (m : ℕ × List ℕ). ended w.0 h.0 m.0 m.1)) c
    ∙ d
