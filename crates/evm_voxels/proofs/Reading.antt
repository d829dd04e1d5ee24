-- Reading a header byte by byte.
use Rattle.std.proofs.Common.{◌≡◌, ℕ, suc, ◌+◌, ◌-◌, ◌*◌, ◌^◌, ◌≤◌, ◌<◌, ◌==◌, min, Bool, true, false, not, cond, ◌&&◌, ◌||◌, List, [], ◌∷◌, length, refl, sym, ap, ap₂, ◌∙◌, arith, ⊎_elim, mul_assoc, mul_comm, mul-le-mul_right, add_assoc}
use Rattle.std.proofs.Math.Nat.{pow-succ', add-mul, one-le-pow}
use Rattle.std.proofs.lemmas.Bool.{cases_lt}
use Rattle.std.proofs.lemmas.Bool.{true≢false, false≢true}
use Rattle.evm_text.specs.Numbers.{is_digit, digits_value}
use Rattle.evm_formats.specs.Header.{is_white, is_blank, is_end, after_blank, digits, after_digits}

blank_at : (w h i : Bool) (b : ℕ) (later whole : List ℕ) → (b == 35) ≡ h → is_white b ≡ w → after_blank i (b ∷ later) ≡ whole → (not i && not (w || h)) ≡ false → after_blank (cond i (not (is_end b)) (not w && h)) later ≡ whole
unfolding after_blank
blank_at w h true b later whole p q e t = e
blank_at true h false b later whole p q e t = ap (λ c. cond c (after_blank false later) (cond (b == 35) (after_blank true later) (b ∷ later))) (sym q) ∙ e
blank_at false true false b later whole p q e t = ap₂ (λ c d. cond c (after_blank false later) (cond d (after_blank true later) (b ∷ later))) (sym q) (sym p) ∙ e
blank_at false false false b later whole p q e t = absurd (true≢false t)

pub blank_step : (i : Bool) (b : ℕ) (later whole : List ℕ) → after_blank i (b ∷ later) ≡ whole → (not i && not (is_blank b)) ≡ false → after_blank (cond i (not (is_end b)) (not (is_white b) && (b == 35))) later ≡ whole
blank_step i b later whole e t = blank_at (is_white b) (b == 35) i b later whole refl refl e t

end_at : (w h i : Bool) (b : ℕ) (later whole : List ℕ) → (b == 35) ≡ h → is_white b ≡ w → after_blank i (b ∷ later) ≡ whole → (not i && not (w || h)) ≡ true → b ∷ later ≡ whole
unfolding after_blank
end_at w h true b later whole p q e t = absurd (false≢true t)
end_at true h false b later whole p q e t = absurd (false≢true t)
end_at false true false b later whole p q e t = absurd (false≢true t)
end_at false false false b later whole p q e t = ap₂ (λ c d. cond c (after_blank false later) (cond d (after_blank true later) (b ∷ later))) (sym q) (sym p) ∙ e

pub blank_ends : (i : Bool) (b : ℕ) (later whole : List ℕ) → after_blank i (b ∷ later) ≡ whole → (not i && not (is_blank b)) ≡ true → b ∷ later ≡ whole
blank_ends i b later whole e t = end_at (is_white b) (b == 35) i b later whole refl refl e t

pub blank_next : (i j : Bool) (b : ℕ) (rest later whole : List ℕ) → rest ≡ b ∷ later → after_blank i rest ≡ whole → (not i && not (is_blank b)) ≡ false → j ≡ cond i (not (is_end b)) (not (is_white b) && (b == 35)) → after_blank j later ≡ whole
blank_next i j b rest later whole r e t q = ap (λ k. after_blank k later) q ∙ blank_step i b later whole (ap (after_blank i) (sym r) ∙ e) t

pub blank_found : (i : Bool) (b : ℕ) (rest later whole : List ℕ) → rest ≡ b ∷ later → after_blank i rest ≡ whole → (not i && not (is_blank b)) ≡ true → rest ≡ whole
blank_found i b rest later whole r e t = r ∙ blank_ends i b later whole (ap (after_blank i) (sym r) ∙ e) t

pub blank_nil : (i : Bool) (whole : List ℕ) → after_blank i [] ≡ whole → [] ≡ whole
unfolding after_blank
blank_nil i whole e = e

pub blank_over : (i : Bool) (rest whole : List ℕ) → rest ≡ [] → after_blank i rest ≡ whole → rest ≡ whole
blank_over i rest whole r e = r ∙ blank_nil i whole (ap (after_blank i) (sym r) ∙ e)

-- ---- numbers
digits_at : (t : Bool) (b : ℕ) (later : List ℕ) → is_digit b ≡ t → digits (b ∷ later) ≡ cond t (b ∷ digits later) []
unfolding digits
digits_at t b later e = ap (λ c. cond c (b ∷ digits later) []) e

after_at : (t : Bool) (b : ℕ) (later : List ℕ) → is_digit b ≡ t → after_digits (b ∷ later) ≡ cond t (after_digits later) (b ∷ later)
unfolding after_digits
after_at t b later e = ap (λ c. cond c (after_digits later) (b ∷ later)) e

capped_twice : (x p u m : ℕ) → 1 ≤ p → min (min x m * p + u) m ≡ min (x * p + u) m
capped_twice x p u m h =
    ⊎_elim
    (λ l. ap (λ (y : ℕ). min (y * p + u) m) (let l' : x < m = l in let e : min x m ≡ x = omega arith in e))
    (λ l.
    let e : min x m ≡ m = omega arith in
    let a : 1 * m ≤ p * m = mul-le-mul_right m h in
    let b : m * p ≤ x * p = mul-le-mul_right p l in
    let c : p * m ≡ m * p = mul_comm p m in
    ap (λ (y : ℕ). min (y * p + u) m) e ∙ large (m * p) (x * p) u m (omega arith) b)
    (cases_lt x m)
  where
    large : (a b u m : ℕ) → m ≤ a → a ≤ b → min (a + u) m ≡ min (b + u) m
    large a b u m h k = omega arith

pub rest_next : (b : ℕ) (rest later whole : List ℕ) → rest ≡ b ∷ later → is_digit b ≡ true → after_digits rest ≡ whole → after_digits later ≡ whole
rest_next b rest later whole r t e = sym (after_at true b later t) ∙ ap after_digits (sym r) ∙ e

pub rest_found : (b : ℕ) (rest later whole : List ℕ) → rest ≡ b ∷ later → is_digit b ≡ false → after_digits rest ≡ whole → rest ≡ whole
rest_found b rest later whole r t e = r ∙ sym (after_at false b later t) ∙ ap after_digits (sym r) ∙ e

pub rest_over : (rest whole : List ℕ) → rest ≡ [] → after_digits rest ≡ whole → rest ≡ whole
unfolding after_digits
rest_over rest whole r e = r ∙ ap after_digits (sym r) ∙ e

no_digits : (v w : ℕ) (ds : List ℕ) → ds ≡ [] → v ≤ 4294967295 → min (v * 10 ^ length ds + digits_value ds) 4294967295 ≡ w → v ≡ w
no_digits v w ds r l e = (let z : v ≡ min (v * 1 + 0) 4294967295 = omega arith in z) ∙ ap (λ (t : List ℕ). min (v * 10 ^ length t + digits_value t) 4294967295) (sym r) ∙ e

pub number_found : (v b : ℕ) (rest later : List ℕ) (w : ℕ) → rest ≡ b ∷ later → is_digit b ≡ false → v ≤ 4294967295 → min (v * 10 ^ length (digits rest) + digits_value (digits rest)) 4294967295 ≡ w → v ≡ w
number_found v b rest later w r t l e = no_digits v w (digits rest) (ap digits r ∙ digits_at false b later t) l e

pub number_over : (v : ℕ) (rest : List ℕ) (w : ℕ) → rest ≡ [] → v ≤ 4294967295 → min (v * 10 ^ length (digits rest) + digits_value (digits rest)) 4294967295 ≡ w → v ≡ w
unfolding digits
number_over v rest w r l e = no_digits v w (digits rest) (ap digits r) l e

one_digit : (v b : ℕ) (ds : List ℕ) → (v * 10 + (b - 48)) * 10 ^ length ds + digits_value ds ≡ v * 10 ^ length (b ∷ ds) + digits_value (b ∷ ds)
one_digit v b ds =
    let p : ℕ = 10 ^ length ds in
    let q : 10 ^ suc (length ds) ≡ 10 * 10 ^ length ds = pow-succ' 10 (length ds) in
    ap (λ (z : ℕ). z + digits_value ds) (add-mul (v * 10) (b - 48) (10 ^ length ds) ∙ ap (λ (z : ℕ). z + (b - 48) * 10 ^ length ds) (mul_assoc v 10 (10 ^ length ds) ∙ ap (λ (z : ℕ). v * z) (sym q)))
    ∙ add_assoc (v * 10 ^ suc (length ds)) ((b - 48) * 10 ^ length ds) (digits_value ds)

saturated : (v d u m : ℕ) → u ≡ min (v * 10) m → min (u + d) m ≡ min (v * 10 + d) m
saturated v d u m e = omega arith

pub number_next : (v u new b : ℕ) (rest later : List ℕ) (w : ℕ) → rest ≡ b ∷ later → is_digit b ≡ true → u ≡ min (v * 10) 4294967295 → new ≡ min (u + (b - 48)) 4294967295
    → min (v * 10 ^ length (digits rest) + digits_value (digits rest)) 4294967295 ≡ w → min (new * 10 ^ length (digits later) + digits_value (digits later)) 4294967295 ≡ w
number_next v u new b rest later w r t a n e =
    let ds : List ℕ = digits later in
    ap (λ (z : ℕ). min (z * 10 ^ length (digits later) + digits_value (digits later)) 4294967295) (n ∙ saturated v (b - 48) u 4294967295 a)
    ∙ capped_twice (v * 10 + (b - 48)) (10 ^ length (digits later)) (digits_value (digits later)) 4294967295 (one-le-pow (length (digits later)) 10 (omega arith))
    ∙ ap (λ (z : ℕ). min z 4294967295) (one_digit v b (digits later))
    ∙ ap (λ (t : List ℕ). min (v * 10 ^ length t + digits_value t) 4294967295) (sym (ap digits r ∙ digits_at true b later t))
    ∙ e
