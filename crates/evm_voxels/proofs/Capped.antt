-- Numbers of a header that 32 bits cannot hold are refused like the greatest that they can.
use Rattle.std.proofs.Common.{◌≡◌, ℕ, ◌≤◌, ◌<◌, nat_le, nat_lt, min, Bool, true, false, cond, ◌&&◌, List, [], ◌∷◌, drop, Option, Some, None, Err, refl, sym, ap, ap₂, ◌∙◌, arith}
use Rattle.std.specs.Prelude.{option_map, option_and_then}
use Rattle.std.proofs.lemmas.Bool.Decides.{nat_tests}
use Rattle.evm_cells.specs.Limits.{limit}
use Rattle.evm_cells.proofs.Xor.{and_first, and_second}
use Rattle.evm_formats.specs.declared.voxels.VoxelError.TheVariants.{Magic, Header, Range}
use Rattle.evm_formats.specs.Header.{is_white, spaced_number, Fields, ended, maxval_and_end, height_on, fields}
use Rattle.evm_formats.specs.Pgm.{shot, are_numbers, in_range, image_at, is_magic}
use Rattle.evm_formats.proofs.Limits.{limit_small}
use Rattle.evm_voxels.specs.Numbers.{capped, capped_number, capped_fields}

-- ---- the numbers of a header, one after another

-- a number that was read, and what follows it
pub record IsNext (bs : List ℕ) (number : ℕ) (rest : List ℕ) : Type 0 where
  pub value : ℕ
  pub there : spaced_number bs ≡ Some (value, rest)
  pub kept : number ≡ capped value

pub next_is : (bs : List ℕ) (number : ℕ) (rest : List ℕ) → Some (number, rest) ≡ option_map capped_number (spaced_number bs) → IsNext bs number rest
next_is bs number rest e = at (spaced_number bs) refl e
  where
    at : (o : Option (ℕ × List ℕ)) → spaced_number bs ≡ o → Some (number, rest) ≡ option_map capped_number o → IsNext bs number rest
    at None p e = absurd (cc e)
    at (Some r) p e = record { value = r.0; there = p ∙ ap (λ (t : List ℕ). Some (r.0, t)) (sym (ap after e)); kept = ap front e }
      where
        front : Option (ℕ × List ℕ) → ℕ
        front None = 0
        front (Some q) = q.0

        after : Option (ℕ × List ℕ) → List ℕ
        after None = []
        after (Some q) = q.1

none_next : (bs : List ℕ) → None ≡ option_map capped_number (spaced_number bs) → spaced_number bs ≡ None
none_next bs e = at (spaced_number bs) e
  where
    at : (o : Option (ℕ × List ℕ)) → None ≡ option_map capped_number o → o ≡ None
    at None e = refl
    at (Some r) e = absurd (cc e)

-- what the fields come to
came : (bs : List ℕ) (o : Option Fields) → fields bs ≡ o → option_map capped_fields o ≡ option_map capped_fields (fields bs)
came bs o e = ap (option_map capped_fields) (sym e)

pub no_width : (bs : List ℕ) → None ≡ option_map capped_number (spaced_number bs) → None ≡ option_map capped_fields (fields bs)
unfolding fields
no_width bs e = came bs None (ap (option_and_then (λ (w : ℕ × List ℕ). height_on w.0 w.1)) (none_next bs e))

after_width : (bs : List ℕ) (w : ℕ) (a : List ℕ) → (x : IsNext bs w a) → fields bs ≡ height_on x.value a
unfolding fields
after_width bs w a x = ap (option_and_then (λ (w : ℕ × List ℕ). height_on w.0 w.1)) x.there

pub no_height : (bs : List ℕ) (w : ℕ) (a : List ℕ) → IsNext bs w a → None ≡ option_map capped_number (spaced_number a) → None ≡ option_map capped_fields (fields bs)
no_height bs w a x e = came bs None (after_width bs w a x ∙ ap (option_and_then (λ (h : ℕ × List ℕ). maxval_and_end x.value h.0 h.1)) (none_next a e))

after_height : (bs : List ℕ) (w h : ℕ) (a b : List ℕ) → (x : IsNext bs w a) → (y : IsNext a h b) → fields bs ≡ maxval_and_end x.value y.value b
after_height bs w h a b x y = after_width bs w a x ∙ ap (option_and_then (λ (h : ℕ × List ℕ). maxval_and_end x.value h.0 h.1)) y.there

pub no_maxval : (bs : List ℕ) (w h : ℕ) (a b : List ℕ) → IsNext bs w a → IsNext a h b → None ≡ option_map capped_number (spaced_number b) → None ≡ option_map capped_fields (fields bs)
no_maxval bs w h a b x y e = came bs None (after_height bs w h a b x y ∙ ap (option_and_then (λ (m : ℕ × List ℕ). ended x.value y.value m.0 m.1)) (none_next b e))

after_maxval : (bs : List ℕ) (w h m : ℕ) (a b c : List ℕ) → (x : IsNext bs w a) → (y : IsNext a h b) → (z : IsNext b m c) → fields bs ≡ ended x.value y.value z.value c
after_maxval bs w h m a b c x y z = after_height bs w h a b x y ∙ ap (option_and_then (λ (m : ℕ × List ℕ). ended x.value y.value m.0 m.1)) z.there

pub no_more : (bs : List ℕ) (w h m : ℕ) (a b c : List ℕ) → IsNext bs w a → IsNext a h b → IsNext b m c → c ≡ [] → None ≡ option_map capped_fields (fields bs)
unfolding ended
no_more bs w h m a b c x y z e = came bs None (after_maxval bs w h m a b c x y z ∙ ap (ended x.value y.value z.value) e)

pub no_white : (bs : List ℕ) (w h m e : ℕ) (a b c rest : List ℕ) → IsNext bs w a → IsNext a h b → IsNext b m c → c ≡ e ∷ rest → is_white e ≡ false → None ≡ option_map capped_fields (fields bs)
unfolding ended
no_white bs w h m e a b c rest x y z p q =
    came bs None (after_maxval bs w h m a b c x y z ∙ ap (ended x.value y.value z.value) p
    ∙ ap (λ t. cond t (Some (record { width = x.value; height = y.value; maxval = z.value; rest = rest })) None) q)

pub all_there : (bs : List ℕ) (w h m e : ℕ) (a b c rest : List ℕ) → IsNext bs w a → IsNext a h b → IsNext b m c → c ≡ e ∷ rest → is_white e ≡ true
    → Some (record { width = w; height = h; maxval = m; rest = rest }) ≡ option_map capped_fields (fields bs)
unfolding ended
all_there bs w h m e a b c rest x y z p q =
    (λ i. Some (record { width = x.kept i; height = y.kept i; maxval = z.kept i; rest = rest }))
    ∙ came bs (Some (record { width = x.value; height = y.value; maxval = z.value; rest = rest })) (after_maxval bs w h m a b c x y z ∙ ap (ended x.value y.value z.value) p
    ∙ ap (λ t. cond t (Some (record { width = x.value; height = y.value; maxval = z.value; rest = rest })) None) q)

-- ---- greater numbers are refused in either way
no_numbers : (n z : ℕ) (size : Option (ℕ × ℕ)) (f : Fields) → are_numbers f.width f.height f.maxval ≡ false → shot n z size (Some f) ≡ Err Header
unfolding shot
no_numbers n z size f e = rw e refl

no_range : (n z : ℕ) (size : Option (ℕ × ℕ)) (f : Fields) → are_numbers f.width f.height f.maxval ≡ true → in_range n z f.width f.height ≡ false → shot n z size (Some f) ≡ Err Range
unfolding shot
no_range n z size f e h = rw (e, h) refl

one_capped : (n : ℕ) → nat_le 1 (min n 4294967295) ≡ nat_le 1 n
one_capped n = at (nat_le 1 n) refl
  where
    at : (b : Bool) → nat_le 1 n ≡ b → nat_le 1 (min n 4294967295) ≡ b
    at true e = let h : 1 ≤ n = grind (arith, nat_tests) in let k : 1 ≤ min n 4294967295 = omega arith in grind (arith, nat_tests)
    at false e = let h : n < 1 = grind (arith, nat_tests) in let k : min n 4294967295 < 1 = omega arith in grind (arith, nat_tests)

maxval_capped : (n : ℕ) → nat_le (min n 4294967295) 65535 ≡ nat_le n 65535
maxval_capped n = at (nat_le n 65535) refl
  where
    at : (b : Bool) → nat_le n 65535 ≡ b → nat_le (min n 4294967295) 65535 ≡ b
    at true e = let h : n ≤ 65535 = grind (arith, nat_tests) in let k : min n 4294967295 ≤ 65535 = omega arith in grind (arith, nat_tests)
    at false e = let h : 65535 < n = grind (arith, nat_tests) in let k : 65535 < min n 4294967295 = omega arith in grind (arith, nat_tests)

pub size_capped : (n w : ℕ) → nat_le (capped w) (limit n) ≡ nat_le w (limit n)
size_capped n w = at (nat_le w (limit n)) refl
  where
    at : (b : Bool) → nat_le w (limit n) ≡ b → nat_le (capped w) (limit n) ≡ b
    at true e = let h : w ≤ limit n = grind (arith, nat_tests) in let k : min w 4294967295 ≤ limit n = omega arith in grind (arith, nat_tests)
    at false e = let h : limit n < w = grind (arith, nat_tests) in let k : limit n < min w 4294967295 = omega (arith, limit_small n) in grind (arith, nat_tests)

-- a size within the limit is kept as it stands
pub size_kept : (n w : ℕ) → nat_le w (limit n) ≡ true → capped w ≡ w
size_kept n w e = let h : w ≤ limit n = grind (arith, nat_tests) in omega (arith, limit_small n)

numbers_capped : (f : Fields) → are_numbers (capped f.width) (capped f.height) (capped f.maxval) ≡ are_numbers f.width f.height f.maxval
numbers_capped f = ap₂ (λ a b. a && b) (ap₂ (λ a b. a && b) (one_capped f.width) (one_capped f.height)) (ap₂ (λ a b. a && b) (one_capped f.maxval) (maxval_capped f.maxval))

range_capped : (n z : ℕ) (f : Fields) → in_range n z (capped f.width) (capped f.height) ≡ in_range n z f.width f.height
range_capped n z f = ap (λ a. a && nat_lt z (limit n)) (ap₂ (λ a b. a && b) (size_capped n f.width) (size_capped n f.height))

-- numbers in range are kept as they stand
all_small : (n z : ℕ) (f : Fields) → are_numbers f.width f.height f.maxval ≡ true → in_range n z f.width f.height ≡ true → capped_fields f ≡ f
all_small n z f e h =
    let sizes = and_first (nat_le f.width (limit n) && nat_le f.height (limit n)) (nat_lt z (limit n)) h in
    let p : capped f.width ≡ f.width = size_kept n f.width (and_first (nat_le f.width (limit n)) (nat_le f.height (limit n)) sizes) in
    let q : capped f.height ≡ f.height = size_kept n f.height (and_second (nat_le f.width (limit n)) (nat_le f.height (limit n)) sizes) in
    let d : f.maxval ≤ 65535 = grind (arith, nat_tests) in
    let r : capped f.maxval ≡ f.maxval = omega arith in
    λ i. record { width = p i; height = q i; maxval = r i; rest = f.rest }

shot_some : (n z : ℕ) (size : Option (ℕ × ℕ)) (f : Fields) → shot n z size (Some (capped_fields f)) ≡ shot n z size (Some f)
shot_some n z size f = at (are_numbers f.width f.height f.maxval) (in_range n z f.width f.height) refl refl
  where
    at : (a b : Bool) → are_numbers f.width f.height f.maxval ≡ a → in_range n z f.width f.height ≡ b → shot n z size (Some (capped_fields f)) ≡ shot n z size (Some f)
    at false b e h = no_numbers n z size (capped_fields f) (numbers_capped f ∙ e) ∙ sym (no_numbers n z size f e)
    at true false e h = no_range n z size (capped_fields f) (numbers_capped f ∙ e) (range_capped n z f ∙ h) ∙ sym (no_range n z size f e h)
    at true true e h = ap (λ g. shot n z size (Some g)) (all_small n z f e h)

pub shot-capped : (n z : ℕ) (size : Option (ℕ × ℕ)) (bs : List ℕ) → shot n z size (option_map capped_fields (fields bs)) ≡ shot n z size (fields bs)
shot-capped n z size bs = at (fields bs)
  where
    at : (o : Option Fields) → shot n z size (option_map capped_fields o) ≡ shot n z size o
    at None = ap (shot n z size) refl
    at (Some f) = shot_some n z size f

pub image_is : (n z : ℕ) (size : Option (ℕ × ℕ)) (bs after : List ℕ) (o : Option Fields) → is_magic bs ≡ true → after ≡ drop 2 bs → o ≡ option_map capped_fields (fields after) → shot n z size o ≡ image_at n z size bs
unfolding image_at
image_is n z size bs after o m e r =
    ap (shot n z size) (r ∙ ap (λ t. option_map capped_fields (fields t)) e) ∙ shot-capped n z size (drop 2 bs) ∙ ap (λ t. cond t (shot n z size (fields (drop 2 bs))) (Err Magic)) (sym m)

pub no_magic : (n z : ℕ) (size : Option (ℕ × ℕ)) (bs : List ℕ) → is_magic bs ≡ false → Err Magic ≡ image_at n z size bs
unfolding image_at
no_magic n z size bs m = ap (λ t. cond t (shot n z size (fields (drop 2 bs))) (Err Magic)) (sym m)

pub no_fields : (n z : ℕ) (size : Option (ℕ × ℕ)) → Err Header ≡ shot n z size None
unfolding shot
no_fields n z size = refl
