-- Exclusive or: laws, and sums of tests over a list.
use Rattle.std.proofs.Common.{◌≡◌, ℕ, ◌+◌, ◌%◌, Bool, true, false, not, cond, ◌&&◌, ◌||◌, ◌==◌, List, [], ◌∷◌, count_by, refl, sym, ap, ◌∙◌, arith}
use Rattle.std.specs.List.{list_all}
use Rattle.std.proofs.lemmas.Bool.Decides.{nat_tests}
use Rattle.std.proofs.lemmas.List.Sums.{sum_by-cons}
use Rattle.evm_cells.specs.Booleans.{xor}
use Rattle.evm_cells.specs.Vertices.{odd}

pub xor-false : (a : Bool) → xor a false ≡ a
unfolding xor
xor-false true = refl
xor-false false = refl

pub false-xor : (a : Bool) → xor false a ≡ a
unfolding xor
false-xor a = refl

pub xor_self : (a : Bool) → xor a a ≡ false
unfolding xor
xor_self true = refl
xor_self false = refl

pub xor_comm : (a b : Bool) → xor a b ≡ xor b a
unfolding xor
xor_comm true true = refl
xor_comm true false = refl
xor_comm false true = refl
xor_comm false false = refl

pub xor_assoc : (a b c : Bool) → xor (xor a b) c ≡ xor a (xor b c)
unfolding xor
xor_assoc true true true = refl
xor_assoc true true false = refl
xor_assoc true false c = refl
xor_assoc false b c = refl

pub xor_swap : (a b c d : Bool) → xor (xor a b) (xor c d) ≡ xor (xor a c) (xor b d)
unfolding xor
xor_swap true true true true = refl
xor_swap true true true false = refl
xor_swap true true false true = refl
xor_swap true true false false = refl
xor_swap true false true true = refl
xor_swap true false true false = refl
xor_swap true false false d = refl
xor_swap false true true d = refl
xor_swap false true false d = refl
xor_swap false false c d = refl

pub and-xor : (a b c : Bool) → (a && xor b c) ≡ xor (a && b) (a && c)
unfolding xor
and-xor true b c = refl
and-xor false b c = refl

pub xor-and : (a b c : Bool) → (xor a b && c) ≡ xor (a && c) (b && c)
unfolding xor
xor-and true true true = refl
xor-and true true false = refl
xor-and true false c = sym (xor-false c)
xor-and false b c = refl

pub and_comm : (a b : Bool) → (a && b) ≡ (b && a)
and_comm true true = refl
and_comm true false = refl
and_comm false true = refl
and_comm false false = refl

pub and_assoc : (a b c : Bool) → ((a && b) && c) ≡ (a && (b && c))
and_assoc true b c = refl
and_assoc false b c = refl

pub and-false : (a : Bool) → (a && false) ≡ false
and-false true = refl
and-false false = refl

pub and-true : (a : Bool) → (a && true) ≡ a
and-true true = refl
and-true false = refl

-- the second and the third part of a product of two change places
pub and_swap : (a b c d : Bool) → ((a && b) && (c && d)) ≡ ((a && c) && (b && d))
and_swap true b true d = refl
and_swap true b false d = and-false b
and_swap false b c d = refl

pub and_first : (a b : Bool) → (a && b) ≡ true → a ≡ true
and_first true b e = refl
and_first false b e = e

pub and_second : (a b : Bool) → (a && b) ≡ true → b ≡ true
and_second true b e = e
and_second false true e = refl
and_second false false e = e

pub and_both : (a b : Bool) → a ≡ true → b ≡ true → (a && b) ≡ true
and_both true b p q = q
and_both false b p q = p

-- an `or` of tests that do not both pass
pub or-xor : (a b : Bool) → (a && b) ≡ false → (a || b) ≡ xor a b
unfolding xor
or-xor true true e = e
or-xor true false e = refl
or-xor false b e = refl

pub odd-zero : odd 0 ≡ false
unfolding odd
odd-zero = refl

odd_num : (n : ℕ) (b : Bool) → (n % 2 == 1) ≡ b → ((1 + n) % 2 == 1) ≡ not b
odd_num n true e = grind (arith, nat_tests)
odd_num n false e = grind (arith, nat_tests)

pub odd-more : (n : ℕ) → odd (1 + n) ≡ not (odd n)
unfolding odd
odd-more n = odd_num n (n % 2 == 1) refl

-- exclusive or of a test over a list
unfoldable pub xsum : {X : Type 0} → (X → Bool) → List X → Bool
xsum f [] = false
xsum f (x ∷ xs) = xor (f x) (xsum f xs)

pub xsum-nil : {X : Type 0} (f : X → Bool) → xsum f [] ≡ false
unfolding xsum
xsum-nil f = refl

pub xsum-cons : {X : Type 0} (f : X → Bool) (x : X) (xs : List X) → xsum f (x ∷ xs) ≡ xor (f x) (xsum f xs)
unfolding xsum
xsum-cons f x xs = refl

odd_step : (b : Bool) (n : ℕ) → odd (cond b 1 0 + n) ≡ xor b (odd n)
unfolding xor
odd_step true n = odd-more n
odd_step false n = ap odd (omega arith)

pub odd-count : {X : Type 0} (f : X → Bool) (xs : List X) → odd (count_by f xs) ≡ xsum f xs
unfolding xsum
odd-count f [] = odd-zero
odd-count f (x ∷ xs) = ap odd (sum_by-cons (λ x. cond (f x) 1 0) x xs) ∙ odd_step (f x) (count_by f xs) ∙ ap (xor (f x)) (odd-count f xs)

pub xsum-same : {X : Type 0} (f g : X → Bool) → ((x : X) → f x ≡ g x) → (xs : List X) → xsum f xs ≡ xsum g xs
xsum-same f g e xs = ap (λ h. xsum h xs) (λ i x. e x i)

-- the two tests have to agree only on what passes p
pub xsum-same_on : {X : Type 0} (p f g : X → Bool) → ((x : X) → p x ≡ true → f x ≡ g x) → (xs : List X) → list_all p xs ≡ true → xsum f xs ≡ xsum g xs
unfolding xsum
xsum-same_on p f g e [] h = refl
xsum-same_on p f g e (x ∷ xs) h =
    ap (λ b. xor b (xsum f xs)) (e x (and_first (p x) (list_all p xs) h)) ∙ ap (xor (g x)) (xsum-same_on p f g e xs (and_second (p x) (list_all p xs) h))
