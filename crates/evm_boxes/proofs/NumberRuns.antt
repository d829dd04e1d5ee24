-- Numbers of words, of which the first are read.
use Rattle.std.proofs.Common.{◌≡◌, ℕ, suc, ◌+◌, ◌<◌, Bool, true, false, cond, List, [], ◌∷◌, ◌++◌, length, refl, sym, ◌∙◌, ap, ap₂, subst, arith, ℤ, Option, Some, None, append-nil, append_assoc, length-append}
use Rattle.std.specs.Prelude.{◌==◌, not, is_some, IfSome, MatchOption, MatchBool}
use Rattle.std.proofs.lemmas.Bool.Decides.{Decides-eqb}
use Rattle.evm_text.specs.Numbers.{number, numbers, cons_number}
use Rattle.evm_text.specs.Words.{words}
use Rattle.evm_cells.proofs.Order.{refuted}
use Rattle.evm_formats.specs.BoxFile.{just_numbers}

-- numbers, and those after them
abbrev pub and_numbers : Option (List ℤ) → Option (List ℤ) → Option (List ℤ)
and_numbers (Some ns) (Some ms) = Some (ns ++ ms)
and_numbers _ _ = None

none_before : (o : Option (List ℤ)) → o ≡ and_numbers (Some []) o
none_before None = refl
none_before (Some ms) = refl

one_before : (n : Option ℤ) (o p : Option (List ℤ)) → cons_number n (and_numbers o p) ≡ and_numbers (cons_number n o) p
one_before None o p = refl
one_before (Some n) None p = refl
one_before (Some n) (Some ns) None = refl
one_before (Some n) (Some ns) (Some ms) = refl

numbers-append : (xs ys : List (List ℕ)) → numbers (xs ++ ys) ≡ and_numbers (numbers xs) (numbers ys)
numbers-append [] ys = none_before (numbers ys)
numbers-append (x ∷ xs) ys = ap (cons_number (number x)) (numbers-append xs ys) ∙ one_before (number x) (numbers xs) (numbers ys)

one_longer : (n : Option ℤ) (o : Option (List ℤ)) (k : ℕ) → IfSome o (λ ns. length ns ≡ k) → IfSome (cons_number n o) (λ ns. length ns ≡ suc k)
one_longer None o k h = tt
one_longer (Some n) None k h = tt
one_longer (Some n) (Some ns) k h = ap suc h

length-numbers : (ws : List (List ℕ)) → IfSome (numbers ws) (λ ns. length ns ≡ length ws)
length-numbers [] = refl
length-numbers (w ∷ ws) = one_longer (number w) (numbers ws) (length ws) (length-numbers ws)

-- the first words of a line were read as numbers
pub record HasNumbers (line rest : List ℕ) (ns : List ℤ) : Type 0 where
  pub front : List (List ℕ)
  pub cut : words line ≡ front ++ words rest
  pub read : numbers front ≡ Some ns

pub none_read : (line : List ℕ) → HasNumbers line line []
none_read line = record { front = []; cut = refl; read = refl }

pub one_read : (line rest after word : List ℕ) (ns : List ℤ) (v : ℤ) → HasNumbers line rest ns → words rest ≡ word ∷ words after → number word ≡ Some v
    → HasNumbers line after (ns ++ v ∷ [])
one_read line rest after word ns v h w n = record {
  front = h.front ++ word ∷ [];
  cut = h.cut ∙ ap (λ (ws : List (List ℕ)). h.front ++ ws) w ∙ sym (append_assoc h.front (word ∷ []) (words after));
  read = numbers-append h.front (word ∷ []) ∙ ap₂ and_numbers h.read (ap (λ (o : Option ℤ). cons_number o (Some [])) n);
}

many : (line rest : List ℕ) (ns : List ℤ) (h : HasNumbers line rest ns) → length (words line) ≡ length ns + length (words rest)
many line rest ns h =
    let size : length ns ≡ length h.front = subst (λ (o : Option (List ℤ)). IfSome o (λ ms. length ms ≡ length h.front)) h.read (length-numbers h.front) in
    ap length h.cut ∙ length-append h.front (words rest) ∙ ap (λ (k : ℕ). k + length (words rest)) (sym size)

other_length : (count : ℕ) (ws : List (List ℕ)) → (length ws ≡ count → ⊥) → just_numbers count ws ≡ None
other_length count ws h = ap (λ (b : Bool). cond b (numbers ws) None) (refuted (length ws == count) (λ e. h ((Decides-eqb (length ws) count).0 e)))

-- all words were read, and they are so many
pub all_read : (count : ℕ) (line rest : List ℕ) (ns : List ℤ) → HasNumbers line rest ns → words rest ≡ [] → length ns ≡ count → just_numbers count (words line) ≡ Some ns
all_read count line rest ns h w size =
    let whole : words line ≡ h.front = h.cut ∙ ap (λ (ws : List (List ℕ)). h.front ++ ws) w ∙ append-nil h.front in
    let long : length (words line) ≡ count = omega (arith, many line rest ns h, ap length w) in
    ap (λ (b : Bool). cond b (numbers (words line)) None) ((Decides-eqb (length (words line)) count).1 long) ∙ ap numbers whole ∙ h.read

-- they are fewer, or more
pub too_few : (count : ℕ) (line rest : List ℕ) (ns : List ℤ) → HasNumbers line rest ns → words rest ≡ [] → length ns < count → just_numbers count (words line) ≡ None
too_few count line rest ns h w size = other_length count (words line) (λ e. omega (arith, many line rest ns h, ap length w))

pub too_many : (count : ℕ) (line rest word after : List ℕ) (ns : List ℤ) → HasNumbers line rest ns → words rest ≡ word ∷ words after → length ns ≡ count
    → just_numbers count (words line) ≡ None
too_many count line rest word after ns h w size = other_length count (words line) (λ e. omega (arith, many line rest ns h, ap length w))

-- one of them is no number
pub no_number : (count : ℕ) (line rest word after : List ℕ) (ns : List ℤ) → HasNumbers line rest ns → words rest ≡ word ∷ words after → number word ≡ None
    → just_numbers count (words line) ≡ None
no_number count line rest word after ns h w n =
    let found : numbers (words line) ≡ None =
    ap numbers (h.cut ∙ ap (λ (ws : List (List ℕ)). h.front ++ ws) w)
    ∙ numbers-append h.front (word ∷ words after)
    ∙ ap₂ and_numbers h.read (ap (λ (o : Option ℤ). cons_number o (numbers (words after))) n) in
    ap (λ (o : Option (List ℤ)). cond (length (words line) == count) o None) found ∙ either (length (words line) == count)
  where
    either : (b : Bool) → (let none : Option (List ℤ) = None in cond b none none) ≡ None
    either true = refl
    either false = refl

-- one fact where there is no word, and another where there is one
pub by_none : {X P A B : Type 0} (Q : X → Type 0) (o : Option X) (b : Bool) → is_some o ≡ not b → MatchOption o P Q → (P → A) → ((x : X) → Q x → B) → MatchBool b A B
by_none Q None true e m f g = f m
by_none Q None false e m f g = absurd (cc e)
by_none Q (Some x) true e m f g = absurd (cc e)
by_none Q (Some x) false e m f g = g x m
