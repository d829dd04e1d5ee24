-- Printed shapes are read again: names and numbers.
use Rattle.std.proofs.Common.{◌≡◌, ℕ, ◌≤◌, Bool, true, ◌&&◌, List, [], ◌∷◌, length, map, refl, ◌∙◌, ap, arith, nat_lt, nat_le, ℤ, Option, Some, None, if◌then◌else◌}
use Rattle.std.proofs.lemmas.List.{length-map}
use Rattle.std.specs.Prelude.{slice_index}
use Rattle.std.specs.Option.{option_zip}
use Rattle.std.specs.Fmt.{signed_decimal}
use Rattle.std.specs.List.{list_all}
use Rattle.std.proofs.lemmas.Bool.{and_parts, and_from, leb-true, le-leb}
use Rattle.std.proofs.lemmas.Bool.Decides.{nat_tests}
use Rattle.evm_text.specs.Numbers.{in_number_range, numbers}
use Rattle.evm_script.specs.Words.{is_name, is_name_byte, is_small_letter, keeps_nums, nums_max, name_max}
use Rattle.evm_script.specs.Shapes.{name_of, name_number, name_two_numbers, name_three_numbers, name_numbers, two_names, two_numbers, three_numbers, number_name, number_numbers, some_numbers}
use Rattle.evm_text.proofs.Spaced.{is_plain}
use Rattle.evm_text.proofs.Decimals.{number_again, numbers_again, plain_number, plain_numbers}

-- names are plain words
name_bytes_plain : (w : List ℕ) → list_all is_name_byte w ≡ true → list_all (nat_lt 32) w ≡ true
name_bytes_plain [] h = refl
name_bytes_plain (b ∷ w) h =
    let both = and_parts (is_name_byte b) _ h in
    let first = both.0 in
    and_from (nat_lt 32 b) _ (grind (arith, nat_tests)) (name_bytes_plain w both.1)

pub plain_name : (w : List ℕ) → is_name w ≡ true → is_plain w ≡ true
plain_name w h =
    let three = and_parts (nat_le 1 (length w) && nat_le (length w) name_max && is_small_letter (slice_index w 0)) _ h in
    let two = and_parts (nat_le 1 (length w) && nat_le (length w) name_max) _ three.0 in
    let sizes = and_parts (nat_le 1 (length w)) _ two.0 in
    and_from (list_all (nat_lt 32) w) _ (name_bytes_plain w three.1)
    (and_from (nat_le 1 (length w)) _ sizes.0 (le-leb (length w) 64 (omega (arith, leb-true (length w) 32 sizes.1))))

-- plain words in front of plain words
pub plain_more : (w : List ℕ) (ws : List (List ℕ)) → is_plain w ≡ true → list_all is_plain ws ≡ true → list_all is_plain (w ∷ ws) ≡ true
plain_more w ws h k = and_from (is_plain w) _ h k

-- a first word, a name and plain words
pub named_plain : (first a : List ℕ) (ws : List (List ℕ)) → is_plain first ≡ true → is_name a ≡ true → list_all is_plain ws ≡ true → list_all is_plain (first ∷ a ∷ ws) ≡ true
named_plain first a ws p h k = plain_more first (a ∷ ws) p (plain_more a ws (plain_name a h) k)

-- numbers, each a plain word
pub one_plain : (n : ℤ) → in_number_range n ≡ true → list_all is_plain (signed_decimal n ∷ []) ≡ true
one_plain n h = plain_more (signed_decimal n) [] (plain_number n h) refl

pub two_plain : (m n : ℤ) → in_number_range m ≡ true → in_number_range n ≡ true → list_all is_plain (signed_decimal m ∷ signed_decimal n ∷ []) ≡ true
two_plain m n h k = plain_more (signed_decimal m) (signed_decimal n ∷ []) (plain_number m h) (one_plain n k)

-- numbers are plain words, and few
nums_parts : (ns : List ℤ) → keeps_nums ns ≡ true → ((nat_le 1 (length ns) && nat_le (length ns) nums_max) ≡ true) × (list_all in_number_range ns ≡ true)
nums_parts ns h = and_parts (nat_le 1 (length ns) && nat_le (length ns) nums_max) _ h

pub plain_nums : (ns : List ℤ) → keeps_nums ns ≡ true → list_all is_plain (map signed_decimal ns) ≡ true
plain_nums ns h = plain_numbers ns (nums_parts ns h).1

pub few_nums : (ns : List ℤ) → keeps_nums ns ≡ true → length (map signed_decimal ns) ≤ 12
few_nums ns h =
    omega (arith, length-map ns signed_decimal, leb-true (length ns) nums_max (and_parts (nat_le 1 (length ns)) _ (nums_parts ns h).0).1)

-- the shapes, read again
pub name_again : (w : List ℕ) → is_name w ≡ true → name_of w ≡ Some w
name_again w h = ap (λ (b : Bool). if b then Some w else None) h

some_again : (ns : List ℤ) → keeps_nums ns ≡ true → some_numbers (numbers (map signed_decimal ns)) ≡ Some ns
some_again ns h = ap some_numbers (numbers_again ns (nums_parts ns h).1) ∙ ap (λ (b : Bool). if b then Some ns else None) (nums_parts ns h).0

-- two parts, each read again
pub zip_again : {A B : Type 0} {o : Option A} {p : Option B} (a : A) (b : B) → o ≡ Some a → p ≡ Some b → option_zip o p ≡ Some (a, b)
zip_again {p} a b h k = ap (λ o. option_zip o p) h ∙ ap (option_zip (Some a)) k

pub name_number_again : (name : List ℕ) (n : ℤ) → is_name name ≡ true → in_number_range n ≡ true → name_number (name ∷ signed_decimal n ∷ []) ≡ Some (name, n)
name_number_again name n h k = zip_again name n (name_again name h) (number_again n k)

two_numbers_again : (m n : ℤ) → in_number_range m ≡ true → in_number_range n ≡ true → two_numbers (signed_decimal m ∷ signed_decimal n ∷ []) ≡ Some (m, n)
two_numbers_again m n h k = zip_again m n (number_again m h) (number_again n k)

three_numbers_again : (k m n : ℤ) → in_number_range k ≡ true → in_number_range m ≡ true → in_number_range n ≡ true → three_numbers (signed_decimal k ∷ signed_decimal m ∷ signed_decimal n ∷ []) ≡ Some (k, (m, n))
three_numbers_again k m n g h i = zip_again k (m, n) (number_again k g) (two_numbers_again m n h i)

pub name_two_again : (name : List ℕ) (m n : ℤ) → is_name name ≡ true → in_number_range m ≡ true → in_number_range n ≡ true → name_two_numbers (name ∷ signed_decimal m ∷ signed_decimal n ∷ []) ≡ Some (name, (m, n))
name_two_again name m n g h k = zip_again name (m, n) (name_again name g) (two_numbers_again m n h k)

pub name_three_again : (name : List ℕ) (k m n : ℤ) → is_name name ≡ true → in_number_range k ≡ true → in_number_range m ≡ true → in_number_range n ≡ true → name_three_numbers (name ∷ signed_decimal k ∷ signed_decimal m ∷ signed_decimal n ∷ []) ≡ Some (name, (k, (m, n)))
name_three_again name k m n f g h i = zip_again name (k, (m, n)) (name_again name f) (three_numbers_again k m n g h i)

pub name_numbers_again : (name : List ℕ) (ns : List ℤ) → is_name name ≡ true → keeps_nums ns ≡ true → name_numbers (name ∷ map signed_decimal ns) ≡ Some (name, ns)
name_numbers_again name ns h k = zip_again name ns (name_again name h) (some_again ns k)

pub two_names_again : (a b : List ℕ) → is_name a ≡ true → is_name b ≡ true → two_names (a ∷ b ∷ []) ≡ Some (a, b)
two_names_again a b h k = zip_again a b (name_again a h) (name_again b k)

pub number_numbers_again : (n : ℤ) (ns : List ℤ) → in_number_range n ≡ true → keeps_nums ns ≡ true → number_numbers (signed_decimal n ∷ map signed_decimal ns) ≡ Some (n, ns)
number_numbers_again n ns h k = zip_again n ns (number_again n h) (some_again ns k)

pub number_name_again : (n : ℤ) (name : List ℕ) → in_number_range n ≡ true → is_name name ≡ true → number_name (signed_decimal n ∷ name ∷ []) ≡ Some (n, name)
number_name_again n name h k = zip_again n name (number_again n h) (name_again name k)

-- a first word, a number and plain words
pub counted_plain : (first : List ℕ) (n : ℤ) (ws : List (List ℕ)) → is_plain first ≡ true → in_number_range n ≡ true → list_all is_plain ws ≡ true → list_all is_plain (first ∷ signed_decimal n ∷ ws) ≡ true
counted_plain first n ws p h k = plain_more first (signed_decimal n ∷ ws) p (plain_more (signed_decimal n) ws (plain_number n h) k)
