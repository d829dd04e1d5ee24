-- Box files that were written are read again.
use Rattle.std.proofs.Common.{◌≡◌, ℕ, ◌*◌, ◌<◌, ◌≤◌, true, false, ◌&&◌, List, [], ◌∷◌, ◌++◌, map, length, Some, Ok, ℤ, pos, neg_ℤ, int_le, codes, refl, sym, ap, ◌∙◌, arith, length-append, if◌then◌else◌, None, nat_eq, nat_lt, nat_le, ⊎_elim}
use Rattle.std.specs.List.{list_all}
use Rattle.std.specs.Fmt.{signed_decimal}
use Rattle.std.proofs.lemmas.Int.{ints as int_facts}
use Rattle.std.proofs.lemmas.Bool.{cases_Bool, eq-eqb, eqb-true}
use Rattle.std.proofs.lemmas.Bool.Decides.{nat_tests}
use Rattle.std.proofs.lemmas.List.{length-map}
use Rattle.std.proofs.lemmas.List.Elements.{All-nil, All-cons, All-append, All-weaker}
use Rattle.evm_text.specs.Lines.{is_lf, without_cr}
use Rattle.evm_text.specs.Words.{words, is_comment}
use Rattle.evm_text.specs.Numbers.{number, numbers, in_number_range}
use Rattle.evm_cells.specs.Limits.{is_point_coord}
use Rattle.evm_cells.specs.Boxes.{IsBox}
use Rattle.evm_cells.specs.Unions.{Ends}
use Rattle.evm_cells.proofs.Coords.{point_is, limit-small, le_yes}
use Rattle.evm_cells.proofs.Xor.{and_first, and_second, and_both}
use Rattle.evm_cells.proofs.Lists.{all-append, all_weaker}
use Rattle.evm_cells.proofs.Universe.{point_parts}
use Rattle.evm_formats.specs.BoxFile.{head_dim, is_skipped, just_numbers}
use Rattle.evm_formats.specs.BoxLaws.{IsLine, IsHead, HasBox}
use Rattle.evm_formats.proofs.BoxLaws.{boxes}
use Rattle.evm_text.specs.Spaced.{spaced}
use Rattle.evm_text.proofs.Spaced.{is_plain, words_spaced, no_cr_spaced}
use Rattle.evm_text.proofs.Decimals.{numbers_again, number_again, plain_numbers, plain_number}
use Rattle.evm_partition.specs.Partition.{partition}
use Rattle.evm_partition.proofs.Within.{boxes_have_room, union_of_partition}
use Rattle.evm_formats.specs.BoxText.{head_line, box_line, box_file, BoxFilesAreReadAgain}

-- ---- coordinates are numbers that are read again

in_range : (n : ℕ) (x : ℤ) → is_point_coord n x ≡ true → in_number_range x ≡ true
in_range n x e =
    let (a, b) = point_is n x e in
    let l = limit-small n in
    and_both (int_le (neg_ℤ (pos 9999999999)) x) (int_le x (pos 9999999999)) (le_yes (neg_ℤ (pos 9999999999)) x (omega (arith, int_facts))) (le_yes x (pos 9999999999) (omega (arith, int_facts)))

all_in_range : (n : ℕ) (xs : List ℤ) → list_all (is_point_coord n) xs ≡ true → list_all in_number_range xs ≡ true
all_in_range n xs e = all_weaker (is_point_coord n) in_number_range (in_range n) xs e

ends_in_range : (n : ℕ) (b : Ends) → IsBox n b.lo b.hi → list_all in_number_range (b.lo ++ b.hi) ≡ true
ends_in_range n b h =
    let (e, u) = point_parts n b.lo h.low in
    let (f, v) = point_parts n b.hi h.high in
    all-append in_number_range b.lo b.hi ∙ and_both (list_all in_number_range b.lo) (list_all in_number_range b.hi) (all_in_range n b.lo u) (all_in_range n b.hi v)

-- ---- lines

plain_line : (w : List ℕ) → list_all (nat_lt 32) w ≡ true → IsLine w
plain_line [] h = All-nil (λ b. is_lf b ≡ false)
plain_line (b ∷ w) h =
    let above : nat_lt 32 b ≡ true = and_first (nat_lt 32 b) (list_all (nat_lt 32) w) h in
    let e : is_lf b ≡ false = grind (arith, nat_tests) in
    All-cons (λ b. is_lf b ≡ false) b w e (plain_line w (and_second (nat_lt 32 b) (list_all (nat_lt 32) w) h))

word_line : (w : List ℕ) → is_plain w ≡ true → IsLine w
word_line w h = plain_line w (and_first (list_all (nat_lt 32) w) (nat_le 1 (length w) && nat_le (length w) 64) h)

no_lf : (ws : List (List ℕ)) → list_all is_plain ws ≡ true → IsLine (spaced ws)
no_lf [] h = All-nil (λ b. is_lf b ≡ false)
no_lf (w ∷ []) h = word_line w (and_first (is_plain w) true h)
no_lf (w ∷ x ∷ ws) h =
    All-append (λ b. is_lf b ≡ false) w (32 ∷ spaced (x ∷ ws)) (word_line w (and_first (is_plain w) (list_all is_plain (x ∷ ws)) h))
    (All-cons (λ b. is_lf b ≡ false) 32 (spaced (x ∷ ws)) refl (no_lf (x ∷ ws) (and_second (is_plain w) (list_all is_plain (x ∷ ws)) h)))

-- a number is no comment
not_comment : (w : List ℕ) (z : ℤ) → number w ≡ Some z → is_comment w ≡ false
unfolding number
not_comment [] z e = refl
not_comment (b ∷ bs) z e = ⊎_elim
    (λ (t : nat_eq b 35 ≡ true). absurd (none z (sym (ap (λ x. number (x ∷ bs)) (eqb-true b 35 t)) ∙ e)))
    (λ (t : nat_eq b 35 ≡ false). t)
    (cases_Bool (nat_eq b 35))
  where
    none : (z : ℤ) → number (35 ∷ bs) ≡ Some z → ⊥
    none z e = cc

filled : (zs : List ℤ) → 0 < length zs → list_all in_number_range zs ≡ true → is_skipped (map signed_decimal zs) ≡ false
filled [] l h = absurd (omega arith)
filled (z ∷ zs) l h = not_comment (signed_decimal z) z (number_again z (and_first (in_number_range z) (list_all in_number_range zs) h))

line_has_box : (n : ℕ) (b : Ends) → 0 < n → IsBox n b.lo b.hi → HasBox n b (box_line b)
line_has_box n b some h =
    let ns : List ℤ = b.lo ++ b.hi in
    let range : list_all in_number_range ns ≡ true = ends_in_range n b h in
    let plain : list_all is_plain (map signed_decimal ns) ≡ true = plain_numbers ns range in
    let (e, u) = point_parts n b.lo h.low in
    let (f, v) = point_parts n b.hi h.high in
    let ws : words (without_cr (box_line b)) ≡ map signed_decimal ns = ap words (no_cr_spaced (map signed_decimal ns) plain) ∙ words_spaced (map signed_decimal ns) plain in
    let long : length (map signed_decimal ns) ≡ 2 * n = length-map ns signed_decimal ∙ length-append b.lo b.hi ∙ omega arith in
    record {
      whole = no_lf (map signed_decimal ns) plain;
      filled = ap is_skipped ws ∙ filled ns (let k = length-append b.lo b.hi in omega arith) range;
      words = ap (just_numbers (2 * n)) ws
          ∙ ap (λ t. if t then numbers (map signed_decimal ns) else None) (eq-eqb (length (map signed_decimal ns)) (2 * n) long)
          ∙ numbers_again ns range;
      box = h;
    }

head_has_dim : (n : ℕ) → 0 < n → n ≤ 6 → IsHead n (head_line n)
head_has_dim n low high =
    let z : in_number_range (pos n) ≡ true = and_both true (int_le (pos n) (pos 9999999999)) refl (le_yes (pos n) (pos 9999999999) (omega (arith, int_facts))) in
    let plain : list_all is_plain (codes "evm-boxes" ∷ codes "1" ∷ signed_decimal (pos n) ∷ []) ≡ true = and_both (is_plain (signed_decimal (pos n))) true (plain_number (pos n) z) refl in
    let ws : words (without_cr (head_line n)) ≡ codes "evm-boxes" ∷ codes "1" ∷ signed_decimal (pos n) ∷ [] =
    ap words (no_cr_spaced (codes "evm-boxes" ∷ codes "1" ∷ signed_decimal (pos n) ∷ []) plain) ∙ words_spaced (codes "evm-boxes" ∷ codes "1" ∷ signed_decimal (pos n) ∷ []) plain in
    record {
      whole = no_lf (codes "evm-boxes" ∷ codes "1" ∷ signed_decimal (pos n) ∷ []) plain;
      states = ap head_dim ws ∙ number_again (pos n) z;
    }

-- ---- the file

-- reading what was written gives the cells
pub read_again : BoxFilesAreReadAgain
unfolding box_file
read_again n S low high s =
    boxes n (head_line n) box_line (partition n S) (head_has_dim n low high)
    (All-weaker (λ b. IsBox n b.lo b.hi) (λ b. HasBox n b (box_line b)) (λ b h. line_has_box n b low h) (partition n S) (boxes_have_room n S s))
    ∙ ap (λ A. Ok A) (union_of_partition n S s)
