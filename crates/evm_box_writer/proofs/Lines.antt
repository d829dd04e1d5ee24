-- Lines of boxes, number by number.
use Rattle.std.proofs.Common.{◌≡◌, ℕ, ◌+◌, ◌-◌, ◌<◌, List, [], ◌∷◌, ◌++◌, map, length, take, drop, get_or, ℤ, pos, refl, sym, ap, ap₂, ◌∙◌, arith, append_assoc, append-nil}
use Rattle.std.specs.Fmt.{signed_decimal}
use Rattle.std.proofs.lemmas.Grind.{flat_map-append}
use Rattle.std.proofs.lemmas.List.{map-append, length-drop, take_more, take_all}
use Rattle.evm_text.specs.Lines.{text_of}
use Rattle.evm_cells.specs.Unions.{Ends}
use Rattle.evm_text.specs.Spaced.{spaced, behind_spaces}
use Rattle.evm_text.proofs.Spaced.{word_and_numbers}
use Rattle.evm_partition.specs.Partition.{partition}
use Rattle.evm_formats.specs.BoxText.{head_line, box_line, box_file}

-- the line of a box, number by number
pub line_written : (x : ℤ) (lo rest hi : List ℤ) (start one some all done : List ℕ) → lo ≡ x ∷ rest → one ≡ start ++ signed_decimal x
    → some ≡ one ++ behind_spaces rest → all ≡ some ++ behind_spaces hi → done ≡ all ++ 10 ∷ []
    → done ≡ start ++ (box_line (record { lo = lo; hi = hi }) ++ 10 ∷ [])
line_written x lo rest hi start one some all done e a b c d =
    let line : box_line (record { lo = lo; hi = hi }) ≡ signed_decimal x ++ behind_spaces rest ++ behind_spaces hi =
    ap (λ t. spaced (map signed_decimal (t ++ hi))) e ∙ word_and_numbers (signed_decimal x) (rest ++ hi)
    ∙ ap (λ t. signed_decimal x ++ t) (flat_map-append (λ n. 32 ∷ signed_decimal n) rest hi) ∙ sym (append_assoc (signed_decimal x) (behind_spaces rest) (behind_spaces hi)) in
    d ∙ ap (λ t. t ++ 10 ∷ [])
    (c ∙ ap (λ t. t ++ behind_spaces hi) (b ∙ ap (λ t. t ++ behind_spaces rest) a)
    ∙ ap (λ t. t ++ behind_spaces hi) (append_assoc start (signed_decimal x) (behind_spaces rest))
    ∙ append_assoc start (signed_decimal x ++ behind_spaces rest) (behind_spaces hi)
    ∙ ap (λ t. start ++ t) (sym line))
    ∙ append_assoc start (box_line (record { lo = lo; hi = hi })) (10 ∷ [])

-- one box more
pub lines_more : (text : List ℕ) (bs : List Ends) (i : ℕ) (d : Ends) → i < length bs
    → text ++ text_of (map box_line (take (i + 1) bs)) ≡ (text ++ text_of (map box_line (take i bs))) ++ (box_line (get_or bs i d) ++ 10 ∷ [])
lines_more text bs i d l =
    let add : List ℕ → List ℕ = λ line. line ++ 10 ∷ [] in
    let last : List ℕ = box_line (get_or bs i d) in
    ap (λ t. text ++ text_of (map box_line t)) (take_more bs i d l)
    ∙ ap (λ t. text ++ text_of t) (map-append box_line (take i bs) (get_or bs i d ∷ []))
    ∙ ap (λ t. text ++ t) (flat_map-append add (map box_line (take i bs)) (last ∷ []) ∙ ap (λ t. text_of (map box_line (take i bs)) ++ t) (append-nil (add last)))
    ∙ sym (append_assoc text (text_of (map box_line (take i bs))) (add last))

-- the whole text
pub whole_text : (n m k : ℕ) (S : List (List ℤ)) (bs : List Ends) (start one all : List ℕ) → n ≡ m → k ≡ n → bs ≡ partition m S → start ≡ [] → one ≡ start ++ (head_line k ++ 10 ∷ [])
    → all ≡ one ++ text_of (map box_line bs) → all ≡ box_file m S
unfolding box_file
whole_text n m k S bs start one all d f e none a b =
    b ∙ ap₂ (λ t bs. t ++ text_of (map box_line bs)) (a ∙ ap₂ (λ t j. t ++ (head_line j ++ 10 ∷ [])) none (f ∙ d)) e

pub first_and_rest : (xs : List ℤ) → 0 < length xs → xs ≡ get_or xs 0 (pos 0) ∷ drop 1 xs
first_and_rest [] l = absurd (omega arith)
first_and_rest (x ∷ xs) l = refl

pub rest_is : (xs : List ℤ) → take (length xs - 1) (drop 1 xs) ≡ drop 1 xs
rest_is xs = take_all (length xs - 1) (drop 1 xs) (let e = length-drop 1 xs in omega (arith, e))
