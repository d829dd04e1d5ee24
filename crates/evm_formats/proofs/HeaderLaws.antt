-- A header states its numbers, however it is written, and whatever follows.
use Rattle.std.proofs.Common.{◌≡◌, ℕ, ◌*◌, ◌≤◌, ◌==◌, nat_le, Bool, true, false, not, cond, ◌&&◌, ◌||◌, List, [], ◌∷◌, ◌++◌, length, Some, None, Ok, refl, sym, ap, ap₂, ◌∙◌, arith, append_assoc, length-append}
use Rattle.std.specs.Prelude.{option_and_then}
use Rattle.std.specs.List.{list_all}
use Rattle.std.proofs.lemmas.Bool.Decides.{nat_tests}
use Rattle.std.proofs.lemmas.List.{drop_at, take_at}
use Rattle.evm_cells.proofs.Xor.{and_first, and_second}
use Rattle.evm_text.specs.Numbers.{is_digit, digits_value}
use Rattle.evm_formats.specs.Images.{bytes_of}
use Rattle.evm_formats.specs.Header.{is_white, is_end, is_blank, begins, after_blank, digits, after_digits, spaced_number, ended, maxval_and_end, height_on, fields}
use Rattle.evm_formats.specs.Pgm.{shot, image_at, is_wide}
use Rattle.evm_formats.specs.VoxelLaws.{Piece, White, Comment, piece_bytes, is_piece, bytes_of_pieces, Spaced, spaced_bytes, spaced_value, IsSpaced, IsHeader, HeaderStates, SamplesState, FewerAreShort}

-- ---- pieces of a separator

blank_at : (w h : Bool) (b : ℕ) (bs : List ℕ) → is_white b ≡ w → (b == 35) ≡ h → after_blank false (b ∷ bs) ≡ cond w (after_blank false bs) (cond h (after_blank true bs) (b ∷ bs))
unfolding after_blank
blank_at w h b bs p q = ap₂ (λ s t. cond s (after_blank false bs) (cond t (after_blank true bs) (b ∷ bs))) p q

comment_at : (t : Bool) (b : ℕ) (bs : List ℕ) → is_end b ≡ t → after_blank true (b ∷ bs) ≡ after_blank (not t) bs
unfolding after_blank
comment_at t b bs p = ap (λ s. after_blank (not s) bs) p

not_true : (b : Bool) → not b ≡ true → b ≡ false
not_true true e = sym e
not_true false e = refl

comment_over : (text : List ℕ) (last : ℕ) (rest : List ℕ) → list_all (λ b. not (is_end b)) text ≡ true → is_end last ≡ true → after_blank true (text ++ last ∷ rest) ≡ after_blank false rest
comment_over [] last rest a e = comment_at true last rest e
comment_over (b ∷ text) last rest a e =
    comment_at false b (text ++ last ∷ rest) (not_true (is_end b) (and_first (not (is_end b)) (list_all (λ b. not (is_end b)) text) a))
    ∙ comment_over text last rest (and_second (not (is_end b)) (list_all (λ b. not (is_end b)) text) a) e

piece_over : (p : Piece) (rest : List ℕ) → is_piece p ≡ true → after_blank false (piece_bytes p ++ rest) ≡ after_blank false rest
piece_over (White b) rest e = blank_at true (b == 35) b rest e refl
piece_over (Comment text last) rest e =
    blank_at false true 35 ((text ++ last ∷ []) ++ rest) refl refl
    ∙ ap (after_blank true) (append_assoc text (last ∷ []) rest)
    ∙ comment_over text last rest (and_first (list_all (λ b. not (is_end b)) text) (is_end last) e) (and_second (list_all (λ b. not (is_end b)) text) (is_end last) e)

pieces_over : (ps : List Piece) (rest : List ℕ) → list_all is_piece ps ≡ true → after_blank false (bytes_of_pieces ps ++ rest) ≡ after_blank false rest
pieces_over [] rest e = refl
pieces_over (p ∷ ps) rest e =
    ap (after_blank false) (append_assoc (piece_bytes p) (bytes_of_pieces ps) rest)
    ∙ piece_over p (bytes_of_pieces ps ++ rest) (and_first (is_piece p) (list_all is_piece ps) e)
    ∙ pieces_over ps rest (and_second (is_piece p) (list_all is_piece ps) e)

piece_begins : (p : Piece) (rest : List ℕ) → is_piece p ≡ true → (begins is_blank (piece_bytes p ++ rest) ≡ true) × (begins is_digit (piece_bytes p ++ rest) ≡ false)
piece_begins (White b) rest e = (ap (λ s. s || (b == 35)) e, white_no_digit b e)
  where
    white_no_digit : (b : ℕ) → is_white b ≡ true → is_digit b ≡ false
    white_no_digit b e = grind (arith, nat_tests)
piece_begins (Comment text last) rest e = (refl, refl)

-- ---- digits

digit_at : (t : Bool) (b : ℕ) (bs : List ℕ) → is_digit b ≡ t → (digits (b ∷ bs) ≡ cond t (b ∷ digits bs) []) × (after_digits (b ∷ bs) ≡ cond t (after_digits bs) (b ∷ bs))
unfolding digits after_digits
digit_at t b bs p = (ap (λ s. cond s (b ∷ digits bs) []) p, ap (λ s. cond s (after_digits bs) (b ∷ bs)) p)

digits_stop : (rest : List ℕ) → begins is_digit rest ≡ false → (digits rest ≡ []) × (after_digits rest ≡ rest)
unfolding digits after_digits
digits_stop [] e = (refl, refl)
digits_stop (b ∷ rest) e = digit_at false b rest e

digits_over : (ds rest : List ℕ) → list_all is_digit ds ≡ true → begins is_digit rest ≡ false → (digits (ds ++ rest) ≡ ds) × (after_digits (ds ++ rest) ≡ rest)
digits_over [] rest a e = digits_stop rest e
digits_over (d ∷ ds) rest a e =
    let (p, q) = digit_at true d (ds ++ rest) (and_first (is_digit d) (list_all is_digit ds) a) in
    let (r, s) = digits_over ds rest (and_second (is_digit d) (list_all is_digit ds) a) e in
    (p ∙ ap (λ (t : List ℕ). d ∷ t) r, q ∙ s)

digit_is_found : (d : ℕ) (rest : List ℕ) → is_digit d ≡ true → after_blank false (d ∷ rest) ≡ d ∷ rest
digit_is_found d rest e = blank_at false false d rest (dark d e) (no_sign d e)
  where
    dark : (d : ℕ) → is_digit d ≡ true → is_white d ≡ false
    dark d e = grind (arith, nat_tests)

    no_sign : (d : ℕ) → is_digit d ≡ true → (d == 35) ≡ false
    no_sign d e = grind (arith, nat_tests)

-- ---- a number after a separator

spaced_begins : (s : Spaced) (rest : List ℕ) → IsSpaced s → (begins is_blank (spaced_bytes s rest) ≡ true) × (begins is_digit (spaced_bytes s rest) ≡ false)
spaced_begins s rest h =
    let behind = bytes_of_pieces s.more ++ ((s.digit ∷ s.digits) ++ rest) in
    let e = append_assoc (piece_bytes s.first) (bytes_of_pieces s.more) ((s.digit ∷ s.digits) ++ rest) in
    let (a, b) = piece_begins s.first behind (and_first (is_piece s.first) (list_all is_piece s.more) h.pieces) in
    (ap (begins is_blank) e ∙ a, ap (begins is_digit) e ∙ b)

spaced_is : (s : Spaced) (rest : List ℕ) → IsSpaced s → begins is_digit rest ≡ false → spaced_number (spaced_bytes s rest) ≡ Some (spaced_value s, rest)
unfolding spaced_number
spaced_is s rest h e =
    let ds : List ℕ = s.digit ∷ s.digits in
    let first : is_digit s.digit ≡ true = and_first (is_digit s.digit) (list_all is_digit s.digits) h.all_digits in
    let found : after_blank false (spaced_bytes s rest) ≡ s.digit ∷ (s.digits ++ rest) =
    pieces_over (s.first ∷ s.more) ((s.digit ∷ s.digits) ++ rest) h.pieces ∙ digit_is_found s.digit (s.digits ++ rest) first in
    let (p, q) = digits_over (s.digit ∷ s.digits) rest h.all_digits e in
    ap (λ (t : List ℕ). cond (begins is_blank (spaced_bytes s rest) && begins is_digit t) (Some (digits_value (digits t), after_digits t)) None) found
    ∙ ap₂ (λ a b. cond (a && b) (Some (digits_value (digits (s.digit ∷ (s.digits ++ rest))), after_digits (s.digit ∷ (s.digits ++ rest)))) None) (spaced_begins s rest h).0 first
    ∙ ap₂ (λ (t u : List ℕ). Some (digits_value t, u)) p q

ended_is : (w h m last : ℕ) (rest : List ℕ) → is_white last ≡ true → ended w h m (last ∷ rest) ≡ Some (record { width = w; height = h; maxval = m; rest = rest })
unfolding ended
ended_is w h m last rest e = ap (λ t. cond t (Some (record { width = w; height = h; maxval = m; rest = rest })) None) e

white_no_digit : (b : ℕ) → is_white b ≡ true → is_digit b ≡ false
white_no_digit b e = grind (arith, nat_tests)

fields_are : (w h m : Spaced) (last : ℕ) (rest : List ℕ) → IsHeader w h m last
    → fields (spaced_bytes w (spaced_bytes h (spaced_bytes m (last ∷ rest)))) ≡ Some (record { width = spaced_value w; height = spaced_value h; maxval = spaced_value m; rest = rest })
unfolding fields
fields_are w h m last rest k =
    let third = spaced_bytes m (last ∷ rest) in
    let second = spaced_bytes h third in
    ap (option_and_then (λ (w : ℕ × List ℕ). height_on w.0 w.1)) (spaced_is w second k.width (spaced_begins h third k.height).1)
    ∙ ap (option_and_then (λ (h : ℕ × List ℕ). maxval_and_end (spaced_value w) h.0 h.1)) (spaced_is h third k.height (spaced_begins m (last ∷ rest) k.maxval).1)
    ∙ ap (option_and_then (λ (m : ℕ × List ℕ). ended (spaced_value w) (spaced_value h) m.0 m.1)) (spaced_is m (last ∷ rest) k.maxval (white_no_digit last k.white))
    ∙ ended_is (spaced_value w) (spaced_value h) (spaced_value m) last rest k.white

pub header_states : HeaderStates
unfolding image_at
header_states n z size w h m last rest k = ap (shot n z size) (fields_are w h m last rest k)

-- ---- samples

pub samples_state : SamplesState
unfolding shot
samples_state n z size w h m samples rest t l =
    let fits : nat_le (bytes_of (is_wide m) (h * w)) (length (samples ++ rest)) ≡ true =
    let k : bytes_of (is_wide m) (h * w) ≤ length (samples ++ rest) = omega (arith, length-append samples rest, l) in grind (arith, nat_tests) in
    rw (t.numbers, t.range, t.shape, fits)
    (ap₂ (λ (a b : List ℕ). Ok (record { width = w; height = h; picture = record { bytes = a; wide = is_wide m }; rest = b }))
    (take_at samples rest (bytes_of (is_wide m) (h * w)) l) (drop_at samples rest (bytes_of (is_wide m) (h * w)) l))

pub fewer_are_short : FewerAreShort
unfolding shot
fewer_are_short n z size w h m rest t l =
    let short : nat_le (bytes_of (is_wide m) (h * w)) (length rest) ≡ false = grind (arith, nat_tests) in
    rw (t.numbers, t.range, t.shape, short) refl
