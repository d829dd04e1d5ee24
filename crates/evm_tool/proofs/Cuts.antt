-- The lines of a text whose front is known, and where the first line feed stands.
use Rattle.std.proofs.Common.{◌≡◌, ℕ, ◌+◌, ◌<◌, false, List, [], ◌∷◌, ◌++◌, length, take, drop, get_or, refl, sym, ◌∙◌, ap, arith, append_assoc, All, Some, None}
use Rattle.std.specs.List.{slice_split, position, position_or_len, before_first, after_first}
use Rattle.std.proofs.lemmas.Bool.{false≢true, eqb-true}
use Rattle.std.proofs.lemmas.Grind.{flat_map-append}
use Rattle.std.proofs.lemmas.List.{length-append, length-take, append-nil, get_or-take}
use Rattle.std.proofs.lemmas.List.Elements.{All-drop}
use Rattle.std.proofs.lemmas.List.Splits.{slice_split_none, slice_split_at, length-slice_split}
use Rattle.std.proofs.lemmas.List.Sums.{fails_before_first, split_at_first, passes_at_first}
use Rattle.evm_text.specs.Lines.{is_lf, last_line, lines_of_parts, lines, text_of}
use Rattle.evm_text.proofs.LineCuts.{some_place, no_place}
use Rattle.evm_tool.specs.EndedLines.{HasNoLf, ended_parts, ended_lines}

-- ---- lines with a line feed each, in front of a text

pub text_cons : (l : List ℕ) (ls : List (List ℕ)) (rest : List ℕ) → text_of (l ∷ ls) ++ rest ≡ l ++ 10 ∷ (text_of ls ++ rest)
text_cons l ls rest = append_assoc (l ++ 10 ∷ []) (text_of ls) rest ∙ append_assoc l (10 ∷ []) (text_of ls ++ rest)

pub text_append : (ls ks : List (List ℕ)) → text_of (ls ++ ks) ≡ text_of ls ++ text_of ks
text_append ls ks = flat_map-append (λ (line : List ℕ). line ++ 10 ∷ []) ls ks

pub each_head : (l : List ℕ) (ls : List (List ℕ)) → All HasNoLf (l ∷ ls) → HasNoLf l
each_head l ls h = h 0 [] (omega arith)

pub each_tail : (l : List ℕ) (ls : List (List ℕ)) → All HasNoLf (l ∷ ls) → All HasNoLf ls
each_tail l ls h = All-drop HasNoLf 1 (l ∷ ls) h

split_text : (ls : List (List ℕ)) (rest : List ℕ) → All HasNoLf ls → slice_split is_lf (text_of ls ++ rest) ≡ ls ++ slice_split is_lf rest
split_text [] rest h = refl
split_text (l ∷ ls) rest h =
    ap (slice_split is_lf) (text_cons l ls rest)
    ∙ slice_split_at is_lf l 10 (text_of ls ++ rest) (each_head l ls h) refl
    ∙ ap (λ (t : List (List ℕ)). l ∷ t) (split_text ls rest (each_tail l ls h))

parts_step : (x : List ℕ) (parts : List (List ℕ)) → 0 < length parts → lines_of_parts (x ∷ parts) ≡ x ∷ lines_of_parts parts
parts_step x [] h = absurd (omega arith)
parts_step x (y ∷ more) h = refl

ended_step : (x : List ℕ) (parts : List (List ℕ)) → 0 < length parts → ended_parts (x ∷ parts) ≡ x ∷ ended_parts parts
ended_step x [] h = absurd (omega arith)
ended_step x (y ∷ more) h = refl

parts_text : (ls parts : List (List ℕ)) → 0 < length parts → lines_of_parts (ls ++ parts) ≡ ls ++ lines_of_parts parts
parts_text [] parts h = refl
parts_text (l ∷ ls) parts h = parts_step l (ls ++ parts) (omega (arith, length-append ls parts)) ∙ ap (λ (t : List (List ℕ)). l ∷ t) (parts_text ls parts h)

ended_of_parts : (ls parts : List (List ℕ)) → 0 < length parts → ended_parts (ls ++ parts) ≡ ls ++ ended_parts parts
ended_of_parts [] parts h = refl
ended_of_parts (l ∷ ls) parts h = ended_step l (ls ++ parts) (omega (arith, length-append ls parts)) ∙ ap (λ (t : List (List ℕ)). l ∷ t) (ended_of_parts ls parts h)

-- the lines of a text begin with those that stand in front
pub lines_text : (ls : List (List ℕ)) (rest : List ℕ) → All HasNoLf ls → lines (text_of ls ++ rest) ≡ ls ++ lines rest
unfolding lines
lines_text ls rest h = ap lines_of_parts (split_text ls rest h) ∙ parts_text ls (slice_split is_lf rest) (omega (arith, length-slice_split is_lf rest))

pub ended_text : (ls : List (List ℕ)) (rest : List ℕ) → All HasNoLf ls → ended_lines (text_of ls ++ rest) ≡ ls ++ ended_lines rest
unfolding ended_lines
ended_text ls rest h = ap ended_parts (split_text ls rest h) ∙ ended_of_parts ls (slice_split is_lf rest) (omega (arith, length-slice_split is_lf rest))

lines_open : (rest : List ℕ) → HasNoLf rest → lines rest ≡ last_line rest
unfolding lines
lines_open rest h = ap lines_of_parts (slice_split_none is_lf rest h)

ended_open : (rest : List ℕ) → HasNoLf rest → ended_lines rest ≡ []
unfolding ended_lines
ended_open rest h = ap ended_parts (slice_split_none is_lf rest h)

-- where the rest has no line feed, it is the last line, and none that one ends
pub lines_cut : (ls : List (List ℕ)) (rest : List ℕ) → All HasNoLf ls → HasNoLf rest → lines (text_of ls ++ rest) ≡ ls ++ last_line rest
lines_cut ls rest h r = lines_text ls rest h ∙ ap (λ (t : List (List ℕ)). ls ++ t) (lines_open rest r)

pub ended_cut : (ls : List (List ℕ)) (rest : List ℕ) → All HasNoLf ls → HasNoLf rest → ended_lines (text_of ls ++ rest) ≡ ls
ended_cut ls rest h r = ended_text ls rest h ∙ ap (λ (t : List (List ℕ)). ls ++ t) (ended_open rest r) ∙ append-nil ls

no_byte : HasNoLf []
no_byte k d l = absurd (omega arith)

-- and with nothing behind them
pub lines_only : (ls : List (List ℕ)) → All HasNoLf ls → lines (text_of ls) ≡ ls
lines_only ls h = ap lines (sym (append-nil (text_of ls))) ∙ lines_cut ls [] h no_byte ∙ append-nil ls

pub ended_only : (ls : List (List ℕ)) → All HasNoLf ls → ended_lines (text_of ls) ≡ ls
ended_only ls h = ap ended_lines (sym (append-nil (text_of ls))) ∙ ended_cut ls [] h no_byte

-- ---- a front without a line feed

head_same : (x y : ℕ) (xs ys : List ℕ) → x ∷ xs ≡ y ∷ ys → x ≡ y
head_same x y xs ys e = ap (λ (t : List ℕ). get_or t 0 0) e

tail_same : (x y : ℕ) (xs ys : List ℕ) → x ∷ xs ≡ y ∷ ys → xs ≡ ys
tail_same x y xs ys e = ap (λ (t : List ℕ). drop 1 t) e

-- the first line goes on a front without a line feed
pub record GoesOn (front behind line more : List ℕ) : Type 0 where
  pub tail : List ℕ
  pub line_is : line ≡ front ++ tail
  pub behind_is : behind ≡ tail ++ 10 ∷ more

pub goes_on : (front behind line more : List ℕ) → HasNoLf front → front ++ behind ≡ line ++ 10 ∷ more → GoesOn front behind line more
goes_on [] behind line more h e = record { tail = line; line_is = refl; behind_is = e }
goes_on (b ∷ front) behind [] more h e =
    let byte : b ≡ 10 = head_same b 10 (front ++ behind) more e in
    absurd (false≢true (sym (h 0 0 (omega arith)) ∙ ap is_lf byte))
goes_on (b ∷ front) behind (c ∷ line) more h e =
    let byte = head_same b c (front ++ behind) (line ++ 10 ∷ more) e in
    let later = goes_on front behind line more (All-drop (λ (x : ℕ). is_lf x ≡ false) 1 (b ∷ front) h) (tail_same b c (front ++ behind) (line ++ 10 ∷ more) e) in
    record {
      tail = later.tail;
      line_is = ap (λ (x : ℕ). x ∷ line) (sym byte) ∙ ap (λ (t : List ℕ). b ∷ t) later.line_is;
      behind_is = later.behind_is;
    }

-- ---- the first line feed

pub record FirstLf (xs : List ℕ) (at : ℕ) : Type 0 where
  pub whole : xs ≡ take at xs ++ 10 ∷ drop (at + 1) xs
  pub before : HasNoLf (take at xs)

pub first_is_lf : (xs : List ℕ) (at : ℕ) → position is_lf xs ≡ Some at → FirstLf xs at
first_is_lf xs at e =
    let found = some_place is_lf xs at e in
    let byte : get_or xs (position_or_len is_lf xs) 0 ≡ 10 = eqb-true _ _ (passes_at_first is_lf xs 0 found.0) in
    record {
      whole = split_at_first is_lf xs 0 found.0
          ∙ ap (λ (b : ℕ). before_first is_lf xs ++ b ∷ after_first is_lf xs) byte
          ∙ ap (λ (k : ℕ). take k xs ++ 10 ∷ drop (k + 1) xs) found.1;
      before = λ k d l.
          let below : k < at = omega (arith, length-take at xs, l) in
          ap is_lf (get_or-take at xs k d below) ∙ fails_before_first is_lf xs k d (omega (arith, found.1, below));
    }

pub none_is_lf : (xs : List ℕ) → position is_lf xs ≡ None → HasNoLf xs
none_is_lf xs e = λ k d l. fails_before_first is_lf xs k d (omega (arith, no_place is_lf xs e, l))
