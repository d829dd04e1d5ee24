-- Steps of known bytes.
use Rattle.std.proofs.Common.{◌≡◌, ℕ, ◌-◌, ◌<◌, List, [], ◌∷◌, ◌++◌, length, take, drop, refl, sym, ◌∙◌, ap, subst, arith, append_assoc, Option, None, Some}
use Rattle.std.proofs.lemmas.List.{take_at, take-append-drop, take_all, length-append, length-drop, drop_all}
use Rattle.std.specs.Io.KnownBytes.{Appends, Consumes, Keeps}
use Rattle.evm_tool.specs.Streams.{Sent, AppendsPart}

append_nil : (xs : List ℕ) → xs ++ [] ≡ xs
append_nil [] = refl
append_nil (x ∷ xs) = ap (λ (ys : List ℕ). x ∷ ys) (append_nil xs)

pub appends_nothing : (o : Option (List ℕ)) → Appends o o []
appends_nothing None = tt
appends_nothing (Some xs) = sym (append_nil xs)

pub appends_more : (a b c : Option (List ℕ)) (x y : List ℕ) → Appends a b x → Appends b c y → Appends a c (x ++ y)
appends_more None b c x y p q = tt
appends_more (Some xs) None c x y p q = absurd p
appends_more (Some xs) (Some ys) None x y p q = absurd q
appends_more (Some xs) (Some ys) (Some zs) x y p q = q ∙ ap (λ (t : List ℕ). t ++ y) p ∙ append_assoc xs x y

pub keeps_appends : (a b c : Option (List ℕ)) (x : List ℕ) → Appends a b x → Keeps b c → Appends a c x
keeps_appends None b c x p q = tt
keeps_appends (Some xs) None c x p q = absurd p
keeps_appends (Some xs) (Some ys) None x p q = absurd q
keeps_appends (Some xs) (Some ys) (Some zs) x p q = q ∙ p

pub sent_none : (o : Option (List ℕ)) (piece : List ℕ) → Sent o o piece piece
sent_none o piece = record { front = []; whole = refl; gone = appends_nothing o }

pub sent_more : (a b c : Option (List ℕ)) (piece rest : List ℕ) (n : ℕ) → Sent a b piece rest → Appends b c (take n rest) → Sent a c piece (drop n rest)
sent_more a b c piece rest n s p = record {
  front = s.front ++ take n rest;
  whole = s.whole ∙ ap (λ (t : List ℕ). s.front ++ t) (sym (take-append-drop n rest)) ∙ sym (append_assoc s.front (take n rest) (drop n rest));
  gone = appends_more a b c s.front (take n rest) s.gone p;
}

nil_of_length : (xs : List ℕ) → length xs ≡ 0 → xs ≡ []
nil_of_length xs h = drop_all 0 xs (omega arith)

pub sent_all : (a b : Option (List ℕ)) (piece rest : List ℕ) → Sent a b piece rest → length rest ≡ 0 → Appends a b piece
sent_all a b piece rest s h =
    subst (λ (t : List ℕ). Appends a b t) (sym (s.whole ∙ ap (λ (t : List ℕ). s.front ++ t) (nil_of_length rest h) ∙ append_nil s.front)) s.gone

pub sent_part : (a b c : Option (List ℕ)) (piece rest : List ℕ) → Sent a b piece rest → 0 < length rest → Keeps b c → AppendsPart a c piece
sent_part a b c piece rest s h k = (
  length s.front,
  omega (arith, ap length s.whole, length-append s.front rest),
  subst (λ (t : List ℕ). Appends a c t)
      (sym (ap (λ (t : List ℕ). take (length s.front) t) s.whole ∙ take_at s.front rest (length s.front) refl))
      (keeps_appends a b c s.front s.gone k),
)

pub sent_range : (a b c : Option (List ℕ)) (piece rest : List ℕ) (n : ℕ) → Sent a b piece rest → Appends b c (take n rest) → Sent a c piece (take (length rest - n) (drop n rest))
sent_range a b c piece rest n s p =
    subst (λ (t : List ℕ). Sent a c piece t) (sym (take_all (length rest - n) (drop n rest) (omega (arith, length-drop n rest)))) (sent_more a b c piece rest n s p)

pub consumes_nothing : (o : Option (List ℕ)) → Consumes o o []
consumes_nothing None = tt
consumes_nothing (Some xs) = refl

pub consumes_more : (a b c : Option (List ℕ)) (x y : List ℕ) → Consumes a b x → Consumes b c y → Consumes a c (x ++ y)
consumes_more None b c x y p q = tt
consumes_more (Some xs) None c x y p q = absurd p
consumes_more (Some xs) (Some ys) None x y p q = absurd q
consumes_more (Some xs) (Some ys) (Some zs) x y p q = p ∙ ap (λ (t : List ℕ). x ++ t) q ∙ sym (append_assoc x y zs)

pub keeps_consumes : (a b c : Option (List ℕ)) (x : List ℕ) → Consumes a b x → Keeps b c → Consumes a c x
keeps_consumes None b c x p q = tt
keeps_consumes (Some xs) None c x p q = absurd p
keeps_consumes (Some xs) (Some ys) None x p q = absurd q
keeps_consumes (Some xs) (Some ys) (Some zs) x p q = p ∙ ap (λ (t : List ℕ). x ++ t) (sym q)
