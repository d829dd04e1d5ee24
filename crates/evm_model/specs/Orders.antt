-- An order of names in which the operands of each come before it.
use Rattle.std.specs.Prelude.{ℕ, ◌≡◌, Bool, true, false, List, [], ◌∷◌, bytes_eq}
use Rattle.std.specs.List.{list_any}

-- whether a name is in a list
abbrev pub is_among : List ℕ → List (List ℕ) → Bool
is_among x names = list_any (bytes_eq x) names

-- each of these names was seen
abbrev pub AllSeen : List (List ℕ) → List (List ℕ) → Type 0
AllSeen seen names = (o : List ℕ) → is_among o names ≡ true → is_among o seen ≡ true

-- each name was not seen before, and what it reads was
abbrev pub Ordered : (List ℕ → List (List ℕ)) → List (List ℕ) → List (List ℕ) → Type 0
Ordered reads seen [] = Unit {0}
Ordered reads seen (x ∷ xs) = (is_among x seen ≡ false) × AllSeen seen (reads x) × Ordered reads (x ∷ seen) xs
