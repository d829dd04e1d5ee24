-- What appending to a reply leaves.
use Rattle.std.specs.Prelude.{ℕ, ◌≡◌, List, ◌∷◌, ◌++◌, length, take, flat_map, ℤ, Result, Ok, Err}
use Rattle.std.specs.Fmt.{signed_decimal}
use Rattle.evm_rows.specs.declared.solid.NoMemory.{NoMemory}

-- the bytes before still stand at the front
abbrev pub Extends : List ℕ → List ℕ → Type 0
Extends before now = take (length before) now ≡ before

-- the text was appended, or for want of memory a part of it at most
abbrev pub Says : {X : Type 0} → Result X NoMemory → List ℕ → List ℕ → List ℕ → Type 0
Says (Ok done) before now text = now ≡ before ++ text
Says (Err lack) before now text = Extends before now

-- numbers, each behind a space
abbrev pub behind_spaces : List ℤ → List ℕ
behind_spaces numbers = flat_map (λ n. 32 ∷ signed_decimal n) numbers
