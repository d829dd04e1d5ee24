-- The lines that a generator has yet to give.
use Rattle.std.specs.Prelude.{ℕ, ◌≡◌, Bool, true, false, List, [], ◌∷◌, ◌++◌, Result, Ok, Err}
use Rattle.evm_text.specs.Lines.{lines}
use Rattle.evm_generator.specs.Script.{edit_lines}
use Rattle.evm_generator.specs.declared.generator.Generator.{Generator}

-- the lines to come: what is left of the first ones, the edits that are left, and what is left of the last ones
abbrev pub lines_left : Generator → List (List ℕ)
lines_left g = lines g.first.now ++ edit_lines g.edits g.draws.number ++ lines g.last.now

-- a line was appended, the next of those to come; or none was left; or memory was missing, and all lines to come are still to come
abbrev pub Gives : {E : Type 0} → Result Bool E → Generator → Generator → List ℕ → List ℕ → Type 0
Gives (Ok true) old new before now =
    (line : List ℕ) × (lines_left old ≡ line ∷ lines_left new) × (now ≡ before ++ line)
Gives (Ok false) old new before now = (lines_left old ≡ []) × (new ≡ old) × (now ≡ before)
Gives (Err e) old new before now = new ≡ old
