-- The lines of a list.
use Rattle.std.specs.Prelude.{ℕ, List, [], Option, None, Some, codes}
use Rattle.std.specs.List.{join_with_byte}
use Rattle.evm_text.specs.Spaced.{spaced}
use Rattle.evm_script.specs.Printed.{formula_words}
use Rattle.evm_script.specs.declared.formula.Formula.{Formula}
use Rattle.evm_model.specs.Scene.{Entry}
use Rattle.evm_model.specs.Replies.{line_of, entry_words}

-- the line of an entry that may be there, nothing without one
abbrev pub entry_line : Option Entry → List ℕ
entry_line None = []
entry_line (Some e) = line_of (join_with_byte 32 (entry_words e))

-- the words of a formula, or `input` without one
abbrev pub what_text : Option Formula → List ℕ
what_text None = codes "input"
what_text (Some formula) = spaced (formula_words formula)
