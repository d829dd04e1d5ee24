-- How the lines to come follow from an edit.
use Rattle.std.proofs.Common.{◌≡◌, ℕ, zero, suc, ◌-◌, ◌<◌, List, [], ◌∷◌, ◌++◌, refl, arith}
use Rattle.evm_generator.specs.Script.{edit_line, edit_lines, number_behind}

-- where no line is left before the edits and some edit is, this is the next line
pub edit_is_next : (before after : List (List ℕ)) (n x y : ℕ) → before ≡ [] → 0 < n → y ≡ number_behind 8 x
    → before ++ edit_lines n x ++ after ≡ edit_line x ∷ (before ++ edit_lines (n - 1) y ++ after)
edit_is_next before after zero x y none some e = absurd (omega arith)
edit_is_next before after (suc n) x y none some e =
    let less : suc n - 1 ≡ n = omega arith in
    rw (none, e, less) refl
