use Rattle.std.proofs.Common.{◌≡◌, ℕ, ◌<◌, ◌≤◌, ◌⊎◌, List, [], ◌∷◌, length, None, refl, inl, inr, arith, rules, Bor}
use Rattle.evm_script.specs.Files.{form_file}
use Rattle.evm_script.proofs.Counted.{bytes_of}
use Rattle.evm_script.proofs.load.form_then_file.Goals as goal
use Rattle.evm_script.proofs.load.form_then_file.Goals.{in_default-via-then-words-lt2, in_default-via-else-words-lt2+else-words-lt3+else-words-lt4}

-- neither two words nor three are no form and file
none_counted : (ws : List (Bor (List ℕ))) → (length ws < 2) ⊎ (4 ≤ length ws) → None ≡ form_file (bytes_of ws)
none_counted [] h = refl
none_counted (v ∷ []) h = refl
none_counted (v ∷ w ∷ []) h = absurd (elim h [ inl few ↦ omega arith | inr many ↦ omega arith ])
none_counted (v ∷ w ∷ x ∷ []) h = absurd (elim h [ inl few ↦ omega arith | inr many ↦ omega arith ])
none_counted (v ∷ w ∷ x ∷ y ∷ ws) h = refl

pub returns-in_default : goal.returns-in_default
returns-in_default c =
    none_counted c.args.words.now
    (elim c.in_default.branch [ in_default-via-then-words-lt2 w ↦ inl (search rules) | in_default-via-else-words-lt2+else-words-lt3+else-words-lt4 w ↦ inr (search rules) ])
