-- Dimension 0: one place
use Rattle.std.proofs.Common.{◌≡◌, Bool, true, false, not, cond, [], ◌∷◌, refl, ap, ap₂, ◌∙◌}
use mathlib.Core.Bool.{beq}
use Rattle.evm_cells.specs.Places.{has, same, each}
use Rattle.evm_cells.specs.Limits.{every_cell, every_point, tuples}
use Rattle.evm_cells.specs.Booleans.{xor, combine}
use Rattle.evm_cells.specs.Vertices.{evm, cells, around, touches, below, odd}
use Rattle.evm_rows.specs.Rows.{combined_rows, xor_rows}
use Rattle.evm_sections.specs.Couplets.{mark}

every_cell-zero : every_cell 0 ≡ [] ∷ []
unfolding every_cell tuples
every_cell-zero = refl

every_point-zero : every_point 0 ≡ [] ∷ []
unfolding every_point tuples
every_point-zero = refl

pub cells-mark : (b : Bool) → cells 0 (mark b) ≡ mark b
unfolding cells below each odd
cells-mark true = rw every_cell-zero refl
cells-mark false = rw every_cell-zero refl

evm-mark : (b : Bool) → evm 0 (mark b) ≡ mark b
unfolding evm around touches each odd
evm-mark true = rw every_point-zero refl
evm-mark false = rw every_point-zero refl

has-mark : (b : Bool) → has (mark b) [] ≡ b
unfolding has same each
has-mark true = refl
has-mark false = refl

if-mark : (b : Bool) → cond b ([] ∷ []) [] ≡ mark b
if-mark true = refl
if-mark false = refl

combine-mark : (op : Bool → Bool → Bool) (p q : Bool) → combine op 0 (mark p) (mark q) ≡ mark (op p q)
unfolding combine
combine-mark op p q = rw every_cell-zero (ap (λ t. cond t ([] ∷ []) []) (ap₂ op (has-mark p) (has-mark q)) ∙ if-mark (op p q))

pub combined_rows-mark : (op : Bool → Bool → Bool) (p q : Bool) → combined_rows op 0 (mark p) (mark q) ≡ mark (op p q)
unfolding combined_rows
combined_rows-mark op p q = ap₂ (λ X Y. evm 0 (combine op 0 X Y)) (cells-mark p) (cells-mark q) ∙ ap (evm 0) (combine-mark op p q) ∙ evm-mark (op p q)

pub xor_rows-mark : (p q : Bool) → xor_rows 0 (mark p) (mark q) ≡ mark (xor p q)
unfolding xor_rows
xor_rows-mark p q = combined_rows-mark xor p q

pub differs : (a b : Bool) → not (beq a b) ≡ xor a b
unfolding xor
differs true true = refl
differs true false = refl
differs false true = refl
differs false false = refl
