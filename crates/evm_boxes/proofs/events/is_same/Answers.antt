use Rattle.std.proofs.Common.{◌≡◌, Bool, true, false, sym, ◌∙◌, refl}
use Rattle.std.specs.Ordering.{int_eq}
use Rattle.std.specs.Bool.{OnTrue}
use Rattle.std.specs.Cmp.Rules.{signed_items}
use Rattle.std.proofs.lemmas.Bool.Decides.{Decides-eqb}
use lib.Pointwise.{pointwise}
use Rattle.evm_boxes.proofs.events.is_same.Goals as goal
use Rattle.evm_boxes.proofs.events.is_same.Goals.{then-row-other, else-row-other}

on_true : (b : Bool) (P : Type 0) → (b ≡ true → P) → OnTrue b P
on_true true P f = f refl
on_true false P f = tt

pub returns-then-eq : goal.returns-then-eq
returns-then-eq c =
    let row = c.args.row.now in
    let other = c.args.other.now in
    let both : (row.dim ≡ other.dim) × (pointwise int_eq row.lo other.lo ≡ true) =
    elim c.if-row-other.branch [
      | then-row-other w ↦ (w.if-row-other.true, sym w.eq.ensures ∙ sym w.value-is ∙ c.if-eq.true)
      | else-row-other w ↦ absurd (w.if-row-other.false ((Decides-eqb row.dim other.dim).0 (sym w.value-is ∙ c.if-eq.true)))
    ] in
    on_true c.eq-then-eq.result (row ≡ other)
    (λ h. let lo = (signed_items row.lo other.lo).0 both.1 in
    let hi = (signed_items row.hi other.hi).0 (sym c.eq-then-eq.ensures ∙ h) in
    λ i. record { dim = both.0 i; lo = lo i; hi = hi i })
