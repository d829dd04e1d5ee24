use Rattle.std.proofs.Common.{◌∙◌, subst, rules, w32}
use mir.Val.{SFits}
use Rattle.std.proofs.lemmas.Int.{to_z-of_z}
use Rattle.evm_parts.specs.Stretches.{IsFirstAbove}
use Rattle.evm_parts.proofs.Sweep.{slab_made}
use Rattle.evm_parts.proofs.neighbours.first_slab.Goals as goal

pub returns : goal.returns
returns c =
    let b = c.args.boxes.now in
    let k = c.args.axis in
    let s = c.args.stretch in
    let q = c.requires in
    let fits : SFits w32 c.of-bound.result.high = search rules in
    let at = subst (λ z. IsFirstAbove b.boxes k s z c.first_above.result) (to_z-of_z w32 c.of-bound.result.high fits ∙ c.of-bound.ensures.high) c.first_above.ensures in
    slab_made b.dim b.boxes q.boxes k s q.axis q.stretch q.some c.first_above.result at
