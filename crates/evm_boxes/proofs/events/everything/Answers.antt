use Rattle.std.proofs.Common.{◌≡◌, pos, neg_ℤ, ◌-ℤ◌, arith, rules, refl, w32, to_z, of_z, ◌∙◌}
use Rattle.evm_cells.specs.Limits.{limit}
use Rattle.std.proofs.lemmas.Int.{ints}
use Rattle.evm_boxes.proofs.Windows.{all_is}
use Rattle.evm_boxes.proofs.events.everything.Goals as goal

pub returns : goal.returns
returns c =
    let l : c.limit-limit.result ≡ pos (limit c.args.dim) = c.limit-limit.ensures in
    let k : to_z w32 (of_z w32 c.limit-limit.result) ≡ c.limit-limit.result = search rules in
    let n : to_z w32 (of_z w32 (pos 0 -ℤ to_z w32 (of_z w32 c.limit-limit.result))) ≡ pos 0 -ℤ to_z w32 (of_z w32 c.limit-limit.result) = search rules in
    all_is c.args.dim _ (to_z w32 (of_z w32 (pos 0 -ℤ to_z w32 (of_z w32 c.limit-limit.result)))) (to_z w32 (of_z w32 c.limit-limit.result)) c.requires.high refl (omega (arith, ints)) (k ∙ l) refl refl
