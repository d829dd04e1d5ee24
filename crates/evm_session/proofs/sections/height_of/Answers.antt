use Rattle.std.proofs.Common.{◌≡◌, Bool, true, false, ℤ, pos, neg_ℤ, ◌-ℤ◌, to_z, of_z, w32, subst, rules}
use Rattle.std.specs.Prelude.{MatchOption}
use Rattle.evm_cells.specs.Limits.{limit}
use Rattle.evm_session.proofs.Slicing.{between_heights}
use Rattle.evm_session.proofs.sections.height_of.Goals as goal

pub returns : goal.returns
returns c =
    let low = to_z w32 (of_z w32 (pos 0 -ℤ to_z w32 (of_z w32 c.limit-limit.result))) in
    let high = to_z w32 (of_z w32 (to_z w32 (of_z w32 c.limit-limit.result) -ℤ pos 1)) in
    let least : low ≡ neg_ℤ (pos (limit c.args.dim)) = search rules in
    let greatest : high ≡ pos (limit c.args.dim) -ℤ pos 1 = search rules in
    subst (λ (b : Bool). MatchOption c.between.result (b ≡ false) (λ (found : ℤ). (b ≡ true) × (found ≡ c.args.at.now)))
    (between_heights c.args.dim c.args.at.now low high least greatest)
    c.between.ensures
