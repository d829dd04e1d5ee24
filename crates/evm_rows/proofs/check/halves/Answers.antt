use Rattle.std.proofs.Common.{arith, ap, ◌∙◌, ◌%◌, ◌/◌, length, ℕ}
use native.Mathlib.Nat.{mul-mod_left}
use Rattle.evm_rows.proofs.OddParts.{whole_left}
use Rattle.evm_rows.proofs.check.halves.Goals as goal

pub returns-clause-first_whole : goal.returns-clause-first_whole
returns-clause-first_whole c = ap (λ (n : ℕ). n % c.args.width) c.split_at.ensures.front_len ∙ mul-mod_left (length c.args.flat.now / c.args.width / 2) c.args.width

pub returns-clause-second_whole : goal.returns-clause-second_whole
returns-clause-second_whole c =
    whole_left (length c.args.flat.now / c.args.width / 2) (length c.split_at.result.0.now) (length c.split_at.result.1.now) c.args.width (length c.args.flat.now)
    c.split_at.ensures.front_len (omega (arith, ap length c.split_at.ensures.front)) c.requires.whole
