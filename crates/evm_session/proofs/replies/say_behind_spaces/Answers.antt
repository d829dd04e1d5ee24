use Rattle.std.proofs.Common.{◌≡◌, ◌++◌, ◌∷◌, take, get_or, ℤ, pos, to_z, of_z, w32, ap, ◌∙◌, rules}
use Rattle.std.specs.Fmt.{signed_decimal}
use Rattle.evm_session.specs.Says.{behind_spaces}
use Rattle.evm_session.proofs.Rows.{says_failed, extends_more, behind_spaces_step}
use Rattle.evm_session.proofs.replies.say_behind_spaces.Goals as goal

pub returns-in_err-say_behind_space : goal.returns-in_err-say_behind_space
returns-in_err-say_behind_space c =
    says_failed c.from_residual.result c.args.out.now.items c.say_behind_space.new.out.items (behind_spaces c.args.coordinates.now) c.from_residual.ensures.0
    (extends_more c.args.out.now.items c.loop-x.out.items c.say_behind_space.new.out.items (behind_spaces (take c.loop-x.x-index c.args.coordinates.now)) c.loop-x.invariant c.in_err-say_behind_space.ensures)

pub loop-x-preserved : goal.loop-x-preserved
loop-x-preserved c =
    let x = get_or c.args.coordinates.now c.loop-x.x-index (pos 0) in
    let read : to_z w32 (of_z w32 x) ≡ x = search rules in
    behind_spaces_step c.args.coordinates.now c.loop-x.x-index (pos 0) c.args.out.now.items c.loop-x.out.items c.say_behind_space.new.out.items c.loop-x-test.true c.loop-x.invariant
    (c.in_ok-say_behind_space.ensures ∙ ap (λ (n : ℤ). c.loop-x.out.items ++ 32 ∷ signed_decimal n) read)
