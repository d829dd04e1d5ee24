use Rattle.std.proofs.Common.{◌≡◌, ◌++◌, ℤ, ◌∙◌, ap, to_z, of_z, w32, rules}
use Rattle.std.specs.Fmt.{signed_decimal}
use Rattle.evm_session.proofs.Counting.{says_cut}
use Rattle.evm_session.proofs.replies.say_cut.Goals as goal

pub returns : goal.returns
returns c =
    let cut = c.args.cut.now in
    let read : to_z w32 (of_z w32 cut.at) ≡ cut.at = search rules in
    let first = c.in_ok-say_coordinate.ensures ∙ ap (λ (n : ℤ). c.args.out.now.items ++ signed_decimal n) read in
    says_cut cut c.say-3.result c.args.out.now.items
    c.say_coordinate.new.out.items c.say.new.out.items c.say_count.new.out.items c.say-2.new.out.items c.say_count-2.new.out.items c.say-3.new.out.items
    first c.in_ok-say.ensures c.in_ok-say_count.ensures c.in_ok-say-2.ensures c.in_ok-say_count-2.ensures c.say-3.ensures
