use Rattle.std.proofs.Common.{◌≡◌, ◌++◌, ◌∷◌, [], ℤ, ◌∙◌, ap, to_z, of_z, w32, rules}
use Rattle.std.specs.Fmt.{signed_decimal}
use Rattle.evm_model.specs.Replies.{spaced}
use Rattle.evm_session.proofs.Rows.{says_after, row_text}
use Rattle.evm_session.proofs.replies.say_row.Goals as goal

pub returns-in_ok-say_behind_spaces-in-Some : goal.returns-in_ok-say_behind_spaces-in-Some
returns-in_ok-say_behind_spaces-in-Some c =
    let read : to_z w32 (of_z w32 c.in-Some.first.now) ≡ c.in-Some.first.now = search rules in
    let first = c.in_ok-say_coordinate-in-Some.ensures ∙ ap (λ (n : ℤ). c.args.out.now.items ++ signed_decimal n) read in
    let text = row_text c.args.row.now c.in-Some.first.now c.in-Some.rest.now c.args.out.now.items c.say_coordinate.new.out.items c.say_behind_spaces.new.out.items c.in-Some.ensures.cases.0 first c.in_ok-say_behind_spaces-in-Some.ensures in
    says_after c.say-in-Some.result c.args.out.now.items c.say_behind_spaces.new.out.items c.say-in-Some.new.out.items (spaced c.args.row.now) (10 ∷ []) text c.say-in-Some.ensures
