use Rattle.std.proofs.Common.{◌≡◌, ◌++◌, ap, ◌∙◌, get_or, drop, pos, rules, w32}
use mir.Val.{SFits}
use Rattle.std.specs.Fmt.{signed_decimal}
use Rattle.evm_text.specs.Spaced.{behind_spaces}
use Rattle.evm_rows.proofs.BoxTests.{same32}
use Rattle.evm_box_writer.proofs.Lines.{line_written, first_and_rest, rest_is}
use Rattle.evm_box_writer.proofs.put_box.Goals as goal

pub returns : goal.returns
returns c =
    let lo = c.args.lo.now in
    let x = get_or lo 0 (pos 0) in
    let fits : SFits w32 x = search rules in
    let one : c.append_number.new.text.items ≡ c.args.text.now.items ++ signed_decimal x = c.in_ok-append_number.ensures ∙ ap (λ z. c.args.text.now.items ++ signed_decimal z) (same32 x fits) in
    line_written x lo (drop 1 lo) c.args.hi.now c.args.text.now.items c.append_number.new.text.items c.append_numbers.new.text.items c.append_numbers-2.new.text.items c.push.new.self.items
    (first_and_rest lo c.requires) one (c.in_ok-append_numbers.ensures ∙ ap (λ zs. c.append_number.new.text.items ++ behind_spaces zs) (rest_is lo)) c.in_ok-append_numbers-2.ensures c.in_ok-push.ensures.items
