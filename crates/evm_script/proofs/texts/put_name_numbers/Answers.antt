use Rattle.std.proofs.Common.{◌∙◌, ◌++◌, ◌∷◌, List, ℕ, ap, subst, OnOk, ◌≡◌}
use Rattle.std.specs.List.{flat_map}
use Rattle.std.specs.Fmt.{signed_decimal}
use Rattle.evm_text.proofs.Spaced.{after_two}
use Rattle.evm_script.proofs.texts.put_name_numbers.Goals as goal

pub returns-clause-text : goal.returns-clause-text
returns-clause-text c =
    let numbers = λ (t : List ℕ). t ++ flat_map (λ n. 32 ∷ signed_decimal n) c.args.nums.now in
    let all = ap numbers c.in_ok-put_name.ensures.text ∙ after_two c.args.text.now.items c.args.first.now c.args.name.now c.args.nums.now in
    subst (λ (t : List ℕ). OnOk c.put_numbers.result (c.put_numbers.new.text.items ≡ t)) all c.put_numbers.ensures.text
