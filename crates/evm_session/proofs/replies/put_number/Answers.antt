use Rattle.std.proofs.Common.{◌++◌, List, ℕ, ◌∙◌, ap}
use Rattle.evm_session.proofs.Rows.{changed_said, measured_said}
use Rattle.evm_session.proofs.replies.put_number.Goals as goal

pub returns-clause-changed : goal.returns-clause-changed
returns-clause-changed c =
    let digits = c.put-2.ensures.items ∙ ap (λ (t : List ℕ). c.put.new.out.items ++ t) (c.as_bytes.ensures.value ∙ c.format.ensures.text) in
    changed_said c.args.n c.args.out.now.items c.put.new.out.items c.put-2.new.out.items c.put-3.new.out.items c.put.ensures.items digits c.put-3.ensures.items

pub returns-clause-measured : goal.returns-clause-measured
returns-clause-measured c =
    let digits = c.put-2.ensures.items ∙ ap (λ (t : List ℕ). c.put.new.out.items ++ t) (c.as_bytes.ensures.value ∙ c.format.ensures.text) in
    measured_said c.args.n c.args.out.now.items c.put.new.out.items c.put-2.new.out.items c.put-3.new.out.items c.put.ensures.items digits c.put-3.ensures.items
