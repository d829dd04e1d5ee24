use Rattle.std.proofs.Common.{◌≡◌, length, vec_len, rules, ap, sym, ◌∙◌}
use Rattle.evm_parts.specs.PartLists.{PartList}
use Rattle.evm_parts.proofs.Stretches.{count_parts}
use Rattle.evm_parts.proofs.lists.Parts.len.Goals as goal

pub returns : goal.returns
returns c =
    let p = c.self.inside in
    let e : vec_len p.ends ≡ length p.ends.items = search rules in
    c.len.ensures ∙ e ∙ sym (count_parts p.dim 0 p.flat.items p.ends.items) ∙ ap (λ (p : PartList). length p.parts) c.self.view_is
