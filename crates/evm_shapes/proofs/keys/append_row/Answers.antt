use Rattle.std.proofs.Common.{◌∙◌, ◌++◌, ap, ℤ, List, SFits, w32, rules}
use Rattle.evm_sections.proofs.Bits.{same32}
use Rattle.evm_shapes.proofs.Packed.{words_are}
use Rattle.evm_shapes.proofs.keys.append_row.Goals as goal

pub returns : goal.returns
returns c =
    let fa : SFits w32 c.number_at.result = search rules in
    let fb : SFits w32 c.number_at-2.result = search rules in
    let fc : SFits w32 c.number_at-3.result = search rules in
    let fd : SFits w32 c.number_at-4.result = search rules in
    c.in_ok-extend_from_slice.ensures.items
    ∙ ap (λ (z : List ℤ). c.args.out.now.items ++ z)
    (words_are c.args.width c.args.key _ _ _ _ c.requires (same32 _ fa ∙ c.number_at.ensures) (same32 _ fb ∙ c.number_at-2.ensures) (same32 _ fc ∙ c.number_at-3.ensures) (same32 _ fd ∙ c.number_at-4.ensures))
