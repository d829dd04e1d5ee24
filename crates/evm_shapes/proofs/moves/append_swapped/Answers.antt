use Rattle.std.proofs.Common.{◌∙◌, ap₂, ◌+◌, ℕ, ℤ, List}
use Rattle.std.specs.Prelude.{swap}
use Rattle.evm_shapes.proofs.MoveSteps.{swap_done}
use Rattle.evm_shapes.proofs.moves.append_swapped.Goals as goal

pub returns : goal.returns
returns c =
    c.swap.ensures.items
    ∙ ap₂ (λ (xs : List ℤ) (n : ℕ). swap xs (n + c.args.i) (n + c.args.j)) c.in_ok-extend_from_slice.ensures.items (c.len-start.ensures ∙ c.args.out.now.ok.0)
    ∙ swap_done c.args.out.now.items c.args.row.now c.args.i c.args.j c.requires.first c.requires.second
