use Rattle.std.proofs.Common.{List, ℕ, ◌++◌, length, drop, replicate, sym, subst, arith}
use Rattle.evm_text.specs.Padding.{Padded, padded_copy}
use Rattle.evm_text.proofs.inline.InlineBytes.of.Goals as goal

pub invariant_of-result : goal.invariant_of-result
invariant_of-result g c =
    let xs = c.args.bytes.now in
    subst (λ (ys : List ℕ). Padded 0 g.row.N (ys ++ drop (length xs) (replicate g.row.N 0)) (length xs)) (sym c.copy_from_slice.ensures.after)
    (padded_copy 0 g.row.N xs (omega arith))
