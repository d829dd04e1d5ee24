use Rattle.std.proofs.Common.{◌++◌, List, ℤ, sym, ap, ◌∙◌, append-nil, arith}
use Rattle.evm_rows.proofs.RowsLaws.{rows_of-none}
use Rattle.evm_faces.specs.Faces.{heights_on}
use Rattle.evm_faces.proofs.heights.heights_of.Goals as goal

pub returns : goal.returns
returns c =
    let none = rows_of-none c.loop-left.left.now c.args.a.width c.args.a.skip (omega arith) in
    sym (append-nil c.loop-left.heights.items)
    ∙ ap (λ (W : List (List ℤ)). c.loop-left.heights.items ++ heights_on c.args.axis W) (sym none) ∙ c.loop-left.invariant.so_far
