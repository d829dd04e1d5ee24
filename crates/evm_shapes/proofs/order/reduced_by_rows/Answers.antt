use Rattle.std.proofs.Common.{◌≡◌, ◌++◌, ℤ, List, ap₂, ◌∙◌}
use Rattle.evm_rows.specs.Rows.{rows_of, flat_of}
use Rattle.evm_rows.specs.Groups.{targets}
use Rattle.evm_shapes.specs.Order.{unpaired}
use Rattle.evm_rows.proofs.Pairs.{steady_sorted}
use Rattle.evm_shapes.proofs.Lone.{lone_is}
use Rattle.evm_shapes.proofs.order.reduced_by_rows.Goals as goal

pub returns-clause-whole : goal.returns-clause-whole
returns-clause-whole c =
    let written : c.append_unpaired.new.out.items ≡ flat_of (unpaired (targets c.sort_unstable.new.self.items)) =
    c.in_ok-append_unpaired.ensures ∙ ap₂ (λ (u : List ℤ) v. u ++ flat_of (unpaired (targets v))) c.in_ok-out.ensures.items c.as_slice.ensures.value in
    let all = lone_is c.args.width (rows_of c.args.flat.now c.args.width 0) _ _ _ c.requires.some c.in_ok-rows.ensures c.sort_unstable.ensures.permutation (steady_sorted _ c.sort_unstable.ensures.sorted) written in
    all.0

pub returns-clause-rows : goal.returns-clause-rows
returns-clause-rows c =
    let written : c.append_unpaired.new.out.items ≡ flat_of (unpaired (targets c.sort_unstable.new.self.items)) =
    c.in_ok-append_unpaired.ensures ∙ ap₂ (λ (u : List ℤ) v. u ++ flat_of (unpaired (targets v))) c.in_ok-out.ensures.items c.as_slice.ensures.value in
    let all = lone_is c.args.width (rows_of c.args.flat.now c.args.width 0) _ _ _ c.requires.some c.in_ok-rows.ensures c.sort_unstable.ensures.permutation (steady_sorted _ c.sort_unstable.ensures.sorted) written in
    all.1
