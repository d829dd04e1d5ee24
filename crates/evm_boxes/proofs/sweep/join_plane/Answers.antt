use Rattle.std.proofs.Common.{List, map, subst, sym, ap, ◌∙◌, rules}
use Rattle.std.specs.List.{All}
use Rattle.std.specs.List.Sorted.{IsSortedByKey}
use Rattle.std.specs.Ordering.{int_cmp}
use Rattle.std.proofs.lemmas.List.Sorted.{All-permutation, answers_always}
use Rattle.evm_cells.specs.Vertices.{evm}
use Rattle.evm_cells.specs.Unions.{union_of}
use Rattle.evm_boxes.specs.BoxRows.{ends_of, IsBoxRow}
use Rattle.evm_boxes.specs.Fills.{low_of}
use Rattle.evm_boxes.specs.declared.BoxRow.{BoxRow}
use Rattle.evm_boxes.proofs.UnionRows.{rows-permuted}
use Rattle.evm_boxes.proofs.sweep.join_plane.Goals as goal

pub sweep-requires-clause-boxes : goal.sweep-requires-clause-boxes
sweep-requires-clause-boxes c =
    subst (λ (rows : List BoxRow). All (IsBoxRow 2) rows) (sym c.as_slice.ensures.value)
    (All-permutation (IsBoxRow 2) c.args.rows.items c.sort_unstable_by_key.new.self.items c.sort_unstable_by_key.ensures.permutation c.requires.boxes)

pub sweep-requires-clause-sorted : goal.sweep-requires-clause-sorted
sweep-requires-clause-sorted c =
    subst (λ (rows : List BoxRow). IsSortedByKey (low_of 1) int_cmp rows) (sym c.as_slice.ensures.value)
    (c.sort_unstable_by_key.ensures.sorted (low_of 1) (answers_always _ _ _ (λ f a r g h. search rules)))

pub returns-clause-rows : goal.returns-clause-rows
returns-clause-rows c =
    c.in_ok-all.ensures.rows
    ∙ ap (λ (rows : List BoxRow). evm 2 (union_of 2 (map ends_of rows))) c.as_slice.ensures.value
    ∙ ap (evm 2) (rows-permuted 2 c.args.rows.items c.sort_unstable_by_key.new.self.items c.sort_unstable_by_key.ensures.permutation)
