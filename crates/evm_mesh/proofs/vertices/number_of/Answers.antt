use Rattle.std.proofs.Common.{suc, sym, ap, ◌∙◌, rules, add-one}
use Rattle.std.proofs.lemmas.List.Sorted.{IsPartitionPoint-from_clause}
use Rattle.evm_cells.specs.Places.{before}
use Rattle.evm_mesh.proofs.VertexNumbers.{parted, count-point}
use Rattle.evm_mesh.proofs.vertices.number_of.Goals as goal

pub returns : goal.returns
returns c =
    let V = c.args.vertices.now in
    let p = c.args.corner in
    add-one c.partition_point.result
    ∙ ap suc (sym (count-point (λ q. before q p) V c.partition_point.result c.partition_point.ensures.bound
    (IsPartitionPoint-from_clause (λ q. before q p) V c.partition_point.result c.partition_point.ensures.partitioned (parted p V c.requires) (λ a r f' called. search rules))))
