use Rattle.std.proofs.Common.{◌∙◌, ap}
use Rattle.evm_rows.specs.Rows.{Vertices}
use Rattle.evm_partition.specs.BoxLists.{partition_of}
use Rattle.evm_parts.proofs.NestedSlabs.{nested_boxes}
use Rattle.evm_parts.proofs.link_tests.are_linked.Goals as goal

pub links-requires : goal.links-requires
links-requires c =
    nested_boxes c.in-Ok-split.boxes c.in-Ok.solid (c.in-Ok-split.ensures.dim ∙ ap (λ (v : Vertices). v.dim) c.rows-3.ensures)
    (c.in-Ok-split.ensures.boxes ∙ ap partition_of c.rows-3.ensures)
