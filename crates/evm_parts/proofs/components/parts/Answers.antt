use Rattle.std.proofs.Common.{◌≡◌, ◌-◌, ◌<◌, ℕ, ℤ, List, map, All, IfOk, length, ap, ap₂, sym, ◌∙◌, subst}
use Rattle.evm_cells.specs.Parts.{parts}
use Rattle.evm_cells.specs.Unions.{Ends, union_of}
use Rattle.evm_cells.specs.Vertices.{evm, cells}
use Rattle.evm_cells.proofs.Universe.{cell_set-cells}
use Rattle.evm_rows.specs.Rows.{rows_of}
use Rattle.evm_rows.specs.View.{vertices_of}
use Rattle.evm_partition.specs.Partition.{partition}
use Rattle.evm_partition.proofs.Within.{union_of_partition}
use Rattle.evm_parts.specs.Labels.{AreLabels}
use Rattle.evm_parts.specs.PartRows.{parts_at, AreApart}
use Rattle.evm_parts.proofs.Apart.{partition_apart}
use Rattle.evm_parts.proofs.NestedSlabs.{nested_boxes}
use Rattle.evm_parts.proofs.PartLists.{labels_within, all_parts}
use Rattle.evm_parts.proofs.components.parts.Goals as goal

pub links-requires : goal.links-requires
links-requires c =
    let a = c.args.a in
    nested_boxes c.in_ok-boxes.boxes (vertices_of a) c.in_ok-boxes.ensures.dim c.in_ok-boxes.ensures.boxes

pub unions-requires-clause-within : goal.unions-requires-clause-within
unions-requires-clause-within c =
    subst (λ (ls : List ℕ). All (λ label. label < length ls) ls) (sym c.as_slice-roots.ensures.value)
    (labels_within c.in_ok-boxes.boxes.boxes c.in_ok-lowest.lowest.items c.in_ok-lowest.ensures)

pub unions-requires-clause-apart : goal.unions-requires-clause-apart
unions-requires-clause-apart c =
    let a = c.args.a in
    let n : ℕ = a.width - a.skip in
    let V : List (List ℤ) = rows_of a.flat.now a.width a.skip in
    subst (λ (k : ℕ). AreApart k c.in_ok-boxes.boxes.boxes) (sym c.in_ok-boxes.ensures.dim)
    (subst (AreApart n) (sym c.in_ok-boxes.ensures.boxes) (partition_apart n (cells n V) (cell_set-cells n V)))

pub unions-requires-clause-whole : goal.unions-requires-clause-whole
unions-requires-clause-whole c =
    let a = c.args.a in
    let n : ℕ = a.width - a.skip in
    let V : List (List ℤ) = rows_of a.flat.now a.width a.skip in
    ap₂ (λ (k : ℕ) (bs : List Ends). union_of k bs) c.in_ok-boxes.ensures.dim c.in_ok-boxes.ensures.boxes ∙ union_of_partition n (cells n V) (cell_set-cells n V)

pub returns-clause-parts : goal.returns-clause-parts
returns-clause-parts c =
    let a = c.args.a in
    let n : ℕ = a.width - a.skip in
    let V : List (List ℤ) = rows_of a.flat.now a.width a.skip in
    let S : List (List ℤ) = cells n V in
    let labels = c.in_ok-lowest.lowest.items in
    let are : AreLabels (partition n S) labels = subst (λ (bs : List Ends). AreLabels bs labels) c.in_ok-boxes.ensures.boxes c.in_ok-lowest.ensures in
    let e : parts_at c.in_ok-boxes.boxes.dim c.in_ok-boxes.boxes.boxes c.as_slice-roots.result.now ≡ map (evm n) (parts S) =
    ap (parts_at c.in_ok-boxes.boxes.dim c.in_ok-boxes.boxes.boxes) c.as_slice-roots.ensures.value
    ∙ ap₂ (λ (k : ℕ) (bs : List Ends). parts_at k bs labels) c.in_ok-boxes.ensures.dim c.in_ok-boxes.ensures.boxes
    ∙ all_parts n S labels (cell_set-cells n V) are in
    subst (λ Vs. IfOk c.unions.result (λ p. p.parts ≡ Vs)) e c.unions.ensures.parts
