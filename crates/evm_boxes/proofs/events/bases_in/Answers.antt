use Rattle.std.proofs.Common.{◌≡◌, ◌-◌, [], ◌∷◌, ◌++◌, List, get_or, Some, arith, w32, to_z, of_z, sym, subst, ap₂, ◌∙◌}
use Rattle.std.specs.Option.{option_to_list}
use Rattle.evm_sections.proofs.Bits.{same32}
use Rattle.evm_boxes.specs.Fills.{IsSection, IsUnheld, level_of}
use Rattle.evm_boxes.specs.declared.BoxRow.{BoxRow}
use Rattle.evm_boxes.proofs.Windows.{section_full, section_unheld, section_all}
use Rattle.evm_boxes.proofs.events.bases_in.Goals as goal

pub returns-then-is_just : goal.returns-then-is_just
returns-then-is_just c =
    let same : c.base_in-part.result ≡ Some c.args.window.now = c.if-is_just.ensures in
    let one = subst (λ o. IsSection (c.args.dim - 1) (level_of c.args.side (to_z w32 (of_z w32 c.args.height))) c.args.window.now (get_or c.args.rows.now c.loop-row.row-index (record { dim = 0; lo = []; hi = [] }) ∷ []) (option_to_list o)) same c.base_in-part.ensures in
    section_full (c.args.dim - 1) (level_of c.args.side c.args.height) c.args.window.now c.args.rows.now c.keep.new.kept.items c.loop-row.row-index (record { dim = 0; lo = []; hi = [] }) (omega arith)
    (c.in_ok-keep.ensures ∙ ap₂ (λ (xs : List BoxRow) o. xs ++ option_to_list o) c.clear.ensures.items same)
    (rw (same32 c.args.height c.ranges.height) at one)

pub loop-row-preserved : goal.loop-row-preserved
loop-row-preserved c =
    let left_is : IsUnheld c.loop-row.kept.items c.base_in-part.result c.unheld-left.result =
    subst (λ (kept : List BoxRow). IsUnheld kept c.base_in-part.result c.unheld-left.result) c.as_slice.ensures.value c.unheld-left.ensures in
    section_unheld (c.args.dim - 1) _ c.args.window.now c.args.rows.now c.loop-row.kept.items c.keep-in-loop-row.new.kept.items c.base_in-part.result c.unheld-left.result c.loop-row.row-index
    (record { dim = 0; lo = []; hi = [] }) (omega arith) c.in_ok-keep-2.ensures left_is c.loop-row.invariant c.base_in-part.ensures

pub returns : goal.returns
returns c =
    rw (sym (same32 c.args.height c.ranges.height))
    (section_all (c.args.dim - 1) _ c.args.window.now c.args.rows.now c.loop-row.kept.items c.loop-row.row-index (omega arith) c.loop-row.invariant)
