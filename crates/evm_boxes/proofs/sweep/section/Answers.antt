use Rattle.std.proofs.Common.{◌<◌, [], ap, ◌∙◌, map, arith, length}
use Rattle.evm_cells.specs.Sections.{slice}
use Rattle.evm_cells.specs.Unions.{union_of}
use Rattle.evm_cells.specs.Vertices.{evm}
use Rattle.evm_sections.proofs.Bits.{same32}
use Rattle.evm_boxes.specs.BoxRows.{ends_of}
use Rattle.evm_boxes.specs.declared.BoxRow.{BoxRow}
use Rattle.evm_boxes.proofs.SweepSteps.{gathered_start, gathered_more, section_rows, section_are}
use Rattle.evm_boxes.proofs.sweep.section.Goals as goal

pub loop-row-init : goal.loop-row-init
loop-row-init c = gathered_start c.args.rows.now _ _ c.clear.ensures.items c.requires.sorted

pub loop-row-preserved : goal.loop-row-preserved
loop-row-preserved c =
    gathered_more c.args.rows.now _ c.loop-row.row-index (record { dim = 0; lo = []; hi = [] }) _ _ c.requires.boxes c.requires.sorted (omega arith) c.in_ok-add_part.ensures c.loop-row.invariant

pub from_rows-requires : goal.from_rows-requires
from_rows-requires c = section_are c.args.rows.now _ c.loop-row.row-index c.loop-row.line.items c.requires.boxes (omega arith) c.loop-row.invariant

pub returns-clause-rows : goal.returns-clause-rows
returns-clause-rows c =
    let k = same32 c.args.height c.ranges.height in
    c.from_rows.ensures.rows ∙ section_rows c.args.rows.now _ c.loop-row.row-index c.loop-row.line.items c.requires.boxes (omega arith) c.loop-row.invariant
    ∙ ap (λ h. evm 1 (slice 1 0 h (union_of 2 (map ends_of c.args.rows.now)))) k
