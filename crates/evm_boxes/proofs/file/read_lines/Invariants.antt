use Rattle.std.proofs.Common.{◌+◌, ◌≤◌, length, map, All}
use Rattle.evm_boxes.specs.BoxRows.{ends_of, IsBoxRow}
use Rattle.evm_boxes.proofs.FileSteps.{HasRead}
use Rattle.evm_boxes.proofs.file.read_lines.Given as goal

abbrev pub decreases-loop-line : goal.decreases-loop-line
decreases-loop-line l = length l.rest

abbrev pub invariant-loop-line : goal.invariant-loop-line
invariant-loop-line l = record {
  read : HasRead l.dim l.text l.rest l.number (map ends_of l.rows.items);
  boxes : All (IsBoxRow l.dim) l.rows.items;
  few : l.number + length l.rest ≤ length l.text + 1;
}
