use Rattle.std.proofs.Common.{◌≡◌, ◌+◌, ◌-◌, ◌<◌, ◌≤◌, List, ℤ, length}
use Rattle.evm_formats.specs.Nested.{Reading, read_heights, read_body}
use Rattle.evm_file.specs.Scanning.{IsTally}
use Rattle.evm_file.proofs.nested.+scan_body.Given as goal

abbrev pub decreases-scan_body : goal.decreases-scan_body
decreases-scan_body l = l.dim

abbrev pub invariant-loop-left : goal.invariant-loop-left
invariant-loop-left l = record {
  room : l.so_far.rows + length l.rest ≤ l.fn.tally.rows + length l.fn.bytes;
  scans : (front : List ℤ) (s : Reading) → IsTally l.fn.tally l.fn.bytes s
      → (t : Reading) × (IsTally l.so_far l.rest t) × (read_body l.fn.dim front s ≡ read_heights (read_body (l.fn.dim - 1)) front l.left l.last t);
}

abbrev pub decreases-loop-left : goal.decreases-loop-left
decreases-loop-left l = l.left
