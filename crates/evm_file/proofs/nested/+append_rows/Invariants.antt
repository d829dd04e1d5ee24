use Rattle.std.proofs.Common.{◌≡◌, ◌+◌, ◌-◌, ◌<◌, ◌≤◌, List, ℤ, Option, Some, length}
use Rattle.evm_rows.specs.Rows.{flat_of}
use Rattle.evm_formats.specs.Nested.{Reading, read_heights, read_body}
use Rattle.evm_file.specs.Scanning.{front_of}
use Rattle.evm_file.proofs.nested.+append_rows.Given as goal

abbrev pub decreases-append_rows : goal.decreases-append_rows
decreases-append_rows l = l.dim

-- what is read so far of a body that is read whole
abbrev pub invariant-loop-left : goal.invariant-loop-left
invariant-loop-left l = (s t : Reading) → s.rest ≡ l.fn.bytes → l.fn.out.items ≡ flat_of s.rows → read_body l.fn.dim (front_of l.fn.front) s ≡ Some t
    → (u : Reading) × (last : Option ℤ) × (u.rest ≡ l.rest) × (l.out.items ≡ flat_of u.rows) × (read_heights (read_body (l.fn.dim - 1)) (front_of l.fn.front) l.left last u ≡ Some t)

abbrev pub decreases-loop-left : goal.decreases-loop-left
decreases-loop-left l = l.left
