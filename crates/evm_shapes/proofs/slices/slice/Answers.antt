use Rattle.std.proofs.Common.{◌≡◌, ◌<◌, ◌-◌, ◌+◌, ◌%◌, ◌++◌, ℕ, ℤ, List, length, ap, ◌∙◌, subst, arith}
use Rattle.evm_cells.specs.Sections.{slice}
use Rattle.evm_cells.specs.Vertices.{evm, cells}
use Rattle.evm_cells.proofs.Slices.{cell_set-slice}
use Rattle.evm_rows.specs.Rows.{rows_of, flat_of}
use Rattle.evm_sections.proofs.Bits.{same32}
use Rattle.evm_shapes.specs.Moves.{up_to}
use Rattle.evm_cells.specs.Windows.{IsReduced}
use Rattle.evm_shapes.proofs.Shaped.{are_rows_of, cells_of}
use Rattle.evm_shapes.proofs.Sliced.{up_to_rows, slice_are_at}
use Rattle.evm_shapes.proofs.slices.slice.Goals as goal

pub reduced-requires-clause-whole : goal.reduced-requires-clause-whole
reduced-requires-clause-whole c =
    let a = c.args.a in
    let V : List (List ℤ) = rows_of a.flat.now a.width a.skip in
    let n : ℕ = a.width - a.skip - 1 in
    let written : c.as_slice.result.now ≡ flat_of (up_to (c.args.axis - 1) c.args.at V) =
    c.as_slice.ensures.value ∙ (rw (same32 c.args.at c.ranges.at) at c.in_ok-append_all_up_to.ensures) ∙ ap (λ (u : List ℤ). u ++ flat_of (up_to (c.args.axis - 1) c.args.at V)) c.in_ok-below.ensures.items in
    let deep : 0 < n = omega (arith, c.requires.deep) in
    let one : n + 1 ≡ a.width - a.skip = omega (arith, c.requires.deep) in
    let within : c.args.axis - 1 < a.width - a.skip = omega (arith, c.requires.low, c.requires.high) in
    let moved = up_to_rows (a.width - a.skip) n (c.args.axis - 1) c.args.at V c.as_slice.result.now deep one within a.vertices written in
    rw c.dim-dim.ensures moved.0

pub from_rows-requires : goal.from_rows-requires
from_rows-requires c =
    let a = c.args.a in
    let V : List (List ℤ) = rows_of a.flat.now a.width a.skip in
    let n : ℕ = a.width - a.skip - 1 in
    let written : c.as_slice.result.now ≡ flat_of (up_to (c.args.axis - 1) c.args.at V) =
    c.as_slice.ensures.value ∙ (rw (same32 c.args.at c.ranges.at) at c.in_ok-append_all_up_to.ensures) ∙ ap (λ (u : List ℤ). u ++ flat_of (up_to (c.args.axis - 1) c.args.at V)) c.in_ok-below.ensures.items in
    let deep : 0 < n = omega (arith, c.requires.deep) in
    let one : n + 1 ≡ a.width - a.skip = omega (arith, c.requires.deep) in
    let within : c.args.axis - 1 < a.width - a.skip = omega (arith, c.requires.low, c.requires.high) in
    let moved = up_to_rows (a.width - a.skip) n (c.args.axis - 1) c.args.at V c.as_slice.result.now deep one within a.vertices written in
    let r : IsReduced n (rows_of c.as_slice.result.now n 0) (rows_of c.in_ok-flat.flat.items n 0) = rw c.dim-dim.ensures at c.in_ok-flat.ensures.rows in
    let e : rows_of c.in_ok-flat.flat.items n 0 ≡ evm n (slice n (c.args.axis - 1) c.args.at (cells (a.width - a.skip) V)) =
    slice_are_at (a.width - a.skip) n (c.args.axis - 1) c.args.at V (rows_of c.in_ok-flat.flat.items n 0) one within a.vertices (subst (λ (L : List (List ℤ)). IsReduced n L (rows_of c.in_ok-flat.flat.items n 0)) moved.1 r) in
    let whole : length c.in_ok-flat.flat.items % n ≡ 0 = rw c.dim-dim.ensures at c.in_ok-flat.ensures.whole in
    rw c.dim-dim.ensures (are_rows_of n _ _ deep (omega (arith, a.narrow)) whole (cell_set-slice n (c.args.axis - 1) c.args.at (cells (a.width - a.skip) V)) e)

pub returns : goal.returns
returns c =
    let a = c.args.a in
    let V : List (List ℤ) = rows_of a.flat.now a.width a.skip in
    let n : ℕ = a.width - a.skip - 1 in
    let written : c.as_slice.result.now ≡ flat_of (up_to (c.args.axis - 1) c.args.at V) =
    c.as_slice.ensures.value ∙ (rw (same32 c.args.at c.ranges.at) at c.in_ok-append_all_up_to.ensures) ∙ ap (λ (u : List ℤ). u ++ flat_of (up_to (c.args.axis - 1) c.args.at V)) c.in_ok-below.ensures.items in
    let deep : 0 < n = omega (arith, c.requires.deep) in
    let one : n + 1 ≡ a.width - a.skip = omega (arith, c.requires.deep) in
    let within : c.args.axis - 1 < a.width - a.skip = omega (arith, c.requires.low, c.requires.high) in
    let moved = up_to_rows (a.width - a.skip) n (c.args.axis - 1) c.args.at V c.as_slice.result.now deep one within a.vertices written in
    let r : IsReduced n (rows_of c.as_slice.result.now n 0) (rows_of c.in_ok-flat.flat.items n 0) = rw c.dim-dim.ensures at c.in_ok-flat.ensures.rows in
    let e : rows_of c.in_ok-flat.flat.items n 0 ≡ evm n (slice n (c.args.axis - 1) c.args.at (cells (a.width - a.skip) V)) =
    slice_are_at (a.width - a.skip) n (c.args.axis - 1) c.args.at V (rows_of c.in_ok-flat.flat.items n 0) one within a.vertices (subst (λ (L : List (List ℤ)). IsReduced n L (rows_of c.in_ok-flat.flat.items n 0)) moved.1 r) in
    let here : c.from_rows.result.rows ≡ evm n (slice n (c.args.axis - 1) c.args.at (cells (a.width - a.skip) V)) =
    c.from_rows.ensures.rows ∙ ap (λ (m : ℕ). rows_of c.in_ok-flat.flat.items (m - 1) 0) c.dim-dim.ensures ∙ e in
    let d : c.from_rows.result.dim ≡ n = c.from_rows.ensures.dim ∙ ap (λ (m : ℕ). m - 1) c.dim-dim.ensures in
    record { dim = d; rows = here; cells = cells_of _ n _ _ d (cell_set-slice n (c.args.axis - 1) c.args.at (cells (a.width - a.skip) V)) here }
