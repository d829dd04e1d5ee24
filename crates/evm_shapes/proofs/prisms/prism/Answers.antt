use Rattle.std.proofs.Common.{◌≡◌, ◌≤◌, ◌-◌, ◌+◌, ◌%◌, ◌++◌, ℕ, ℤ, List, length, map, ap, ◌∙◌, subst, arith}
use Rattle.evm_cells.specs.Places.{with_at}
use Rattle.evm_cells.specs.Shapes.{lift}
use Rattle.evm_cells.specs.Vertices.{evm, cells}
use Rattle.evm_cells.proofs.Lifts.{cell_set-lift}
use Rattle.evm_rows.specs.Rows.{rows_of, flat_of}
use Rattle.evm_sections.proofs.Bits.{same32}
use Rattle.evm_cells.specs.Windows.{IsReduced}
use Rattle.evm_shapes.proofs.Shaped.{are_rows_of, cells_of}
use Rattle.evm_shapes.proofs.Sliced.{ends_rows, lift_are_at}
use Rattle.evm_shapes.proofs.prisms.prism.Goals as goal

pub reduced-requires-clause-whole : goal.reduced-requires-clause-whole
reduced-requires-clause-whole c =
    let a = c.args.a in
    let V : List (List ℤ) = rows_of a.flat.now a.width a.skip in
    let n : ℕ = a.width - a.skip in
    let i : ℕ = c.args.axis - 1 in
    let start : c.append_all_moved.new.out.items ≡ flat_of (map (with_at i c.args.lo) V) =
    (rw (same32 c.args.lo c.ranges.lo) at c.in_ok-append_all_moved.ensures) ∙ ap (λ (u : List ℤ). u ++ flat_of (map (with_at i c.args.lo) V)) c.in_ok-raised.ensures.items in
    let written : c.as_slice.result.now ≡ flat_of (map (with_at i c.args.lo) V) ++ flat_of (map (with_at i c.args.hi) V) =
    c.as_slice.ensures.value ∙ (rw (same32 c.args.hi c.ranges.hi) at c.in_ok-append_all_moved-2.ensures) ∙ ap (λ (u : List ℤ). u ++ flat_of (map (with_at i c.args.hi) V)) start in
    let within : i ≤ n = omega (arith, c.requires.low, c.requires.high) in
    let moved = ends_rows n i c.args.lo c.args.hi V c.as_slice.result.now within a.vertices written in
    rw c.dim-dim.ensures moved.0

pub from_rows-requires : goal.from_rows-requires
from_rows-requires c =
    let a = c.args.a in
    let V : List (List ℤ) = rows_of a.flat.now a.width a.skip in
    let n : ℕ = a.width - a.skip in
    let i : ℕ = c.args.axis - 1 in
    let start : c.append_all_moved.new.out.items ≡ flat_of (map (with_at i c.args.lo) V) =
    (rw (same32 c.args.lo c.ranges.lo) at c.in_ok-append_all_moved.ensures) ∙ ap (λ (u : List ℤ). u ++ flat_of (map (with_at i c.args.lo) V)) c.in_ok-raised.ensures.items in
    let written : c.as_slice.result.now ≡ flat_of (map (with_at i c.args.lo) V) ++ flat_of (map (with_at i c.args.hi) V) =
    c.as_slice.ensures.value ∙ (rw (same32 c.args.hi c.ranges.hi) at c.in_ok-append_all_moved-2.ensures) ∙ ap (λ (u : List ℤ). u ++ flat_of (map (with_at i c.args.hi) V)) start in
    let within : i ≤ n = omega (arith, c.requires.low, c.requires.high) in
    let moved = ends_rows n i c.args.lo c.args.hi V c.as_slice.result.now within a.vertices written in
    let r : IsReduced (n + 1) (rows_of c.as_slice.result.now (n + 1) 0) (rows_of c.in_ok-flat.flat.items (n + 1) 0) = rw c.dim-dim.ensures at c.in_ok-flat.ensures.rows in
    let e : rows_of c.in_ok-flat.flat.items (n + 1) 0 ≡ evm (n + 1) (lift (n + 1) i c.args.lo c.args.hi (cells n V)) =
    lift_are_at n i c.args.lo c.args.hi V (rows_of c.in_ok-flat.flat.items (n + 1) 0) within c.requires.some c.requires.fits a.vertices (subst (λ (L : List (List ℤ)). IsReduced (n + 1) L (rows_of c.in_ok-flat.flat.items (n + 1) 0)) moved.1 r) in
    let whole : length c.in_ok-flat.flat.items % (n + 1) ≡ 0 = rw c.dim-dim.ensures at c.in_ok-flat.ensures.whole in
    rw c.dim-dim.ensures (are_rows_of (n + 1) _ _ (omega arith) (omega (arith, c.requires.room)) whole (cell_set-lift (n + 1) i c.args.lo c.args.hi (cells n V)) e)

pub returns : goal.returns
returns c =
    let a = c.args.a in
    let V : List (List ℤ) = rows_of a.flat.now a.width a.skip in
    let n : ℕ = a.width - a.skip in
    let i : ℕ = c.args.axis - 1 in
    let start : c.append_all_moved.new.out.items ≡ flat_of (map (with_at i c.args.lo) V) =
    (rw (same32 c.args.lo c.ranges.lo) at c.in_ok-append_all_moved.ensures) ∙ ap (λ (u : List ℤ). u ++ flat_of (map (with_at i c.args.lo) V)) c.in_ok-raised.ensures.items in
    let written : c.as_slice.result.now ≡ flat_of (map (with_at i c.args.lo) V) ++ flat_of (map (with_at i c.args.hi) V) =
    c.as_slice.ensures.value ∙ (rw (same32 c.args.hi c.ranges.hi) at c.in_ok-append_all_moved-2.ensures) ∙ ap (λ (u : List ℤ). u ++ flat_of (map (with_at i c.args.hi) V)) start in
    let within : i ≤ n = omega (arith, c.requires.low, c.requires.high) in
    let moved = ends_rows n i c.args.lo c.args.hi V c.as_slice.result.now within a.vertices written in
    let r : IsReduced (n + 1) (rows_of c.as_slice.result.now (n + 1) 0) (rows_of c.in_ok-flat.flat.items (n + 1) 0) = rw c.dim-dim.ensures at c.in_ok-flat.ensures.rows in
    let e : rows_of c.in_ok-flat.flat.items (n + 1) 0 ≡ evm (n + 1) (lift (n + 1) i c.args.lo c.args.hi (cells n V)) =
    lift_are_at n i c.args.lo c.args.hi V (rows_of c.in_ok-flat.flat.items (n + 1) 0) within c.requires.some c.requires.fits a.vertices (subst (λ (L : List (List ℤ)). IsReduced (n + 1) L (rows_of c.in_ok-flat.flat.items (n + 1) 0)) moved.1 r) in
    let here : c.from_rows.result.rows ≡ evm (n + 1) (lift (n + 1) i c.args.lo c.args.hi (cells n V)) =
    c.from_rows.ensures.rows ∙ ap (λ (m : ℕ). rows_of c.in_ok-flat.flat.items (m + 1) 0) c.dim-dim.ensures ∙ e in
    let d : c.from_rows.result.dim ≡ n + 1 = c.from_rows.ensures.dim ∙ ap (λ (m : ℕ). m + 1) c.dim-dim.ensures in
    record { dim = d; rows = here; cells = cells_of _ (n + 1) _ _ d (cell_set-lift (n + 1) i c.args.lo c.args.hi (cells n V)) here }
