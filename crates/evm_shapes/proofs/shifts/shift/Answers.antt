use Rattle.std.proofs.Common.{◌≡◌, ◌-◌, ◌++◌, ℕ, ℤ, List, length, map, true, false, ap, sym, refl, ◌∙◌, arith}
use Rattle.std.proofs.lemmas.Bool.{true≢false}
use Rattle.std.specs.Prelude.{Result, Ok, Err}
use Rattle.std.specs.Result.{IsErrAnd}
use Rattle.evm_shapes.specs.declared.shifts.ShapeError.{ShapeError}
use Rattle.evm_shapes.specs.declared.shifts.ShapeError.TheVariants.{Range, NoMemory}
use Rattle.evm_cells.specs.Limits.{IsCellSet}
use Rattle.evm_cells.specs.Shapes.{added, shift, shift_fits}
use Rattle.evm_cells.specs.Vertices.{evm, cells}
use Rattle.evm_cells.proofs.Universe.{cell_set-cells}
use Rattle.evm_cells.proofs.Moves.{shift_in_range, evm-shift, cell_set-shift}
use Rattle.evm_rows.specs.Rows.{rows_of, flat_of}
use Rattle.evm_shapes.proofs.Shaped.{are_rows_of, cells_of}
use Rattle.evm_shapes.proofs.Shifted.{shift_parts, added_rows}
use Rattle.evm_shapes.proofs.shifts.shift.Goals as goal

-- want of memory is not `Range`, and neither is a solid
not_range : {T : Type 0} (r : Result T ShapeError) → IsErrAnd r (λ e. e ≡ NoMemory) → r ≡ Err Range → ⊥
not_range (Ok x) h e = h
not_range (Err k) h e = cc

not_ok : {T : Type 0} (x : T) (r : Result T ShapeError) → r ≡ Ok x → r ≡ Err Range → ⊥
not_ok x r d e = cc

pub returns-then-not-all_fit-clause-range : goal.returns-then-not-all_fit-clause-range
returns-then-not-all_fit-clause-range c =
    let a = c.args.a in
    let n : ℕ = a.width - a.skip in
    let V : List (List ℤ) = rows_of a.flat.now a.width a.skip in
    let l : length c.args.by.now ≡ n = shift_parts n c.args.by.now c.requires in
    let no : shift_fits n c.args.by.now (cells n V) ≡ false = shift_in_range n c.args.by.now V l a.vertices ∙ sym c.if-not-all_fit.ensures in
    (λ h. no, λ h. refl)

pub returns-in_err-out-clause-range : goal.returns-in_err-out-clause-range
returns-in_err-out-clause-range c =
    let a = c.args.a in
    let n : ℕ = a.width - a.skip in
    let V : List (List ℤ) = rows_of a.flat.now a.width a.skip in
    let l : length c.args.by.now ≡ n = shift_parts n c.args.by.now c.requires in
    let fits : shift_fits n c.args.by.now (cells n V) ≡ true = shift_in_range n c.args.by.now V l a.vertices ∙ sym c.if-not-all_fit.ensures in
    (λ h. absurd (not_range c.from_residual.result c.from_residual.ensures.1 h), λ h. absurd (true≢false (sym fits ∙ h)))

pub returns-in_err-append_all_added-clause-range : goal.returns-in_err-append_all_added-clause-range
returns-in_err-append_all_added-clause-range c =
    let a = c.args.a in
    let n : ℕ = a.width - a.skip in
    let V : List (List ℤ) = rows_of a.flat.now a.width a.skip in
    let l : length c.args.by.now ≡ n = shift_parts n c.args.by.now c.requires in
    let fits : shift_fits n c.args.by.now (cells n V) ≡ true = shift_in_range n c.args.by.now V l a.vertices ∙ sym c.if-not-all_fit.ensures in
    (λ h. absurd (not_range c.from_residual-in_err-append_all_added.result c.from_residual-in_err-append_all_added.ensures.1 h), λ h. absurd (true≢false (sym fits ∙ h)))

pub from_rows-requires : goal.from_rows-requires
from_rows-requires c =
    let a = c.args.a in
    let n : ℕ = a.width - a.skip in
    let V : List (List ℤ) = rows_of a.flat.now a.width a.skip in
    let l : length c.args.by.now ≡ n = shift_parts n c.args.by.now c.requires in
    let fits : shift_fits n c.args.by.now (cells n V) ≡ true = shift_in_range n c.args.by.now V l a.vertices ∙ sym c.if-not-all_fit.ensures in
    let written : c.append_all_added.new.out.items ≡ flat_of (map (added c.args.by.now) V) =
    c.in_ok-append_all_added.ensures ∙ ap (λ (u : List ℤ). u ++ flat_of (map (added c.args.by.now) V)) c.in_ok-out.ensures.items in
    let moved = added_rows n c.args.by.now V _ (omega (arith, a.left)) l a.vertices written in
    let e : rows_of c.append_all_added.new.out.items n 0 ≡ evm n (shift n c.args.by.now (cells n V)) = moved.1 ∙ evm-shift n c.args.by.now V l a.vertices fits in
    let s : IsCellSet n (shift n c.args.by.now (cells n V)) = cell_set-shift n c.args.by.now (cells n V) l (cell_set-cells n V) in
    rw c.dim-dim.ensures (are_rows_of n _ _ (omega (arith, a.left)) (omega (arith, a.narrow)) moved.0 s e)

pub returns : goal.returns
returns c =
    let a = c.args.a in
    let n : ℕ = a.width - a.skip in
    let V : List (List ℤ) = rows_of a.flat.now a.width a.skip in
    let l : length c.args.by.now ≡ n = shift_parts n c.args.by.now c.requires in
    let fits : shift_fits n c.args.by.now (cells n V) ≡ true = shift_in_range n c.args.by.now V l a.vertices ∙ sym c.if-not-all_fit.ensures in
    let written : c.append_all_added.new.out.items ≡ flat_of (map (added c.args.by.now) V) =
    c.in_ok-append_all_added.ensures ∙ ap (λ (u : List ℤ). u ++ flat_of (map (added c.args.by.now) V)) c.in_ok-out.ensures.items in
    let moved = added_rows n c.args.by.now V _ (omega (arith, a.left)) l a.vertices written in
    let e : rows_of c.append_all_added.new.out.items n 0 ≡ evm n (shift n c.args.by.now (cells n V)) = moved.1 ∙ evm-shift n c.args.by.now V l a.vertices fits in
    let s : IsCellSet n (shift n c.args.by.now (cells n V)) = cell_set-shift n c.args.by.now (cells n V) l (cell_set-cells n V) in
    let here : c.from_rows.result.rows ≡ evm n (shift n c.args.by.now (cells n V)) = c.from_rows.ensures.rows ∙ ap (λ (m : ℕ). rows_of c.append_all_added.new.out.items m 0) c.dim-dim.ensures ∙ e in
    let d : c.from_rows.result.dim ≡ n = c.from_rows.ensures.dim ∙ c.dim-dim.ensures in
    record { dim = d; rows = here; cells = cells_of _ n _ _ d s here; range = (λ h. absurd (not_ok c.from_rows.result _ refl h), λ h. absurd (true≢false (sym fits ∙ h))) }
