use Rattle.std.proofs.Common.{◌≡◌, ◌-◌, ◌∙◌, ℕ, ℤ, List, refl, sym, ap, subst, w32, to_z, of_z}
use Rattle.evm_cells.specs.Booleans.{xor_cells}
use Rattle.evm_cells.specs.Vertices.{cells}
use Rattle.evm_cells.proofs.Universe.{cell_set-cells}
use Rattle.evm_rows.specs.Rows.{Vertices, rows_of}
use Rattle.evm_rows.proofs.BoxTests.{same32}
use Rattle.evm_cutting.specs.Cuts.{IsBetween}
use Rattle.evm_cutting.proofs.Sided.{above_by_xor}
use Rattle.evm_cutting.proofs.halves.cut_at.Goals as goal

pub returns : goal.returns
returns c =
    let a = c.args.a in
    let n : ℕ = a.width - a.skip in
    let V : List (List ℤ) = rows_of a.flat.now a.width a.skip in
    let z : ℤ = to_z w32 (of_z w32 c.args.at) in
    let e : z ≡ c.args.at = same32 c.args.at c.ranges.at in
    record {
      split = record {
        between = subst (λ (y : ℤ). IsBetween n c.args.axis y) (sym e) c.requires;
        low_dim = c.in_ok-low.ensures.dim;
        high_dim = c.in_ok-high.ensures.dim;
        low_cells = c.in_ok-low.ensures.cells;
        high_cells =
            c.in_ok-high.ensures.cells
            ∙ ap (xor_cells n (cells n V))
            (ap (λ (v : Vertices). cells n v.rows) c.rows.ensures ∙ ap (λ (m : ℕ). cells m c.in_ok-low.low.rows) (sym c.in_ok-low.ensures.dim) ∙ c.in_ok-low.ensures.cells)
            ∙ above_by_xor n c.args.axis z (cells n V) (cell_set-cells n V);
      };
      axis_is = refl;
      at_is = e;
    }
