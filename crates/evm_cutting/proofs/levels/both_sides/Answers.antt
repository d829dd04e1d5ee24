use Rattle.std.proofs.Common.{◌≡◌, ◌-◌, ◌∙◌, ℕ, ℤ, List, refl, sym, ap₂, subst, arith, to_z, of_z, w32}
use Rattle.evm_cells.specs.Vertices.{cells}
use Rattle.evm_sections.proofs.Bits.{same32}
use Rattle.evm_cutting.specs.Cuts.{IsBetween}
use Rattle.evm_cutting.proofs.Leveled.{whole_rows, below_made, above_made}
use Rattle.evm_cutting.proofs.levels.both_sides.Goals as goal

pub rows_of_both-requires-clause-axis : goal.rows_of_both-requires-clause-axis
rows_of_both-requires-clause-axis c = let l = c.requires.between.axis in omega arith

pub rows_of_both-requires-clause-vertices : goal.rows_of_both-requires-clause-vertices
rows_of_both-requires-clause-vertices c = whole_rows c.args.a.width c.args.a.skip c.args.a.flat.now c.requires.skip c.args.a.vertices

pub from_rows-requires : goal.from_rows-requires
from_rows-requires c =
    let a = c.args.a in
    let z : ℤ = to_z w32 (of_z w32 c.args.at) in
    let b : IsBetween (a.width - a.skip) c.args.axis z = subst (λ (y : ℤ). IsBetween (a.width - a.skip) c.args.axis y) (sym (same32 c.args.at c.ranges.at)) c.requires.between in
    (below_made a.width a.skip c.args.axis z a.flat.now c.in_ok-rows.rows.below.items a.narrow a.left c.requires.skip b a.vertices c.in_ok-rows.ensures.low_whole c.in_ok-rows.ensures.low).0

pub from_rows-requires-2 : goal.from_rows-requires-2
from_rows-requires-2 c =
    let a = c.args.a in
    let z : ℤ = to_z w32 (of_z w32 c.args.at) in
    let b : IsBetween (a.width - a.skip) c.args.axis z = subst (λ (y : ℤ). IsBetween (a.width - a.skip) c.args.axis y) (sym (same32 c.args.at c.ranges.at)) c.requires.between in
    (above_made a.width a.skip c.args.axis z a.flat.now c.in_ok-rows.rows.below.items c.in_ok-rows.rows.above.items a.narrow a.left c.requires.skip b a.vertices c.in_ok-rows.ensures.low c.in_ok-rows.ensures.high_whole c.in_ok-rows.ensures.high).0

pub returns : goal.returns
returns c =
    let a = c.args.a in
    let n : ℕ = a.width - a.skip in
    let z : ℤ = to_z w32 (of_z w32 c.args.at) in
    let e : z ≡ c.args.at = same32 c.args.at c.ranges.at in
    let b : IsBetween n c.args.axis z = subst (λ (y : ℤ). IsBetween n c.args.axis y) (sym e) c.requires.between in
    let d : a.width ≡ n = let s = c.requires.skip in omega arith in
    record {
      split = record {
        between = b;
        low_dim = c.from_rows.ensures.dim ∙ d;
        high_dim = c.from_rows-2.ensures.dim ∙ d;
        low_cells =
            ap₂ (λ (m : ℕ) (W : List (List ℤ)). cells m W) c.from_rows.ensures.dim c.from_rows.ensures.rows
            ∙ (below_made a.width a.skip c.args.axis z a.flat.now c.in_ok-rows.rows.below.items a.narrow a.left c.requires.skip b a.vertices c.in_ok-rows.ensures.low_whole c.in_ok-rows.ensures.low).1;
        high_cells =
            ap₂ (λ (m : ℕ) (W : List (List ℤ)). cells m W) c.from_rows-2.ensures.dim c.from_rows-2.ensures.rows
            ∙ (above_made a.width a.skip c.args.axis z a.flat.now c.in_ok-rows.rows.below.items c.in_ok-rows.rows.above.items a.narrow a.left c.requires.skip b a.vertices c.in_ok-rows.ensures.low c.in_ok-rows.ensures.high_whole c.in_ok-rows.ensures.high).1;
      };
      axis_is = refl;
      at_is = e;
    }
