use Rattle.std.proofs.Common.{arith, rules, ◌≡◌, ◌∙◌, ◌≤ℤ◌, ◌+◌, ◌-◌, ℕ, ℤ, List, length, get_or, pos, int_le, true, sym, ap, subst, w32, to_z, of_z, SFits, []}
use Rattle.std.specs.List.{list_all}
use Rattle.std.proofs.lemmas.Int.{ints as int_facts}
use Rattle.evm_cells.specs.Vertices.{cells}
use Rattle.evm_cells.specs.Windows.{is_under, is_over}
use Rattle.evm_cells.proofs.Coords.{le_is}
use Rattle.evm_rows.specs.Rows.{rows_of}
use Rattle.evm_rows.proofs.BoxTests.{same32}
use Rattle.evm_shapes.proofs.Missed.{under_last, over_first}
use Rattle.evm_cutting.specs.Cuts.{IsBetween}
use Rattle.evm_tiles.proofs.node.plane_between.Goals as goal

pub returns-then-at-limit : goal.returns-then-at-limit
returns-then-at-limit c =
    let a = c.args.low in
    let b = c.args.high in
    let n : ℕ = a.width - a.skip in
    let V : List (List ℤ) = rows_of a.flat.now a.width a.skip in
    let W : List (List ℤ) = rows_of b.flat.now b.width b.skip in
    let x : ℤ = c.coord-at.result in
    let y : ℤ = c.coord-last.result in
    let fx : SFits w32 x = search rules in
    let fy : SFits w32 y = search rules in
    let e : to_z w32 (of_z w32 x) ≡ x = same32 x fx in
    let k : ℕ = c.len-count.result - 1 in
    let m : k + 1 ≡ length V = let s = c.len-count.ensures in let t = c.if-count-eq0.false in omega arith in
    let h : int_le y x ≡ true = rw (same32 y fy, same32 x fx) at c.if-last-at.true in
    let l : get_or (get_or V k []) 0 (pos 0) ≤ℤ x = subst (λ (z : ℤ). z ≤ℤ x) (sym (c.coord-last.ensures (pos 0))) (le_is y x h) in
    let g : get_or (get_or W 0 []) 0 (pos 0) ≡ x = c.coord-at.ensures (pos 0) in
    let u : list_all (is_under 0 x) (cells n V) ≡ true = under_last n V k x (omega (arith, a.left)) a.vertices m l in
    let o : list_all (is_over 0 x) (cells (b.width - b.skip) W) ≡ true = over_first (b.width - b.skip) W x (omega (arith, b.left)) b.vertices (omega (arith, int_facts)) in
    let between : IsBetween n 0 (to_z w32 (of_z w32 x)) = search rules in
    record {
      between = between;
      under = ap (λ (z : ℤ). list_all (is_under 0 z) (cells n V)) e ∙ u;
      over = ap (λ (z : ℤ). list_all (is_over 0 z) (cells (b.width - b.skip) W)) e ∙ o;
    }
