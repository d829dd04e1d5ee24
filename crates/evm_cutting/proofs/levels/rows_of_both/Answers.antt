use Rattle.std.proofs.Common.{arith, ◌∙◌, ◌%◌, ℤ, List, [], length, sym, ap, subst, map, to_z, of_z, w32}
use native.Mathlib.Nat.{zero-mod}
use Rattle.evm_cells.specs.Windows.{IsReduced}
use Rattle.evm_rows.specs.Rows.{rows_of}
use Rattle.evm_rows.proofs.RowsLaws.{rows_of-none}
use Rattle.evm_sections.proofs.Bits.{same32}
use Rattle.evm_cutting.specs.Levels.{lowered}
use Rattle.evm_cutting.proofs.Above.{IsOtherSoFar, other_start, other_end}
use Rattle.evm_cutting.proofs.Closed.{IsCutSoFar, cut_start, cut_end}
use Rattle.evm_cutting.proofs.Leveled.{IsGroupCut, cut_none, cut_group, other_group, some_rows}
use Rattle.evm_cutting.proofs.levels.rows_of_both.Goals as goal

pub loop-rest-init : goal.loop-rest-init
loop-rest-init c =
    let w = c.args.width in
    let i = c.args.axis in
    let z : ℤ = to_z w32 (of_z w32 c.args.at) in
    let V : List (List ℤ) = rows_of c.args.flat.now w 0 in
    record {
      whole = c.requires.whole;
      low_made = ap (λ (y : List ℤ). length y % w) c.in_ok-below.ensures.items ∙ zero-mod w;
      high_made = ap (λ (y : List ℤ). length y % w) c.in_ok-above.ensures.items ∙ zero-mod w;
      low = subst (λ (Z : List (List ℤ)). IsCutSoFar w i z V Z V) (sym (cut_none w _ c.in_ok-below.ensures.items)) (cut_start w i z V c.requires.axis c.requires.vertices);
      high = subst (λ (Z : List (List ℤ)). IsOtherSoFar w i V Z (rows_of c.in_ok-above.above.items w 0) V) (sym (cut_none w _ c.in_ok-below.ensures.items))
          (subst (λ (Z : List (List ℤ)). IsOtherSoFar w i V [] Z V) (sym (cut_none w _ c.in_ok-above.ensures.items)) (other_start w i V));
    }

pub first_group-requires-clause-ascends : goal.first_group-requires-clause-ascends
first_group-requires-clause-ascends c = c.loop-rest.invariant.low.rises

pub loop-rest-preserved : goal.loop-rest-preserved
loop-rest-preserved c =
    let w = c.args.width in
    let i = c.args.axis in
    let z : ℤ = to_z w32 (of_z w32 c.args.at) in
    let V : List (List ℤ) = rows_of c.args.flat.now w 0 in
    let R : List (List ℤ) = rows_of c.loop-rest.rest.now w 0 in
    let G : List (List ℤ) = rows_of c.first_group.result.0.now w 0 in
    let T : List (List ℤ) = rows_of c.first_group.result.1.now w 0 in
    let P : List (List ℤ) = rows_of c.low_rows.result.0.now w 0 in
    let S : List (List ℤ) = rows_of c.low_rows.result.1.now w 0 in
    let inv = c.loop-rest.invariant in
    let cut : IsGroupCut w i z R G T P S = record {
      within = c.requires.axis;
      some = some_rows c.loop-rest.rest.now w (let l = c.requires.axis in omega arith) (let t = c.loop-rest-test.true in omega arith);
      front = c.first_group.ensures.group;
      parted = c.low_rows.ensures.parts;
    } in
    let low = cut_group w i z V R G T P S c.loop-rest.below.items c.append_both.new.below.items cut inv.low_made inv.low c.in_ok-append_both.ensures.cut in
    let high =
    other_group w i z V R G T P S c.loop-rest.below.items c.append_both.new.below.items c.loop-rest.above.items c.append_both.new.above.items cut inv.low_made inv.high_made inv.low inv.high c.in_ok-append_both.ensures in
    record { whole = c.first_group.ensures.whole; low_made = low.0; high_made = high.0; low = low.2; high = high.1 }

pub returns-clause-low : goal.returns-clause-low
returns-clause-low c =
    let w = c.args.width in
    let V : List (List ℤ) = rows_of c.args.flat.now w 0 in
    let W : List (List ℤ) = rows_of c.loop-rest.below.items w 0 in
    subst (λ (u : ℤ). IsReduced w (map (lowered c.args.axis u) V) W) (same32 c.args.at c.ranges.at)
    (cut_end w c.args.axis (to_z w32 (of_z w32 c.args.at)) V W (rows_of c.loop-rest.rest.now w 0) (rows_of-none c.loop-rest.rest.now w 0 (let e = c.loop-rest-test.false in omega arith)) c.loop-rest.invariant.low)

pub returns-clause-high : goal.returns-clause-high
returns-clause-high c =
    let w = c.args.width in
    let inv = c.loop-rest.invariant in
    other_end w c.args.axis (rows_of c.args.flat.now w 0) (rows_of c.loop-rest.below.items w 0) (rows_of c.loop-rest.above.items w 0) (rows_of c.loop-rest.rest.now w 0)
    (rows_of-none c.loop-rest.rest.now w 0 (let e = c.loop-rest-test.false in omega arith)) c.requires.vertices.ascends inv.low.ascends inv.high
