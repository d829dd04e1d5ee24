use Rattle.std.proofs.Common.{arith, ◌∙◌, ◌%◌, ℤ, List, length, sym, ap, subst, map, to_z, of_z, w32}
use native.Mathlib.Nat.{zero-mod}
use Rattle.evm_cells.specs.Windows.{IsReduced}
use Rattle.evm_rows.specs.Rows.{rows_of}
use Rattle.evm_rows.proofs.RowsLaws.{rows_of-none}
use Rattle.evm_sections.proofs.Bits.{same32}
use Rattle.evm_cutting.specs.Levels.{lowered}
use Rattle.evm_cutting.proofs.Closed.{IsCutSoFar, cut_start, cut_end}
use Rattle.evm_cutting.proofs.Leveled.{cut_none, cut_group, some_rows}
use Rattle.evm_cutting.proofs.levels.rows_below.Goals as goal

pub loop-rest-init : goal.loop-rest-init
loop-rest-init c =
    let w = c.args.width in
    let V : List (List ℤ) = rows_of c.args.flat.now w 0 in
    record {
      whole = c.requires.whole;
      made = ap (λ (z : List ℤ). length z % w) c.in_ok-out.ensures.items ∙ zero-mod w;
      so_far = subst (λ (Z : List (List ℤ)). IsCutSoFar w c.args.axis (to_z w32 (of_z w32 c.args.at)) V Z V) (sym (cut_none w _ c.in_ok-out.ensures.items)) (cut_start w c.args.axis (to_z w32 (of_z w32 c.args.at)) V c.requires.axis c.requires.vertices);
    }

pub first_group-requires-clause-ascends : goal.first_group-requires-clause-ascends
first_group-requires-clause-ascends c = c.loop-rest.invariant.so_far.rises

pub loop-rest-preserved : goal.loop-rest-preserved
loop-rest-preserved c =
    let w = c.args.width in
    let inv = c.loop-rest.invariant in
    let more =
    cut_group w c.args.axis (to_z w32 (of_z w32 c.args.at)) (rows_of c.args.flat.now w 0) (rows_of c.loop-rest.rest.now w 0) (rows_of c.first_group.result.0.now w 0) (rows_of c.first_group.result.1.now w 0)
    (rows_of c.low_rows.result.0.now w 0) (rows_of c.low_rows.result.1.now w 0) c.loop-rest.out.items c.append_low.new.out.items
    (record {
      within = c.requires.axis;
      some = some_rows c.loop-rest.rest.now w (let l = c.requires.axis in omega arith) (let t = c.loop-rest-test.true in omega arith);
      front = c.first_group.ensures.group;
      parted = c.low_rows.ensures.parts;
    })
    inv.made inv.so_far c.in_ok-append_low.ensures in
    record { whole = c.first_group.ensures.whole; made = more.0; so_far = more.2 }

pub returns-clause-rows : goal.returns-clause-rows
returns-clause-rows c =
    let w = c.args.width in
    let V : List (List ℤ) = rows_of c.args.flat.now w 0 in
    let W : List (List ℤ) = rows_of c.loop-rest.out.items w 0 in
    subst (λ (u : ℤ). IsReduced w (map (lowered c.args.axis u) V) W) (same32 c.args.at c.ranges.at)
    (cut_end w c.args.axis (to_z w32 (of_z w32 c.args.at)) V W (rows_of c.loop-rest.rest.now w 0) (rows_of-none c.loop-rest.rest.now w 0 (let e = c.loop-rest-test.false in omega arith)) c.loop-rest.invariant.so_far)
