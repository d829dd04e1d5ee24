use Rattle.std.proofs.Common.{arith, ◌≡◌, ◌∙◌, ◌++◌, ℤ, map, ap, to_z, of_z, w32}
use Rattle.evm_rows.specs.Rows.{rows_of, flat_of}
use Rattle.evm_rows.proofs.RowsLaws.{rows_of-none}
use Rattle.evm_sections.proofs.Bits.{same32}
use Rattle.evm_cutting.specs.Levels.{put}
use Rattle.evm_cutting.proofs.Leveled.{put_more, put_end}
use Rattle.evm_cutting.proofs.levels.append_put.Goals as goal

pub loop-left-preserved : goal.loop-left-preserved
loop-left-preserved c = record {
  whole = c.split_row.ensures.whole;
  so_far = put_more c.args.head.now (to_z w32 (of_z w32 c.args.at)) c.loop-left.out.items _ _ _ _ c.split_row.result.0.now _ _ c.split_row.ensures.first
      c.in_ok-extend_from_slice.ensures.items c.in_ok-push.ensures.items c.in_ok-extend_from_slice-2.ensures.items c.loop-left.invariant.so_far;
}

pub returns : goal.returns
returns c =
    let z : ℤ = to_z w32 (of_z w32 c.args.at) in
    let q : z ≡ c.args.at = same32 c.args.at c.ranges.at in
    put_end c.args.head.now z c.loop-left.out.items _ _ (rows_of-none c.loop-left.left.now c.args.width 0 (let e = c.loop-left-test.false in omega arith)) c.loop-left.invariant.so_far
    ∙ ap (λ (u : ℤ). c.args.out.now.items ++ flat_of (map (put c.args.head.now u) (rows_of c.args.places.now c.args.width 0))) q
