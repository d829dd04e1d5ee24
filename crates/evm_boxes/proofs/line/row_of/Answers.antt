use Rattle.std.proofs.Common.{◌≡◌, ◌<◌, pos, refl, length, get_or, sym, ap₂, ◌∙◌, arith, rules, w32, w64, to_z, of_z}
use Rattle.std.proofs.lemmas.Int.{to_z-of_z}
use Rattle.std.proofs.lemmas.List.{length-set}
use Rattle.evm_rows.proofs.BoxTests.{side_passes}
use Rattle.evm_boxes.proofs.RowSteps.{half_lengths, halves_start, side_passed, side_failed, copied_more, row_done}
use Rattle.evm_boxes.proofs.line.row_of.Goals as goal

pub loop-axis-init : goal.loop-axis-init
loop-axis-init c = record {
  box = halves_start c.args.dim c.args.from.now c.split_at.result.0.now c.split_at.result.1.now c.requires.size c.split_at.ensures.front c.split_at.ensures.back;
  dim = refl;
  lo = refl;
  hi = refl;
  lo_room = refl;
  hi_room = refl;
}

pub returns-then-not-is_side : goal.returns-then-not-is_side
returns-then-not-is_side c =
    let i = c.loop-axis.axis in
    let lows = c.split_at.result.0.now in
    let highs = c.split_at.result.1.now in
    let lengths = half_lengths c.args.dim c.args.from.now lows highs c.requires.size c.split_at.ensures.front c.split_at.ensures.back in
    let low_is : to_z w64 (of_z w64 (get_or lows i (pos 0))) ≡ get_or lows i (pos 0) = search rules in
    let high_is : to_z w64 (of_z w64 (get_or highs i (pos 0))) ≡ get_or highs i (pos 0) = search rules in
    side_failed c.args.dim i c.args.from.now lows highs (omega arith) (omega arith) c.split_at.ensures.front c.split_at.ensures.back
    (ap₂ (side_passes c.args.dim) (sym low_is) (sym high_is) ∙ sym c.if-not-is_side.ensures.side) c.loop-axis.invariant.box

pub loop-axis-preserved : goal.loop-axis-preserved
loop-axis-preserved c =
    let i = c.loop-axis.axis in
    let lows = c.split_at.result.0.now in
    let highs = c.split_at.result.1.now in
    let lengths = half_lengths c.args.dim c.args.from.now lows highs c.requires.size c.split_at.ensures.front c.split_at.ensures.back in
    let invariant = c.loop-axis.invariant in
    let low_place : i < length lows = omega arith in
    let high_place : i < length highs = omega arith in
    let low_is : to_z w64 (of_z w64 (get_or lows i (pos 0))) ≡ get_or lows i (pos 0) = search rules in
    let high_is : to_z w64 (of_z w64 (get_or highs i (pos 0))) ≡ get_or highs i (pos 0) = search rules in
    let small = c.if-not-is_side.ensures.small in
    record {
      box = side_passed c.args.dim i lows highs low_place high_place (ap₂ (side_passes c.args.dim) (sym low_is) (sym high_is) ∙ sym c.if-not-is_side.ensures.side) invariant.box;
      dim = invariant.dim;
      lo = copied_more c.loop-axis.row.lo lows i _ (omega arith) low_place (to_z-of_z w32 _ small.0 ∙ low_is) invariant.lo;
      hi = copied_more c.loop-axis.row.hi highs i _ (omega arith) high_place (to_z-of_z w32 _ small.1 ∙ high_is) invariant.hi;
      lo_room = length-set c.loop-axis.row.lo i _ ∙ invariant.lo_room;
      hi_room = length-set c.loop-axis.row.hi i _ ∙ invariant.hi_room;
    }

pub returns : goal.returns
returns c =
    let all : c.loop-axis.axis ≡ c.args.dim = omega arith in
    row_done c.args.dim c.loop-axis.axis c.loop-axis.row c.args.from.now c.split_at.result.0.now c.split_at.result.1.now all c.requires.size
    c.split_at.ensures.front c.split_at.ensures.back c.loop-axis.invariant.box c.loop-axis.invariant.dim c.loop-axis.invariant.lo c.loop-axis.invariant.hi
