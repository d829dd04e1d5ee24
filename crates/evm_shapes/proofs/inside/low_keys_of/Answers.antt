use Rattle.std.proofs.Common.{arith, rules, ◌≡◌, ◌-◌, ◌<◌, ◌∙◌, ℕ, ℤ, [], get_or, map, pos, int_le, int_lt, false, true, sym, ap, w32, SFits, length}
use Rattle.std.proofs.lemmas.Bool.{true≢false}
use Rattle.std.proofs.lemmas.List.Elements.{All-same, All-nil}
use Rattle.evm_cells.specs.Windows.{clamped}
use Rattle.evm_cells.proofs.Clamping.{not_most}
use Rattle.evm_cells.proofs.Coords.{le_is, lt_no, lt_yes}
use Rattle.evm_cells.proofs.Insides.{box_lengths}
use Rattle.evm_rows.proofs.BoxTests.{same32}
use Rattle.evm_rows.proofs.RowsLaws.{rows_of-none}
use Rattle.evm_rows.specs.Rows.{rows_of}
use Rattle.evm_shapes.specs.Keys.{room}
use Rattle.evm_shapes.proofs.Closing.{low_stops}
use Rattle.evm_shapes.proofs.Lone.{gathered_end}
use Rattle.evm_shapes.proofs.Packed.{keys_start, room_is}
use Rattle.evm_shapes.proofs.Windowed.{put_room, low_put, low_all, low_none, key_row, cut_row}
use Rattle.evm_shapes.proofs.inside.low_keys_of.Goals as goal

pub loop-left-init : goal.loop-left-init
loop-left-init c =
    let n : ℕ = c.args.a.width - c.args.a.skip in
    record {
      whole = c.args.a.whole;
      room = All-same (λ k. k < room n) _ [] c.in_ok-keys.ensures.items (All-nil (λ k. k < room n));
      so_far = keys_start n _ _ c.in_ok-keys.ensures.items;
      all = λ e. e;
    }

pub bounds-hi-0 : goal.bounds-hi-0
bounds-hi-0 c =
    let e = (box_lengths (c.args.a.width - c.args.a.skip) c.args.lo.now c.args.hi.now c.requires.inside).1 in
    omega (arith, c.args.a.left, e)

pub moved_key-requires-clause-low : goal.moved_key-requires-clause-low
moved_key-requires-clause-low c =
    let e : length c.args.lo.now ≡ c.args.a.width - c.args.a.skip = (box_lengths (c.args.a.width - c.args.a.skip) c.args.lo.now c.args.hi.now c.requires.inside).0 in
    let w = c.split_row.ensures.wide in
    omega (arith, c.args.a.left)

pub moved_key-requires-clause-high : goal.moved_key-requires-clause-high
moved_key-requires-clause-high c =
    let e : length c.args.hi.now ≡ c.args.a.width - c.args.a.skip = (box_lengths (c.args.a.width - c.args.a.skip) c.args.lo.now c.args.hi.now c.requires.inside).1 in
    let w = c.split_row.ensures.wide in
    omega (arith, c.args.a.left)

pub returns-then-hi-row : goal.returns-then-hi-row
returns-then-hi-row c =
    let n : ℕ = c.args.a.width - c.args.a.skip in
    let y : ℤ = get_or c.args.hi.now 0 (pos 0) in
    let row = c.split_at.result.0.now in
    let x : ℤ = get_or row 0 (pos 0) in
    let end : SFits w32 y = search rules in
    let first : SFits w32 x = search rules in
    let h : int_le y x ≡ true = rw (same32 y end, same32 x first) at c.if-hi-row.true in
    let cut = cut_row c.args.dim row _ _ _ (let w = c.split_row.ensures.wide in let d = c.requires.dim in omega (arith, c.args.a.left)) c.split_at.ensures.front c.split_row.ensures.first in
    record {
      room = c.loop-left.invariant.room;
      lone = gathered_end n _ _ _ (ap (map (clamped c.args.lo.now c.args.hi.now)) (low_stops y _ _ row cut (lt_no x y (le_is y x h)))) c.loop-left.invariant.so_far;
      whole = λ e. absurd (true≢false (sym e));
    }

pub loop-left-preserved : goal.loop-left-preserved
loop-left-preserved c =
    let n : ℕ = c.args.a.width - c.args.a.skip in
    let y : ℤ = get_or c.args.hi.now 0 (pos 0) in
    let row = c.split_at.result.0.now in
    let x : ℤ = get_or row 0 (pos 0) in
    let end : SFits w32 y = search rules in
    let first : SFits w32 x = search rules in
    let h : int_le y x ≡ false = rw (same32 y end, same32 x first) at c.if-hi-row.false in
    let t : int_lt x y ≡ true = lt_yes x y (not_most y x h) in
    let e : length row ≡ n = c.split_at.ensures.front_len ∙ c.requires.dim in
    let cut = cut_row c.args.dim row _ _ _ (let w = c.split_row.ensures.wide in let d = c.requires.dim in omega (arith, c.args.a.left)) c.split_at.ensures.front c.split_row.ensures.first in
    record {
      whole = c.split_row.ensures.whole;
      room = put_room n _ _ _ c.in_ok-put.ensures c.loop-left.invariant.room (room_is n row c.moved_key.result e c.moved_key.ensures.room);
      so_far =
          low_put n c.args.lo.now c.args.hi.now row _ c.moved_key.result _ y _ _ _ c.in_ok-put.ensures (key_row (length row) n c.moved_key.result _ e c.moved_key.ensures.row) cut t
          c.loop-left.invariant.so_far;
      all = low_all row y _ _ _ cut t c.loop-left.invariant.all;
    }

pub returns : goal.returns
returns c =
    let n : ℕ = c.args.a.width - c.args.a.skip in
    let y : ℤ = get_or c.args.hi.now 0 (pos 0) in
    let none : rows_of c.loop-left.left.now c.args.a.width c.args.a.skip ≡ [] = rows_of-none c.loop-left.left.now c.args.a.width c.args.a.skip (let l = c.loop-left-test.false in omega arith) in
    record {
      room = c.loop-left.invariant.room;
      lone = gathered_end n _ _ _ (ap (map (clamped c.args.lo.now c.args.hi.now)) (low_none y _ none)) c.loop-left.invariant.so_far;
      whole = λ e. c.loop-left.invariant.all (low_none y _ none ∙ sym none);
    }
