use Rattle.std.proofs.Common.{rules, ◌≡◌, ◌+◌, ◌-◌, ◌<◌, ◌≤◌, ◌++◌, [], ◌∷◌, Option, Some, None, ℤ, take, drop, length, length-drop, w32, SFits, to_z, of_z, to_z-of_z, arith, sym, ap, ◌∙◌}
use Rattle.evm_formats.specs.Nested.{after_row, after_count, after_height, read_body}
use Rattle.evm_file.proofs.Scanning.{body_done, heights_done, tally_row, tally_count, tally_height, first_four, scan_short, scan_count, scan_cut, scan_height, height_is, below_read, below_none}
use Rattle.evm_file.proofs.nested.+scan_body.Goals as goal

pub returns-then-dim-eq0-clause-scans : goal.returns-then-dim-eq0-clause-scans
returns-then-dim-eq0-clause-scans t c = λ front s i. let e = c.after_row.ensures in
    (after_row front s, body_done c.args.dim front s c.if-dim-eq0.true, tally_row c.args.tally c.after_row.result c.args.bytes.now front s i e.rows e.gap e.fall)

pub returns-then-bytes-lt4-clause-scans : goal.returns-then-bytes-lt4-clause-scans
returns-then-bytes-lt4-clause-scans t c = λ front s i.
    scan_short c.args.dim c.args.bytes.now front s (let z = c.if-dim-eq0.false in omega arith) c.if-bytes-lt4.true i.left

pub loop-left-init : goal.loop-left-init
loop-left-init t c =
    let a = c.after_count-so_far.ensures in
    let p = c.split_at.ensures in
    record {
      room = omega (arith, a.rows, ap length p.back ∙ length-drop 4 c.args.bytes.now);
      scans = λ front s i. (
        after_count s,
        tally_count c.args.tally c.after_count-so_far.result c.args.bytes.now c.split_at.result.1.now c.read_u32-left.result s i
            (first_four s c.args.bytes.now c.split_at.result.0.now i.left p.front ∙ sym c.read_u32-left.ensures) p.back a.rows a.gap a.fall,
        scan_count c.args.dim c.read_u32-left.result c.args.bytes.now c.split_at.result.0.now front s (let z = c.if-dim-eq0.false in omega arith) c.if-bytes-lt4.false i.left p.front c.read_u32-left.ensures,
      );
    }

pub returns-then-rest-lt4-clause-scans : goal.returns-then-rest-lt4-clause-scans
returns-then-rest-lt4-clause-scans t c = λ front s i.
    let (r, a, e) = c.loop-left.invariant.scans front s i in
    e ∙ scan_cut (c.args.dim - 1) c.loop-left.left c.loop-left.rest.now front c.loop-left.last r (let z = c.loop-left-test.true in omega arith) c.if-rest-lt4.true a.left

pub returns-clause-scans : goal.returns-clause-scans
returns-clause-scans t c = λ front s i.
    let (r, a, e) = c.loop-left.invariant.scans front s i in
    (r, e ∙ heights_done (read_body (c.args.dim - 1)) front c.loop-left.left c.loop-left.last r (let z = c.loop-left-test.false in omega arith), a)

pub returns-in_default-clause-scans : goal.returns-in_default-clause-scans
returns-in_default-clause-scans t c = λ front s i.
    let (r, a, e) = c.loop-left.invariant.scans front s i in
    let f : SFits w32 c.read_i32-height.result = search rules in
    let h = to_z w32 (of_z w32 c.read_i32-height.result) in
    let q = to_z-of_z f ∙ c.read_i32-height.ensures in
    let p = c.split_at-in-loop-left.ensures in
    let b = c.after_height-inner.ensures in
    let last = c.loop-left.last in
    let rest = c.loop-left.rest.now in
    let four = c.split_at-in-loop-left.result.0.now in
    let below = tally_height c.loop-left.so_far c.after_height-inner.result rest c.split_at-in-loop-left.result.1.now last h r a (height_is r rest four h a.left p.front q) p.back b.rows b.gap b.fall in
    e ∙ scan_height (c.args.dim - 1) c.loop-left.left rest four front last h r (let z = c.loop-left-test.true in omega arith) c.if-rest-lt4.false a.left p.front q
    ∙ below_none (c.args.dim - 1) (c.loop-left.left - 1) front h (read_body (c.args.dim - 1) (front ++ h ∷ []) (after_height last r)) (c.in_default.ensures.scans (front ++ h ∷ []) (after_height last r) below)

pub loop-left-preserved : goal.loop-left-preserved
loop-left-preserved t c =
    let f : SFits w32 c.read_i32-height.result = search rules in
    let h = to_z w32 (of_z w32 c.read_i32-height.result) in
    let q = to_z-of_z f ∙ c.read_i32-height.ensures in
    let p = c.split_at-in-loop-left.ensures in
    let b = c.after_height-inner.ensures in
    let last = c.loop-left.last in
    let rest = c.loop-left.rest.now in
    let four = c.split_at-in-loop-left.result.0.now in
    record {
      room = omega (arith, c.in-Some.ensures.room, b.rows, c.loop-left.invariant.room, c.if-rest-lt4.false, ap length p.back ∙ length-drop 4 rest);
      scans = λ front s i.
          let (r, a, e) = c.loop-left.invariant.scans front s i in
          let below = tally_height c.loop-left.so_far c.after_height-inner.result rest c.split_at-in-loop-left.result.1.now last h r a (height_is r rest four h a.left p.front q) p.back b.rows b.gap b.fall in
          let (u, x, y) = c.in-Some.ensures.scans (front ++ h ∷ []) (after_height last r) below in (
            u,
            y,
            e ∙ scan_height (c.args.dim - 1) c.loop-left.left rest four front last h r (let z = c.loop-left-test.true in omega arith) c.if-rest-lt4.false a.left p.front q
                ∙ below_read (c.args.dim - 1) (c.loop-left.left - 1) front h (read_body (c.args.dim - 1) (front ++ h ∷ []) (after_height last r)) u x,
          );
    }
