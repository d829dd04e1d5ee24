use Rattle.std.proofs.Common.{rules, ◌≡◌, ◌+◌, ◌-◌, ◌<◌, ◌≤◌, ◌++◌, [], ◌∷◌, Option, Some, None, ℤ, take, drop, length, w32, SFits, to_z, of_z, to_z-of_z, arith, sym, ap, ◌∙◌, subst}
use Rattle.evm_rows.specs.Rows.{flat_of}
use Rattle.evm_formats.specs.Nested.{Reading, after_row, after_count, after_height, read_heights, read_body}
use Rattle.evm_formats.proofs.BodyBytes.{goes_on, some_is}
use Rattle.evm_file.specs.Scanning.{front_of}
use Rattle.evm_file.proofs.Scanning.{heights_done, scan_short, scan_count, scan_cut, scan_height, none_some, row_done}
use Rattle.evm_file.proofs.nested.+append_rows.Goals as goal

pub returns-then-dim-eq0 : goal.returns-then-dim-eq0
returns-then-dim-eq0 t c = λ s v r o e.
    row_done c.args.dim (front_of c.args.front) c.args.out.now.items c.extend_from_slice.new.self.items c.args.bytes.now s v c.if-dim-eq0.true r o e c.in_ok-extend_from_slice.ensures.items

pub returns-then-bytes-lt4 : goal.returns-then-bytes-lt4
returns-then-bytes-lt4 t c = λ s v r o e.
    absurd (none_some v (sym (scan_short c.args.dim c.args.bytes.now (front_of c.args.front) s (let z = c.if-dim-eq0.false in omega arith) c.if-bytes-lt4.true r) ∙ e))

pub loop-left-init : goal.loop-left-init
loop-left-init t c = λ s v r o e.
    let p = c.split_at.ensures in (
      after_count s,
      None,
      ap (drop 4) r ∙ sym p.back,
      o,
      sym (scan_count c.args.dim c.read_u32-left.result c.args.bytes.now c.split_at.result.0.now (front_of c.args.front) s (let z = c.if-dim-eq0.false in omega arith) c.if-bytes-lt4.false r p.front c.read_u32-left.ensures) ∙ e,
    )

pub returns-then-rest-lt4 : goal.returns-then-rest-lt4
returns-then-rest-lt4 t c = λ s v r o e.
    let (u, last, q, w, d) = c.loop-left.invariant s v r o e in
    absurd (none_some v (sym (scan_cut (c.args.dim - 1) c.loop-left.left c.loop-left.rest.now (front_of c.args.front) last u (let z = c.loop-left-test.true in omega arith) c.if-rest-lt4.true q) ∙ d))

pub loop-left-preserved : goal.loop-left-preserved
loop-left-preserved t c = λ s v r o e.
    let (u, last, q, w, d) = c.loop-left.invariant s v r o e in
    let f : SFits w32 c.read_i32.result = search rules in
    let h = to_z w32 (of_z w32 c.read_i32.result) in
    let is_h = to_z-of_z f ∙ c.read_i32.ensures in
    let p = c.split_at-in-loop-left.ensures in
    let front = front_of c.args.front in
    let n = c.args.dim - 1 in
    let g = scan_height n c.loop-left.left c.loop-left.rest.now c.split_at-in-loop-left.result.0.now front last h u (let z = c.loop-left-test.true in omega arith) c.if-rest-lt4.false q p.front is_h in
    let x = goes_on (read_body n (front ++ h ∷ []) (after_height last u)) (λ (y : Reading). read_heights (read_body n) front (c.loop-left.left - 1) (Some h) y) v (sym g ∙ d) in
    let below = c.in_ok-rest.ensures (after_height last u) x.between (ap (drop 4) q ∙ sym p.back) w
    (ap (λ zs. read_body n zs (after_height last u)) c.then-next.ensures.places ∙ x.first) in
    (x.between, Some h, sym below.0, below.1, x.second)

pub returns : goal.returns
returns t c = λ s v r o e.
    let (u, last, q, w, d) = c.loop-left.invariant s v r o e in
    let same = some_is u v (sym (heights_done (read_body (c.args.dim - 1)) (front_of c.args.front) c.loop-left.left last u (let z = c.loop-left-test.false in omega arith)) ∙ d) in
    (sym q ∙ ap (λ (y : Reading). y.rest) same, w ∙ ap (λ (y : Reading). flat_of y.rows) same)
