use Rattle.std.proofs.Common.{arith, rules, ℕ, ℤ, ◌++◌, ◌∷◌, [], SFits, w32, to_z, of_z, ◌∙◌, ◌≡◌, ◌<◌, length, ap, refl}
use Rattle.evm_sections.proofs.Bits.{same32}
use Rattle.evm_shapes.proofs.Shifted.{shift_parts, same64, coord_fits, coord_32, written_more, written_all, point_coords_of}
use Rattle.evm_shapes.proofs.shifts.append_added.Goals as goal

pub loop-k-init : goal.loop-k-init
loop-k-init c = record { fits = point_coords_of (length c.args.row.now) _ c.requires.fits; so_far = refl }

pub overflow_cast-sum : goal.overflow_cast-sum
overflow_cast-sum c =
    let n : ℕ = length c.args.row.now in
    let e : length c.args.by.now ≡ n = shift_parts n c.args.by.now c.requires.shift in
    let l : c.loop-k.k < length c.args.by.now = let m = c.loop-k-test.true in omega arith in
    let h = coord_fits n c.args.by.now c.args.row.now c.loop-k.k l c.loop-k-test.true c.loop-k.invariant.fits in
    let fits : SFits w32 c.sum.result = rw c.sum.ensures (coord_32 n _ h.0) in
    rw (same64 c.sum.result (search rules)) fits

pub loop-k-preserved : goal.loop-k-preserved
loop-k-preserved c =
    let n : ℕ = length c.args.row.now in
    let e : length c.args.by.now ≡ n = shift_parts n c.args.by.now c.requires.shift in
    let l : c.loop-k.k < length c.args.by.now = let m = c.loop-k-test.true in omega arith in
    let h = coord_fits n c.args.by.now c.args.row.now c.loop-k.k l c.loop-k-test.true c.loop-k.invariant.fits in
    let fits : SFits w32 c.sum.result = rw c.sum.ensures (coord_32 n _ h.0) in
    record {
      fits = h.1;
      so_far = written_more c.args.by.now c.args.row.now c.loop-k.k _ _ _ l c.loop-k-test.true (c.in_ok-push.ensures.items ∙ ap (λ (z : ℤ). c.loop-k.out.items ++ z ∷ []) (ap (λ (z : ℤ). to_z w32 (of_z w32 z)) (same64 c.sum.result (search rules)) ∙ same32 c.sum.result fits ∙ c.sum.ensures)) c.loop-k.invariant.so_far;
    }

pub returns : goal.returns
returns c = written_all c.args.by.now c.args.row.now c.loop-k.k _ _ (let l = c.loop-k-test.false in omega arith) c.loop-k.invariant.so_far
