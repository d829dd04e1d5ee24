use Rattle.std.proofs.Common.{◌≡◌, ◌-◌, ◌-ℤ◌, ◌∙◌, ℕ, ℤ, pos, neg_ℤ, SFits, w32, to_z, of_z, ap, arith}
use Rattle.std.proofs.lemmas.Int.{ints, to_z-of_z}
use Rattle.evm_cells.specs.Limits.{limit}
use Rattle.evm_cells.proofs.Coords.{limit-small}
use Rattle.evm_delta.proofs.Corners.{none_outside}
use Rattle.evm_delta.proofs.shapes.clipped.Goals as goal

pub unreachable-requires : goal.unreachable-requires
unreachable-requires c =
    let n : ℕ = c.args.a.width - c.args.a.skip in
    let l : ℤ = c.limit-limit.result in
    let e : l ≡ pos (limit n) = c.limit-limit.ensures ∙ ap (λ (k : ℕ). pos (limit k)) c.dim-dim.ensures in
    let small = limit-small n in
    let f : SFits w32 l = grind (arith, ints, e, small) in
    let g : SFits w32 (pos 0 -ℤ l) = grind (arith, ints, e, small) in
    let low : to_z w32 (of_z w32 (pos 0 -ℤ to_z w32 (of_z w32 l))) ≡ neg_ℤ (pos (limit n)) =
    ap (λ (z : ℤ). to_z w32 (of_z w32 (pos 0 -ℤ z))) (to_z-of_z w32 l f) ∙ to_z-of_z w32 (pos 0 -ℤ l) g ∙ omega (arith, ints, e) in
    none_outside n c.args.corners.now _ _ low (to_z-of_z w32 l f ∙ e) c.requires.is_box c.in-None.ensures
