use Rattle.std.proofs.Common.{◌≡◌, ℕ, pos, neg_ℤ, ◌-ℤ◌, false, take, drop, to_z, of_z, w32, rules, sym, ap, ◌∙◌}
use Rattle.std.proofs.lemmas.Bool.{false≢true}
use Rattle.evm_cells.specs.Limits.{limit}
use Rattle.evm_model.specs.Figures.{box_fits}
use Rattle.evm_formulas.proofs.Corners.{between_points, no_box}
use Rattle.evm_scene.proofs.BoxChanges.{corners_fit, part_figure}
use Rattle.evm_scene.proofs.boxes.part_in.Goals as goal

pub window-requires : goal.window-requires
window-requires c =
    let n : ℕ = c.args.own.now.dim in
    let lo : c.split_at.result.0.now ≡ take n c.args.nums.now = c.split_at.ensures.front ∙ (λ i. take (c.dim-dim.ensures i) ((c.values.ensures ∙ c.in-Some.ensures.1) i)) in
    let hi : c.split_at.result.1.now ≡ drop n c.args.nums.now = c.split_at.ensures.back ∙ (λ i. drop (c.dim-dim.ensures i) ((c.values.ensures ∙ c.in-Some.ensures.1) i)) in
    corners_fit n c.args.nums.now c.split_at.result.0.now c.split_at.result.1.now c.requires.both lo hi c.requires.fits

pub unreachable-requires : goal.unreachable-requires
unreachable-requires c =
    let n : ℕ = c.args.own.now.dim in
    let high : to_z w32 (of_z w32 c.limit-limit.result) ≡ pos (limit c.dim-dim.result) = search rules in
    let low : to_z w32 (of_z w32 (pos 0 -ℤ to_z w32 (of_z w32 c.limit-limit.result))) ≡ neg_ℤ (pos (limit c.dim-dim.result)) = search rules in
    let out : box_fits (take n c.args.nums.now) (drop n c.args.nums.now) ≡ false =
    no_box n c.args.nums.now c.requires.both
    (sym (between_points n c.args.nums.now _ _ (low ∙ ap (λ (k : ℕ). neg_ℤ (pos (limit k))) c.dim-dim.ensures) (high ∙ ap (λ (k : ℕ). pos (limit k)) c.dim-dim.ensures)) ∙ c.in-None.ensures) in
    false≢true (sym out ∙ c.requires.fits)

pub returns-clause-value : goal.returns-clause-value
returns-clause-value c =
    let n : ℕ = c.args.own.now.dim in
    let lo : c.split_at.result.0.now ≡ take n c.args.nums.now = c.split_at.ensures.front ∙ (λ i. take (c.dim-dim.ensures i) ((c.values.ensures ∙ c.in-Some.ensures.1) i)) in
    let hi : c.split_at.result.1.now ≡ drop n c.args.nums.now = c.split_at.ensures.back ∙ (λ i. drop (c.dim-dim.ensures i) ((c.values.ensures ∙ c.in-Some.ensures.1) i)) in
    part_figure c.args.own.now c.in_ok-part-in-Some.part c.args.nums.now c.split_at.result.0.now c.split_at.result.1.now lo hi c.in_ok-part-in-Some.ensures.dim c.in_ok-part-in-Some.ensures.cells
