use Rattle.std.proofs.Common.{◌≡◌, pos, ◌-ℤ◌, neg_ℤ, take, drop, length, to_z, of_z, w32, Err, rules, sym, ◌∙◌, ap}
use Rattle.evm_cells.specs.Limits.{limit}
use Rattle.evm_cells.specs.Boxes.{is_box}
use Rattle.evm_formulas.proofs.Corners.{between_points, no_box, fits_by, box_by, box_dim, must_fit}
use Rattle.evm_scene.proofs.numbers.box_of.Goals as goal

pub returns-in_default : goal.returns-in_default
returns-in_default c =
    let high : to_z w32 (of_z w32 c.limit-limit.result) ≡ pos (limit c.args.dim) = search rules in
    let low : to_z w32 (of_z w32 (pos 0 -ℤ to_z w32 (of_z w32 c.limit-limit.result))) ≡ neg_ℤ (pos (limit c.args.dim)) = search rules in
    no_box c.args.dim c.args.numbers.now c.requires.both (sym (between_points c.args.dim c.args.numbers.now _ _ low high) ∙ c.in_default.ensures)

pub returns-in-Err-Range : goal.returns-in-Err-Range
returns-in-Err-Range c =
    let lo = c.split_at.ensures.front ∙ ap (take c.args.dim) (c.values.ensures ∙ c.in-Some.ensures.1) in
    let hi = c.split_at.ensures.back ∙ ap (drop c.args.dim) (c.values.ensures ∙ c.in-Some.ensures.1) in
    fits_by c.args.dim c.args.numbers.now c.split_at.result.0.now c.split_at.result.1.now _ lo hi (c.in-Err-Range.ensures.range.0 (ap Err c.in-Err-Range.field-0-is))

pub returns-in-Ok : goal.returns-in-Ok
returns-in-Ok c =
    let lo = c.split_at.ensures.front ∙ ap (take c.args.dim) (c.values.ensures ∙ c.in-Some.ensures.1) in
    let hi = c.split_at.ensures.back ∙ ap (drop c.args.dim) (c.values.ensures ∙ c.in-Some.ensures.1) in
    let fits = must_fit (is_box (length c.split_at.result.0.now) c.split_at.result.0.now c.split_at.result.1.now) (λ e. let clash = c.in-Ok.ensures.range.1 e in cc) in
    let made = box_by c.args.dim c.args.numbers.now c.split_at.result.0.now c.split_at.result.1.now c.in-Ok.solid lo hi c.in-Ok.ensures.dim c.in-Ok.ensures.cells in (
      fits_by c.args.dim c.args.numbers.now c.split_at.result.0.now c.split_at.result.1.now _ lo hi fits,
      made,
      box_dim c.args.dim c.args.numbers.now c.in-Ok.solid c.requires.both made,
    )
