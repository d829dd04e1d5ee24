use Rattle.std.proofs.Common.{arith, ◌≡◌, ◌∙◌, ◌++◌, ◌∷◌, [], ◌-◌, ◌+◌, ℤ, map, refl, ap}
use Rattle.std.proofs.lemmas.Result.{on_ok_weaker}
use Rattle.evm_rows.specs.Rows.{rows_of, flat_of}
use Rattle.evm_rows.proofs.RowsLaws.{rows_of-none}
use Rattle.evm_sections.proofs.Bits.{same32}
use Rattle.evm_cutting.specs.Levels.{put}
use Rattle.evm_cutting.proofs.Leveled.{closed_empty, closed_even, closed_odd, closed_places}
use Rattle.evm_cutting.proofs.levels.append_closing.Goals as goal

pub returns-then-rows-eq0 : goal.returns-then-rows-eq0
returns-then-rows-eq0 c = closed_empty c.args.width c.args.axis c.args.at _ _ _ (rows_of-none c.args.rows.now c.args.width 0 (let e = c.if-rows-eq0.true in omega arith)) refl

pub returns-in_ok-push : goal.returns-in_ok-push
returns-in_ok-push c =
    closed_odd c.args.axis c.args.width c.args.at c.args.rows.now c.split_at.result.0.now _ _ _ c.if-axis-width.true (let e = c.if-rows-eq0.false in omega arith) c.requires.whole c.if-rows-width-eq1.true c.split_at.ensures.front
    c.in_ok-extend_from_slice.ensures.items (c.in_ok-push.ensures.items ∙ ap (λ (u : ℤ). c.extend_from_slice.new.self.items ++ u ∷ []) (same32 c.args.at c.ranges.at))

pub returns-else-rows-width-eq1 : goal.returns-else-rows-width-eq1
returns-else-rows-width-eq1 c = closed_even c.args.axis c.args.width c.args.at c.args.rows.now _ _ c.if-axis-width.true c.requires.whole c.if-rows-width-eq1.false refl

pub returns : goal.returns
returns c =
    let w = c.args.width in
    let i = c.args.axis in
    let l : i + 1 ≡ w → ⊥ = c.if-axis-width.false in
    on_ok_weaker c.append_put.result
    (λ e. closed_places i w (w - (i + 1)) (w - i - 1) c.args.at c.args.rows.now c.split_at.result.0.now c.in_ok-places.places.items _ _ (let m = c.requires.axis in omega (arith, l)) (let e = c.if-rows-eq0.false in omega arith) c.requires.whole refl (omega arith)
    c.in_ok-places.ensures.whole c.split_at.ensures.front c.in_ok-places.ensures.odd (e ∙ ap (λ u. c.args.out.now.items ++ flat_of (map (put c.split_at.result.0.now c.args.at) (rows_of u (w - i - 1) 0))) c.as_slice.ensures.value))
    (rw (same32 c.args.at c.ranges.at) at c.append_put.ensures)
