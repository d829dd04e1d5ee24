use Rattle.std.proofs.Common.{◌-◌, ℕ, ℤ, get_or, slice_set, pos, refl, sym, ◌∙◌, arith, rules, w32, SFits, to_z, of_z}
use Rattle.std.proofs.lemmas.Int.{to_z-of_z}
use Rattle.std.proofs.lemmas.List.{get_or-set_same}
use Rattle.evm_rows.specs.Rows.{Vertices}
use Rattle.evm_rows.specs.View.{vertices_of}
use Rattle.evm_delta.proofs.NearHeights.{end_is_cut, ends_around}
use Rattle.evm_delta.proofs.hulls.least_box.Goals as goal

pub returns-clause-around : goal.returns-clause-around
returns-clause-around c =
    let d = c.args.d in
    let n : ℕ = d.width - d.skip in
    let v : Vertices = vertices_of d in
    let a : SFits w32 c.coord.result = search rules in
    let b : SFits w32 c.coord-2.result = search rules in
    let narrow = d.narrow in
    let left = d.left in
    let low = c.hull-ends.ensures.low in
    let high = c.hull-ends.ensures.high in
    let rows = c.len.ensures in
    let some = c.requires in
    ends_around n (c.len.result - 1) (to_z w32 (of_z w32 c.coord.result)) (to_z w32 (of_z w32 c.coord-2.result)) c.hull-ends.result.lo c.hull-ends.result.hi v refl (omega (arith, left)) (omega (arith, rows, some))
    (omega (arith, narrow, low)) (omega (arith, narrow, high)) d.vertices
    (to_z-of_z w32 c.coord.result a ∙ sym (c.coord.ensures (pos 0))) (to_z-of_z w32 c.coord-2.result b ∙ sym (c.coord-2.ensures (pos 0))) c.hull-ends.ensures.around

pub returns-clause-first : goal.returns-clause-first
returns-clause-first c =
    let d = c.args.d in
    let n : ℕ = d.width - d.skip in
    let v : Vertices = vertices_of d in
    let a : SFits w32 c.coord.result = search rules in
    let x : ℤ = to_z w32 (of_z w32 c.coord.result) in
    let left = d.left in
    let low = c.hull-ends.ensures.low in
    end_is_cut n 0 v (get_or (slice_set c.hull-ends.result.lo 0 x) 0 (pos 0)) refl (omega (arith, left)) c.requires d.vertices
    (get_or-set_same c.hull-ends.result.lo 0 x (pos 0) (omega (arith, low)) ∙ to_z-of_z w32 c.coord.result a ∙ sym (c.coord.ensures (pos 0)))

pub returns-clause-last : goal.returns-clause-last
returns-clause-last c =
    let d = c.args.d in
    let n : ℕ = d.width - d.skip in
    let v : Vertices = vertices_of d in
    let b : SFits w32 c.coord-2.result = search rules in
    let y : ℤ = to_z w32 (of_z w32 c.coord-2.result) in
    let left = d.left in
    let high = c.hull-ends.ensures.high in
    let rows = c.len.ensures in
    let some = c.requires in
    end_is_cut n (c.len.result - 1) v (get_or (slice_set c.hull-ends.result.hi 0 y) 0 (pos 0)) refl (omega (arith, left)) (omega (arith, rows, some)) d.vertices
    (get_or-set_same c.hull-ends.result.hi 0 y (pos 0) (omega (arith, high)) ∙ to_z-of_z w32 c.coord-2.result b ∙ sym (c.coord-2.ensures (pos 0)))
