use Rattle.std.proofs.Common.{◌≡◌, [], true, false, refl, sym, ap, ◌∙◌, rules, w32}
use mir.Val.{SFits}
use Rattle.std.proofs.lemmas.Bool.{true≢false}
use Rattle.evm_rows.specs.Rows.{rows_of, xor_rows, Vertices}
use Rattle.evm_sections.specs.Couplets.{Passage, Course}
use Rattle.evm_sections.proofs.Bits.{same32}
use Rattle.evm_sections.proofs.Sections.{slabs_none, slabs_last, later_none, slabs_more}
use Rattle.evm_sections.proofs.sweep.Sweep.advance.Goals as goal
use Rattle.evm_sections.proofs.sweep.Sweep.advance.Goals.{in_default-via-in-Some+in_default, in_default-via-in_default}

pub returns-in_default-clause-none : goal.returns-in_default-clause-none
returns-in_default-clause-none c =
    let v = ap (λ (p : Passage). p.left) (sym c.self.view_is) in
    let again = ap (λ (w : Course). w.left) (sym c.again-ahead.ensures) in
    let walk = c.self.inside.walk in
    let s = c.self.inside.section.rows in
    elim c.in_default.branch [
      | in_default-via-in-Some+in_default w ↦ (
        v ∙ slabs_last walk.dim s _ _ walk.left c.next_couplet.new.self.left (again ∙ w.in_default.ensures.some) w.in_default.ensures',
        (slabs_none _ _ c.next_couplet.new.self.left (later_none c.next_couplet.new.self.left w.in_default.ensures'), c.empty.ensures.rows),
      )
      | in_default-via-in_default w ↦ (
        v ∙ slabs_none walk.dim s walk.left (again ∙ w.in_default.ensures.none),
        (slabs_none _ _ c.next_couplet.new.self.left (ap (λ (w : Course). w.left) w.in_default.ensures.stays ∙ w.in_default.ensures.none), c.empty.ensures.rows),
      )
    ]

pub returns-in_default-clause-ends : goal.returns-in_default-clause-ends
returns-in_default-clause-ends c =
    let v = ap (λ (p : Passage). p.left) (sym c.self.view_is) in
    let again = ap (λ (w : Course). w.left) (sym c.again-ahead.ensures) in
    let walk = c.self.inside.walk in
    let s = c.self.inside.section.rows in (
      λ _. elim c.in_default.branch [
        | in_default-via-in-Some+in_default w ↦
            v ∙ slabs_last walk.dim s _ _ walk.left c.next_couplet.new.self.left (again ∙ w.in_default.ensures.some) w.in_default.ensures'
        | in_default-via-in_default w ↦ v ∙ slabs_none walk.dim s walk.left (again ∙ w.in_default.ensures.none)
      ],
      λ _. refl,
    )

pub returns-clause-some : goal.returns-clause-some
returns-clause-some c =
    let arm = c.in-Some-Some in
    let r = arm.couplet in
    let fl : SFits w32 c.in-Some-Some.low = search rules in
    let fh : SFits w32 c.in-Some-Some.high = search rules in
    let e = ap (λ (w : Course). w.left) (sym c.again-ahead.ensures) ∙ arm.ensures.some in
    let dim = c.next_couplet.ensures.dim ∙ ap (λ (w : Course). w.dim) c.again-ahead.ensures in
    let g = c.in_ok-section.ensures.rows ∙ ap (λ (p : Vertices). xor_rows p.dim p.rows (rows_of r.flat.now r.width r.skip)) c.rows.ensures
    ∙ ap (λ m. xor_rows m c.self.inside.section.rows (rows_of r.flat.now r.width r.skip)) c.self.invariant in
    rw (same32 c.in-Some-Some.low fl, same32 c.in-Some-Some.high fh, dim, c.replace.ensures.after)
    (ap (λ (p : Passage). p.left) (sym c.self.view_is)
    ∙ slabs_more c.self.inside.walk.dim c.self.inside.section.rows c.in_ok-section.section.rows arm.low arm.high (rows_of r.flat.now r.width r.skip) c.self.inside.walk.left c.next_couplet.new.self.left e arm.ensures' g)

pub returns-clause-ends : goal.returns-clause-ends
returns-clause-ends c =
    let arm = c.in-Some-Some in
    let e = ap (λ (w : Course). w.left) (sym c.again-ahead.ensures) ∙ arm.ensures.some in
    let s = ap (λ (p : Passage). p.left) (sym c.self.view_is)
    ∙ slabs_more c.self.inside.walk.dim c.self.inside.section.rows _ arm.low arm.high (rows_of arm.couplet.flat.now arm.couplet.width arm.couplet.skip) c.self.inside.walk.left c.next_couplet.new.self.left e arm.ensures' refl in
    (λ (n : true ≡ false). absurd (true≢false n), λ (n : c.args.self.now.left ≡ []). let bad = sym n ∙ s in cc)
