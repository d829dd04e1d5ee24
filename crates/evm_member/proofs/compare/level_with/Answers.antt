use Rattle.std.proofs.Common.{◌≡◌, ◌<ℤ◌, length, sym, ap, ◌∙◌, arith, rules, ⊎_elim, Some, None, zero-add}
use Rattle.std.specs.Prelude.{if◌then◌else◌}
use Rattle.std.proofs.lemmas.Int.{ints}
use Rattle.evm_member.specs.Levels.{level_axes}
use Rattle.evm_member.proofs.Axes.{below_no, below_yes, below_end, none_left, rest_length, less_is, equal_is, greater_is, level_less, level_equal, level_end, light_more, light_now, light_first}
use Rattle.evm_member.proofs.compare.level_with.Goals as goal
use Rattle.evm_member.proofs.compare.level_with.Goals.{in-Less, in-Equal}

pub returns-clause-few : goal.returns-clause-few
returns-clause-few c =
    let inv = c.loop-x.invariant in
    omega (arith, inv.small, light_now c.loop-x.bit _ inv.light)

pub loop-x-preserved : goal.loop-x-preserved
loop-x-preserved c =
    let inv = c.loop-x.invariant in
    let (e, f) = c.in-Some.ensures.steps in
    elim c.match-cmp.branch [
      | in-Less w ↦
          let l : c.in-Some.x.now <ℤ c.in-Some.y.now = less_is c.in-Some.x.now c.in-Some.y.now w.in-Less.ensures in
          record {
            as_long = rest_length _ _ _ _ _ _ e f inv.as_long;
            small = omega (arith, w.axes-is, inv.small);
            light = light_more c.loop-x.bit _ _ _ f inv.light;
            below = below_yes _ _ _ _ _ _ _ e f (omega (arith, ints)) inv.below;
            so_far = rw w.axes-is (level_less _ _ _ _ _ _ c.loop-x.axes c.loop-x.bit _ e f l inv.so_far);
          }
      | in-Equal w ↦
          let l = equal_is c.in-Some.x.now c.in-Some.y.now w.in-Equal.ensures in
          record {
            as_long = rest_length _ _ _ _ _ _ e f inv.as_long;
            small = omega (arith, w.axes-is, inv.small);
            light = light_more c.loop-x.bit _ _ _ f inv.light;
            below = below_yes _ _ _ _ _ _ _ e f (omega (arith, ints)) inv.below;
            so_far = rw w.axes-is (level_equal _ _ _ _ _ _ c.loop-x.axes c.loop-x.bit _ e f l inv.so_far);
          }
    ]

pub loop-x-init : goal.loop-x-init
loop-x-init c =
    record {
      as_long = search rules;
      small = omega arith;
      light = light_first _ (rw (c.into_iter-x-iterator.ensures.into_iter_gives, c.zip-x-items.ensures.second.0) c.requires.few);
      below = search rules;
      so_far = zero-add _ ∙ search rules;
    }

pub returns-in-Greater-clause-axes : goal.returns-in-Greater-clause-axes
returns-in-Greater-clause-axes c =
    let (e, f) = c.in-Some.ensures.steps in
    let l = greater_is c.in-Some.x.now c.in-Some.y.now c.in-Greater.ensures in
    ap (λ b. if b then Some (level_axes 1 c.args.row.now c.args.point.now) else None) (below_no _ _ _ _ _ _ _ e f l c.loop-x.invariant.below)

pub returns-clause-axes : goal.returns-clause-axes
returns-clause-axes c =
    let inv = c.loop-x.invariant in
    let e = inv.as_long in
    let none : length c.loop-x.x-iterator.a.rest.now ≡ 0 = ⊎_elim (λ h. h.1.0) (λ h. e ∙ h.1.0) c.in-None.ensures.steps in
    let left = none_left c.loop-x.x-iterator.a.rest.now none in
    ap Some (level_end _ _ c.loop-x.axes c.loop-x.bit _ left inv.so_far)
    ∙ ap (λ b. if b then Some (level_axes 1 c.args.row.now c.args.point.now) else None) (below_end _ _ _ left (none_left c.loop-x.x-iterator.b.rest.now (sym e ∙ none)) inv.below)
