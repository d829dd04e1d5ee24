use Rattle.std.proofs.Common.{◌≡◌, ℕ, List, sym, subst, ap, ◌∙◌}
use Rattle.evm_scene.specs.Tables.{reads_at}
use Rattle.evm_scene.specs.Orders.{Parted}
use Rattle.evm_scene.proofs.Parts.{part_start, part_hit_at, part_miss_at, part_new}
use Rattle.evm_scene.proofs.reorder.part.Goals as goal
use Rattle.evm_scene.proofs.reorder.part.Goals.{then-reads_one+in_ok-join, else-reads_one+in_ok-append}

pub loop-x-init : goal.loop-x-init
loop-x-init c =
    subst (λ k. Parted (reads_at c.args.table.now.entries) c.args.order.now c.args.name.now c.args.front.now.items k c.args.later.now) (sym c.requires.reach)
    (part_start _ _ _ _ _ c.requires.cut c.requires.ordered c.requires.own)

pub join-requires : goal.join-requires
join-requires c = part_new _ _ _ _ _ _ _ _ c.loop-x-test.true c.x-item.is c.loop-x.invariant

moved : (r : List ℕ → List (List ℕ)) (order : List (List ℕ)) (name : List ℕ) (f g k l rest : List (List ℕ)) → f ≡ g → k ≡ l → Parted r order name g l rest → Parted r order name f k rest
moved r order name f g k l rest e d p = subst (λ v. Parted r order name v k rest) (sym e) (subst (λ v. Parted r order name g v rest) (sym d) p)

pub loop-x-preserved : goal.loop-x-preserved
loop-x-preserved c =
    elim c.if-reads_one.branch [
      | then-reads_one+in_ok-join w ↦
          moved _ _ _ _ _ _ _ _ (ap (λ v. v.items) w.front-is) (ap (λ s. s.keys) w.reach-is ∙ w.in_ok-join.ensures)
          (part_hit_at _ _ _ _ _ _ _ _ c.loop-x-test.true c.x-item.is c.loop-x.invariant (sym c.reads_one.ensures ∙ w.if-reads_one.true))
      | else-reads_one+in_ok-append w ↦
          moved _ _ _ _ _ _ _ _ (ap (λ v. v.items) w.front-is ∙ w.in_ok-append.ensures) (ap (λ s. s.keys) w.reach-is)
          (part_miss_at _ _ _ _ _ _ _ _ c.loop-x-test.true c.x-item.is c.loop-x.invariant (sym c.reads_one.ensures ∙ w.if-reads_one.false))
    ]
