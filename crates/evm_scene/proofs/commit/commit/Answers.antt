use Rattle.std.proofs.Common.{◌∙◌, sym, ap}
use Rattle.evm_scene.specs.Changes.{put_all}
use Rattle.evm_scene.proofs.Puts.{put_all_last}
use Rattle.evm_scene.proofs.commit.commit.Goals as goal

pub loop-change-preserved : goal.loop-change-preserved
loop-change-preserved c =
    ap (λ t. put_all t c.pop.new.self.entries) c.settle.ensures
    ∙ put_all_last c.loop-change.table.entries c.pop.new.self.entries c.in-Some.change.0 c.in-Some.change.1
    ∙ ap (λ p. put_all c.loop-change.table.entries p) (sym c.in-Some.ensures.entries)
    ∙ c.loop-change.invariant
