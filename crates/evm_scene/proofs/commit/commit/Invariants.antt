use Rattle.std.specs.Prelude.{◌≡◌, length}
use Rattle.evm_scene.specs.Changes.{put_all}
use Rattle.evm_scene.proofs.commit.commit.Given as goal

abbrev pub invariant-loop-change : goal.invariant-loop-change
invariant-loop-change l = put_all l.table.entries l.pending.entries ≡ put_all l.initial.table.entries l.initial.pending.entries

abbrev pub decreases-loop-change : goal.decreases-loop-change
decreases-loop-change l = length l.pending.entries
