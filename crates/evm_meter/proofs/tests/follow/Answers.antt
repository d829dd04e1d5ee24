-- The change is near, since the meter has read the square.
use Rattle.std.proofs.Common.{◌∙◌}
use Rattle.evm_rows.specs.View.{vertices_of}
use Rattle.evm_meter.proofs.Beside.{beside_read, beside_gained, beside_lost, less_read}
use Rattle.evm_meter.proofs.tests.follow.Goals as goal

pub prepare-requires-clause-near : goal.prepare-requires-clause-near
prepare-requires-clause-near g c =
    beside_read _ _ _ _ _ _ _ _ (vertices_of c.rows.result) (vertices_of c.rows-before.result) (vertices_of c.rows-after.result) c.requires
    c.begin.ensures.kind c.in_ok-begin.ensures.ok.0 c.rows.ensures c.rows-before.ensures c.rows-after.ensures

pub prepare-requires-clause-gained : goal.prepare-requires-clause-gained
prepare-requires-clause-gained g c = less_read _ _ _ _ _ _ (beside_gained _ _ _ _ _ c.requires) c.rows-after.ensures c.rows-before.ensures c.rows-gained.ensures

pub prepare-requires-clause-lost : goal.prepare-requires-clause-lost
prepare-requires-clause-lost g c = less_read _ _ _ _ _ _ (beside_lost _ _ _ _ _ c.requires) c.rows-before.ensures c.rows-after.ensures c.rows-lost.ensures

pub prepare-requires-2-clause-near : goal.prepare-requires-2-clause-near
prepare-requires-2-clause-near g c =
    beside_read _ _ _ _ _ _ _ _ (vertices_of c.rows.result) (vertices_of c.rows-before.result) (vertices_of c.rows-after.result) c.requires
    (c.abandon.ensures.kind ∙ c.prepare.ensures.kind ∙ c.begin.ensures.kind)
    (c.abandon.ensures.reading ∙ c.prepare.ensures.reading ∙ c.in_ok-begin.ensures.ok.0)
    c.rows.ensures c.rows-before.ensures c.rows-after.ensures

pub prepare-requires-2-clause-gained : goal.prepare-requires-2-clause-gained
prepare-requires-2-clause-gained g c = less_read _ _ _ _ _ _ (beside_gained _ _ _ _ _ c.requires) c.rows-after.ensures c.rows-before.ensures c.rows-gained.ensures

pub prepare-requires-2-clause-lost : goal.prepare-requires-2-clause-lost
prepare-requires-2-clause-lost g c = less_read _ _ _ _ _ _ (beside_lost _ _ _ _ _ c.requires) c.rows-before.ensures c.rows-after.ensures c.rows-lost.ensures
