use Rattle.std.proofs.Common.{◌∙◌, sym}
use Rattle.evm_voxels.proofs.Reading.{blank_next, blank_found, blank_over}
use Rattle.evm_voxels.proofs.header.skip_blank.Goals as goal

pub returns-then-ends_blank : goal.returns-then-ends_blank
returns-then-ends_blank c = blank_found c.loop-b.inside c.in-Some.b c.loop-b.rest.now _ _ c.in-Some.ensures c.loop-b.invariant.left (sym c.ends_blank.ensures ∙ c.if-ends_blank.true)

pub loop-b-preserved : goal.loop-b-preserved
loop-b-preserved c = record { left = blank_next c.loop-b.inside _ c.in-Some.b c.loop-b.rest.now _ _ c.in-Some.ensures c.loop-b.invariant.left (sym c.ends_blank.ensures ∙ c.if-ends_blank.false) c.in_comment-inside.ensures }

pub returns : goal.returns
returns c = blank_over c.loop-b.inside c.loop-b.rest.now _ c.in_default.ensures c.loop-b.invariant.left
