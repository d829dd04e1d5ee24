use Rattle.evm_voxels.proofs.Params.{find_more, find_last, shows_same, cut-shorter}
use Rattle.evm_voxels.proofs.y4m.find.Goals as goal

pub loop-parameter-smaller : goal.loop-parameter-smaller
loop-parameter-smaller c = cut-shorter 32 c.loop-parameter.rest.now _ _ c.in-Some.ensures

pub loop-parameter-preserved : goal.loop-parameter-preserved
loop-parameter-preserved c =
    let i = c.loop-parameter.invariant in
    (_, c.with_parameter-found.ensures i.0 i.1, find_more c.args.letter c.args.line.now c.loop-parameter.rest.now _ _ i.0 c.in-Some.ensures i.2)

pub returns : goal.returns
returns c =
    let i = c.loop-parameter.invariant in
    shows_same _ _ _ (find_last c.args.letter c.args.line.now c.loop-parameter.rest.now i.0 c.in_default.ensures i.2) (c.with_parameter.ensures i.0 i.1)
