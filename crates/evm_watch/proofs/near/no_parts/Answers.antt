use Rattle.evm_watch.proofs.Moved.{no_parts}
use Rattle.evm_watch.proofs.near.no_parts.Goals as goal

pub returns : goal.returns
returns c = λ whole delta d r.
    no_parts c.args.dim c.empty.result c.empty-2.result c.empty-3.result c.empty-4.result whole delta c.requires.low
    c.empty.ensures.dim c.empty-2.ensures.dim c.empty-3.ensures.dim c.empty-4.ensures.dim
    c.empty.ensures.cells c.empty-2.ensures.cells c.empty-3.ensures.cells c.empty-4.ensures.cells d r
