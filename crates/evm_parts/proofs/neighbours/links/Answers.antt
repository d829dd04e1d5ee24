use Rattle.std.proofs.Common.{subst}
use Rattle.evm_parts.specs.Stretches.{IsTouch, AreAppended}
use Rattle.evm_parts.proofs.Walks.{whole, all_links}
use Rattle.evm_parts.proofs.neighbours.links.Goals as goal

pub append_touching-requires-clause-stretch : goal.append_touching-requires-clause-stretch
append_touching-requires-clause-stretch c = whole c.args.boxes.now.dim c.args.boxes.now.boxes c.requires c.len.result c.len.ensures

pub returns : goal.returns
returns c =
    let b = c.args.boxes.now in
    let m = c.len.result in
    let xs = c.append_touching.new.out.items in
    let h = subst (λ t. AreAppended (IsTouch b.boxes 0 (record { start = 0; end = m })) t xs) c.new-found.ensures.items c.in_ok-append_touching.ensures in
    all_links b.dim b.boxes c.requires m xs c.len.ensures h
