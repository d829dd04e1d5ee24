use Rattle.std.proofs.Common.{◌<◌, length, arith}
use Rattle.std.specs.Option.{option_to_list}
use Rattle.evm_boxes.specs.Cuts.{is_on}
use Rattle.evm_boxes.proofs.Cuts.{kept_start, kept_more, kept_all}
use Rattle.evm_boxes.proofs.cut.side_of.Goals as goal

pub loop-row-init : goal.loop-row-init
loop-row-init c = kept_start c.args.dim (is_on c.args.side c.args.plane.axis c.args.plane.at) c.in_ok-kept.kept.items c.in_ok-kept.ensures.items

pub loop-row-preserved : goal.loop-row-preserved
loop-row-preserved c =
    let here : c.loop-row.row-index < length c.args.rows.now = omega arith in
    kept_more c.args.dim (is_on c.args.side c.args.plane.axis c.args.plane.at) c.args.rows.now c.loop-row.kept.items (option_to_list c.part_of.result) c.keep.new.kept.items
    c.loop-row.row-index _ here c.in_ok-keep.ensures c.loop-row.invariant c.part_of.ensures

pub returns : goal.returns
returns c =
    kept_all c.args.dim (is_on c.args.side c.args.plane.axis c.args.plane.at) c.args.rows.now c.loop-row.kept.items c.loop-row.row-index (omega arith) c.loop-row.invariant
