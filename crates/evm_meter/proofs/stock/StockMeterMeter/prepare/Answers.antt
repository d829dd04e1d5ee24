-- Where the change is near, the reading and what it grows by are no less than what it shrinks by, and their difference is small.
use Rattle.std.proofs.Common.{◌≤◌, ◌+◌, ◌-◌, ◌^◌, arith}
use Rattle.std.proofs.lemmas.Bool.{lt-ltb}
use Rattle.evm_rows.specs.View.{vertices_of}
use Rattle.evm_meter.specs.Meters.{measure_named}
use Rattle.evm_meter.proofs.Readings.{near_room, near_fits}
use Rattle.evm_meter.proofs.stock.StockMeterMeter.prepare.Goals as goal

pub overflow_sub-self : goal.overflow_sub-self
overflow_sub-self c =
    let room = near_room (measure_named c.args.self.now.kind) c.args.self.now.reading c.in-Some.reading (vertices_of c.args.before) (vertices_of c.args.after) c.requires.near c.in-Some.is in
    omega (arith, room, c.in_ok-less.ensures.change)

pub invariant_of-self-clause-few_pending : goal.invariant_of-self-clause-few_pending
invariant_of-self-clause-few_pending c =
    let narrow : (vertices_of c.args.before).dim ≤ 6 = let n = c.args.before.narrow in omega (arith, n) in
    let room = near_room (measure_named c.args.self.now.kind) c.args.self.now.reading c.in-Some.reading (vertices_of c.args.before) (vertices_of c.args.after) c.requires.near c.in-Some.is in
    let few =
    near_fits (measure_named c.args.self.now.kind) c.args.self.now.reading c.in-Some.reading (vertices_of c.args.before) (vertices_of c.args.after) c.requires.near c.in-Some.is narrow in
    lt-ltb (c.in-Some.reading + c.in_ok-less.more - c.in_ok-less.less) (2 ^ 127) (omega (arith, few, room, c.in_ok-less.ensures.change))
