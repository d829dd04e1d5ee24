use Rattle.std.proofs.Common.{sym}
use Rattle.evm_formulas.specs.declared.operations.Operation.TheVariants as does
use Rattle.evm_scene.proofs.FormulaLaws.{node_operation}
use Rattle.evm_scene.proofs.Costs.{node_few, both_few, one_few}
use Rattle.evm_scene.proofs.carry.change_of.Goals as goal

pub both_moved-requires-clause-first : goal.both_moved-requires-clause-first
both_moved-requires-clause-first g c =
    (node_operation c.args.table.now.entries c.requires.sized c.args.name.now c.in-Some.node.now c.in-Some-formula.formula (sym c.in-Some.ensures.value) c.in-Some-formula.is (does.Both c.in-Both.op c.in-Both.a c.in-Both.b) c.in-Both.ensures).0

pub both_moved-requires-clause-second : goal.both_moved-requires-clause-second
both_moved-requires-clause-second g c =
    (node_operation c.args.table.now.entries c.requires.sized c.args.name.now c.in-Some.node.now c.in-Some-formula.formula (sym c.in-Some.ensures.value) c.in-Some-formula.is (does.Both c.in-Both.op c.in-Both.a c.in-Both.b) c.in-Both.ensures).1

pub shape_moved-requires-clause-fits : goal.shape_moved-requires-clause-fits
shape_moved-requires-clause-fits g c =
    (node_operation c.args.table.now.entries c.requires.sized c.args.name.now c.in-Some.node.now c.in-Some-formula.formula (sym c.in-Some.ensures.value) c.in-Some-formula.is (does.Shape c.in-Shape.op c.in-Shape.a) c.in-Shape.ensures).0

pub shape_moved-requires-clause-dim : goal.shape_moved-requires-clause-dim
shape_moved-requires-clause-dim g c =
    (node_operation c.args.table.now.entries c.requires.sized c.args.name.now c.in-Some.node.now c.in-Some-formula.formula (sym c.in-Some.ensures.value) c.in-Some-formula.is (does.Shape c.in-Shape.op c.in-Shape.a) c.in-Shape.ensures).1

pub returns-in_err-both_moved-in-Both-clause-few : goal.returns-in_err-both_moved-in-Both-clause-few
returns-in_err-both_moved-in-Both-clause-few g c =
    node_few c.args.table.now.entries c.args.pending.now.entries c.requires.sized c.requires.changes c.args.name.now c.in-Some.node.now c.in-Some-formula.formula
    (sym c.in-Some.ensures.value) c.in-Some-formula.is (does.Both c.in-Both.op c.in-Both.a c.in-Both.b) c.in-Both.ensures _ _
    (both_few c.args.table.now.entries c.args.pending.now.entries c.requires.moving _ _ c.in-Both.op c.in-Both.a c.in-Both.b c.both_moved.ensures.few c.both_moved.ensures.still)

pub returns-in_ok-both_moved-in-Both-clause-few : goal.returns-in_ok-both_moved-in-Both-clause-few
returns-in_ok-both_moved-in-Both-clause-few g c =
    node_few c.args.table.now.entries c.args.pending.now.entries c.requires.sized c.requires.changes c.args.name.now c.in-Some.node.now c.in-Some-formula.formula
    (sym c.in-Some.ensures.value) c.in-Some-formula.is (does.Both c.in-Both.op c.in-Both.a c.in-Both.b) c.in-Both.ensures _ _
    (both_few c.args.table.now.entries c.args.pending.now.entries c.requires.moving _ _ c.in-Both.op c.in-Both.a c.in-Both.b c.both_moved.ensures.few c.both_moved.ensures.still)

pub returns-in-Shape-clause-few : goal.returns-in-Shape-clause-few
returns-in-Shape-clause-few g c =
    node_few c.args.table.now.entries c.args.pending.now.entries c.requires.sized c.requires.changes c.args.name.now c.in-Some.node.now c.in-Some-formula.formula
    (sym c.in-Some.ensures.value) c.in-Some-formula.is (does.Shape c.in-Shape.op c.in-Shape.a) c.in-Shape.ensures _ _
    (one_few c.args.table.now.entries c.args.pending.now.entries c.requires.moving _ _ c.in-Shape.op c.in-Shape.a c.shape_moved.ensures.few c.shape_moved.ensures.still)
