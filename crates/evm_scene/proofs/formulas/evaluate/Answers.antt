use Rattle.std.proofs.Common.{◌≡◌, true, rules}
use Rattle.evm_model.specs.Scene.{formula_in_range}
use Rattle.evm_formulas.specs.declared.operations.Operation.TheVariants as does
use Rattle.evm_scene.specs.Tables.{scene_of}
use Rattle.evm_scene.proofs.FormulaLaws.{operation_at}
use Rattle.evm_scene.proofs.formulas.evaluate.Goals as goal

pub one-requires-clause-fits : goal.one-requires-clause-fits
one-requires-clause-fits g c =
    let range : formula_in_range (scene_of c.args.table.now.entries) c.args.formula.now ≡ true = search rules in
    (operation_at c.args.table.now.entries c.args.formula.now c.requires.sized c.requires.present c.requires.fits range (does.Shape c.in-Shape.op c.in-Shape.a) c.in-Shape.ensures).0
