use Rattle.std.proofs.Common.{ap, sym, ◌∙◌}
use Rattle.evm_model.specs.Figures.{xor_of}
use Rattle.evm_formulas.specs.Stated.{figure_of}
use Rattle.evm_scene.specs.InputEdits.{figure_by}
use Rattle.evm_scene.specs.declared.edit.BoxEdit.{BoxEdit}
use Rattle.evm_formulas.proofs.Figures.{figure_set}
use Rattle.evm_scene.proofs.BoxChanges.{added_by, cut_by}
use Rattle.evm_scene.proofs.boxes.box_delta.Goals as goal

pub returns-in_ok-empty-in-Add-clause-value : goal.returns-in_ok-empty-in-Add-clause-value
returns-in_ok-empty-in-Add-clause-value c =
    let own = figure_of c.args.own.now in
    let cuboid = figure_of c.args.cuboid in
    ap (xor_of own) (c.in_ok-empty-in-Add.ensures.value ∙ ap (xor_of cuboid) c.in_ok-filled-in-Add.ensures.value)
    ∙ added_by own cuboid c.args.nums.now c.requires.both c.requires.cuboid c.requires.same (figure_set c.args.own.now) (figure_set c.args.cuboid)
    ∙ ap (λ (e : BoxEdit). figure_by e own cuboid) (sym c.in-Add.is)

pub returns-in_ok-filled-in-Cut-clause-value : goal.returns-in_ok-filled-in-Cut-clause-value
returns-in_ok-filled-in-Cut-clause-value c =
    let own = figure_of c.args.own.now in
    let cuboid = figure_of c.args.cuboid in
    ap (xor_of own) c.in_ok-filled-in-Cut.ensures.value
    ∙ cut_by own cuboid c.args.nums.now c.requires.both c.requires.cuboid c.requires.same (figure_set c.args.own.now) (figure_set c.args.cuboid)
    ∙ ap (λ (e : BoxEdit). figure_by e own cuboid) (sym c.in-Cut.is)
