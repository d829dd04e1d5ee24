use Rattle.evm_formulas.specs.Stated.{figure_of}
use Rattle.evm_scene.proofs.Followed.{figure_few}
use Rattle.evm_scene.proofs.Splits.{cut_front, cut_alone, cut_later, cut_whole}
use Rattle.evm_scene.proofs.inputs.changes.Goals as goal

pub carried-requires-clause-front : goal.carried-requires-clause-front
carried-requires-clause-front g c = cut_front _ _ _ _ _ c.requires.kept c.around.ensures

pub carried-requires-clause-alone : goal.carried-requires-clause-alone
carried-requires-clause-alone g c = cut_alone _ _ _ _ _ c.requires.kept c.around.ensures

pub carried-requires-clause-later : goal.carried-requires-clause-later
carried-requires-clause-later g c = cut_later _ _ _ _ _ c.requires.kept c.around.ensures

pub carried-requires-clause-whole : goal.carried-requires-clause-whole
carried-requires-clause-whole g c = cut_whole _ _ _ _ _ c.requires.kept c.around.ensures

pub returns-in_err-pending-clause-few : goal.returns-in_err-pending-clause-few
returns-in_err-pending-clause-few g c =
    figure_few _ _ c.requires.kept _ (figure_of c.args.change.after) c.requires.stands _ _ c.around.ensures _ _ c.carried.ensures.few

pub returns-clause-few : goal.returns-clause-few
returns-clause-few g c =
    figure_few _ _ c.requires.kept _ (figure_of c.args.change.after) c.requires.stands _ _ c.around.ensures _ _ c.carried.ensures.few
