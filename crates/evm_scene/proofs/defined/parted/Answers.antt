use Rattle.std.proofs.Common.{[], ◌∷◌, sym, subst}
use Rattle.evm_model.specs.Orders.{Ordered}
use Rattle.evm_scene.specs.Tables.{reads_at}
use Rattle.evm_scene.proofs.Splits.{cut_front, cut_rest}
use Rattle.evm_scene.proofs.defined.parted.Goals as goal

pub part-requires-clause-ordered : goal.part-requires-clause-ordered
part-requires-clause-ordered c =
    subst (λ l. Ordered (reads_at c.args.table.now.entries) [] l) (sym c.in_ok-front.ensures) (cut_front _ _ _ _ _ c.requires.kept c.around.ensures)

pub part-requires-clause-own : goal.part-requires-clause-own
part-requires-clause-own c =
    subst (λ l. Ordered (reads_at c.args.table.now.entries) l (c.args.name.now ∷ c.around.result.1.now)) (sym c.in_ok-front.ensures) (cut_rest _ _ _ _ _ c.requires.kept c.around.ensures)
