use Rattle.std.proofs.Common.{◌≡◌, ◌+◌, List, [], ◌∷◌, ◌++◌, sym, subst, ap, ◌∙◌, length, length-append, arith}
use Rattle.std.specs.Prelude.{bytes_eq}
use Rattle.indexmap.proofs.CallerLemmas.{insert_entry-new}
use Rattle.evm_scene.specs.Orders.{IsKept}
use Rattle.evm_scene.specs.Tables.{entries_of}
use Rattle.evm_scene.proofs.NewLast.{kept_added, others_kept}
use Rattle.evm_scene.proofs.Views.{view_push}
use Rattle.evm_scene.proofs.added.add.Goals as goal

pushed : {A : Type 0} (t u : List A) (x : A) → u ≡ t ++ x ∷ [] → length u ≡ length t + 1
pushed t u x e = omega (arith, ap length e, length-append t (x ∷ []))

pub returns-in-Ok-clause-kept : goal.returns-in-Ok-clause-kept
returns-in-Ok-clause-kept c =
    let e = c.in-Ok.ensures.entries ∙ insert_entry-new bytes_eq c.args.table.now c.args.name c.args.node c.requires.fresh in
    subst (λ l. IsKept c.insert.new.self.entries l) (sym (c.push.ensures ∙ ap (λ l. l ++ c.args.name ∷ []) c.reserve.ensures.items))
    (kept_added _ _ _ _ c.args.node c.requires.kept c.requires.fresh c.in-Ok.ensures.updates.0
    (pushed c.args.table.now.entries c.insert.new.self.entries (c.args.name, c.args.node) e) c.requires.operands c.requires.sized c.requires.value c.requires.stays)

pub returns-in-Ok-clause-ok : goal.returns-in-Ok-clause-ok
returns-in-Ok-clause-ok c =
    ap entries_of (c.in-Ok.ensures.entries ∙ insert_entry-new bytes_eq c.args.table.now c.args.name c.args.node c.requires.fresh)
    ∙ view_push c.args.table.now.entries c.args.name c.args.node

pub returns-in-Ok-clause-others : goal.returns-in-Ok-clause-others
returns-in-Ok-clause-others c =
    let e = c.in-Ok.ensures.entries ∙ insert_entry-new bytes_eq c.args.table.now c.args.name c.args.node c.requires.fresh in
    others_kept c.args.table.now.entries c.insert.new.self.entries c.args.order.now.items c.args.name c.args.node c.requires.kept c.requires.fresh c.in-Ok.ensures.updates.0
    (pushed c.args.table.now.entries c.insert.new.self.entries (c.args.name, c.args.node) e) c.requires.operands c.requires.sized c.requires.value c.requires.stays
