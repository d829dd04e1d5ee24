use Rattle.std.proofs.Common.{◌∙◌, sym, ap}
use Rattle.evm_scene.specs.Tables.{with_made}
use Rattle.evm_scene.proofs.Puts.{set_is_put, put_absent}
use Rattle.evm_scene.proofs.defined.set_made.Goals as goal

pub returns-in-Some : goal.returns-in-Some
returns-in-Some c =
    (c.get_mut.follows.holds (with_made c.in-Some.node.now c.args.formula c.args.solid)).0
    ∙ set_is_put (λ n. with_made n c.args.formula c.args.solid) c.args.table.now.entries c.args.name.now c.in-Some.node.now (sym c.in-Some.ensures.value)

pub returns-in_default : goal.returns-in_default
returns-in_default c =
    ap (λ m. m.entries) c.get_mut.follows.holds-at-none
    ∙ sym (put_absent (λ n. with_made n c.args.formula c.args.solid) c.args.table.now.entries c.args.name.now (sym c.in_default.ensures.value))
