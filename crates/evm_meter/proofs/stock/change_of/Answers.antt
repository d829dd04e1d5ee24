-- The content moves by what comes and what goes.
use Rattle.std.proofs.Common.{◌≡◌, ◌+◌, ap, sym, ◌∙◌, subst}
use Rattle.evm_rows.specs.View.{vertices_of}
use Rattle.evm_meter.specs.declared.meter.Kind.{Kind}
use Rattle.evm_meter.specs.Meters.{measure_named, measured}
use Rattle.evm_meter.proofs.Readings.{content_moves}
use Rattle.evm_meter.proofs.stock.change_of.Goals as goal

pub returns-in_ok-more-in-Content-clause-change : goal.returns-in_ok-more-in-Content-clause-change
returns-in_ok-more-in-Content-clause-change c =
    let before = vertices_of c.args.before in
    let gained = vertices_of c.args.gained in
    let lost = vertices_of c.args.lost in
    let after = vertices_of c.args.after in
    let kind = measure_named c.args.kind in
    ap (λ n. n + measured kind before) c.in_ok-more-in-Content.ensures.measure
    ∙ subst (λ (k : Kind). measured (measure_named k) gained + measured (measure_named k) before ≡ measured (measure_named k) lost + measured (measure_named k) after) (sym c.in-Content.is)
    (content_moves before gained lost after c.requires.same_dim c.requires.gained c.requires.lost)
    ∙ ap (λ n. n + measured kind after) (sym c.in_ok-less-in-Content.ensures.measure)
