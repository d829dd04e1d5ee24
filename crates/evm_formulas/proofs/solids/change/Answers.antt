use Rattle.std.proofs.Common.{◌≡◌, refl, sym, ◌∙◌}
use Rattle.evm_rows.specs.Rows.{Vertices}
use Rattle.evm_rows.specs.View.{vertices_of}
use Rattle.evm_delta.specs.Steps.{near_cuts}
use Rattle.evm_model.specs.Figures.{xor_of}
use Rattle.evm_formulas.specs.Stated.{figure_of}
use Rattle.evm_formulas.specs.Steps.{pair_cuts}
use Rattle.evm_formulas.proofs.Figures.{change_made, change_made_dim}
use Rattle.evm_formulas.proofs.StepLaws.{near_pair, at_most}
use Rattle.evm_formulas.proofs.solids.change.Goals as goal

pub returns-clause-carries : goal.returns-clause-carries
returns-clause-carries g c =
    change_made c.args.op c.args.a.now c.args.da.now c.args.b.now c.args.db.now
    c.args.a.now (vertices_of c.rows.result) c.args.b.now (vertices_of c.rows-2.result) c.in_ok-made.made
    refl c.rows.ensures refl c.rows-2.ensures c.requires.left c.requires.other c.requires.right c.in_ok-made.ensures.vertices c.in_ok-made.ensures.carries

pub returns-clause-dim : goal.returns-clause-dim
returns-clause-dim g c =
    change_made_dim c.args.op c.args.a.now c.args.da.now c.args.b.now c.args.db.now
    c.args.a.now (vertices_of c.rows.result) c.args.b.now (vertices_of c.rows-2.result) c.in_ok-made.made
    refl c.rows.ensures refl c.rows-2.ensures c.requires.left c.requires.other c.requires.right c.in_ok-made.ensures.vertices

near_views : (a da b db vda vdb : Vertices) → vda ≡ da → vdb ≡ db → b.dim ≡ a.dim → da.dim ≡ a.dim → db.dim ≡ a.dim
    → near_cuts a vda b vdb ≡ pair_cuts (figure_of a) (xor_of (figure_of a) (figure_of da)) (figure_of b) (xor_of (figure_of b) (figure_of db))
near_views a da b db vda vdb eda edb other left right = (λ i. near_cuts a (eda i) b (edb i)) ∙ near_pair a da b db left (right ∙ sym other)

pub returns-in_err-made-clause-few : goal.returns-in_err-made-clause-few
returns-in_err-made-clause-few g c =
    at_most c.delta2.new.steps c.args.steps.now _ _
    (near_views c.args.a.now c.args.da.now c.args.b.now c.args.db.now (vertices_of c.rows.result) (vertices_of c.rows-2.result) c.rows.ensures c.rows-2.ensures c.requires.other c.requires.left c.requires.right)
    c.delta2.ensures.few

pub returns-clause-few : goal.returns-clause-few
returns-clause-few g c =
    at_most c.delta2.new.steps c.args.steps.now _ _
    (near_views c.args.a.now c.args.da.now c.args.b.now c.args.db.now (vertices_of c.rows.result) (vertices_of c.rows-2.result) c.rows.ensures c.rows-2.ensures c.requires.other c.requires.left c.requires.right)
    c.delta2.ensures.few
