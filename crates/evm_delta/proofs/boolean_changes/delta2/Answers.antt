use Rattle.std.proofs.Common.{◌≡◌, true, arith, refl, sym, ◌∙◌}
use Rattle.std.proofs.lemmas.Bool.{false≢true}
use denote.Enum.Bare.{sameb}
use Rattle.evm_rows.specs.Rows.{Vertices}
use Rattle.evm_rows.specs.View.{vertices_of}
use Rattle.evm_boolean.specs.contracts.boolean.Op2.{the_type}
use Rattle.evm_boolean.specs.declared.boolean.Op2.{Op2}
use Rattle.evm_boolean.specs.declared.boolean.Op2.TheVariants.{Or, And, Sub, Xor}
use Rattle.evm_delta.specs.Changes.{after_change}
use Rattle.evm_delta.proofs.Deltas.{xor_is, change_is, change_carries, left_dim, right_dim}
use Rattle.evm_delta.proofs.Near.{near_is}
use Rattle.evm_delta.proofs.boolean_changes.delta2.Goals as goal

is_xor : (op : Op2) → sameb the_type op Xor ≡ true → op ≡ Xor
is_xor Or e = absurd (false≢true e)
is_xor And e = absurd (false≢true e)
is_xor Sub e = absurd (false≢true e)
is_xor Xor e = refl

pub returns-then-eq-clause-vertices : goal.returns-then-eq-clause-vertices
returns-then-eq-clause-vertices g c =
    xor_is c.args.op c.args.a.now (vertices_of c.args.da) c.args.b.now (vertices_of c.args.db) c.in_ok-made.made (is_xor c.args.op (sym c.eq.ensures ∙ c.if-eq.true))
    c.requires.left c.requires.other c.requires.right c.in_ok-made.ensures.dim c.in_ok-made.ensures.rows

pub returns-then-eq-clause-cells : goal.returns-then-eq-clause-cells
returns-then-eq-clause-cells g c = change_is c.args.op c.args.a.now (vertices_of c.args.da) c.args.b.now (vertices_of c.args.db) c.in_ok-made.made (returns-then-eq-clause-vertices g c)

pub returns-then-eq-clause-carries : goal.returns-then-eq-clause-carries
returns-then-eq-clause-carries g c = change_carries c.args.op c.args.a.now (vertices_of c.args.da) c.args.b.now (vertices_of c.args.db) c.in_ok-made.made (returns-then-eq-clause-vertices g c)

pub just_one-requires : goal.just_one-requires
just_one-requires g c =
    let da : Vertices = vertices_of c.args.da in
    let db : Vertices = vertices_of c.args.db in
    let l = left_dim c.args.op da (after_change c.args.b.now db) c.in_ok-left.left c.in_ok-left.ensures.part in
    let r = right_dim c.args.op c.args.a.now db c.in_ok-right.right c.in_ok-right.ensures.part in
    r ∙ c.requires.right ∙ sym (l ∙ c.requires.left)

pub returns-clause-vertices : goal.returns-clause-vertices
returns-clause-vertices g c =
    near_is c.args.op c.args.a.now (vertices_of c.args.da) c.args.b.now (vertices_of c.args.db) c.in_ok-left.left c.in_ok-right.right c.in_ok-made-2.made
    c.requires.left c.requires.other c.requires.right c.in_ok-left.ensures.part c.in_ok-right.ensures.part c.in_ok-made-2.ensures.dim c.in_ok-made-2.ensures.rows

pub returns-clause-cells : goal.returns-clause-cells
returns-clause-cells g c = change_is c.args.op c.args.a.now (vertices_of c.args.da) c.args.b.now (vertices_of c.args.db) c.in_ok-made-2.made (returns-clause-vertices g c)

pub returns-clause-carries : goal.returns-clause-carries
returns-clause-carries g c = change_carries c.args.op c.args.a.now (vertices_of c.args.da) c.args.b.now (vertices_of c.args.db) c.in_ok-made-2.made (returns-clause-vertices g c)

pub returns-in_err-right-clause-few : goal.returns-in_err-right-clause-few
returns-in_err-right-clause-few g c =
    let left = c.left_near.ensures.few c.args.a.now (sym c.requires.left) in
    let right = c.right_near.ensures.few (vertices_of c.args.da) c.args.b.now c.requires.left c.requires.other in
    omega (arith, left, right)

pub returns-in_err-made-2-clause-few : goal.returns-in_err-made-2-clause-few
returns-in_err-made-2-clause-few g c =
    let left = c.left_near.ensures.few c.args.a.now (sym c.requires.left) in
    let right = c.right_near.ensures.few (vertices_of c.args.da) c.args.b.now c.requires.left c.requires.other in
    omega (arith, left, right)

pub returns-clause-few : goal.returns-clause-few
returns-clause-few g c =
    let left = c.left_near.ensures.few c.args.a.now (sym c.requires.left) in
    let right = c.right_near.ensures.few (vertices_of c.args.da) c.args.b.now c.requires.left c.requires.other in
    omega (arith, left, right)
