use Rattle.std.proofs.Common.{◌≡◌, ◌+◌, arith, rules, w32}
use mir.Val.{SFits}
use Rattle.std.proofs.lemmas.Int.{to_z-of_z}
use Rattle.evm_rows.proofs.Bridge.{merge_of_is}
use Rattle.evm_rows.proofs.merge.append_xor.Goals as goal
use Rattle.evm_rows.proofs.merge.append_xor.Goals.{in-None+in_ok-extend_by_xor-in-None, in-Some+in_ok-extend_by_xor-in-Some}

pub returns : goal.returns
returns c =
    let a_width : c.dim-dim.result + c.args.a.skip ≡ c.args.a.width = omega (arith, c.args.a.left, c.dim-dim.ensures) in
    let b_width : c.dim-dim.result + c.args.b.skip ≡ c.args.b.width = omega (arith, c.args.b.left, c.dim-dim.ensures, c.requires) in
    rw (← merge_of_is c.args.a c.args.b c.requires)
    (elim c.match-height.branch [
      | in-None+in_ok-extend_by_xor-in-None w ↦ rw (w.grown-is, w.in-None.is) (rw (a_width, b_width) at w.in_ok-extend_by_xor-in-None.ensures)
      | in-Some+in_ok-extend_by_xor-in-Some w ↦
          let fits : SFits w32 w.in-Some.h = search rules in
          rw (w.grown-is, w.in-Some.is) (rw (to_z-of_z w32 w.in-Some.h fits, a_width, b_width) at w.in_ok-extend_by_xor-in-Some.ensures)
    ])
