use Rattle.std.proofs.Common.{◌≡◌, ◌-◌, ◌≤◌, ◌+◌, suc, arith, rules, refl, w32, to_z, of_z, ◌∙◌}
use Rattle.evm_boxes.specs.Fills.{low_of, high_of}
use Rattle.evm_boxes.proofs.Meets.{base_is}
use Rattle.evm_boxes.proofs.events.base_of.Goals as goal

pub returns : goal.returns
returns c =
    let row = c.args.row.now in
    let a1 : to_z w32 (of_z w32 (low_of 1 row)) ≡ low_of 1 row = search rules in
    let a2 : to_z w32 (of_z w32 (low_of 2 row)) ≡ low_of 2 row = search rules in
    let a3 : to_z w32 (of_z w32 (low_of 3 row)) ≡ low_of 3 row = search rules in
    let a4 : to_z w32 (of_z w32 (low_of 4 row)) ≡ low_of 4 row = search rules in
    let a5 : to_z w32 (of_z w32 (low_of 5 row)) ≡ low_of 5 row = search rules in
    let b1 : to_z w32 (of_z w32 (high_of 1 row)) ≡ high_of 1 row = search rules in
    let b2 : to_z w32 (of_z w32 (high_of 2 row)) ≡ high_of 2 row = search rules in
    let b3 : to_z w32 (of_z w32 (high_of 3 row)) ≡ high_of 3 row = search rules in
    let b4 : to_z w32 (of_z w32 (high_of 4 row)) ≡ high_of 4 row = search rules in
    let b5 : to_z w32 (of_z w32 (high_of 5 row)) ≡ high_of 5 row = search rules in
    let one : c.args.dim ≡ suc (c.args.dim - 1) = omega (arith, c.requires.low) in
    let few : c.args.dim - 1 ≤ 5 = omega (arith, c.requires.high) in
    base_is c.args.dim (c.args.dim - 1) row _ one few c.requires.is_box (search rules) (search rules) refl (cc) (cc)
