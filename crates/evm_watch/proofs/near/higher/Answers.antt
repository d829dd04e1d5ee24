use Rattle.std.proofs.Common.{◌≡◌, ℕ, ℤ, w32, to_z, of_z, arith}
use Rattle.std.proofs.lemmas.Int.{ints}
use Rattle.evm_cells.proofs.Coords.{point_is}
use Rattle.evm_rows.proofs.BoxTests.{same32}
use Rattle.evm_shapes.proofs.Shifted.{coord_32}
use Rattle.evm_cutting.proofs.Planes.{ends_of}
use Rattle.evm_watch.proofs.near.higher.Goals as goal

pub returns-then-limit-x : goal.returns-then-limit-x
returns-then-limit-x c =
    let n : ℕ = c.args.dim in
    let x : ℤ = c.args.x in
    let (most, least) = ends_of n c.limit-limit.result c.limit-limit.ensures in
    let (p, q) = point_is n x c.requires.point in
    let e : to_z w32 (of_z w32 x) ≡ x = same32 x (coord_32 n x c.requires.point) in
    let t = c.if-limit-x.true in
    record { largest = omega (arith, ints); above = omega (arith, ints); near = λ z a b. omega (arith, ints) }
