use Rattle.std.proofs.Common.{◌≡◌, ◌-◌, ◌+◌, ◌<◌, ℕ, arith}
use Rattle.std.proofs.lemmas.List.Filters.{dedup_is}
use Rattle.evm_rows.specs.Rows.{rows_of}
use Rattle.evm_faces.proofs.CutLists.{cut_list}
use Rattle.evm_faces.proofs.heights.cuts.Goals as goal

pub returns : goal.returns
returns c =
    let a = c.args.a in
    let m : ℕ = a.width - a.skip in
    let one : m - 1 + 1 ≡ m = omega (arith, c.requires.deep) in
    let within : c.args.axis - 1 < m = omega (arith, c.requires.low, c.requires.high) in
    cut_list m (m - 1) (c.args.axis - 1) (rows_of a.flat.now a.width a.skip) _ _ _ one within a.vertices c.in_ok-heights.ensures c.sort_unstable.ensures.permutation c.sort_unstable.ensures.sorted (dedup_is _ _ _ c.dedup.ensures.filtered)
