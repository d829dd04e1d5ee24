use Rattle.std.proofs.Common.{sym, arith}
use Rattle.evm_cells.proofs.Universe.{point_parts}
use Rattle.evm_member.proofs.Answer.{outside_is, inside_is, boundary_is}
use Rattle.evm_member.proofs.point.place.Goals as goal

pub odd_levels-requires : goal.odd_levels-requires
odd_levels-requires c = let (e, a) = point_parts _ _ c.requires in e

pub returns-in-0 : goal.returns-in-0
returns-in-0 c = outside_is c.odd_levels.result _ _ _ c.args.a.vertices c.requires c.odd_levels.ensures (sym c.in-0.is)

pub returns-in-1 : goal.returns-in-1
returns-in-1 c = inside_is c.odd_levels.result _ _ _ c.args.a.vertices c.requires c.odd_levels.ensures (sym c.in-1.is)

pub returns-in_default : goal.returns-in_default
returns-in_default c = boundary_is c.odd_levels.result _ _ _ c.args.a.vertices c.requires c.odd_levels.ensures (λ e. omega (arith, c.in_default)) (λ e. omega (arith, c.in_default))
