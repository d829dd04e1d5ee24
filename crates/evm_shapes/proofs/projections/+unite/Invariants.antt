use Rattle.evm_shapes.proofs.projections.+unite.Given as goal

abbrev pub decreases-unite : goal.decreases-unite
decreases-unite l = l.count
