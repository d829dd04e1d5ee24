use Rattle.evm_cutting.proofs.measures.+boundary_of.Given as goal

abbrev pub decreases-boundary_of : goal.decreases-boundary_of
decreases-boundary_of l = l.fuel
