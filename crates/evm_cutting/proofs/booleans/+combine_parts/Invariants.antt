use Rattle.evm_cutting.proofs.booleans.+combine_parts.Given as goal

abbrev pub decreases-combine_parts : goal.decreases-combine_parts
decreases-combine_parts l = l.fuel
