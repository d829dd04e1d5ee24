-- Booleans of figures.
use Rattle.evm_boolean.specs.declared.boolean.Op2.{Op2}
use Rattle.evm_boolean.specs.declared.boolean.Op2.TheVariants as ops
use Rattle.evm_model.specs.Figures.{Figure, or_of, and_of, sub_of, xor_of}

-- a Boolean of two figures
abbrev pub combine_of : Op2 → Figure → Figure → Figure
combine_of ops.Or a b = or_of a b
combine_of ops.And a b = and_of a b
combine_of ops.Sub a b = sub_of a b
combine_of ops.Xor a b = xor_of a b
