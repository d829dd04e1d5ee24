-- Where a Boolean changes with its operands.
use Rattle.std.specs.Prelude.{Bool, true, not}
use Rattle.evm_boolean.specs.declared.boolean.Op2.{Op2}
use Rattle.evm_boolean.specs.declared.boolean.Op2.TheVariants.{Or, And, Sub, Xor}

-- whether the value changes with the left operand, by whether the right one fills the place
abbrev pub follows_left : Op2 → Bool → Bool
follows_left Or right = not right
follows_left And right = right
follows_left Sub right = not right
follows_left Xor right = true

-- whether it changes with the right operand, by whether the left one fills the place
abbrev pub follows_right : Op2 → Bool → Bool
follows_right Or left = not left
follows_right And left = left
follows_right Sub left = left
follows_right Xor left = true

-- the Boolean of a change of the left operand and the right one that is where the value changes; of Xor it is all of the change
abbrev pub left_part : Op2 → Op2
left_part Or = Sub
left_part And = And
left_part Sub = Sub
left_part Xor = Xor

-- the same of a change of the right operand and the left one
abbrev pub right_part : Op2 → Op2
right_part Or = Sub
right_part And = And
right_part Sub = And
right_part Xor = Xor
