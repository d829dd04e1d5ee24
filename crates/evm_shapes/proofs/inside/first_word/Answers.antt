use Rattle.std.proofs.Common.{◌≡◌, ◌*◌, ◌∙◌, ℕ, ap, sym, arith}
use Rattle.evm_shapes.proofs.Windowed.{room_one, room_two, room_three, room_four}
use Rattle.evm_shapes.proofs.inside.first_word.Goals as goal

pub returns-in-1 : goal.returns-in-1
returns-in-1 c = let m : c.args.word * 1 ≡ c.args.word = omega arith in sym (ap (λ (r : ℕ). c.args.word * r) (room_one c.args.width c.in-1.is) ∙ m)

pub returns-in-2 : goal.returns-in-2
returns-in-2 c = ap (λ (r : ℕ). c.args.word * r) (sym (room_two c.args.width c.in-2.is))

pub returns-in-3 : goal.returns-in-3
returns-in-3 c = ap (λ (r : ℕ). c.args.word * r) (sym (room_three c.args.width c.in-3.is))

pub returns-in_default : goal.returns-in_default
returns-in_default c =
    let four : c.args.width ≡ 4 = let s = c.requires.some in let l = c.requires.narrow in let d = c.in_default in omega arith in
    ap (λ (r : ℕ). c.args.word * r) (sym (room_four c.args.width four))
