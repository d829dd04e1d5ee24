-- The laws of the change at one place, by truth tables.
use Rattle.std.proofs.Common.{◌≡◌, Bool, true, false, not, ◌&&◌, refl, sym}
use Rattle.evm_cells.specs.Booleans.{xor}
use Rattle.evm_cells.proofs.Xor.{and_first, and_second}
use Rattle.evm_boolean.specs.declared.boolean.Op2.{Op2}
use Rattle.evm_boolean.specs.declared.boolean.Op2.TheVariants.{Or, And, Sub, Xor}
use Rattle.evm_boolean.specs.Tower.{fills}
use Rattle.evm_cutting.specs.Changes.{follows_left, follows_right}

abbrev pub always : (Bool → Bool) → Bool
always f = f true && f false

always_at : (f : Bool → Bool) → always f ≡ true → (b : Bool) → f b ≡ true
always_at f h true = and_first (f true) (f false) h
always_at f h false = and_second (f true) (f false) h

-- a test that passes in each row of its table passes
always_four : (f : Bool → Bool → Bool → Bool → Bool) → always (λ a. always (λ b. always (λ c. always (f a b c)))) ≡ true → (a b c d : Bool) → f a b c d ≡ true
always_four f h a b c d =
    always_at (f a b c) (always_at (λ z. always (f a b z)) (always_at (λ y. always (λ z. always (f a y z))) (always_at (λ x. always (λ y. always (λ z. always (f x y z)))) h a) b) c) d

abbrev pub agree : Bool → Bool → Bool
agree true y = y
agree false y = not y

agree_is : (x y : Bool) → agree x y ≡ true → x ≡ y
agree_is true y h = sym h
agree_is false true h = h
agree_is false false h = refl

-- the change of a Boolean at a place: that of the left operand, and that of the right one
change_agrees : (op : Op2) → always (λ a. always (λ da. always (λ b. always (λ db. agree (xor (fills op a b) (fills op (xor a da) (xor b db))) (xor (da && follows_left op (xor b db)) (db && follows_right op a)))))) ≡ true
unfolding xor
change_agrees Or = refl
change_agrees And = refl
change_agrees Sub = refl
change_agrees Xor = refl

pub change_at : (op : Op2) (a da b db : Bool) → xor (fills op a b) (fills op (xor a da) (xor b db)) ≡ xor (da && follows_left op (xor b db)) (db && follows_right op a)
change_at op a da b db =
    agree_is _ _ (always_four (λ a' da' b' db'. agree (xor (fills op a' b') (fills op (xor a' da') (xor b' db'))) (xor (da' && follows_left op (xor b' db')) (db' && follows_right op a'))) (change_agrees op) a da b db)

-- nothing is filled where neither operand is
pub fills-nothing : (op : Op2) → fills op false false ≡ false
unfolding xor
fills-nothing Or = refl
fills-nothing And = refl
fills-nothing Sub = refl
fills-nothing Xor = refl

-- the exclusive or with the same value twice
pub xor_twice : (x y : Bool) → xor x (xor x y) ≡ y
unfolding xor
xor_twice true true = refl
xor_twice true false = refl
xor_twice false y = refl

pub xor_none : (x : Bool) → xor x false ≡ x
unfolding xor
xor_none true = refl
xor_none false = refl
