use Rattle.std.proofs.Common.{◌≡◌, ◌∷◌, [], ℕ, ℤ, ap, sym, ◌∙◌, arith}
use Rattle.evm_cells.specs.Places.{with_at}
use Rattle.evm_rows.proofs.BoxTests.{same32}
use Rattle.evm_mesh.proofs.vertices.corner_at.Goals as goal

same_three : (x y z a b c : ℤ) → x ≡ a → y ≡ b → z ≡ c → x ∷ y ∷ z ∷ [] ≡ a ∷ b ∷ c ∷ []
same_three x y z a b c e f g = cc

at_axis : (i j : ℕ) (h x y : ℤ) → i ≡ j → with_at j h (x ∷ y ∷ []) ≡ with_at i h (x ∷ y ∷ [])
at_axis i j h x y e = ap (λ (k : ℕ). with_at k h (x ∷ y ∷ [])) (sym e)

pub returns-in-0 : goal.returns-in-0
unfolding with_at
returns-in-0 c =
    same_three _ _ _ _ _ _ (same32 c.args.at c.ranges.at) (same32 c.args.first c.ranges.first) (same32 c.args.second c.ranges.second) ∙ at_axis c.args.axis 0 c.args.at c.args.first c.args.second c.in-0.is

pub returns-in-1 : goal.returns-in-1
unfolding with_at
returns-in-1 c =
    same_three _ _ _ _ _ _ (same32 c.args.first c.ranges.first) (same32 c.args.at c.ranges.at) (same32 c.args.second c.ranges.second) ∙ at_axis c.args.axis 1 c.args.at c.args.first c.args.second c.in-1.is

pub returns-in_default : goal.returns-in_default
unfolding with_at
returns-in_default c =
    same_three _ _ _ _ _ _ (same32 c.args.first c.ranges.first) (same32 c.args.second c.ranges.second) (same32 c.args.at c.ranges.at) ∙ at_axis c.args.axis 2 c.args.at c.args.first c.args.second (omega arith)
