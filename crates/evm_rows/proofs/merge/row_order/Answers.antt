use Rattle.std.proofs.Common.{◌≡◌, ℕ, List, ℤ, [], length, drop, ap, ap₂, sym, ◌∙◌, arith}
use Rattle.std.specs.declared.cmp.Ordering.TheVariants.{Equal}
use Rattle.std.proofs.Math.Seq.{drop-length}
use Rattle.evm_rows.specs.Rows.{row_cmp}
use Rattle.evm_rows.proofs.merge.row_order.Goals as goal

-- nothing is left of two rows behind all numbers
passed-all : (x y : List ℤ) (i : ℕ) → i ≡ length x → i ≡ length y → Equal ≡ row_cmp (drop i x) (drop i y)
passed-all x y i ex ey =
    let none_x : drop i x ≡ [] = ap (λ k. drop k x) ex ∙ drop-length x in
    let none_y : drop i y ≡ [] = ap (λ k. drop k y) ey ∙ drop-length y in
    sym (ap₂ row_cmp none_x none_y)

pub returns : goal.returns
returns c =
    passed-all c.args.x.now c.args.y.now c.loop-i.i (omega arith) (omega arith) ∙ c.loop-i.invariant
