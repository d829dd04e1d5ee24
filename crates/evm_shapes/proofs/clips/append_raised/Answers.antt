use Rattle.std.proofs.Common.{arith, ◌≡◌, ◌∙◌, ◌<◌, ◌∷◌, ◌++◌, [], ℤ, List, length, drop, sym, ap, append_assoc}
use Rattle.std.proofs.lemmas.List.{take_rest}
use Rattle.evm_rows.proofs.BoxTests.{same32}
use Rattle.evm_shapes.proofs.Closing.{without_first, without_none}
use Rattle.evm_shapes.proofs.clips.append_raised.Goals as goal

pub returns-in_ok-extend_from_slice : goal.returns-in_ok-extend_from_slice
returns-in_ok-extend_from_slice c =
    let row = c.args.row.now in
    let out = c.args.out.now.items in
    let some : 0 < length row = let t = c.if-row-ne0.true in omega arith in
    let q = same32 c.args.at c.ranges.at in
    let p : c.push.new.self.items ≡ out ++ c.args.at ∷ [] = c.in_ok-push.ensures.items ∙ ap (λ (z : ℤ). out ++ z ∷ []) q in
    c.in_ok-extend_from_slice.ensures.items ∙ ap (λ (z : List ℤ). c.push.new.self.items ++ z) (take_rest row 1) ∙ ap (λ (z : List ℤ). z ++ drop 1 row) p ∙ append_assoc out (c.args.at ∷ []) (drop 1 row) ∙ ap (λ (r : List ℤ). out ++ c.args.at ∷ r) (sym (without_first row some))

pub returns-else-row-ne0 : goal.returns-else-row-ne0
returns-else-row-ne0 c =
    let row = c.args.row.now in
    let out = c.args.out.now.items in
    let none : length row ≡ 0 = let t = c.if-row-ne0.false in omega arith in
    let q = same32 c.args.at c.ranges.at in
    c.in_ok-push.ensures.items ∙ ap (λ (z : ℤ). out ++ z ∷ []) q ∙ ap (λ (r : List ℤ). out ++ c.args.at ∷ r) (sym (without_none row none))
