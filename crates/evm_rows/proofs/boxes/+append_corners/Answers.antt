use Rattle.std.proofs.Common.{◌≡◌, length, [], ◌∷◌, ◌++◌, sym, ap, ◌∙◌, arith, rules, ap₂, List, ℤ, w32}
use mir.Val.{SFits}
use Rattle.evm_rows.proofs.BoxTests.{same32, popped, corners_none, corners_more}
use Rattle.evm_rows.proofs.boxes.+append_corners.Goals as goal
use Rattle.evm_rows.proofs.boxes.+append_corners.Goals.{in_default-via-in-Some+in_default, in_default-via-in_default}

pub returns-in_default-clause-out : goal.returns-in_default-clause-out
returns-in_default-clause-out t c =
    let none : length c.args.lo.now ≡ 0 = elim c.in_default.branch [
      | in_default-via-in-Some+in_default w ↦ omega (arith, w.in_default.ensures'.cases)
      | in_default-via-in_default w ↦ w.in_default.ensures.cases
    ] in
    corners_none c.args.out.now.items c.args.front.now.items _ c.args.lo.now c.args.hi.now none
    (c.in_ok-extend_from_slice.ensures.items ∙ ap (λ zs. c.args.out.now.items ++ zs) c.as_slice.ensures.value)

pub returns-clause-out : goal.returns-clause-out
returns-clause-out t c =
    let front = c.args.front.now.items in
    let a = c.in-Some-Some.low.now in
    let b = c.in-Some-Some.high.now in
    let f : SFits w32 a = search rules in
    let g : SFits w32 b = search rules in
    let low : c.push.new.self.items ≡ front ++ a ∷ [] = c.in_ok-push.ensures.items ∙ ap (λ (x : ℤ). front ++ x ∷ []) (same32 a f) in
    let kept : c.pop.new.self.items ≡ front = popped front c.append_corners.new.front.items _ a _ (sym c.append_corners.new.front.ok.0) (c.in_ok-append_corners.ensures.front ∙ low) c.pop.ensures.rest in
    let high : c.push-2.new.self.items ≡ front ++ b ∷ [] = c.in_ok-push-2.ensures.items ∙ ap₂ (λ (zs : List ℤ) (x : ℤ). zs ++ x ∷ []) kept (same32 b g) in
    corners_more c.args.out.now.items _ _ front c.push.new.self.items c.push-2.new.self.items a b c.args.lo.now c.args.hi.now c.in-Some-Some.lows.now c.in-Some-Some.highs.now
    c.in-Some-Some.ensures.cases.0 c.in-Some-Some.ensures'.cases.0 low high c.in_ok-append_corners.ensures.out c.in_ok-append_corners-2.ensures.out
