use Rattle.std.proofs.Common.{◌≡◌, ℕ, Bool, true, false, cond, List, [], ◌∷◌, ◌∙◌, sym, ap}
use Rattle.evm_formats.specs.Header.{is_white}
use Rattle.evm_formats.specs.Pgm.{after_white}
use Rattle.evm_voxels.proofs.pgm.skip_white.Goals as goal

white_at : (t : Bool) (b : ℕ) (bs : List ℕ) → is_white b ≡ t → after_white (b ∷ bs) ≡ cond t (after_white bs) (b ∷ bs)
unfolding after_white
white_at t b bs e = ap (λ k. cond k (after_white bs) (b ∷ bs)) e

white_none : (bs : List ℕ) → bs ≡ [] → after_white bs ≡ bs
unfolding after_white
white_none bs e = ap after_white e ∙ sym e

pub returns-then-not-is_white : goal.returns-then-not-is_white
returns-then-not-is_white c =
    let dark : is_white c.in-Some.b ≡ false = sym c.is_white.ensures ∙ c.if-not-is_white.true in
    c.in-Some.ensures ∙ sym (ap after_white c.in-Some.ensures ∙ white_at false c.in-Some.b _ dark) ∙ c.loop-b.invariant

pub loop-b-preserved : goal.loop-b-preserved
loop-b-preserved c =
    let white : is_white c.in-Some.b ≡ true = sym c.is_white.ensures ∙ c.if-not-is_white.false in
    sym (ap after_white c.in-Some.ensures ∙ white_at true c.in-Some.b _ white) ∙ c.loop-b.invariant

pub returns : goal.returns
returns c = sym (white_none c.loop-b.rest.now c.in_default.ensures) ∙ c.loop-b.invariant
