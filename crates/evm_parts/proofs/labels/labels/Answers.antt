use Rattle.std.proofs.Common.{◌≡◌, ◌++◌, ◌⊎◌, ⊎_elim, ℕ, length, take, drop, vec_len, min, max, inl, inr, sym, ap, ◌∙◌, subst, arith, rules}
use Rattle.std.specs.List.{range_with_len}
use Rattle.std.proofs.lemmas.Bool.{cases_lt}
use Rattle.std.proofs.lemmas.List.{get_or_default}
use Rattle.std.proofs.Math.Seq.{take-append_seam}
use Rattle.std.proofs.lemmas.List.FromFn.{length-range_with_len}
use Rattle.evm_parts.specs.Labels.{AreLabels}
use Rattle.evm_parts.proofs.Parents.{higher_parents}
use Rattle.evm_parts.proofs.Chains.{AreTied, joined_start, joined_more, labels_are}
use Rattle.evm_parts.proofs.labels.labels.Goals as goal

pub loop-link-init : goal.loop-link-init
loop-link-init c =
    let boxes = c.args.boxes.now.boxes in
    let e : c.as_mut_slice-tops.result.now ≡ range_with_len 0 (length boxes) = c.as_mut_slice-tops.ensures.value ∙ c.in_ok-parents.ensures ∙ ap (range_with_len 0) c.len.ensures in
    joined_start boxes c.args.links.now c.as_mut_slice-tops.result.now e (ap length e ∙ length-range_with_len 0 (length boxes))

pub top_of-second-requires-clause-parents : goal.top_of-second-requires-clause-parents
top_of-second-requires-clause-parents c = higher_parents c.loop-link.tops c.top_of-first.new.parents c.loop-link.invariant.low c.top_of-first.ensures.higher

-- the higher and the lower of two numbers
in_order : (a b high low : ℕ) → high ≡ max a b → low ≡ min a b → ((high ≡ a) × (low ≡ b)) ⊎ ((high ≡ b) × (low ≡ a))
in_order a b high low h l = ⊎_elim (λ u. inr (omega (arith, h, u), omega (arith, l, u))) (λ u. inl (omega (arith, h, u), omega (arith, l, u))) (cases_lt a b)

pub loop-link-preserved : goal.loop-link-preserved
loop-link-preserved c =
    let a = c.top_of-first.result in
    let b = c.top_of-second.result in
    let x = c.top_of-first.ensures in
    let y = c.top_of-second.ensures in
    let links = c.args.links.now in
    let k = c.loop-link.link-index in
    joined_more c.args.boxes.now.boxes links k c.loop-link.tops c.top_of-first.new.parents c.top_of-second.new.parents
    _ a b c.max.result c.min.result c.loop-link.invariant c.requires c.loop-link-test.true
    (λ d. get_or_default links k (record { first = 0; second = 0 }) d c.loop-link-test.true)
    (record { top_first = x.top; above_first = x.above; higher_first = x.higher; top_second = y.top; above_second = y.above; higher_second = y.higher })
    (in_order a b c.max.result c.min.result c.max.ensures c.min.ensures) (omega (arith, c.max.ensures, c.min.ensures))

pub returns : goal.returns
returns c =
    let boxes = c.args.boxes.now.boxes in
    let links = c.args.links.now in
    let h = c.flatten.ensures in
    let ls = c.flatten.new.parents in
    let v : vec_len c.in_ok-parents.parents ≡ length c.in_ok-parents.parents.items = search rules in
    let long : c.in_ok-parents.parents.len ≡ length ls =
    v ∙ sym (c.loop-link.auto.tops ∙ ap length c.as_mut_slice-tops.ensures.value) ∙ sym h.higher.many in
    let end : c.loop-link.link-index ≡ length links = omega arith in
    let joined = subst (λ (k : ℕ). AreTied boxes links k c.loop-link.tops) end c.loop-link.invariant in
    let same : take c.in_ok-parents.parents.len (ls ++ drop (length ls) c.in_ok-parents.parents.items) ≡ ls =
    ap (λ k. take k (ls ++ drop (length ls) c.in_ok-parents.parents.items)) long ∙ take-append_seam ls (drop (length ls) c.in_ok-parents.parents.items) in
    subst (AreLabels boxes) (sym same) (labels_are boxes links c.loop-link.tops ls c.requires joined h.higher h.alike)
