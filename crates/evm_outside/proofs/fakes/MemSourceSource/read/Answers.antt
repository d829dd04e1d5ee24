use Rattle.std.proofs.Common.{◌≡◌, ℕ, ◌+◌, ◌-◌, ◌≤◌, List, ◌++◌, length, take, drop, sym, ◌∙◌, ap, arith}
use Rattle.std.proofs.lemmas.List.{take_at, drop_all, drop-drop, take-append-drop, length-take, length-append, length-drop}
use Rattle.evm_outside.specs.Fakes.{Tape}
use Rattle.evm_outside.proofs.fakes.MemSourceSource.read.Goals as goal

-- what a read put at the front, and then what is left
front : (bytes got into : List ℕ) (at n : ℕ) → got ≡ take (at + n - at) (drop at bytes) → length got ≡ n → drop at bytes ≡ take n (got ++ drop n into) ++ drop (at + n) bytes
front bytes got into at n e l =
    let plain : at + n - at ≡ n = omega arith in
    let first = sym (take-append-drop n (drop at bytes)) in
    let second = ap (λ (k : ℕ). take k (drop at bytes)) (sym plain) ∙ sym e ∙ sym (take_at got (drop n into) n l) in
    first ∙ ap (λ (xs : List ℕ). xs ++ drop n (drop at bytes)) second ∙ ap (λ (xs : List ℕ). take n (got ++ drop n into) ++ xs) (drop-drop n at bytes)

pub returns-clause-bytes : goal.returns-clause-bytes
returns-clause-bytes c =
    let after = c.copy_from_slice.ensures.after in
    let len = c.copy_from_slice.ensures.len in
    let bytes = c.self.inside.bytes.items in
    let at = c.self.inside.at in
    let n = c.min-count.result in
    let inv = c.self.invariant in
    let short : n ≤ length c.args.into.now = omega arith in
    let long : length c.copy_from_slice.new.self ≡ n = len ∙ length-take n c.args.into.now ∙ omega arith in
    let view = ap (λ (t : Tape). t.left) c.self.view_is in
    let got = after ∙ ap (λ (xs : List ℕ). take (at + n - at) (drop at xs)) c.deref-2.ensures.value in (
      sym view ∙ front bytes c.copy_from_slice.new.self c.args.into.now at n got long,
      λ zero some. drop_all (at + n) bytes (omega (arith, length-append c.copy_from_slice.new.self (drop n c.args.into.now), length-drop n c.args.into.now)),
    )
