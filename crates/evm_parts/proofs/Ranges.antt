-- Numbers in a row.
use Rattle.std.proofs.Common.{◌≡◌, ℕ, ◌+◌, [], ◌∷◌, ◌++◌, sym, ap, ◌∙◌, arith}
use Rattle.std.specs.List.{range_with_len}
use Rattle.std.proofs.lemmas.List.{map-id}
use Rattle.std.proofs.lemmas.List.FromFn.{map-range_with_len_more}

pub range_more : (k : ℕ) → range_with_len 0 (k + 1) ≡ range_with_len 0 k ++ k ∷ []
range_more k =
    sym (map-id (range_with_len 0 (k + 1))) ∙ map-range_with_len_more (λ i. i) 0 k k (omega arith) ∙ ap (λ xs. xs ++ k ∷ []) (map-id (range_with_len 0 k))
