-- Images one after another: the next one, the end, and what does not depend on how many there may be.
use Rattle.std.proofs.Common.{◌≡◌, ℕ, zero, suc, ◌+◌, ◌≤◌, ◌<◌, List, [], ◌∷◌, length, Ok, Err, refl, ap, ◌∙◌, arith}
use Rattle.std.specs.Prelude.{Result}
use Rattle.evm_formats.specs.declared.voxels.VoxelError.{VoxelError}
use Rattle.evm_formats.specs.Images.{Picture, Taken, Takes, map_ok, then_ok, images_within, all_images}

-- an image takes a byte at least
abbrev pub TakesBytes : Takes → Type 0
TakesBytes take_image = (z : ℕ) (bs : List ℕ) (t : Taken) → take_image z bs ≡ Ok t → length t.rest < length bs

-- it is all one how many images there may be, from the number of bytes on
within-enough : (take_image : Takes) → TakesBytes take_image → (m k z : ℕ) (bs : List ℕ) → length bs ≤ m → length bs ≤ k
    → images_within take_image m z bs ≡ images_within take_image k z bs
unfolding images_within
within-enough take_image shorter zero zero z [] a b = refl
within-enough take_image shorter zero (suc k) z [] a b = refl
within-enough take_image shorter (suc m) zero z [] a b = refl
within-enough take_image shorter (suc m) (suc k) z [] a b = refl
within-enough take_image shorter zero k z (x ∷ bs) a b = absurd (omega arith)
within-enough take_image shorter (suc m) zero z (x ∷ bs) a b = absurd (omega arith)
within-enough take_image shorter (suc m) (suc k) z (x ∷ bs) a b =
    at (take_image z (x ∷ bs)) (λ t e. let l : length t.rest < length (x ∷ bs) = shorter z (x ∷ bs) t e in within-enough take_image shorter m k (z + 1) t.rest (omega arith) (omega arith))
  where
    at : (r : Result Taken VoxelError) → ((t : Taken) → r ≡ Ok t → images_within take_image m (z + 1) t.rest ≡ images_within take_image k (z + 1) t.rest)
        → then_ok r (λ t. map_ok (λ ps. t.picture ∷ ps) (images_within take_image m (z + 1) t.rest))
        ≡ then_ok r (λ t. map_ok (λ ps. t.picture ∷ ps) (images_within take_image k (z + 1) t.rest))
    at (Err e) h = refl
    at (Ok t) h = ap (map_ok (λ (ps : List Picture). t.picture ∷ ps)) (h t refl)

pub all-end : (take_image : Takes) (z : ℕ) (bs : List ℕ) → length bs ≤ 0 → all_images take_image z bs ≡ Ok []
unfolding images_within
all-end take_image z [] l = refl
all-end take_image z (b ∷ bs) l = absurd (omega arith)

pub all-refused : (take_image : Takes) (z : ℕ) (bs : List ℕ) (e : VoxelError) → 0 < length bs → take_image z bs ≡ Err e → all_images take_image z bs ≡ Err e
unfolding images_within
all-refused take_image z [] e l r = absurd (omega arith)
all-refused take_image z (b ∷ bs) e l r = ap (λ o. then_ok o (λ t. map_ok (λ ps. t.picture ∷ ps) (images_within take_image (length bs) (z + 1) t.rest))) r

pub all-next : (take_image : Takes) → TakesBytes take_image → (z : ℕ) (bs : List ℕ) (t : Taken) → 0 < length bs → take_image z bs ≡ Ok t
    → all_images take_image z bs ≡ map_ok (λ (ps : List Picture). t.picture ∷ ps) (all_images take_image (z + 1) t.rest)
unfolding images_within
all-next take_image shorter z [] t l r = absurd (omega arith)
all-next take_image shorter z (b ∷ bs) t l r =
    let s : length t.rest < length (b ∷ bs) = shorter z (b ∷ bs) t r in
    ap (λ o. then_ok o (λ t. map_ok (λ ps. t.picture ∷ ps) (images_within take_image (length bs) (z + 1) t.rest))) r
    ∙ ap (map_ok (λ (ps : List Picture). t.picture ∷ ps)) (within-enough take_image shorter (length bs) (length t.rest) (z + 1) t.rest (omega arith) (omega arith))
