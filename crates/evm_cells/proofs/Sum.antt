-- Sums by exclusive or: of a list joined, mapped or filtered, of a product, and two sums in either order.
use Rattle.std.proofs.Common.{◌≡◌, Bool, true, false, cond, ◌&&◌, List, [], ◌∷◌, ◌++◌, map, flat_map, filter, refl, sym, ap, ◌∙◌}
use Rattle.evm_cells.specs.Booleans.{xor}
use Rattle.evm_cells.proofs.Xor.{xsum, false-xor, xor_assoc, xor_swap, and_comm, xsum-same}

pub xsum-append : {X : Type 0} (f : X → Bool) (xs ys : List X) → xsum f (xs ++ ys) ≡ xor (xsum f xs) (xsum f ys)
unfolding xsum
xsum-append f [] ys = sym (false-xor (xsum f ys))
xsum-append f (x ∷ xs) ys =
    ap (xor (f x)) (xsum-append f xs ys) ∙ sym (xor_assoc (f x) (xsum f xs) (xsum f ys))

pub xsum-map : {X Y : Type 0} (f : Y → Bool) (g : X → Y) (xs : List X) → xsum f (map g xs) ≡ xsum (λ x. f (g x)) xs
unfolding xsum
xsum-map f g [] = refl
xsum-map f g (x ∷ xs) = ap (xor (f (g x))) (xsum-map f g xs)

pub xsum-flat_map : {X Y : Type 0} (f : Y → Bool) (g : X → List Y) (xs : List X) → xsum f (flat_map g xs) ≡ xsum (λ x. xsum f (g x)) xs
unfolding xsum
xsum-flat_map f g [] = refl
xsum-flat_map f g (x ∷ xs) = xsum-append f (g x) (flat_map g xs) ∙ ap (xor (xsum f (g x))) (xsum-flat_map f g xs)

filter_step : {X : Type 0} (f : X → Bool) (b : Bool) (x : X) (xs : List X) → xsum f (cond b (x ∷ xs) xs) ≡ xor (b && f x) (xsum f xs)
unfolding xsum
filter_step f true x xs = refl
filter_step f false x xs = sym (false-xor (xsum f xs))

pub xsum-filter : {X : Type 0} (f t : X → Bool) (xs : List X) → xsum f (filter t xs) ≡ xsum (λ x. t x && f x) xs
unfolding xsum
xsum-filter f t [] = refl
xsum-filter f t (x ∷ xs) = filter_step f (t x) x (filter t xs) ∙ ap (xor (t x && f x)) (xsum-filter f t xs)

pub xsum-xor : {X : Type 0} (f g : X → Bool) (xs : List X) → xsum (λ x. xor (f x) (g x)) xs ≡ xor (xsum f xs) (xsum g xs)
unfolding xsum
xsum-xor f g [] = sym (false-xor false)
xsum-xor f g (x ∷ xs) =
    ap (xor (xor (f x) (g x))) (xsum-xor f g xs) ∙ xor_swap (f x) (g x) (xsum f xs) (xsum g xs)

pub xsum-none : {X : Type 0} (xs : List X) → xsum (λ x. false) xs ≡ false
unfolding xsum
xsum-none [] = refl
xsum-none (x ∷ xs) = ap (xor false) (xsum-none xs) ∙ false-xor false

pub xsum-no : {X : Type 0} (f : X → Bool) → ((x : X) → f x ≡ false) → (xs : List X) → xsum f xs ≡ false
xsum-no f e xs = xsum-same f (λ x. false) e xs ∙ xsum-none xs

pub xsum-and_left : {X : Type 0} (b : Bool) (f : X → Bool) (xs : List X) → xsum (λ x. b && f x) xs ≡ (b && xsum f xs)
xsum-and_left true f xs = refl
xsum-and_left false f xs = xsum-none xs

pub xsum-and_right : {X : Type 0} (f : X → Bool) (b : Bool) (xs : List X) → xsum (λ x. f x && b) xs ≡ (xsum f xs && b)
xsum-and_right f b xs =
    xsum-same (λ x. f x && b) (λ x. b && f x) (λ x. and_comm (f x) b) xs ∙ xsum-and_left b f xs ∙ and_comm b (xsum f xs)

pub xsum-swap : {X Y : Type 0} (f : X → Y → Bool) (xs : List X) (ys : List Y) → xsum (λ x. xsum (f x) ys) xs ≡ xsum (λ y. xsum (λ x. f x y) xs) ys
unfolding xsum
xsum-swap f [] ys = sym (xsum-none ys)
xsum-swap f (x ∷ xs) ys =
    ap (xor (xsum (f x) ys)) (xsum-swap f xs ys) ∙ sym (xsum-xor (f x) (λ y. xsum (λ x'. f x' y) xs) ys)

-- a sum of products is the product of the sums
pub xsum-product : {X Y : Type 0} (f : X → Bool) (g : Y → Bool) (xs : List X) (ys : List Y) → xsum (λ x. xsum (λ y. f x && g y) ys) xs ≡ (xsum f xs && xsum g ys)
xsum-product f g xs ys =
    xsum-same (λ x. xsum (λ y. f x && g y) ys) (λ x. f x && xsum g ys) (λ x. xsum-and_left (f x) g ys) xs
    ∙ xsum-and_right f (xsum g ys) xs

-- the points t weighed by g, each counted with the tests f of it over S, in the order of S
pub xsum-weigh : {X Y : Type 0} (f : X → Y → Bool) (g : Y → Bool) (S : List X) (T : List Y) → xsum (λ t. xsum (λ s. f s t) S && g t) T ≡ xsum (λ s. xsum (λ t. f s t && g t) T) S
xsum-weigh f g S T =
    xsum-same (λ t. xsum (λ s. f s t) S && g t) (λ t. xsum (λ s. f s t && g t) S) (λ t. sym (xsum-and_right (λ s. f s t) (g t) S)) T
    ∙ xsum-swap (λ t s. f s t && g t) T S
