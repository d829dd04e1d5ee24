-- Rows layer after layer, as they are appended.
use Rattle.std.proofs.Common.{◌≡◌, ℕ, zero, suc, ◌+◌, Bool, true, false, cond, List, [], ◌∷◌, ◌++◌, map, flat_map, ℤ, pos, refl, sym, ap, ap₂, ◌∙◌, arith, append_assoc, append-nil, add-one}
use Rattle.std.proofs.lemmas.List.{map-append}
use Rattle.std.proofs.lemmas.List.Concat.{flat_map-append}
use Rattle.std.proofs.Common.{w32, to_z, of_z}
use Rattle.std.proofs.lemmas.Int.{to_z-of_z}
use mir.Val.{SFits}
use Rattle.evm_cells.specs.Limits.{ints}
use Rattle.evm_rows.specs.Rows.{flat_of}
use Rattle.evm_rows.proofs.BoxTests.{flat_of-append}
use Rattle.evm_formats.specs.VoxelLaws.{listed}
use Rattle.evm_voxels.specs.Parity.{grid}

-- the rows of the first n layers, each with its number in front
unfoldable pub layers : List ℕ → (List ℤ → Bool) → ℕ → List (List ℤ)
layers ms f n = flat_map (λ x. map (λ t. x ∷ t) (grid ms (λ c. f (x ∷ c)))) (ints (pos 0) n)

-- ---- whole numbers in a row, one more at the end

ints_last : (a n : ℕ) → ints (pos a) (suc n) ≡ ints (pos a) n ++ pos (a + n) ∷ []
unfolding ints
ints_last a zero = ap (λ (k : ℕ). pos k ∷ []) (let e : a ≡ a + 0 = omega arith in e)
ints_last a (suc n) = ap (λ (t : List ℤ). pos a ∷ t) (ints_last (a + 1) n ∙ ap (λ (k : ℕ). ints (pos (a + 1)) n ++ pos k ∷ []) (let e : a + 1 + n ≡ a + suc n = omega arith in e))

pub ints-more : (n : ℕ) → ints (pos 0) (n + 1) ≡ ints (pos 0) n ++ pos n ∷ []
ints-more n = rw add-one (ints_last 0 n) ∙ ap (λ (k : ℕ). ints (pos 0) n ++ pos k ∷ []) (let e : 0 + n ≡ n = omega arith in e)

pub flat_map-more : {X : Type 0} (f : ℤ → List X) (n : ℕ) → flat_map f (ints (pos 0) (n + 1)) ≡ flat_map f (ints (pos 0) n) ++ f (pos n)
flat_map-more f n =
    ap (flat_map f) (ints-more n)
    ∙ flat_map-append f (ints (pos 0) n) (pos n ∷ [])
    ∙ ap (λ t. flat_map f (ints (pos 0) n) ++ t) (append-nil (f (pos n)))

-- ---- layers

layers-more : (ms : List ℕ) (f : List ℤ → Bool) (n : ℕ) → layers ms f (n + 1) ≡ layers ms f n ++ map (λ t. pos n ∷ t) (grid ms (λ c. f (pos n ∷ c)))
unfolding layers
layers-more ms f n = flat_map-more (λ x. map (λ t. x ∷ t) (grid ms (λ c. f (x ∷ c)))) n

pub layers_whole : (m : ℕ) (ms : List ℕ) (f : List ℤ → Bool) (n : ℕ) → n ≡ m + 1 → layers ms f n ≡ grid (m ∷ ms) f
unfolding layers listed
layers_whole m ms f n e = ap (λ (k : ℕ). flat_map (λ x. map (λ t. x ∷ t) (grid ms (λ c. f (x ∷ c)))) (ints (pos 0) k)) (let q : n ≡ suc m = omega arith in q)

with_heads : (head : List ℤ) (a : ℤ) (V : List (List ℤ)) → map (λ t. head ++ t) (map (λ t. a ∷ t) V) ≡ map (λ t. (head ++ a ∷ []) ++ t) V
with_heads head a [] = refl
with_heads head a (r ∷ V) = ap₂ (λ (t : List ℤ) (rs : List (List ℤ)). t ∷ rs) (sym (append_assoc head (a ∷ []) r)) (with_heads head a V)

-- before the first layer
pub layers_none : (ms : List ℕ) (f : List ℤ → Bool) (head base : List ℤ) → base ≡ base ++ flat_of (map (λ t. head ++ t) (layers ms f 0))
unfolding layers ints
layers_none ms f head base = sym (append-nil base)

-- one layer more, whose rows all begin with the head and the layer's number
pub layers_step : (ms : List ℕ) (f : List ℤ → Bool) (n : ℕ) (head longer base out new : List ℤ) → out ≡ base ++ flat_of (map (λ t. head ++ t) (layers ms f n))
    → longer ≡ head ++ pos n ∷ [] → new ≡ out ++ flat_of (map (λ t. longer ++ t) (grid ms (λ c. f (pos n ∷ c))))
    → new ≡ base ++ flat_of (map (λ t. head ++ t) (layers ms f (n + 1)))
layers_step ms f n head longer base out new h l e =
    let more : List (List ℤ) = grid ms (λ c. f (pos n ∷ c)) in
    e
    ∙ ap₂ (λ (u v : List ℤ). u ++ flat_of (map (λ t. v ++ t) more)) h l
    ∙ append_assoc base (flat_of (map (λ t. head ++ t) (layers ms f n))) (flat_of (map (λ t. (head ++ pos n ∷ []) ++ t) more))
    ∙ ap (λ (t : List ℤ). base ++ t)
    (ap (λ (rs : List (List ℤ)). flat_of (map (λ t. head ++ t) (layers ms f n)) ++ flat_of rs) (sym (with_heads head (pos n) more))
    ∙ sym (flat_of-append (map (λ t. head ++ t) (layers ms f n)) (map (λ t. head ++ t) (map (λ t. pos n ∷ t) more)))
    ∙ ap flat_of (sym (map-append (λ t. head ++ t) (layers ms f n) (map (λ t. pos n ∷ t) more)))
    ∙ ap (λ (rs : List (List ℤ)). flat_of (map (λ t. head ++ t) rs)) (sym (layers-more ms f n)))

-- the last layer: one row, or none
last_row : (on b : Bool) (longer : List ℤ) → on ≡ b → cond on longer [] ≡ flat_of (map (λ t. longer ++ t) (cond b ([] ∷ []) []))
last_row on true longer e = ap (λ (c : Bool). cond c longer []) e ∙ sym (append-nil (longer ++ []) ∙ append-nil longer)
last_row on false longer e = ap (λ (c : Bool). cond c longer []) e

pub row_step : (f : List ℤ → Bool) (n : ℕ) (on : Bool) (head longer base out new : List ℤ) → out ≡ base ++ flat_of (map (λ t. head ++ t) (layers [] f n))
    → on ≡ f (pos n ∷ []) → longer ≡ head ++ pos n ∷ [] → new ≡ out ++ cond on longer [] → new ≡ base ++ flat_of (map (λ t. head ++ t) (layers [] f (n + 1)))
unfolding listed
row_step f n on head longer base out new h b l e =
    layers_step [] f n head longer base out new h l (e ∙ ap (λ (t : List ℤ). out ++ t) (last_row on (f (pos n ∷ [])) longer b))

pub layers_done : (m : ℕ) (ms : List ℕ) (f : List ℤ → Bool) (n : ℕ) (head base out : List ℤ) → n ≡ m + 1 → out ≡ base ++ flat_of (map (λ t. head ++ t) (layers ms f n))
    → out ≡ base ++ flat_of (map (λ t. head ++ t) (grid (m ∷ ms) f))
layers_done m ms f n head base out e h = h ∙ ap (λ (rs : List (List ℤ)). base ++ flat_of (map (λ t. head ++ t) rs)) (layers_whole m ms f n e)

-- ---- the head of a row, as the code writes it

pub head_is : (z : ℤ) → SFits w32 z → to_z w32 (of_z w32 z) ∷ [] ≡ z ∷ []
head_is z fits = ap (λ (y : ℤ). y ∷ []) (to_z-of_z w32 z fits)

pub heads_are : (y z : ℤ) → SFits w32 y → SFits w32 z → to_z w32 (of_z w32 y) ∷ to_z w32 (of_z w32 z) ∷ [] ≡ y ∷ z ∷ []
heads_are y z f g = ap₂ (λ (a b : ℤ). a ∷ b ∷ []) (to_z-of_z w32 y f) (to_z-of_z w32 z g)
