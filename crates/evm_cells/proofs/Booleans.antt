-- The Booleans of cell sets, cell by cell.
use Rattle.std.proofs.Common.{◌≡◌, ℕ, Bool, true, false, not, ◌&&◌, ◌||◌, List, ℤ, refl, sym, ap, ◌∙◌, ◌↔◌}
use Rattle.std.proofs.lemmas.Bool.{false≢true}
use Rattle.evm_cells.specs.Places.{has}
use Rattle.evm_cells.specs.Limits.{is_cell, IsCellSet}
use Rattle.evm_cells.specs.Booleans.{xor, combine, or_cells, and_cells, sub_cells, xor_cells}
use Rattle.evm_cells.specs.Vertices.{evm, cells}
use Rattle.evm_cells.proofs.Universe.{same_sets, member_passes}
use Rattle.evm_cells.proofs.Combine.{has-combine, cell_set-combine, has-xor_cells}
use Rattle.evm_cells.proofs.Core.{cells-evm}

-- a Boolean that is false of two falses, at any place
pub has-combine_of : (op : Bool → Bool → Bool) (n : ℕ) (A B : List (List ℤ)) (c : List ℤ) → op false false ≡ false → IsCellSet n A → IsCellSet n B → has (combine op n A B) c ≡ op (has A c) (has B c)
has-combine_of op n A B c z a b =
    has-combine op n A B c ∙ step (is_cell n c) (has A c) (has B c) (member_passes (is_cell n) A c a.cells) (member_passes (is_cell n) B c b.cells)
  where
    step : (t x y : Bool) → (x ≡ true → t ≡ true) → (y ≡ true → t ≡ true) → (t && op x y) ≡ op x y
    step true x y f g = refl
    step false true y f g = absurd (false≢true (f refl))
    step false false true f g = absurd (false≢true (g refl))
    step false false false f g = sym z

pub cell_sets : (n : ℕ) (A B : List (List ℤ)) → IsCellSet n (or_cells n A B) × IsCellSet n (and_cells n A B) × IsCellSet n (sub_cells n A B) × IsCellSet n (xor_cells n A B)
unfolding or_cells and_cells sub_cells xor_cells
cell_sets n A B = (
  cell_set-combine (λ a b. a || b) n A B,
  cell_set-combine (λ a b. a && b) n A B,
  cell_set-combine (λ a b. a && not b) n A B,
  cell_set-combine xor n A B,
)

pub by_cells : (n : ℕ) (A B : List (List ℤ)) (c : List ℤ) → IsCellSet n A → IsCellSet n B
    → (has (or_cells n A B) c ≡ (has A c || has B c)) × (has (and_cells n A B) c ≡ (has A c && has B c))
    × (has (sub_cells n A B) c ≡ (has A c && not (has B c))) × (has (xor_cells n A B) c ≡ xor (has A c) (has B c))
unfolding or_cells and_cells sub_cells
by_cells n A B c a b = (
  has-combine_of (λ x y. x || y) n A B c refl a b,
  has-combine_of (λ x y. x && y) n A B c refl a b,
  has-combine_of (λ x y. x && not y) n A B c refl a b,
  has-xor_cells n A B c a b,
)

xor_step : (t x y : Bool) → (x ≡ true → t ≡ true) → (t && xor (t && xor x y) y) ≡ x
unfolding xor
xor_step true true true f = refl
xor_step true true false f = refl
xor_step true false true f = refl
xor_step true false false f = refl
xor_step false true y f = f refl
xor_step false false y f = refl

pub xor_undone : (n : ℕ) (A B : List (List ℤ)) → IsCellSet n A → xor_cells n (xor_cells n A B) B ≡ A
unfolding xor_cells
xor_undone n A B a =
    let x : IsCellSet n (combine xor n (combine xor n A B) B) = cell_set-combine xor n (combine xor n A B) B in
    same_sets (combine xor n (combine xor n A B) B) A x.ascends a.ascends
    (λ c. has-combine xor n (combine xor n A B) B c
    ∙ ap (λ t. is_cell n c && xor t (has B c)) (has-combine xor n A B c)
    ∙ xor_step (is_cell n c) (has A c) (has B c) (member_passes (is_cell n) A c a.cells))

pub equal_vertices : (n : ℕ) (S T : List (List ℤ)) → IsCellSet n S → IsCellSet n T → (evm n S ≡ evm n T) ↔ (S ≡ T)
equal_vertices n S T a b = (λ e. sym (cells-evm n S a) ∙ ap (cells n) e ∙ cells-evm n T b, ap (evm n))
