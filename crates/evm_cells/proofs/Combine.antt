-- Cell sets combined cell by cell, and what the exclusive or does to vertices.
use Rattle.std.proofs.Common.{◌≡◌, ℕ, Bool, true, false, ◌&&◌, List, filter, ℤ, refl, sym, ap, ap₂, ◌∙◌}
use Rattle.std.proofs.lemmas.Bool.{true≢false}
use Rattle.evm_cells.specs.Places.{same, before, ascending, has, each}
use Rattle.evm_cells.specs.Limits.{every_cell, is_cell, is_point, IsCellSet}
use Rattle.evm_cells.specs.Booleans.{xor, combine, xor_cells}
use Rattle.evm_cells.specs.Vertices.{evm, cells, touch, IsVertexList}
use Rattle.evm_cells.proofs.Xor.{xsum, xsum-same, xor-and, and-xor}
use Rattle.evm_cells.proofs.Sum.{xsum-filter, xsum-xor}
use Rattle.evm_cells.proofs.Order.{refuted}
use Rattle.evm_cells.proofs.Places.{strict_places}
use Rattle.evm_cells.proofs.Universe.{same_sets, cells_are, has-evm, ascending-evm, has-cells, ascending-filter, ascending-every_cell, all-every_cell, member_passes, cell_set-cells}
use Rattle.evm_cells.proofs.Order.{all-filter}
use Rattle.evm_cells.proofs.Core.{evm-cells}

pub has-combine : (op : Bool → Bool → Bool) (n : ℕ) (A B : List (List ℤ)) (c : List ℤ) → has (combine op n A B) c ≡ (is_cell n c && op (has A c) (has B c))
unfolding combine
has-combine op n A B c = has-cells n (λ d. op (has A d) (has B d)) c

-- any filter of all cells is a cell set
pub cell_set-filter : (n : ℕ) (t : List ℤ → Bool) → IsCellSet n (filter t (every_cell n))
cell_set-filter n t = record {
  ascends = ascending-filter t (every_cell n) (ascending-every_cell n);
  cells = all-filter same before strict_places (is_cell n) t (every_cell n) (all-every_cell n);
}

pub cell_set-combine : (op : Bool → Bool → Bool) (n : ℕ) (A B : List (List ℤ)) → IsCellSet n (combine op n A B)
unfolding combine
cell_set-combine op n A B = cell_set-filter n (λ d. op (has A d) (has B d))

pub cell_set-xor : (n : ℕ) (A B : List (List ℤ)) → IsCellSet n (xor_cells n A B)
unfolding xor_cells
cell_set-xor n A B = cell_set-combine xor n A B

pub not_member : (n : ℕ) (S : List (List ℤ)) (c : List ℤ) → IsCellSet n S → is_cell n c ≡ false → has S c ≡ false
not_member n S c h e = refuted (has S c) (λ m. true≢false (sym (member_passes (is_cell n) S c h.cells m) ∙ e))

at_cells : (b x y u v : Bool) → (b ≡ false → x ≡ false) → (b ≡ false → y ≡ false) → (b && xor x y) ≡ xor x y
unfolding xor
at_cells true x y u v f g = refl
at_cells false x y u v f g = sym (ap₂ xor (f refl) (g refl))

pub has-xor_cells : (n : ℕ) (A B : List (List ℤ)) (c : List ℤ) → IsCellSet n A → IsCellSet n B → has (xor_cells n A B) c ≡ xor (has A c) (has B c)
unfolding xor_cells
has-xor_cells n A B c a b =
    has-combine xor n A B c ∙ at_cells (is_cell n c) (has A c) (has B c) true true (not_member n A c a) (not_member n B c b)

-- a sum over a list of places that ascends, as one over all places of its kind
xsum-out : (f : List ℤ → Bool) (U V : List (List ℤ)) → filter (has V) U ≡ V → xsum f V ≡ xsum (λ p. has V p && f p) U
xsum-out f U V e = ap (xsum f) (sym e) ∙ xsum-filter f (has V) U

xsum-three : (f : List ℤ → Bool) (U X V W : List (List ℤ)) → filter (has X) U ≡ X → filter (has V) U ≡ V → filter (has W) U ≡ W → ((p : List ℤ) → has X p ≡ xor (has V p) (has W p)) → xsum f X ≡ xor (xsum f V) (xsum f W)
xsum-three f U X V W x v w e =
    xsum-out f U X x
    ∙ xsum-same (λ p. has X p && f p) (λ p. xor (has V p && f p) (has W p && f p)) (λ p. ap (λ b. b && f p) (e p) ∙ xor-and (has V p) (has W p) (f p)) U
    ∙ xsum-xor (λ p. has V p && f p) (λ p. has W p && f p) U
    ∙ ap₂ xor (sym (xsum-out f U V v)) (sym (xsum-out f U W w))

pub xsum-xor_cells : (n : ℕ) (A B : List (List ℤ)) (f : List ℤ → Bool) → IsCellSet n A → IsCellSet n B → xsum f (xor_cells n A B) ≡ xor (xsum f A) (xsum f B)
xsum-xor_cells n A B f a b =
    let x = cell_set-xor n A B in
    xsum-three f (every_cell n) (xor_cells n A B) A B (cells_are n (xor_cells n A B) x.ascends x.cells) (cells_are n A a.ascends a.cells) (cells_are n B b.ascends b.cells) (λ c. has-xor_cells n A B c a b)

-- the vertices of the exclusive or
pub has-evm-xor : (n : ℕ) (A B : List (List ℤ)) (p : List ℤ) → IsCellSet n A → IsCellSet n B → has (evm n (xor_cells n A B)) p ≡ xor (has (evm n A) p) (has (evm n B) p)
has-evm-xor n A B p a b =
    has-evm n (xor_cells n A B) p
    ∙ ap (λ t. is_point n p && t) (xsum-xor_cells n A B (λ s. each touch s p) a b)
    ∙ and-xor (is_point n p) (xsum (λ s. each touch s p) A) (xsum (λ s. each touch s p) B)
    ∙ ap₂ xor (sym (has-evm n A p)) (sym (has-evm n B p))

-- X has the points that one of V and W has
pub xor_vertices : (n : ℕ) (V W X : List (List ℤ)) → IsVertexList n V → IsVertexList n W → ascending X ≡ true → ((p : List ℤ) → has X p ≡ xor (has V p) (has W p)) → X ≡ evm n (xor_cells n (cells n V) (cells n W))
xor_vertices n V W X v w x e =
    same_sets X (evm n (xor_cells n (cells n V) (cells n W))) x (ascending-evm n (xor_cells n (cells n V) (cells n W)))
    (λ p. e p ∙ sym (has-evm-xor n (cells n V) (cells n W) p (cell_set-cells n V) (cell_set-cells n W)
    ∙ ap₂ xor (ap (λ L. has L p) (evm-cells n V v)) (ap (λ L. has L p) (evm-cells n W w))))
