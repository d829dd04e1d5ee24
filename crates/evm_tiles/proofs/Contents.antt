-- How many cells a tree has, by the two sides of its cuts.
use Rattle.std.proofs.Common.{◌≡◌, ℕ, ◌+◌, ◌≤◌, ◌^◌, Bool, true, false, ◌&&◌, List, filter, length, ℤ, refl, sym, ap, ap₂, ◌∙◌, Global}
use Rattle.std.specs.List.{list_all}
use Rattle.std.specs.declared.rc.Rc.{Rc}
use Rattle.std.proofs.lemmas.Bool.{true≢false}
use Rattle.evm_cells.specs.Booleans.{xor, xor_cells}
use Rattle.evm_cells.specs.Limits.{IsCellSet}
use Rattle.evm_cells.specs.Measures.{content}
use Rattle.evm_cells.specs.Places.{has}
use Rattle.evm_cells.specs.Windows.{is_under, is_over}
use Rattle.evm_cells.proofs.Bounds.{content-fits}
use Rattle.evm_cells.proofs.Coords.{le_is, lt_is, le_no, lt_no}
use Rattle.evm_cells.proofs.Combine.{cell_set-xor, has-xor_cells}
use Rattle.evm_cells.proofs.Sides.{cell_set-part}
use Rattle.evm_cells.proofs.Slices.{coord}
use Rattle.evm_cells.proofs.Universe.{same_sets, has-filter, member_passes}
use Rattle.evm_cutting.proofs.FaceCounts.{content_of_sides}
use Rattle.evm_tiles.specs.declared.node.Node.{Node}
use Rattle.evm_tiles.specs.declared.node.Node.TheVariants.{Cut}
use Rattle.evm_tiles.specs.Trees.{node_cells, is_well}
use Rattle.evm_tiles.proofs.Trees.{halves, cut_cells, cell_set-node}

-- of two cell sets on the two sides of a plane, the exclusive or has the one below the plane
first_has : (a b u : Bool) → (a ≡ true → u ≡ true) → (b ≡ true → u ≡ false) → (xor a b && u) ≡ a
unfolding xor
first_has true true u f g = absurd (true≢false (sym (f refl) ∙ g refl))
first_has true false u f g = f refl
first_has false true u f g = g refl
first_has false false u f g = refl

-- and the other above it
second_has : (a b u : Bool) → (a ≡ true → u ≡ false) → (b ≡ true → u ≡ true) → (xor a b && u) ≡ b
unfolding xor
second_has true true u f g = absurd (true≢false (sym (g refl) ∙ f refl))
second_has true false u f g = f refl
second_has false true u f g = g refl
second_has false false u f g = refl

not_over : (i : ℕ) (at : ℤ) (c : List ℤ) → is_over i at c ≡ true → is_under i at c ≡ false
not_over i at c h = lt_no (coord i c) at (le_is at (coord i c) h)

not_under : (i : ℕ) (at : ℤ) (c : List ℤ) → is_under i at c ≡ true → is_over i at c ≡ false
not_under i at c h = le_no at (coord i c) (lt_is (coord i c) at h)

below_is : (n i : ℕ) (at : ℤ) (A B : List (List ℤ)) → IsCellSet n A → IsCellSet n B → list_all (is_under i at) A ≡ true → list_all (is_over i at) B ≡ true → filter (is_under i at) (xor_cells n A B) ≡ A
below_is n i at A B a b under over =
    let x = cell_set-part n (is_under i at) (xor_cells n A B) (cell_set-xor n A B) in
    same_sets (filter (is_under i at) (xor_cells n A B)) A x.ascends a.ascends
    (λ c. has-filter (is_under i at) (xor_cells n A B) c ∙ ap (λ t. t && is_under i at c) (has-xor_cells n A B c a b)
    ∙ first_has (has A c) (has B c) (is_under i at c) (λ h. member_passes (is_under i at) A c under h) (λ h. not_over i at c (member_passes (is_over i at) B c over h)))

above_is : (n i : ℕ) (at : ℤ) (A B : List (List ℤ)) → IsCellSet n A → IsCellSet n B → list_all (is_under i at) A ≡ true → list_all (is_over i at) B ≡ true → filter (is_over i at) (xor_cells n A B) ≡ B
above_is n i at A B a b under over =
    let x = cell_set-part n (is_over i at) (xor_cells n A B) (cell_set-xor n A B) in
    same_sets (filter (is_over i at) (xor_cells n A B)) B x.ascends b.ascends
    (λ c. has-filter (is_over i at) (xor_cells n A B) c ∙ ap (λ t. t && is_over i at c) (has-xor_cells n A B c a b)
    ∙ second_has (has A c) (has B c) (is_over i at c) (λ h. not_under i at c (member_passes (is_under i at) A c under h)) (λ h. member_passes (is_over i at) B c over h))

-- the cells of a cut are those of its sides
pub content_of_cut : (n : ℕ) (x : Node) (axis : ℕ) (at : ℤ) (low high : Rc Node Global) → x ≡ Cut axis at low high → is_well n x ≡ true
    → content (node_cells n low.value) + content (node_cells n high.value) ≡ content (node_cells n x)
content_of_cut n x axis at low high e h =
    let s = halves n x axis at low high e h in
    let A = node_cells n low.value in
    let B = node_cells n high.value in
    let a = cell_set-node n low.value in
    let b = cell_set-node n high.value in
    sym (ap₂ (λ (X Y : List (List ℤ)). content X + content Y) (below_is n axis at A B a b s.under s.over) (above_is n axis at A B a b s.under s.over))
    ∙ content_of_sides axis at (xor_cells n A B)
    ∙ ap (length {A = List ℤ}) (sym (cut_cells n x axis at low high e))

-- they are few enough for a number of 128 bits
pub content_of_node : (n : ℕ) (x : Node) → n ≤ 6 → content (node_cells n x) ≤ 2 ^ 120
content_of_node n x l = content-fits n (node_cells n x) l (cell_set-node n x)
