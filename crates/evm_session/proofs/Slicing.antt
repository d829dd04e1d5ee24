-- Sections and projections, as the model states them.
use Rattle.std.proofs.Common.{◌≡◌, ℕ, ◌≤◌, Bool, true, ◌&&◌, ◌-◌, List, Option, Some, None, ℤ, pos, neg_ℤ, ◌-ℤ◌, ◌≤ℤ◌, int_le, nat_abs, is_some, refl, ap, ◌∙◌, sym, subst, arith}
use Rattle.std.proofs.lemmas.Bool.{false≢true}
use Rattle.std.proofs.lemmas.Int.{ints}
use Rattle.evm_cells.specs.Limits.{limit, is_cell_coord}
use Rattle.evm_cells.specs.Sections.{slice}
use Rattle.evm_cells.specs.Shapes.{proj}
use Rattle.evm_cells.specs.Vertices.{cells}
use Rattle.evm_cells.proofs.Coords.{le_is}
use Rattle.evm_cells.proofs.Xor.{and_first, and_second}
use Rattle.evm_rows.specs.Rows.{Vertices}
use Rattle.evm_model.specs.Figures.{Figure, slice_of, proj_of}
use Rattle.evm_model.specs.Scene.{Scene, Entry, entry_of, stands, value, dim_of, dim_of_entry, is_dim, IsWell}
use Rattle.evm_model.proofs.Lookups.{found_passes}
use Rattle.evm_formulas.specs.Stated.{figure_of}
use Rattle.evm_script.specs.Coordinates.{is_between}
use Rattle.evm_session.specs.Named.{IsTreeOf}
use Rattle.evm_session.proofs.Answering.{below_next}

-- a name that stands has a dimension of named solids
stood_dim : (scene : Scene) (name : List ℕ) → IsWell scene → stands scene name ≡ true → is_dim (pos (dim_of scene name)) ≡ true
stood_dim scene name well s = by_entry (entry_of scene.entries name) refl s
  where
    by_entry : (o : Option Entry) → entry_of scene.entries name ≡ o → is_some o ≡ true → is_dim (pos (dim_of_entry o)) ≡ true
    by_entry None e h = absurd (false≢true h)
    by_entry (Some x) e h = found_passes (λ (y : Entry). is_dim (pos y.dim)) scene.entries name x e well.dims

-- two at least
pub deep_enough : (scene : Scene) (name : List ℕ) → IsWell scene → stands scene name ≡ true → 2 ≤ dim_of scene name
deep_enough scene name well s =
    let n = dim_of scene name in
    let low : pos 2 ≤ℤ pos n = le_is (pos 2) (pos n) (and_first (int_le (pos 2) (pos n)) (int_le (pos n) (pos 6)) (stood_dim scene name well s)) in
    omega (arith, ints, low)

-- so have its rows
pub deep_rows : (a v : Vertices) → a ≡ v → 2 ≤ v.dim → 2 ≤ a.dim
deep_rows a v same deep = subst (λ (n : ℕ). 2 ≤ n) (sym (ap (λ (b : Vertices). b.dim) same)) deep

-- six at most
pub shallow_enough : (scene : Scene) (name : List ℕ) → IsWell scene → stands scene name ≡ true → dim_of scene name ≤ 6
shallow_enough scene name well s =
    let n = dim_of scene name in
    let high : pos n ≤ℤ pos 6 = le_is (pos n) (pos 6) (and_second (int_le (pos 2) (pos n)) (int_le (pos n) (pos 6)) (stood_dim scene name well s)) in
    omega (arith, ints, high)

-- the tree of a name
pub tree_found : (scene : Scene) (name : List ℕ) (v : Vertices) → IsWell scene → stands scene name ≡ true → figure_of v ≡ value scene name → v.dim ≡ dim_of scene name → IsTreeOf v scene name
tree_found scene name v well s figure dim = record {
  there = s;
  figure = figure;
  dim = dim;
  deep = subst (λ (n : ℕ). 2 ≤ n) (sym dim) (deep_enough scene name well s);
  shallow = subst (λ (n : ℕ). n ≤ 6) (sym dim) (shallow_enough scene name well s);
}

-- a height between the limits of cells
pub between_heights : (n : ℕ) (x low high : ℤ) → low ≡ neg_ℤ (pos (limit n)) → high ≡ pos (limit n) -ℤ pos 1 → is_between low high x ≡ is_cell_coord n x
unfolding is_cell_coord
between_heights n x low high l h =
    ap (λ (y : ℤ). is_between y high x) l
    ∙ ap (λ (y : ℤ). is_between (neg_ℤ (pos (limit n))) y x) h
    ∙ ap (λ (b : Bool). int_le (neg_ℤ (pos (limit n))) x && b) (below_next x (pos (limit n)))

figure_with : ℕ → List (List ℤ) → Figure
figure_with n S = record { dim = n; cells = S }

-- the section that was made is the model's
pub slice_found : (a v s : Vertices) (k : ℕ) (axis height at : ℤ) → a ≡ v → s.dim ≡ a.dim - 1 → cells s.dim s.rows ≡ slice (a.dim - 1) (k - 1) height (cells a.dim a.rows) → k ≡ nat_abs axis → height ≡ at
    → figure_of s ≡ slice_of (nat_abs axis) at (figure_of v)
unfolding slice_of figure_with
slice_found a v s k axis height at same dim made e h =
    ap (λ (n : ℕ). figure_with n (cells s.dim s.rows)) dim
    ∙ ap (λ (S : List (List ℤ)). figure_with (a.dim - 1) S) made
    ∙ ap (λ (i : ℕ). slice_of i height (figure_of a)) e
    ∙ ap (λ (x : ℤ). slice_of (nat_abs axis) x (figure_of a)) h
    ∙ ap (λ (b : Vertices). slice_of (nat_abs axis) at (figure_of b)) same

-- and so is the projection
pub proj_found : (a v s : Vertices) (k : ℕ) (axis : ℤ) → a ≡ v → s.dim ≡ a.dim - 1 → cells s.dim s.rows ≡ proj (a.dim - 1) (k - 1) (cells a.dim a.rows) → k ≡ nat_abs axis
    → figure_of s ≡ proj_of (nat_abs axis) (figure_of v)
unfolding proj_of figure_with
proj_found a v s k axis same dim made e =
    ap (λ (n : ℕ). figure_with n (cells s.dim s.rows)) dim
    ∙ ap (λ (S : List (List ℤ)). figure_with (a.dim - 1) S) made
    ∙ ap (λ (i : ℕ). proj_of i (figure_of a)) e
    ∙ ap (λ (b : Vertices). proj_of (nat_abs axis) (figure_of b)) same
