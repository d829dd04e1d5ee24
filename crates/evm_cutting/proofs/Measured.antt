-- The measures of a solid by those of its two sides.
use Rattle.std.proofs.Common.{◌≡◌, ℕ, suc, ◌+◌, ◌-◌, ◌*◌, ◌<◌, List, ℤ, refl, sym, ap, ap₂, ◌∙◌, arith, length, filter}
use Rattle.evm_cells.specs.Booleans.{and_cells, xor_cells}
use Rattle.evm_cells.specs.Measures.{content, boundary}
use Rattle.evm_cells.specs.Sections.{couplet}
use Rattle.evm_cells.specs.Vertices.{cells}
use Rattle.evm_cells.specs.Windows.{is_under, is_over}
use Rattle.evm_cells.proofs.Universe.{cell_set-cells}
use Rattle.evm_cells.proofs.Slices.{cell_set-couplet}
use Rattle.evm_rows.specs.Rows.{Vertices, cells_of}
use Rattle.evm_cutting.specs.declared.halves.Split.{Split}
use Rattle.evm_cutting.specs.Seams.{couplet_cells, shared_cells}
use Rattle.evm_cutting.specs.Splits.{IsSplit}
use Rattle.evm_cutting.proofs.FaceCounts.{content_of_sides, boundary_of_sides, content_of_xor}

pub content_split : (v : Vertices) (s : Split) → IsSplit v s → content (cells_of s.low) + content (cells_of s.high) ≡ content (cells_of v)
content_split v s i = ap₂ (λ (A B : List (List ℤ)). length A + length B) i.low_cells i.high_cells ∙ content_of_sides s.axis s.at (cells_of v)

boundary_at : (n m i : ℕ) (at : ℤ) (S : List (List ℤ)) (V : List (List ℤ)) → S ≡ cells m V → n + 1 ≡ m → i < m
    → boundary m (filter (is_under i at) S) + boundary m (filter (is_over i at) S)
    ≡ boundary m S + 2 * content (and_cells n (couplet n i at (filter (is_under i at) S)) (couplet n i at (filter (is_over i at) S)))
boundary_at n m i at S V e f l =
    let q : m ≡ suc n = omega arith in
    let g : S ≡ cells (suc n) V = e ∙ ap (λ (j : ℕ). cells j V) q in
    rw (q, g) (boundary_of_sides n i at (cells (suc n) V) (cell_set-cells (suc n) V) (omega arith))

pub boundary_split : (v : Vertices) (s : Split) → IsSplit v s → 0 < v.dim
    → boundary s.low.dim (cells_of s.low) + boundary s.high.dim (cells_of s.high) ≡ boundary v.dim (cells_of v) + 2 * content (shared_cells s.axis s.at s.low s.high)
boundary_split v s i d =
    let n : ℕ = v.dim - 1 in
    let U : List (List ℤ) = filter (is_under s.axis s.at) (cells_of v) in
    let O : List (List ℤ) = filter (is_over s.axis s.at) (cells_of v) in
    ap₂ (λ x y. x + y)
    (ap₂ (λ (m : ℕ) (A : List (List ℤ)). boundary m A) i.low_dim i.low_cells)
    (ap₂ (λ (m : ℕ) (A : List (List ℤ)). boundary m A) i.high_dim i.high_cells)
    ∙ boundary_at n v.dim s.axis s.at (cells_of v) v.rows refl (omega arith) i.between.axis
    ∙ ap (λ (C : List (List ℤ)). boundary v.dim (cells_of v) + 2 * content C)
    (sym (ap₂ (λ (m : ℕ) (A : List (List ℤ)). and_cells (m - 1) A (couplet (s.high.dim - 1) s.axis s.at (cells_of s.high))) i.low_dim (ap₂ (λ (m : ℕ) (A : List (List ℤ)). couplet (m - 1) s.axis s.at A) i.low_dim i.low_cells)
    ∙ ap (and_cells n (couplet n s.axis s.at U)) (ap₂ (λ (m : ℕ) (A : List (List ℤ)). couplet (m - 1) s.axis s.at A) i.high_dim i.high_cells)))

-- what two couplets at a height share
pub shared_content : (i : ℕ) (at : ℤ) (v w : Vertices) (A B C : List (List ℤ)) → v.dim ≡ w.dim → A ≡ couplet_cells i at v → B ≡ couplet_cells i at w → C ≡ xor_cells (v.dim - 1) A B
    → content A + content B ≡ content C + 2 * content (shared_cells i at v w)
shared_content i at v w A B C d a b c =
    let n : ℕ = v.dim - 1 in
    let P : List (List ℤ) = couplet_cells i at v in
    let Q : List (List ℤ) = couplet n i at (cells_of w) in
    let q : couplet_cells i at w ≡ Q = ap (λ (m : ℕ). couplet (m - 1) i at (cells_of w)) (sym d) in
    ap₂ (λ (X Y : List (List ℤ)). length X + length Y) a (b ∙ q)
    ∙ content_of_xor n P Q (cell_set-couplet n i at (cells_of v)) (cell_set-couplet n i at (cells_of w))
    ∙ ap₂ (λ (X Y : List (List ℤ)). length X + 2 * length Y)
    (sym (c ∙ ap₂ (λ (X Y : List (List ℤ)). xor_cells n X Y) a (b ∙ q)))
    (ap (and_cells n P) (sym q))

-- the same, of the solids at hand: p and q are the couplets, r what differs between them
pub seam_content : (i : ℕ) (at : ℤ) (v w p q r : Vertices) → w.dim ≡ v.dim → p.dim ≡ v.dim - 1 → q.dim ≡ w.dim - 1
    → cells_of p ≡ couplet_cells i at v → cells_of q ≡ couplet_cells i at w → cells_of r ≡ xor_cells p.dim (cells_of p) (cells p.dim q.rows)
    → content (cells_of p) + content (cells_of q) ≡ content (cells_of r) + 2 * content (shared_cells i at v w)
seam_content i at v w p q r d e f a b c =
    let g : p.dim ≡ q.dim = e ∙ ap (λ (m : ℕ). m - 1) (sym d) ∙ sym f in
    shared_content i at v w (cells_of p) (cells_of q) (cells_of r) (sym d) a b
    (c ∙ ap (λ (m : ℕ). xor_cells p.dim (cells_of p) (cells m q.rows)) g ∙ ap (λ (m : ℕ). xor_cells m (cells_of p) (cells_of q)) e)
