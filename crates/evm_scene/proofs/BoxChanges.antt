-- What a box changes of a figure, by what the figure has in the box.
use Rattle.std.proofs.Common.{◌≡◌, ℕ, ◌*◌, Bool, true, false, not, ◌&&◌, ◌||◌, List, ℤ, length, take, drop, refl, sym, ap, ◌∙◌, subst, arith}
use Rattle.std.proofs.lemmas.List.{length-take-le}
use Rattle.evm_cells.specs.Places.{has}
use Rattle.evm_cells.specs.Limits.{IsCellSet}
use Rattle.evm_cells.specs.Booleans.{xor, or_cells, and_cells, sub_cells, xor_cells}
use Rattle.evm_cells.specs.Boxes.{is_box, box_cells}
use Rattle.evm_cells.specs.Shapes.{clip}
use Rattle.evm_cells.proofs.Universe.{same_sets}
use Rattle.evm_cells.proofs.Combine.{cell_set-xor, has-xor_cells}
use Rattle.evm_cells.proofs.Booleans.{has-combine_of, cell_sets}
use Rattle.evm_rows.specs.Rows.{Vertices, cells_of}
use Rattle.evm_model.specs.Figures.{Figure, box_fits, box_of, box_at, or_of, and_of, sub_of, xor_of, clip_of}
use Rattle.evm_formulas.specs.Stated.{figure_of}
use Rattle.evm_formulas.proofs.Figures.{figure_with}

added_at : (a b : Bool) → xor a (xor b (a && b)) ≡ (a || b)
unfolding xor
added_at true true = refl
added_at true false = refl
added_at false true = refl
added_at false false = refl

cut_at : (a b : Bool) → xor a (a && b) ≡ (a && not b)
unfolding xor
cut_at true b = refl
cut_at false b = refl

module _ (n : ℕ) (A B : List (List ℤ)) (a : IsCellSet n A) (b : IsCellSet n B) where
  both : IsCellSet n (and_cells n A B)
  both = (cell_sets n A B).1

  has_both : (c : List ℤ) → has (and_cells n A B) c ≡ (has A c && has B c)
  unfolding and_cells
  has_both c = has-combine_of (λ p q. p && q) n A B c refl a b

  has_either : (c : List ℤ) → has (or_cells n A B) c ≡ (has A c || has B c)
  unfolding or_cells
  has_either c = has-combine_of (λ p q. p || q) n A B c refl a b

  has_first : (c : List ℤ) → has (sub_cells n A B) c ≡ (has A c && not (has B c))
  unfolding sub_cells
  has_first c = has-combine_of (λ p q. p && not q) n A B c refl a b

  added_cells : xor_cells n A (xor_cells n B (and_cells n A B)) ≡ or_cells n A B
  added_cells =
      let x : IsCellSet n (xor_cells n A (xor_cells n B (and_cells n A B))) = cell_set-xor n A (xor_cells n B (and_cells n A B)) in
      let y : IsCellSet n (or_cells n A B) = (cell_sets n A B).0 in
      same_sets (xor_cells n A (xor_cells n B (and_cells n A B))) (or_cells n A B) x.ascends y.ascends
      (λ c. has-xor_cells n A (xor_cells n B (and_cells n A B)) c a (cell_set-xor n B (and_cells n A B))
      ∙ ap (xor (has A c)) (has-xor_cells n B (and_cells n A B) c b both ∙ ap (xor (has B c)) (has_both c))
      ∙ added_at (has A c) (has B c) ∙ sym (has_either c))

  cut_cells : xor_cells n A (and_cells n A B) ≡ sub_cells n A B
  cut_cells =
      let x : IsCellSet n (xor_cells n A (and_cells n A B)) = cell_set-xor n A (and_cells n A B) in
      let y : IsCellSet n (sub_cells n A B) = (cell_sets n A B).2 in
      same_sets (xor_cells n A (and_cells n A B)) (sub_cells n A B) x.ascends y.ascends
      (λ c. has-xor_cells n A (and_cells n A B) c a both ∙ ap (xor (has A c)) (has_both c) ∙ cut_at (has A c) (has B c) ∙ sym (has_first c))

-- what a figure has in the box that numbers state is what it shares with the box
clip_shared : (a : Figure) (nums : List ℤ) → length nums ≡ 2 * a.dim → clip_of nums a ≡ and_of a (box_at a.dim nums)
unfolding clip_of and_of box_of clip
clip_shared a nums wide =
    let e : a.dim ≡ length (take a.dim nums) = sym (length-take-le a.dim nums (omega (arith, wide))) in
    let f : and_cells a.dim a.cells (box_cells a.dim (take a.dim nums) (drop a.dim nums)) ≡ and_cells a.dim a.cells (box_cells (length (take a.dim nums)) (take a.dim nums) (drop a.dim nums)) =
    ap (λ (k : ℕ). and_cells a.dim a.cells (box_cells k (take a.dim nums) (drop a.dim nums))) e in
    λ i. record { dim = a.dim; cells = f i }

module _ (a b : Figure) (nums : List ℤ) (wide : length nums ≡ 2 * a.dim) (cuboid : b ≡ box_at a.dim nums) (same : b.dim ≡ a.dim)
    (x : IsCellSet a.dim a.cells) (y : IsCellSet b.dim b.cells) where
  shared : clip_of nums a ≡ and_of a b
  shared = clip_shared a nums wide ∙ ap (and_of a) (sym cuboid)

  set : IsCellSet a.dim b.cells
  set = subst (λ (n : ℕ). IsCellSet n b.cells) same y

  added_shared : xor_of a (xor_of b (and_of a b)) ≡ or_of a b
  unfolding xor_of or_of and_of
  added_shared =
      let f : xor_cells a.dim a.cells (xor_cells b.dim b.cells (and_cells a.dim a.cells b.cells)) ≡ or_cells a.dim a.cells b.cells =
      ap (λ (n : ℕ). xor_cells a.dim a.cells (xor_cells n b.cells (and_cells a.dim a.cells b.cells))) same ∙ added_cells a.dim a.cells b.cells x set in
      λ i. record { dim = a.dim; cells = f i }

  cut_shared : xor_of a (and_of a b) ≡ sub_of a b
  unfolding xor_of sub_of and_of
  cut_shared = let f : xor_cells a.dim a.cells (and_cells a.dim a.cells b.cells) ≡ sub_cells a.dim a.cells b.cells = cut_cells a.dim a.cells b.cells x set in λ i. record { dim = a.dim; cells = f i }

  -- with a box added, the cells of the box change where they are empty
  pub added_by : xor_of a (xor_of b (clip_of nums a)) ≡ or_of a b
  added_by = ap (λ (f : Figure). xor_of a (xor_of b f)) shared ∙ added_shared

  -- with a box cut out, they change where they are filled
  pub cut_by : xor_of a (clip_of nums a) ≡ sub_of a b
  cut_by = ap (xor_of a) shared ∙ cut_shared

-- the corners of a box, as the code cuts them
pub corners_fit : (n : ℕ) (nums lo hi : List ℤ) → length nums ≡ 2 * n → lo ≡ take n nums → hi ≡ drop n nums → box_fits (take n nums) (drop n nums) ≡ true → is_box n lo hi ≡ true
unfolding box_fits
corners_fit n nums lo hi wide l h fits =
    ap (λ (x : List ℤ). is_box n x hi) l ∙ ap (is_box n (take n nums)) h ∙ ap (λ (k : ℕ). is_box k (take n nums) (drop n nums)) (sym (length-take-le n nums (omega (arith, wide)))) ∙ fits

-- what a solid has in a box, as a figure
pub part_figure : (v s : Vertices) (nums lo hi : List ℤ) → lo ≡ take v.dim nums → hi ≡ drop v.dim nums → s.dim ≡ v.dim → cells_of s ≡ clip v.dim lo hi (cells_of v) → figure_of s ≡ clip_of nums (figure_of v)
unfolding clip_of
part_figure v s nums lo hi l h d c =
    figure_with s (clip_of nums (figure_of v)) d
    (c ∙ ap (λ (x : List ℤ). clip v.dim x hi (cells_of v)) l ∙ ap (λ (y : List ℤ). clip v.dim (take v.dim nums) y (cells_of v)) h)
