-- The work of the cut in the scene of squares: each cell set, its cuts, and what is counted by them.
use Rattle.std.proofs.Common.{◌≡◌, ◌+◌, true, false, not, ◌&&◌, ◌||◌, if◌then◌else◌, List, [], ◌∷◌, ◌++◌, codes, ℤ, pos, refl, ap, ap₂, ◌∙◌, arith}
use Rattle.std.specs.Prelude.{sum_by, is_some}
use Rattle.evm_cells.specs.Places.{ascending, before, has, same, each, is_empty, without}
use Rattle.evm_cells.specs.Limits.{limit, ints, tuples, is_cell, is_point, is_cell_coord, is_point_coord, IsCellSet}
use Rattle.evm_cells.specs.Booleans.{xor, and_cells, sub_cells, xor_cells}
use Rattle.evm_cells.specs.Vertices.{evm, around, touches, touch, odd}
use Rattle.evm_cells.specs.Boxes.{box_cells}
use Rattle.evm_cells.specs.Sections.{rows_at, cuts}
use Rattle.evm_cells.specs.Examples.{plane}
use Rattle.evm_cells.specs.Heights.{spanned_cut_count}
use Rattle.evm_cells.proofs.Order.{rising}
use Rattle.evm_cells.proofs.Window.{evm_in, combine_in, box_in, cuts_in}
use Rattle.evm_model.specs.Figures.{Figure, box_of, box_fits, and_of, sub_of}
use Rattle.evm_model.specs.Scene.{Scene, Entry, Given, value}
use Rattle.evm_model.specs.Edits.{after, first_cause, box_causes}
use Rattle.evm_model.specs.Work.{box_cuts, own_cuts, what_cuts, is_moved, work_at, entry_work}
use Rattle.evm_worked.specs.Worked.{low_square, high_square, entry_a, entry_c, squares, cut_of_b, WorkOfCut}
use Rattle.evm_worked.proofs.Heights.{all_cuts, spanned_listed, looks_listed}

-- what the cut leaves of b, and the cell that it takes
abbrev left_square : List (List ℤ)
left_square = plane 1 2 ∷ plane 2 1 ∷ plane 2 2 ∷ []

abbrev one_cell : List (List ℤ)
one_cell = plane 1 1 ∷ []

-- ---- the sets are cell sets

pub set_low : IsCellSet 2 low_square
unfolding ascending before is_cell is_cell_coord limit
set_low = record { ascends = refl; cells = refl }

pub set_high : IsCellSet 2 high_square
unfolding ascending before is_cell is_cell_coord limit
set_high = record { ascends = refl; cells = refl }

set_left : IsCellSet 2 left_square
unfolding ascending before is_cell is_cell_coord limit
set_left = record { ascends = refl; cells = refl }

set_one : IsCellSet 2 one_cell
unfolding ascending before is_cell is_cell_coord limit
set_one = record { ascends = refl; cells = refl }

pub set_none : IsCellSet 2 []
unfolding ascending
set_none = record { ascends = refl; cells = refl }

-- ---- the box, and the Booleans

cells_of_box : box_cells 2 (plane 1 1) (plane 2 2) ≡ one_cell
unfolding each tuples ints is_cell_coord is_point_coord limit
cells_of_box = box_in 2 (pos 1) 1 (plane 1 1) (plane 2 2) refl refl refl refl refl

cells_left : sub_cells 2 high_square one_cell ≡ left_square
unfolding sub_cells tuples ints has same each
cells_left = combine_in (λ a b. a && not b) 2 (pos 1) 2 high_square one_cell refl set_high set_one refl refl

shared_before : and_cells 2 low_square high_square ≡ one_cell
unfolding and_cells tuples ints has same each
shared_before = combine_in (λ a b. a && b) 2 (pos 0) 3 low_square high_square refl set_low set_high refl refl

shared_after : and_cells 2 low_square left_square ≡ []
unfolding and_cells tuples ints has same each
shared_after = combine_in (λ a b. a && b) 2 (pos 0) 3 low_square left_square refl set_low set_left refl refl

change_of_a : xor_cells 2 low_square low_square ≡ []
unfolding xor_cells xor tuples ints has same each
change_of_a = combine_in xor 2 (pos 0) 2 low_square low_square refl set_low set_low refl refl

change_of_b : xor_cells 2 high_square left_square ≡ one_cell
unfolding xor_cells xor tuples ints has same each
change_of_b = combine_in xor 2 (pos 1) 2 high_square left_square refl set_high set_left refl refl

change_of_c : xor_cells 2 one_cell [] ≡ one_cell
unfolding xor_cells xor tuples ints has same each
change_of_c = combine_in xor 2 (pos 1) 1 one_cell [] refl set_one set_none refl refl

-- ---- vertices and cuts

vertices_low : evm 2 low_square ≡ plane 0 0 ∷ plane 0 2 ∷ plane 2 0 ∷ plane 2 2 ∷ []
unfolding odd around touches touch each tuples ints
vertices_low = evm_in 2 (pos 0) 2 low_square set_low refl

vertices_high : evm 2 high_square ≡ plane 1 1 ∷ plane 1 3 ∷ plane 3 1 ∷ plane 3 3 ∷ []
unfolding odd around touches touch each tuples ints
vertices_high = evm_in 2 (pos 1) 2 high_square set_high refl

vertices_left : evm 2 left_square ≡ plane 1 2 ∷ plane 1 3 ∷ plane 2 1 ∷ plane 2 2 ∷ plane 3 1 ∷ plane 3 3 ∷ []
unfolding odd around touches touch each tuples ints
vertices_left = evm_in 2 (pos 1) 2 left_square set_left refl

vertices_one : evm 2 one_cell ≡ plane 1 1 ∷ plane 1 2 ∷ plane 2 1 ∷ plane 2 2 ∷ []
unfolding odd around touches touch each tuples ints
vertices_one = evm_in 2 (pos 1) 1 one_cell set_one refl

vertices_none : evm 2 [] ≡ []
unfolding odd around touches touch each tuples ints
vertices_none = evm_in 2 (pos 0) 0 [] set_none refl

cuts_low : cuts 1 0 low_square ≡ pos 0 ∷ pos 2 ∷ []
unfolding rows_at without is_empty ints is_point_coord limit
cuts_low = cuts_in 1 0 (pos 0) 3 low_square (plane 0 0 ∷ plane 0 2 ∷ plane 2 0 ∷ plane 2 2 ∷ []) set_low (omega arith) vertices_low refl refl

cuts_high : cuts 1 0 high_square ≡ pos 1 ∷ pos 3 ∷ []
unfolding rows_at without is_empty ints is_point_coord limit
cuts_high = cuts_in 1 0 (pos 1) 3 high_square (plane 1 1 ∷ plane 1 3 ∷ plane 3 1 ∷ plane 3 3 ∷ []) set_high (omega arith) vertices_high refl refl

cuts_left : cuts 1 0 left_square ≡ pos 1 ∷ pos 2 ∷ pos 3 ∷ []
unfolding rows_at without is_empty ints is_point_coord limit
cuts_left = cuts_in 1 0 (pos 1) 3 left_square (plane 1 2 ∷ plane 1 3 ∷ plane 2 1 ∷ plane 2 2 ∷ plane 3 1 ∷ plane 3 3 ∷ []) set_left (omega arith) vertices_left refl refl

cuts_one : cuts 1 0 one_cell ≡ pos 1 ∷ pos 2 ∷ []
unfolding rows_at without is_empty ints is_point_coord limit
cuts_one = cuts_in 1 0 (pos 1) 2 one_cell (plane 1 1 ∷ plane 1 2 ∷ plane 2 1 ∷ plane 2 2 ∷ []) set_one (omega arith) vertices_one refl refl

pub cuts_none : cuts 1 0 [] ≡ []
unfolding rows_at without is_empty ints is_point_coord limit
cuts_none = cuts_in 1 0 (pos 0) 0 [] [] set_none (omega arith) vertices_none refl refl

-- ---- cuts of several sets

cuts_of_b : all_cuts (high_square ∷ left_square ∷ []) ≡ pos 1 ∷ pos 3 ∷ pos 1 ∷ pos 2 ∷ pos 3 ∷ []
cuts_of_b = ap₂ (λ x y. x ++ (y ++ [])) cuts_high cuts_left

cuts_of_operands : all_cuts (low_square ∷ low_square ∷ high_square ∷ left_square ∷ []) ≡ pos 0 ∷ pos 2 ∷ pos 0 ∷ pos 2 ∷ pos 1 ∷ pos 3 ∷ pos 1 ∷ pos 2 ∷ pos 3 ∷ []
cuts_of_operands = ap₂ (λ x y. x ++ (x ++ y)) cuts_low cuts_of_b

cuts_of_c : all_cuts (one_cell ∷ [] ∷ []) ≡ pos 1 ∷ pos 2 ∷ []
cuts_of_c = ap₂ (λ x y. x ++ (y ++ [])) cuts_one cuts_none

cuts_of_one : all_cuts (one_cell ∷ []) ≡ pos 1 ∷ pos 2 ∷ []
cuts_of_one = ap (λ x. x ++ []) cuts_one

-- ---- what is counted

abbrev heights : List ℤ
heights = pos 0 ∷ pos 1 ∷ pos 2 ∷ pos 3 ∷ []

range_of_b : spanned_cut_count 2 (high_square ∷ left_square ∷ []) (one_cell ∷ []) ≡ 2
unfolding rising is_point_coord limit
range_of_b =
    spanned_listed (high_square ∷ left_square ∷ []) (one_cell ∷ []) (pos 1 ∷ pos 3 ∷ pos 1 ∷ pos 2 ∷ pos 3 ∷ []) (pos 1 ∷ pos 2 ∷ []) heights
    cuts_of_b cuts_of_one refl refl refl

range_of_operands : spanned_cut_count 2 (low_square ∷ low_square ∷ high_square ∷ left_square ∷ []) ([] ∷ one_cell ∷ []) ≡ 2
unfolding rising is_point_coord limit
range_of_operands =
    spanned_listed (low_square ∷ low_square ∷ high_square ∷ left_square ∷ []) ([] ∷ one_cell ∷ [])
    (pos 0 ∷ pos 2 ∷ pos 0 ∷ pos 2 ∷ pos 1 ∷ pos 3 ∷ pos 1 ∷ pos 2 ∷ pos 3 ∷ []) (pos 1 ∷ pos 2 ∷ []) heights
    cuts_of_operands (ap₂ (λ x y. x ++ y) cuts_none cuts_of_one) refl refl refl

range_of_c : spanned_cut_count 2 (one_cell ∷ [] ∷ []) (one_cell ∷ []) ≡ 2
unfolding rising is_point_coord limit
range_of_c =
    spanned_listed (one_cell ∷ [] ∷ []) (one_cell ∷ []) (pos 1 ∷ pos 2 ∷ []) (pos 1 ∷ pos 2 ∷ []) heights cuts_of_c cuts_of_one refl refl refl

abbrev flat : List (List ℤ) → Figure
flat S = record { dim = 2; cells = S }

looked_at_b : box_cuts (pos 1) (pos 2) (flat high_square) (flat left_square) ≡ 2
unfolding rising is_point_coord limit
looked_at_b =
    looks_listed (pos 1) (pos 2) (high_square ∷ left_square ∷ []) (pos 1 ∷ pos 3 ∷ pos 1 ∷ pos 2 ∷ pos 3 ∷ []) heights cuts_of_b refl refl refl

own_of_b : own_cuts (flat high_square) (flat left_square) ≡ 2
own_of_b = ap (λ D. spanned_cut_count 2 (high_square ∷ left_square ∷ []) (D ∷ [])) change_of_b ∙ range_of_b

own_of_c : own_cuts (flat one_cell) (flat []) ≡ 2
own_of_c = ap (λ D. spanned_cut_count 2 (one_cell ∷ [] ∷ []) (D ∷ [])) change_of_c ∙ range_of_c

-- ---- the scene after the cut

abbrev entry_left : Entry
entry_left = record { name = codes "b"; dim = 2; what = Given left_square }

abbrev left : Scene
left = record { entries = entry_a ∷ entry_left ∷ entry_c ∷ []; slots = [] }

scene_left : after squares cut_of_b ≡ left
unfolding sub_of box_of
scene_left =
    ap (λ S. let e : Entry = record { name = codes "b"; dim = 2; what = Given S } in let s : Scene = record { entries = entry_a ∷ e ∷ entry_c ∷ []; slots = [] } in s)
    (ap (sub_cells 2 high_square) cells_of_box ∙ cells_left)

c_before : value squares (codes "c") ≡ flat one_cell
unfolding and_of
c_before = ap flat shared_before

c_after : value left (codes "c") ≡ flat []
unfolding and_of
c_after = ap flat shared_after

-- ---- the work

work_on_b : entry_work cut_of_b (value squares) (value left) entry_left ≡ 40
work_on_b = ap₂ work_at looked_at_b own_of_b

c_moved : is_moved entry_c.what (value squares) (value left) ≡ true
unfolding is_empty
c_moved = ap₂ (λ x y. not (is_empty x) || (not (is_empty y) || false)) change_of_a change_of_b

looked_at_c : what_cuts entry_c.what (value squares) (value left) ≡ 2
looked_at_c =
    ap₂ (λ x y. spanned_cut_count 2 (low_square ∷ low_square ∷ high_square ∷ left_square ∷ []) (x ∷ y ∷ [])) change_of_a change_of_b
    ∙ range_of_operands

work_on_c : entry_work cut_of_b (value squares) (value left) entry_c ≡ 40
work_on_c =
    ap (λ t. if t then work_at (what_cuts entry_c.what (value squares) (value left)) (own_cuts (value squares (codes "c")) (value left (codes "c"))) else 0) c_moved
    ∙ ap₂ work_at looked_at_c (ap₂ own_cuts c_before c_after ∙ own_of_c)

work_left : sum_by (entry_work cut_of_b (value squares) (value left)) left.entries ≡ 80
work_left = ap₂ (λ x y. 0 + x + y) work_on_b work_on_c

not_refused : is_some (first_cause (box_causes squares (codes "b") (pos 1 ∷ pos 1 ∷ pos 2 ∷ pos 2 ∷ []))) ≡ false
unfolding box_fits is_point is_point_coord limit each
not_refused = refl

pub work_of_cut : WorkOfCut
work_of_cut =
    ap (λ t. if t then 0 else sum_by (entry_work cut_of_b (value squares) (value (after squares cut_of_b))) (after squares cut_of_b).entries) not_refused
    ∙ ap (λ s. sum_by (entry_work cut_of_b (value squares) (value s)) s.entries) scene_left
    ∙ work_left
