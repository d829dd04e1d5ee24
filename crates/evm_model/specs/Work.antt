-- The work of an edit: it bounds the steps that the edit takes, each the combination of two sections.
--     Heights are those of the first axis, and a cut is a height at which a solid changes. An edit works on the names that it
--     reaches: its own, and each formula with an operand that changes.
use Rattle.std.specs.Prelude.{ℕ, ◌+◌, ◌*◌, Bool, true, false, not, ◌&&◌, ◌||◌, if◌then◌else◌, ℤ, pos, int_le, List, [], ◌∷◌, map, flat_map, filter, length, get_or, sum_by, is_some, bytes_eq}
use Rattle.std.specs.List.{list_any}
use Rattle.std.specs.Ordering.{int_eq}
use Rattle.evm_cells.specs.Places.{is_empty}
use Rattle.evm_cells.specs.Limits.{point_coords}
use Rattle.evm_cells.specs.Booleans.{xor_cells}
use Rattle.evm_cells.specs.Heights.{is_cut_of, cut_count, spanned_cut_count}
use Rattle.evm_script.specs.declared.formula.Formula.{Formula}
use Rattle.evm_script.specs.declared.formula.Formula.TheVariants as formulas
use Rattle.evm_model.specs.Figures.{Figure, low_of, high_of}
use Rattle.evm_model.specs.Scene.{Scene, Entry, What, Given, Made, operands, value}
use Rattle.evm_model.specs.Edits.{Edit, Input, Toggle, Add, Cut, Replace, Def, Drop, Code, name_of, first_cause, box_causes, figure_causes, def_causes, after}

-- the cells that change from one figure to another
abbrev pub change_between : Figure → Figure → List (List ℤ)
change_between old new = xor_cells new.dim old.cells new.cells

-- how many cuts a name has, before or after, in the range of its change
abbrev pub own_cuts : Figure → Figure → ℕ
own_cuts old new = spanned_cut_count new.dim (old.cells ∷ new.cells ∷ []) (change_between old new ∷ [])

-- the cells of names before and after, and those that change
abbrev pub sets_of : List (List ℕ) → (List ℕ → Figure) → (List ℕ → Figure) → List (List (List ℤ))
sets_of names old new = flat_map (λ o. (old o).cells ∷ (new o).cells ∷ []) names

abbrev pub changes_of : List (List ℕ) → (List ℕ → Figure) → (List ℕ → Figure) → List (List (List ℤ))
changes_of names old new = map (λ o. change_between (old o) (new o)) names

-- the dimension of the first of some names, 0 without one
abbrev pub dim_of_first : List (List ℕ) → (List ℕ → Figure) → ℕ
dim_of_first [] at = 0
dim_of_first (o ∷ os) at = (at o).dim

-- whether a formula is a projection along the first axis, which puts all sections together
abbrev pub joins_sections : Formula → Bool
joins_sections (formulas.Proj a axis) = int_eq axis (pos 1)
joins_sections _ = false

-- how many cuts the operands of a formula have, before or after, in the least range that has their changes; all of them where all
-- sections are put together
abbrev pub operand_cuts : Formula → (List ℕ → Figure) → (List ℕ → Figure) → ℕ
operand_cuts f old new =
    if joins_sections f
    then cut_count (dim_of_first (operands f) new) (sets_of (operands f) old new)
    else spanned_cut_count (dim_of_first (operands f) new) (sets_of (operands f) old new) (changes_of (operands f) old new)

-- how many heights an edit by a box from lo up to hi looks at: the two, and the cuts between them of the input before or after
abbrev pub box_cuts : ℤ → ℤ → Figure → Figure → ℕ
box_cuts lo hi old new =
    length (filter
    (λ h. int_eq h lo || int_eq h hi || (is_cut_of new.dim (old.cells ∷ new.cells ∷ []) h && int_le lo h && int_le h hi))
    (point_coords new.dim))

-- how many cuts a name has, before or after, and the operands of the formula that it gets. They may have another dimension; no
-- dimension has points further out than dimension 2
abbrev pub made_cuts : Formula → Figure → Figure → (List ℕ → Figure) → ℕ
made_cuts f old new at =
    length (filter
    (λ h. is_cut_of new.dim (old.cells ∷ new.cells ∷ []) h
    || is_cut_of (dim_of_first (operands f) at) (map (λ o. (at o).cells) (operands f)) h)
    (point_coords 2))

-- how many heights an edit looks at in its own name
abbrev pub edited_cuts : Edit → Figure → Figure → (List ℕ → Figure) → ℕ
edited_cuts (Input name dim) old new at = 0
edited_cuts (Toggle name nums) old new at =
    box_cuts (get_or (low_of new.dim nums) 0 (pos 0)) (get_or (high_of new.dim nums) 0 (pos 0)) old new
edited_cuts (Add name nums) old new at = box_cuts (get_or (low_of new.dim nums) 0 (pos 0)) (get_or (high_of new.dim nums) 0 (pos 0)) old new
edited_cuts (Cut name nums) old new at = box_cuts (get_or (low_of new.dim nums) 0 (pos 0)) (get_or (high_of new.dim nums) 0 (pos 0)) old new
edited_cuts (Replace name figure) old new at = cut_count new.dim (old.cells ∷ new.cells ∷ [])
edited_cuts (Def name f) old new at = made_cuts f old new at
edited_cuts (Drop name) old new at = 0

-- whether some operand of what a name stands for changes
abbrev pub is_moved : What → (List ℕ → Figure) → (List ℕ → Figure) → Bool
is_moved (Given cells) old new = false
is_moved (Made f) old new = list_any (λ o. not (is_empty (change_between (old o) (new o)))) (operands f)

-- how many heights are looked at for what a name stands for, where an operand changes
abbrev pub what_cuts : What → (List ℕ → Figure) → (List ℕ → Figure) → ℕ
what_cuts (Given cells) old new = 0
what_cuts (Made f) old new = operand_cuts f old new

-- the work on a name that looks at so many heights and has so many cuts in the range of its change
abbrev pub work_at : ℕ → ℕ → ℕ
work_at heights cuts = 8 * (1 + heights + cuts)

-- the work of an edit on a name, by the values of names before and after
abbrev pub entry_work : Edit → (List ℕ → Figure) → (List ℕ → Figure) → Entry → ℕ
entry_work edit old new e =
    if bytes_eq e.name (name_of edit) then work_at (edited_cuts edit (old e.name) (new e.name) new) (own_cuts (old e.name) (new e.name))
    else if is_moved e.what old new then work_at (what_cuts e.what old new) (own_cuts (old e.name) (new e.name))
    else 0

-- the work on all names, none where a cause holds
abbrev pub work_unless : List (Bool × Code) → Scene → Edit → ℕ
work_unless causes scene edit =
    if is_some (first_cause causes) then 0
    else sum_by (entry_work edit (value scene) (value (after scene edit))) (after scene edit).entries

-- the work of an edit of a scene: none where it makes or takes out a name without cells of its own, or where it is refused for another
-- cause than a cell past the limits
abbrev pub work : Scene → Edit → ℕ
work scene (Input name dim) = 0
work scene (Toggle name nums) = work_unless (box_causes scene name nums) scene (Toggle name nums)
work scene (Add name nums) = work_unless (box_causes scene name nums) scene (Add name nums)
work scene (Cut name nums) = work_unless (box_causes scene name nums) scene (Cut name nums)
work scene (Replace name figure) = work_unless (figure_causes scene name figure) scene (Replace name figure)
work scene (Def name formula) = work_unless (def_causes scene name formula) scene (Def name formula)
work scene (Drop name) = 0
