-- The edits and the questions of a generated script are answered.
use Rattle.std.proofs.Common.{◌≡◌, ℕ, zero, suc, Bool, true, false, List, ◌∷◌, ◌++◌, None, ℤ, refl, ◌∙◌, codes, nat_eq}
use Rattle.evm_cells.specs.Booleans.{or_cells, sub_cells, xor_cells}
use Rattle.evm_cells.specs.Boxes.{box_cells}
use Rattle.evm_generator.specs.Laws.{HasRoom}
use Rattle.evm_generator.specs.Script.{corners, drawn, edit_line, edit_lines, number_behind, last_lines}
use Rattle.evm_outside.specs.Shelves.{Files}
use Rattle.evm_model.specs.Figures.{Figure, xor_of, or_of, sub_of, box_of, box_at, low_of, high_of}
use Rattle.evm_model.specs.Scene.{Scene}
use Rattle.evm_model.specs.Edits.{Edit, Toggle, Add, Cut, refusal, after, with_box, first_cause, box_causes, value_causes}
use Rattle.evm_model.specs.Replies.{is_no}
use Rattle.evm_model.specs.Steps.{Edits, way_of, edit_reply}
use Rattle.evm_model.specs.Runs.{World}
use Rattle.evm_tool.proofs.CubeCells.{all_in_cube, or_in_cube, sub_in_cube, xor_in_cube, box_in_cube}
use Rattle.evm_tool.proofs.CubeScenes.{Inputs, StayInCube, with_inputs, picked_name, picked, with_picked, solid, with_picked_stays, picked_stays, boxed, box_is_free}
use Rattle.evm_tool.proofs.CubeLines.{picked_command, edit_read, corners_fit, corners_in_cube, content_line, boundary_line}
use Rattle.evm_tool.proofs.Unrefused.{Goes, edit_goes, content_goes, boundary_goes, JustLack, no_lines, one_more}

-- the edit of a picked command, and how it puts cells together
abbrev picked_edit : Bool → Bool → List ℕ → List ℤ → Edit
picked_edit true second name nums = Toggle name nums
picked_edit false true name nums = Add name nums
picked_edit false false name nums = Cut name nums

abbrev picked_op : Bool → Bool → Figure → Figure → Figure
picked_op true second = xor_of
picked_op false true = or_of
picked_op false false = sub_of

abbrev combined : Bool → Bool → List (List ℤ) → List (List ℤ) → List (List ℤ)
combined true second A B = xor_cells 3 A B
combined false true A B = or_cells 3 A B
combined false false A B = sub_cells 3 A B

combined_in_cube : (r s : Bool) (A B : List (List ℤ)) → all_in_cube A ≡ true → all_in_cube B ≡ true → all_in_cube (combined r s A B) ≡ true
combined_in_cube true s A B a b = xor_in_cube A B a b
combined_in_cube false true A B a b = or_in_cube A B a b
combined_in_cube false false A B a b = sub_in_cube A B a b

combined_by : (r s : Bool) (A : List (List ℤ)) (x : ℕ) → picked_op r s (solid A) (box_at 3 (corners x)) ≡ solid (combined r s A (box_cells 3 (low_of 3 (corners x)) (high_of 3 (corners x))))
unfolding xor_of or_of sub_of box_of
combined_by true s A x = refl
combined_by false true A x = refl
combined_by false false A x = refl

-- the inputs after an edit
abbrev edited_inputs : ℕ → Inputs → Inputs
edited_inputs x inputs =
    with_picked (nat_eq (drawn 1 3 x) 0) (nat_eq (drawn 1 3 x) 1)
    (combined (nat_eq (drawn 2 3 x) 0) (nat_eq (drawn 2 3 x) 1) (picked (nat_eq (drawn 1 3 x) 0) (nat_eq (drawn 1 3 x) 1) inputs)
    (box_cells 3 (low_of 3 (corners x)) (high_of 3 (corners x)))) inputs

cells_stay : HasRoom → (x : ℕ) (p q : Bool) (inputs : Inputs) → StayInCube inputs
    → all_in_cube (combined (nat_eq (drawn 2 3 x) 0) (nat_eq (drawn 2 3 x) 1) (picked p q inputs) (box_cells 3 (low_of 3 (corners x)) (high_of 3 (corners x)))) ≡ true
cells_stay room x p q inputs h =
    combined_in_cube (nat_eq (drawn 2 3 x) 0) (nat_eq (drawn 2 3 x) 1) (picked p q inputs) (box_cells 3 (low_of 3 (corners x)) (high_of 3 (corners x))) (picked_stays p q inputs h)
    (box_in_cube (low_of 3 (corners x)) (high_of 3 (corners x)) (corners_in_cube room x).0 (corners_in_cube room x).1)

edited_stays : HasRoom → (x : ℕ) (inputs : Inputs) → StayInCube inputs → StayInCube (edited_inputs x inputs)
edited_stays room x inputs h =
    let p = nat_eq (drawn 1 3 x) 0 in
    let q = nat_eq (drawn 1 3 x) 1 in
    with_picked_stays p q _ inputs h (cells_stay room x p q inputs h)

-- what follows of a picked edit by its name and numbers
way_picked : (r s : Bool) (name : List ℕ) (nums : List ℤ) → way_of (picked_command r s name nums) ≡ Edits (picked_edit r s name nums)
way_picked true s name nums = refl
way_picked false true name nums = refl
way_picked false false name nums = refl

refused_picked : (r s : Bool) (scene : Scene) (name : List ℕ) (nums : List ℤ)
    → first_cause (box_causes scene name nums ++ value_causes (with_box (picked_op r s) scene name nums)) ≡ None → refusal scene (picked_edit r s name nums) ≡ None
refused_picked true s scene name nums h = h
refused_picked false true scene name nums h = h
refused_picked false false scene name nums h = h

reply_picked : (r s : Bool) (scene : Scene) (name : List ℕ) (nums : List ℤ) → is_no (edit_reply scene (picked_edit r s name nums)) ≡ false
reply_picked true s scene name nums = refl
reply_picked false true scene name nums = refl
reply_picked false false scene name nums = refl

after_picked : (r s : Bool) (scene : Scene) (name : List ℕ) (nums : List ℤ) → after scene (picked_edit r s name nums) ≡ with_box (picked_op r s) scene name nums
after_picked true s scene name nums = refl
after_picked false true scene name nums = refl
after_picked false false scene name nums = refl

-- an edit is answered
edit_line_goes : HasRoom → (x : ℕ) (scene : Scene) (files : Files) (inputs : Inputs) → StayInCube inputs
    → Goes (record { scene = with_inputs scene inputs; files = files }) (edit_line x) (with_inputs scene (edited_inputs x inputs))
edit_line_goes room x scene files inputs h =
    let p = nat_eq (drawn 1 3 x) 0 in
    let q = nat_eq (drawn 1 3 x) 1 in
    let r = nat_eq (drawn 2 3 x) 0 in
    let s = nat_eq (drawn 2 3 x) 1 in
    let nums = corners x in
    let name = picked_name p q in
    let old = with_inputs scene inputs in
    let cells = combined r s (picked p q inputs) (box_cells 3 (low_of 3 nums) (high_of 3 nums)) in
    let by = combined_by r s (picked p q inputs) x in
    edit_goes (record { scene = old; files = files }) (edit_line x) (picked_command r s name nums) (picked_edit r s name nums) (with_inputs scene (edited_inputs x inputs))
    (edit_read room x) (way_picked r s name nums)
    (refused_picked r s old name nums (box_is_free (picked_op r s) p q scene inputs nums cells by h (cells_stay room x p q inputs h) refl (corners_fit room x)))
    (reply_picked r s old name nums)
    (after_picked r s old name nums ∙ boxed (picked_op r s) p q scene inputs nums cells by)

-- the questions are answered
last_go : (scene : Scene) (files : Files) (inputs : Inputs) → JustLack 0 (record { scene = with_inputs scene inputs; files = files }) last_lines
last_go scene files inputs =
    asked (codes "content u") _ (content_goes world (codes "content u") (codes "u") (content_line (codes "u") refl) refl)
    (asked (codes "boundary u") _ (boundary_goes world (codes "boundary u") (codes "u") (boundary_line (codes "u") refl) refl)
    (asked (codes "content p") _ (content_goes world (codes "content p") (codes "p") (content_line (codes "p") refl) refl)
    (asked (codes "boundary p") _ (boundary_goes world (codes "boundary p") (codes "p") (boundary_line (codes "p") refl) refl)
    (asked (codes "content w") _ (content_goes world (codes "content w") (codes "w") (content_line (codes "w") refl) refl)
    (asked (codes "boundary w") _ (boundary_goes world (codes "boundary w") (codes "w") (boundary_line (codes "w") refl) refl)
    (no_lines world))))))
  where
    world : World
    world = record { scene = with_inputs scene inputs; files = files }

    asked : (line : List ℕ) (more : List (List ℕ)) → Goes world line world.scene → JustLack 0 world more → JustLack 0 world (line ∷ more)
    asked line more g rest = one_more world line more world.scene g rest rest

-- the edits and then the questions
pub edits_go : HasRoom → (n x : ℕ) (scene : Scene) (files : Files) (inputs : Inputs) → StayInCube inputs
    → JustLack 0 (record { scene = with_inputs scene inputs; files = files }) (edit_lines n x ++ last_lines)
edits_go room zero x scene files inputs h = last_go scene files inputs
edits_go room (suc n) x scene files inputs h =
    one_more (record { scene = with_inputs scene inputs; files = files }) (edit_line x) (edit_lines n (number_behind 8 x) ++ last_lines) (with_inputs scene (edited_inputs x inputs))
    (edit_line_goes room x scene files inputs h)
    (edits_go room n (number_behind 8 x) scene files (edited_inputs x inputs) (edited_stays room x inputs h))
    (edits_go room n (number_behind 8 x) scene files inputs h)
