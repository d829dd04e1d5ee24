-- The first lines of a generated script are answered, and make its scene.
use Rattle.std.proofs.Common.{◌≡◌, ℕ, zero, suc, Bool, true, false, ◌&&◌, ◌||◌, ◌≤◌, not, List, [], ◌∷◌, Some, None, pos, refl, ap, ◌∙◌, codes, take, map, length, sym, arith, if◌then◌else◌}
use Rattle.std.specs.FinMap as finite
use Rattle.std.specs.List.{list_all, list_any}
use Rattle.std.proofs.lemmas.Bool.{false≢true, or_parts, or_from}
use Rattle.evm_cells.specs.Booleans.{or_cells, sub_cells}
use Rattle.evm_cells.specs.Limits.{limit}
use Rattle.evm_cells.specs.Shapes.{is_shift}
use Rattle.evm_script.specs.declared.formula.Formula.TheVariants as formulas
use Rattle.evm_outside.specs.Shelves.{Files}
use Rattle.evm_generator.specs.Laws.{IsSoLong, HasRoom}
use Rattle.evm_generator.specs.Script.{generated_lines, first_number}
use Rattle.evm_model.specs.Figures.{shift_stays, or_of, sub_of}
use Rattle.evm_model.specs.Scene.{Scene, start}
use Rattle.evm_model.specs.Edits.{Edit, Input, Def, Range, refusal}
use Rattle.evm_model.specs.Runs.{World, Mark, Plain, NoMemory, NoShelf, Fetched, answer, run, some_no}
use Rattle.evm_model.specs.Replies.{is_no}
use Rattle.evm_tool.specs.Generated.{own_world, is_own, lacks_memory, replies_of, RefusalsAreLacks, NoneRefusedWithMemory}
use Rattle.evm_tool.proofs.CubeCells.{or_in_cube, sub_in_cube, moved_stay}
use Rattle.evm_tool.proofs.CubeScenes.{Inputs, StayInCube, entries_with, with_inputs}
use Rattle.evm_tool.proofs.CubeLines.{first_line, second_line, third_line, fourth_line, fifth_line, sixth_line, seventh_line, eighth_line}
use Rattle.evm_tool.proofs.Unrefused.{Goes, edit_goes, JustLack, first_more}
use Rattle.evm_tool.proofs.CubeSteps.{edits_go}

-- inputs without cells
abbrev none : Inputs
none = record { a = []; b = []; c = [] }

none_stays : StayInCube none
none_stays = record { a = refl; b = refl; c = refl }

-- the scene after so many of the first lines
abbrev scene_after : Scene → ℕ → Scene
scene_after base n = record base { entries = take n (entries_with none) }

abbrev world_of : Scene → ℕ → Files → World
world_of base n files = record { scene = scene_after base n; files = files }

-- the shift of no cells
nothing_moves : shift_stays (pos 1 ∷ pos 2 ∷ pos 3 ∷ []) (sub_of (or_of (record { dim = 3; cells = [] }) (record { dim = 3; cells = [] })) (record { dim = 3; cells = [] })) ≡ true
unfolding shift_stays or_of sub_of
nothing_moves = moved_stay (sub_cells 3 (or_cells 3 [] []) []) (sub_in_cube (or_cells 3 [] []) [] (or_in_cube [] [] refl refl) refl)

abbrev shifted : Edit
shifted = Def (codes "s") (formulas.Shift (codes "v") (pos 1 ∷ pos 2 ∷ pos 3 ∷ []))

shift_is_free : (base : Scene) → refusal (scene_after base 6) shifted ≡ None
unfolding is_shift limit
shift_is_free base = ap (λ (b : Bool). if not (b && true) then Some Range else None) nothing_moves

abbrev last_one : Edit
last_one = Def (codes "w") (formulas.Xor (codes "u") (codes "s"))

last_is_free : (base : Scene) → refusal (scene_after base 7) last_one ≡ None
last_is_free base = ap (λ (b : Bool). if not (b && true) then Some Range else None) nothing_moves

first_go : (base : Scene) (files : Files) → Goes (world_of base 0 files) (codes "input a 3") (scene_after base 1)
first_go base files = edit_goes (world_of base 0 files) (codes "input a 3") _ (Input (codes "a") (pos 3)) (scene_after base 1) first_line refl refl refl refl

second_go : (base : Scene) (files : Files) → Goes (world_of base 1 files) (codes "input b 3") (scene_after base 2)
second_go base files = edit_goes (world_of base 1 files) (codes "input b 3") _ (Input (codes "b") (pos 3)) (scene_after base 2) second_line refl refl refl refl

third_go : (base : Scene) (files : Files) → Goes (world_of base 2 files) (codes "input c 3") (scene_after base 3)
third_go base files = edit_goes (world_of base 2 files) (codes "input c 3") _ (Input (codes "c") (pos 3)) (scene_after base 3) third_line refl refl refl refl

fourth_go : (base : Scene) (files : Files) → Goes (world_of base 3 files) (codes "def u or a b") (scene_after base 4)
fourth_go base files = edit_goes (world_of base 3 files) (codes "def u or a b") _ (Def (codes "u") (formulas.Or (codes "a") (codes "b"))) (scene_after base 4) fourth_line refl refl refl refl

fifth_go : (base : Scene) (files : Files) → Goes (world_of base 4 files) (codes "def v sub u c") (scene_after base 5)
fifth_go base files = edit_goes (world_of base 4 files) (codes "def v sub u c") _ (Def (codes "v") (formulas.Sub (codes "u") (codes "c"))) (scene_after base 5) fifth_line refl refl refl refl

sixth_go : (base : Scene) (files : Files) → Goes (world_of base 5 files) (codes "def p proj v 3") (scene_after base 6)
sixth_go base files = edit_goes (world_of base 5 files) (codes "def p proj v 3") _ (Def (codes "p") (formulas.Proj (codes "v") (pos 3))) (scene_after base 6) sixth_line refl refl refl refl

seventh_go : (base : Scene) (files : Files) → Goes (world_of base 6 files) (codes "def s shift v 1 2 3") (scene_after base 7)
seventh_go base files = edit_goes (world_of base 6 files) (codes "def s shift v 1 2 3") _ shifted (scene_after base 7) seventh_line refl (shift_is_free base) refl refl

eighth_go : (base : Scene) (files : Files) → Goes (world_of base 7 files) (codes "def w xor u s") (with_inputs base none)
eighth_go base files = edit_goes (world_of base 7 files) (codes "def w xor u s") _ last_one (with_inputs base none) eighth_line refl (last_is_free base) refl refl

-- all lines
whole : HasRoom → (seed edits : ℕ) (base : Scene) (files : Files) → JustLack 8 (world_of base 0 files) (generated_lines seed edits)
whole room seed edits base files =
    first_more 7 (world_of base 0 files) _ _ (scene_after base 1) (first_go base files)
    (first_more 6 (world_of base 1 files) _ _ (scene_after base 2) (second_go base files)
    (first_more 5 (world_of base 2 files) _ _ (scene_after base 3) (third_go base files)
    (first_more 4 (world_of base 3 files) _ _ (scene_after base 4) (fourth_go base files)
    (first_more 3 (world_of base 4 files) _ _ (scene_after base 5) (fifth_go base files)
    (first_more 2 (world_of base 5 files) _ _ (scene_after base 6) (sixth_go base files)
    (first_more 1 (world_of base 6 files) _ _ (scene_after base 7) (seventh_go base files)
    (first_more 0 (world_of base 7 files) _ _ (with_inputs base none) (eighth_go base files)
    (edits_go room edits (first_number seed) base files none none_stays))))))))

pub just_lack : IsSoLong → HasRoom → RefusalsAreLacks
just_lack law room seed edits marks all own first =
    (whole room seed edits start finite.empty).each marks own (omega (arith, all, law seed edits)) first

-- ---- whether some line refuses

-- a line at which memory is missing refuses
or-true : (a : Bool) → (a || true) ≡ true
or-true true = refl
or-true false = refl

lack_refuses : (world : World) (lines : List (List ℕ)) (marks : List Mark) → list_all is_own marks ≡ true → length marks ≤ length lines → list_any lacks_memory marks ≡ true
    → some_no (run world lines marks) ≡ true
lack_refuses world [] [] own few h = absurd (false≢true h)
lack_refuses world [] (m ∷ ms) own few h = absurd (omega (arith, few))
lack_refuses world (line ∷ more) [] own few h = absurd (false≢true h)
lack_refuses world (line ∷ more) (Plain ∷ ms) own few h =
    ap (λ (b : Bool). is_no (answer world line Plain).reply || b) (lack_refuses (answer world line Plain).world more ms own (omega (arith, few)) h)
    ∙ or-true (is_no (answer world line Plain).reply)
lack_refuses world (line ∷ more) (NoMemory ∷ ms) own few h = refl
lack_refuses world (line ∷ more) (NoShelf ∷ ms) own few h = absurd (false≢true own)
lack_refuses world (line ∷ more) (Fetched got ∷ ms) own few h = absurd (false≢true own)

-- what holds of some element, of the list of the tests
any_test : {X : Type 0} (test : X → Bool) (xs : List X) → list_any test xs ≡ list_any (λ (b : Bool). b) (map test xs)
any_test test [] = refl
any_test test (x ∷ xs) = ap (λ (b : Bool). test x || b) (any_test test xs)

-- none of a front, where none of all
none_first : {X : Type 0} (test : X → Bool) (k : ℕ) (xs : List X) → list_any test xs ≡ false → list_any test (take k xs) ≡ false
none_first test zero xs h = refl
none_first test (suc k) [] h = refl
none_first test (suc k) (x ∷ xs) h = let both = or_parts (test x) (list_any test xs) h in or_from (test x) _ both.0 (none_first test k xs both.1)

pub some_lack : IsSoLong → HasRoom → NoneRefusedWithMemory
some_lack law room seed edits marks all own = by (list_any lacks_memory marks) refl
  where
    by : (b : Bool) → list_any lacks_memory marks ≡ b → some_no (replies_of seed edits marks) ≡ list_any lacks_memory marks
    by true e = lack_refuses (own_world start) (generated_lines seed edits) marks own (omega (arith, all, law seed edits)) e ∙ sym e
    by false e =
        any_test is_no (replies_of seed edits marks)
        ∙ ap (list_any (λ (b : Bool). b)) (just_lack law room seed edits marks all own (none_first lacks_memory 8 marks e))
        ∙ sym (any_test lacks_memory marks)
