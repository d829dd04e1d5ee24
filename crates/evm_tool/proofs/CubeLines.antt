-- The commands of the lines of a generated script.
use Rattle.std.proofs.Common.{◌≡◌, ℕ, ◌≤◌, ◌<◌, Bool, true, false, ◌&&◌, List, [], ◌∷◌, ◌++◌, Ok, ℤ, pos, refl, sym, ap, ◌∙◌, arith, codes, if◌then◌else◌, int_le, int_lt, nat_eq}
use Rattle.std.specs.Fmt.{digits}
use Rattle.std.proofs.lemmas.Bool.{and_from}
use Rattle.std.proofs.lemmas.Int.{ints as int_facts}
use Rattle.evm_text.specs.Numbers.{in_number_range}
use Rattle.evm_text.specs.Spaced.{behind_spaces}
use Rattle.evm_text.proofs.Spaced.{word_and_numbers}
use Rattle.evm_script.specs.Line.{command}
use Rattle.evm_script.specs.Words.{is_name, keeps_nums}
use Rattle.evm_script.specs.declared.command.Command.{Command}
use Rattle.evm_script.specs.declared.command.Command.TheVariants as commands
use Rattle.evm_script.specs.declared.formula.Formula.TheVariants as formulas
use Rattle.evm_script.proofs.Again.{read_again}
use Rattle.evm_generator.specs.Laws.{HasRoom}
use Rattle.evm_generator.specs.Script.{low, high, corners, drawn, edit_line}
use Rattle.evm_model.specs.Figures.{box_fits, low_of, high_of}
use Rattle.evm_cells.specs.Places.{each}
use Rattle.evm_cells.specs.Limits.{is_point, is_point_coord, limit}
use Rattle.evm_tool.proofs.CubeScenes.{picked_name}

-- the lines before the edits
pub first_line : command (codes "input a 3") ≡ Ok (commands.Input (codes "a") (pos 3))
unfolding digits
first_line = read_again (commands.Input (codes "a") (pos 3)) (refl, refl)

pub second_line : command (codes "input b 3") ≡ Ok (commands.Input (codes "b") (pos 3))
unfolding digits
second_line = read_again (commands.Input (codes "b") (pos 3)) (refl, refl)

pub third_line : command (codes "input c 3") ≡ Ok (commands.Input (codes "c") (pos 3))
unfolding digits
third_line = read_again (commands.Input (codes "c") (pos 3)) (refl, refl)

pub fourth_line : command (codes "def u or a b") ≡ Ok (commands.Def (codes "u") (formulas.Or (codes "a") (codes "b")))
fourth_line = read_again (commands.Def (codes "u") (formulas.Or (codes "a") (codes "b"))) (refl, (refl, refl))

pub fifth_line : command (codes "def v sub u c") ≡ Ok (commands.Def (codes "v") (formulas.Sub (codes "u") (codes "c")))
fifth_line = read_again (commands.Def (codes "v") (formulas.Sub (codes "u") (codes "c"))) (refl, (refl, refl))

pub sixth_line : command (codes "def p proj v 3") ≡ Ok (commands.Def (codes "p") (formulas.Proj (codes "v") (pos 3)))
unfolding digits
sixth_line = read_again (commands.Def (codes "p") (formulas.Proj (codes "v") (pos 3))) (refl, (refl, refl))

pub seventh_line : command (codes "def s shift v 1 2 3") ≡ Ok (commands.Def (codes "s") (formulas.Shift (codes "v") (pos 1 ∷ pos 2 ∷ pos 3 ∷ [])))
unfolding digits
seventh_line = read_again (commands.Def (codes "s") (formulas.Shift (codes "v") (pos 1 ∷ pos 2 ∷ pos 3 ∷ []))) (refl, (refl, refl))

pub eighth_line : command (codes "def w xor u s") ≡ Ok (commands.Def (codes "w") (formulas.Xor (codes "u") (codes "s")))
eighth_line = read_again (commands.Def (codes "w") (formulas.Xor (codes "u") (codes "s"))) (refl, (refl, refl))

-- the lines behind them
pub content_line : (name : List ℕ) → is_name name ≡ true → command (codes "content " ++ name) ≡ Ok (commands.Content name)
content_line name h = read_again (commands.Content name) h

pub boundary_line : (name : List ℕ) → is_name name ≡ true → command (codes "boundary " ++ name) ≡ Ok (commands.Boundary name)
boundary_line name h = read_again (commands.Boundary name) h

-- the command that a draw picks, by whether it is the first and whether it is the second
abbrev pub picked_command : Bool → Bool → List ℕ → List ℤ → Command
picked_command true second name nums = commands.Toggle name nums
picked_command false true name nums = commands.Add name nums
picked_command false false name nums = commands.Cut name nums

picked_word : Bool → Bool → List ℕ
picked_word first second = if first then codes "toggle" else if second then codes "add" else codes "cut"

good_name : (p q : Bool) → is_name (picked_name p q) ≡ true
good_name true q = refl
good_name false true = refl
good_name false false = refl

good_number : (n : ℕ) → n ≤ 63 → in_number_range (pos n) ≡ true
good_number n h = grind (arith, int_facts)

good_numbers : HasRoom → (x : ℕ) → keeps_nums (corners x) ≡ true
good_numbers room x =
    and_from (in_number_range (pos (low 3 x))) _ (good_number (low 3 x) (omega (arith, room 3 x)))
    (and_from (in_number_range (pos (low 5 x))) _ (good_number (low 5 x) (omega (arith, room 5 x)))
    (and_from (in_number_range (pos (low 7 x))) _ (good_number (low 7 x) (omega (arith, room 7 x)))
    (and_from (in_number_range (pos (high 3 x))) _ (good_number (high 3 x) (room 3 x).1)
    (and_from (in_number_range (pos (high 5 x))) _ (good_number (high 5 x) (room 5 x).1)
    (and_from (in_number_range (pos (high 7 x))) true (good_number (high 7 x) (room 7 x).1) refl)))))

-- a picked command, printed
printed_again : (r s : Bool) (name : List ℕ) (nums : List ℤ) → is_name name ≡ true → keeps_nums nums ≡ true
    → command (picked_word r s ++ 32 ∷ name ++ behind_spaces nums) ≡ Ok (picked_command r s name nums)
unfolding picked_word
printed_again true s name nums h k =
    ap (λ (t : List ℕ). command (codes "toggle" ++ 32 ∷ t)) (sym (word_and_numbers name nums)) ∙ read_again (commands.Toggle name nums) (h, k)
printed_again false true name nums h k =
    ap (λ (t : List ℕ). command (codes "add" ++ 32 ∷ t)) (sym (word_and_numbers name nums)) ∙ read_again (commands.Add name nums) (h, k)
printed_again false false name nums h k =
    ap (λ (t : List ℕ). command (codes "cut" ++ 32 ∷ t)) (sym (word_and_numbers name nums)) ∙ read_again (commands.Cut name nums) (h, k)

-- an edit, read
pub edit_read : HasRoom → (x : ℕ) → command (edit_line x)
    ≡ Ok (picked_command (nat_eq (drawn 2 3 x) 0) (nat_eq (drawn 2 3 x) 1) (picked_name (nat_eq (drawn 1 3 x) 0) (nat_eq (drawn 1 3 x) 1)) (corners x))
unfolding picked_word
edit_read room x =
    printed_again (nat_eq (drawn 2 3 x) 0) (nat_eq (drawn 2 3 x) 1) (picked_name (nat_eq (drawn 1 3 x) 0) (nat_eq (drawn 1 3 x) 1)) (corners x)
    (good_name (nat_eq (drawn 1 3 x) 0) (nat_eq (drawn 1 3 x) 1)) (good_numbers room x)

-- its box is a box
point_coord : (n : ℕ) → n ≤ 63 → is_point_coord 3 (pos n) ≡ true
unfolding is_point_coord limit
point_coord n h = grind (arith, int_facts)

below : (m n : ℕ) → m < n → int_lt (pos m) (pos n) ≡ true
below m n h = grind (arith, int_facts)

point : (l m n : ℕ) → l ≤ 63 → m ≤ 63 → n ≤ 63 → is_point 3 (pos l ∷ pos m ∷ pos n ∷ []) ≡ true
unfolding is_point
point l m n h i j = and_from (is_point_coord 3 (pos l)) _ (point_coord l h) (and_from (is_point_coord 3 (pos m)) _ (point_coord m i) (and_from (is_point_coord 3 (pos n)) true (point_coord n j) refl))

pub corners_fit : HasRoom → (x : ℕ) → box_fits (low_of 3 (corners x)) (high_of 3 (corners x)) ≡ true
unfolding box_fits each
corners_fit room x =
    let low_point = point (low 3 x) (low 5 x) (low 7 x) (omega (arith, room 3 x)) (omega (arith, room 5 x)) (omega (arith, room 7 x)) in
    let high_point = point (high 3 x) (high 5 x) (high 7 x) (room 3 x).1 (room 5 x).1 (room 7 x).1 in
    let rising = and_from (int_lt (pos (low 3 x)) (pos (high 3 x))) _ (below _ _ (room 3 x).0)
    (and_from (int_lt (pos (low 5 x)) (pos (high 5 x))) _ (below _ _ (room 5 x).0)
    (and_from (int_lt (pos (low 7 x)) (pos (high 7 x))) true (below _ _ (room 7 x).0) refl)) in
    and_from (is_point 3 (low_of 3 (corners x)) && is_point 3 (high_of 3 (corners x))) _
    (and_from (is_point 3 (low_of 3 (corners x))) _ low_point high_point) rising

-- and stands in the cube
from_zero : (n : ℕ) → int_le (pos 0) (pos n) ≡ true
from_zero n = grind (arith, int_facts)

to_end : (n : ℕ) → n ≤ 63 → int_le (pos n) (pos 64) ≡ true
to_end n h = grind (arith, int_facts)

pub corners_in_cube : HasRoom → (x : ℕ) → (each int_le (pos 0 ∷ pos 0 ∷ pos 0 ∷ []) (low_of 3 (corners x)) ≡ true) × (each int_le (high_of 3 (corners x)) (pos 64 ∷ pos 64 ∷ pos 64 ∷ []) ≡ true)
unfolding each
corners_in_cube room x = (
  and_from (int_le (pos 0) (pos (low 3 x))) _ (from_zero (low 3 x)) (and_from (int_le (pos 0) (pos (low 5 x))) _ (from_zero (low 5 x)) (and_from (int_le (pos 0) (pos (low 7 x))) true (from_zero (low 7 x)) refl)),
  and_from (int_le (pos (high 3 x)) (pos 64)) _ (to_end (high 3 x) (room 3 x).1) (and_from (int_le (pos (high 5 x)) (pos 64)) _ (to_end (high 5 x) (room 5 x).1) (and_from (int_le (pos (high 7 x)) (pos 64)) true (to_end (high 7 x) (room 7 x).1) refl)),
)
