-- Boxes as figures.
use Rattle.std.specs.Prelude.{ℕ, ◌≡◌, true, false, ℤ, List, Result, Ok, Err}
use Rattle.evm_rows.specs.Rows.{Vertices}
use Rattle.evm_model.specs.Figures.{low_of, high_of, box_at, box_fits}
use Rattle.evm_formulas.specs.Stated.{figure_of}
use Rattle.evm_scene.specs.declared.edit.Refusal.{Refusal}
use Rattle.evm_scene.specs.declared.edit.Refusal.TheVariants.{Name, Taken, Kind, Used, Cycle, Dim, Range, NoMemory}

-- the box that numbers state in a dimension; a refusal by the numbers comes exactly where there is no such box
abbrev pub MakesBox : Result Vertices Refusal → ℕ → List ℤ → Type 0
MakesBox (Ok made) n nums = (box_fits (low_of n nums) (high_of n nums) ≡ true) × (figure_of made ≡ box_at n nums) × (made.dim ≡ n)
MakesBox (Err Range) n nums = box_fits (low_of n nums) (high_of n nums) ≡ false
MakesBox (Err NoMemory) n nums = Unit {0}
MakesBox (Err Name) n nums = ⊥
MakesBox (Err Taken) n nums = ⊥
MakesBox (Err Kind) n nums = ⊥
MakesBox (Err Used) n nums = ⊥
MakesBox (Err Cycle) n nums = ⊥
MakesBox (Err Dim) n nums = ⊥
