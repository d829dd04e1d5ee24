-- Coordinates, the dimensions of named solids, and the names that formulas read.
use Rattle.std.proofs.Common.{◌≡◌, ℕ, ◌+◌, ◌≤◌, true, ℤ, pos, int_le, refl, add-one, arith}
use Rattle.std.proofs.lemmas.Int.{ints as int_facts}
use Rattle.evm_cells.specs.Limits.{is_cell_coord, is_point_coord}
use Rattle.evm_script.specs.declared.formula.Formula.{Formula}
use Rattle.evm_script.specs.declared.formula.Formula.TheVariants.{Or, And, Sub, Xor, Box, Shift, Mirror, Swap, Clip, Slice, Proj, Lift}
use Rattle.evm_script.specs.Operands.{operands_of, names_in}
use Rattle.evm_model.specs.Scene.{operands, is_dim}
use Rattle.evm_cells.proofs.Xor.{and_first, and_second}
use Rattle.evm_cells.proofs.Coords.{le_is, cell_is, cell_coord-falls, point_yes}

-- a coordinate of cells is one of points of the dimension below
pub cell_point : (n : ℕ) (x : ℤ) → is_cell_coord (n + 1) x ≡ true → is_point_coord n x ≡ true
cell_point n x h =
    let (low, high) = cell_is n x (cell_coord-falls n x (rw add-one at h)) in
    point_yes n x low (omega (arith, int_facts, high))

-- dimensions of named solids
pub dim_low : (n : ℕ) → is_dim (pos n) ≡ true → 2 ≤ n
dim_low n h = let low = le_is (pos 2) (pos n) (and_first (int_le (pos 2) (pos n)) (int_le (pos n) (pos 6)) h) in omega (arith, int_facts, low)

pub dim_high : (n : ℕ) → is_dim (pos n) ≡ true → n ≤ 6
dim_high n h = let high = le_is (pos n) (pos 6) (and_second (int_le (pos 2) (pos n)) (int_le (pos n) (pos 6)) h) in omega (arith, int_facts, high)

-- the operands that a formula tells are those of the model
pub names_read : (f : Formula) → names_in (operands_of f) ≡ operands f
names_read (Or a b) = refl
names_read (And a b) = refl
names_read (Sub a b) = refl
names_read (Xor a b) = refl
names_read (Box dim nums) = refl
names_read (Shift a nums) = refl
names_read (Mirror a axis) = refl
names_read (Swap a i j) = refl
names_read (Clip a nums) = refl
names_read (Slice a axis at) = refl
names_read (Proj a axis) = refl
names_read (Lift a axis lo hi) = refl
