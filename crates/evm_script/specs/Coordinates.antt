-- Numbers between two bounds.
use Rattle.std.specs.Prelude.{ℤ, Bool, ◌&&◌, int_le}

-- a number from low to high
abbrev pub is_between : ℤ → ℤ → ℤ → Bool
is_between low high n = int_le low n && int_le n high
