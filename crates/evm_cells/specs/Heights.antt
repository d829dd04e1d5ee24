-- Heights of the first axis, and how many of them are cuts of some cell sets. The number n is the dimension of the cell sets.
use Rattle.std.specs.Prelude.{ℕ, ◌-◌, Bool, not, ◌&&◌, ℤ, int_le, List, filter, length}
use Rattle.std.specs.List.{list_any}
use Rattle.evm_cells.specs.Places.{is_empty}
use Rattle.evm_cells.specs.Limits.{point_coords}
use Rattle.evm_cells.specs.Sections.{couplet, cuts}

-- whether the section of S changes at the height h, so that h is a cut
abbrev pub is_cut : ℕ → List (List ℤ) → ℤ → Bool
is_cut n S h = not (is_empty (couplet (n - 1) 0 h S))

-- whether h is a cut of one of some cell sets
abbrev pub is_cut_of : ℕ → List (List (List ℤ)) → ℤ → Bool
is_cut_of n Ss h = list_any (λ S. is_cut n S h) Ss

-- whether h is in the least range that has all cuts of some cell sets
abbrev pub is_spanned : ℕ → List (List (List ℤ)) → ℤ → Bool
is_spanned n Ds h =
    list_any (λ D. list_any (λ k. int_le k h) (cuts (n - 1) 0 D)) Ds
    && list_any (λ D. list_any (int_le h) (cuts (n - 1) 0 D)) Ds

-- how many different cuts some cell sets have
abbrev pub cut_count : ℕ → List (List (List ℤ)) → ℕ
cut_count n Ss = length (filter (is_cut_of n Ss) (point_coords n))

-- how many of them are in the least range that has all cuts of some changes
abbrev pub spanned_cut_count : ℕ → List (List (List ℤ)) → List (List (List ℤ)) → ℕ
spanned_cut_count n Ss Ds = length (filter (λ h. is_cut_of n Ss h && is_spanned n Ds h) (point_coords n))
