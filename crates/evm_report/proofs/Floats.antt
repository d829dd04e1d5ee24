-- No member of a report is a float.
use Rattle.std.proofs.Common.{◌≡◌, ℤ, pos, negsuc, ℕ, false, List, [], ◌∷◌, map, refl}
use Rattle.serde_json.specs.Data.{string}
use Rattle.serde_json.specs.View.{items_of}
use Rattle.serde_json.specs.Written.{has_float, items_have_float}
use Rattle.evm_report.specs.Report.{Facts, coordinate, report_data}

no_coordinates : (zs : List ℤ) → items_have_float (items_of (map coordinate zs)) ≡ false
no_coordinates [] = refl
no_coordinates (pos n ∷ zs) = no_coordinates zs
no_coordinates (negsuc n ∷ zs) = no_coordinates zs

no_names : (ns : List (List ℕ)) → items_have_float (items_of (map string ns)) ≡ false
no_names [] = refl
no_names (n ∷ ns) = no_names ns

pub none : (f : Facts) → has_float (report_data f) ≡ false
none f = rw (no_coordinates f.low, no_coordinates f.high, no_names f.operands) refl
