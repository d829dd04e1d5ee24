-- The finite map that the entries of an ordered map from names to bytes stand for.
use Rattle.std.specs.Prelude.{ℕ, List, map, Vec}
use Rattle.std.specs.FinMap as finite
use Rattle.evm_outside.specs.Shelves.{Files}

-- the name and the bytes of an entry
abbrev pub named_file : {A : Type 0} → Vec ℕ A × Vec ℕ A → List ℕ × List ℕ
named_file e = (e.0.items, e.1.items)

-- the files of these entries
abbrev pub files_of : {A : Type 0} → List (Vec ℕ A × Vec ℕ A) → Files
files_of entries = finite.from_entries (map named_file entries)
