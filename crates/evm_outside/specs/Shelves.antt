-- Files by name, and what a fetch and a place do to them and to the counts of faults and of misses.
use Rattle.std.specs.Prelude.{ℕ, ◌≡◌, Bool, ◌&&◌, ◌||◌, nat_eq, nat_le, List, length, slice_index, Option, None, Some, Result, Ok, Err}
use Rattle.std.specs.List.{list_all}
use Rattle.std.specs.Ordering.{nat_cmp}
use Rattle.std.specs.Cmp.Lexicographic.{slice_cmp}
use Rattle.std.specs.FinMap as map
use Rattle.evm_outside.specs.Causes.{Climbed, MayClimb}
use Rattle.evm_outside.specs.declared.shelf.FetchError.{FetchError}
use Rattle.evm_outside.specs.declared.shelf.FetchError.TheVariants as fetching
use Rattle.evm_outside.specs.declared.shelf.PlaceError.{PlaceError}
use Rattle.evm_outside.specs.declared.shelf.PlaceError.TheVariants as placing

-- the longest file name, in bytes
abbrev pub file_name_max : ℕ
file_name_max = 64

-- the longest file that is fetched, in bytes
abbrev pub file_max : ℕ
file_max = 268435456

-- A to Z, a to z, 0 to 9 or an underscore
abbrev pub is_plain_byte : ℕ → Bool
is_plain_byte b = (nat_le 65 b && nat_le b 90) || (nat_le 97 b && nat_le b 122) || (nat_le 48 b && nat_le b 57) || nat_eq b 95

-- such a byte, a dot or a dash
abbrev pub is_file_name_byte : ℕ → Bool
is_file_name_byte b = is_plain_byte b || nat_eq b 46 || nat_eq b 45

-- a file name: 1 to 64 letters, digits, underscores, dots or dashes, of which the first is no dot and no dash; so never a path
abbrev pub is_file_name : List ℕ → Bool
is_file_name name =
    nat_le 1 (length name) && nat_le (length name) file_name_max && is_plain_byte (slice_index name 0) && list_all is_file_name_byte name

-- files by name: a finite map from names to bytes
abbrev pub Files : Type 0
Files = map.FinMap (slice_cmp nat_cmp) (List ℕ)

-- told files stay as they are, and files that are not told are not told afterwards
abbrev pub KeepsFiles : Option Files → Option Files → Type 0
KeepsFiles None after = after ≡ None
KeepsFiles (Some files) None = ⊥
KeepsFiles (Some files) (Some after) = after ≡ files

-- told files have this under the name: bytes, or nothing
abbrev pub HasFile : Option Files → List ℕ → Option (List ℕ) → Type 0
HasFile None name bytes = Unit {0}
HasFile (Some files) name bytes = map.get files name ≡ bytes

-- told files get these bytes under the name, and each other name keeps its own
abbrev pub PlacesFile : Option Files → Option Files → List ℕ → List ℕ → Type 0
PlacesFile None after name bytes = after ≡ None
PlacesFile (Some files) None name bytes = ⊥
PlacesFile (Some files) (Some after) name bytes = after ≡ map.insert files name bytes

-- the count of faults over a fetch: it rose where the shelf failed, and stays where a file was found or missing
abbrev pub FetchFaults : {T : Type 0} → Result T FetchError → ℕ → ℕ → Type 0
FetchFaults (Ok found) before now = now ≡ before
FetchFaults (Err fetching.Missing) before now = now ≡ before
FetchFaults (Err fetching.Failed) before now = Climbed before now
FetchFaults (Err fetching.NoMemory) before now = MayClimb before now

-- the count of misses over a fetch: it rose where no file was found, and stays where one was found or the shelf failed
abbrev pub FetchMisses : {T : Type 0} → Result T FetchError → ℕ → ℕ → Type 0
FetchMisses (Ok found) before now = now ≡ before
FetchMisses (Err fetching.Missing) before now = Climbed before now
FetchMisses (Err fetching.Failed) before now = now ≡ before
FetchMisses (Err fetching.NoMemory) before now = MayClimb before now

-- the count of faults over a place: it rose where the shelf failed, and stays where the file was placed
abbrev pub PlaceFaults : {T : Type 0} → Result T PlaceError → ℕ → ℕ → Type 0
PlaceFaults (Ok placed) before now = now ≡ before
PlaceFaults (Err placing.Failed) before now = Climbed before now
PlaceFaults (Err placing.NoMemory) before now = MayClimb before now
