-- What the contracts see of a shelf in memory, and what a call leaves of it.
use Rattle.std.specs.Prelude.{ℕ, ◌≡◌, ◌<◌, ◌≤◌, List, length, Contains, Vec, Option, None, Some, Result, Ok, Err, refl}
use Rattle.std.specs.Option.{IsSomeAnd}
use Rattle.std.specs.FinMap as map
use Rattle.std.specs.Coded.{Coded, code_by, coded×, coded_ℕ, coded_list}
use Rattle.evm_outside.specs.Fakes.{counted}
use Rattle.evm_outside.specs.Shelves.{Files, file_max}
use Rattle.evm_outside.specs.declared.shelf.FetchError.{FetchError}
use Rattle.evm_outside.specs.declared.shelf.FetchError.TheVariants as fetching
use Rattle.evm_outside.specs.declared.shelf.PlaceError.{PlaceError}
use Rattle.evm_outside.specs.declared.shelf.PlaceError.TheVariants as placing

-- a shelf in memory: its files, the numbers of the calls that fail, the number of the next call, how many calls
-- failed, and how many found no file
pub record Cabinet : Type 0 where
  pub files : Files
  pub failing : List ℕ
  pub calls : ℕ
  pub faults : ℕ
  pub misses : ℕ

-- a cabinet is stored as the tuple of its fields
abbrev pub cabinet_code : Coded Cabinet
cabinet_code =
    code_by (Files × (List ℕ × (ℕ × (ℕ × ℕ))))
    (coded× (map.code (coded_list coded_ℕ) (coded_list coded_ℕ)) (coded× (coded_list coded_ℕ) (coded× coded_ℕ (coded× coded_ℕ coded_ℕ))))
    (λ c. (c.files, (c.failing, (c.calls, (c.faults, c.misses)))))
    (λ t. record { files = t.0; failing = t.1.0; calls = t.1.1.0; faults = t.1.1.1.0; misses = t.1.1.1.1 })
    (λ _. refl)

-- which answer a look-up gives for what is there: its bytes, at most file_max; none; too long; or, in place of its
-- bytes, want of memory. Exactly one of the first three holds
abbrev pub Finds : {A : Type 0} → Result (Vec ℕ A) FetchError → Option (List ℕ) → Type 0
Finds (Ok bytes) there = (there ≡ Some bytes.items) × (length bytes.items ≤ file_max)
Finds (Err fetching.Missing) there = there ≡ None
Finds (Err fetching.Failed) there = IsSomeAnd there (λ bytes. file_max < length bytes)
Finds (Err fetching.NoMemory) there = IsSomeAnd there (λ bytes. length bytes ≤ file_max)

-- which answer a fetch gives: it fails where the number of the call is one of those, and else answers the look-up
abbrev pub Fetches : {A : Type 0} → Result (Vec ℕ A) FetchError → Cabinet → List ℕ → Type 0
Fetches result c name =
    (Contains c.failing c.calls → result ≡ Err fetching.Failed) × (¬ (Contains c.failing c.calls) → Finds result (map.get c.files name))

-- one miss or fault more, where a fetch answered so
abbrev pub cabinet_noted : {T : Type 0} → Cabinet → Result T FetchError → Cabinet
cabinet_noted c (Ok found) = c
cabinet_noted c (Err fetching.Missing) = record c { misses = counted c.misses }
cabinet_noted c (Err fetching.Failed) = record c { faults = counted c.faults }
cabinet_noted c (Err fetching.NoMemory) = c

-- the shelf after a fetch: one more call, and one more miss or fault where it answered so
abbrev pub cabinet_fetched : {T : Type 0} → Cabinet → Result T FetchError → Cabinet
cabinet_fetched c result = cabinet_noted (record c { calls = counted c.calls }) result

-- the shelf after a place: one more call, and the file has these bytes, or one more call failed
abbrev pub cabinet_placed : {T : Type 0} → Cabinet → Result T PlaceError → List ℕ → List ℕ → Cabinet
cabinet_placed c (Ok placed) name bytes = record c { files = map.insert c.files name bytes; calls = counted c.calls }
cabinet_placed c (Err placing.Failed) name bytes = record c { calls = counted c.calls; faults = counted c.faults }
cabinet_placed c (Err placing.NoMemory) name bytes = record c { calls = counted c.calls }
