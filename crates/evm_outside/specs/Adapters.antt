-- What the contracts see of an adapter: the reader, the writer or the files of std in it, and its counts.
use Rattle.std.specs.Prelude.{ℕ, ◌≡◌, List, Vec, Option, Result, IfOk, IfSome}
use Rattle.evm_outside.specs.declared.adapters.StdSource.{StdSource}
use Rattle.evm_outside.specs.declared.adapters.StdSink.{StdSink}
use Rattle.evm_outside.specs.declared.folder.FolderShelf.{FolderShelf}

-- the reader that a source reads from
abbrev pub reader_of : {R : Type 0} → StdSource R → R
reader_of source = source.reader

-- how many reads failed
abbrev pub read_faults : {R : Type 0} → StdSource R → ℕ
read_faults source = source.faults

-- the writer that a sink writes to
abbrev pub writer_of : {W : Type 0} → StdSink W → W
writer_of sink = sink.writer

-- how many writes failed
abbrev pub write_faults : {W : Type 0} → StdSink W → ℕ
write_faults sink = sink.faults

-- the files that a shelf is over
abbrev pub files_of_folder : {R : Type 0} → FolderShelf R → R
files_of_folder shelf = shelf.rt

-- how many calls failed
abbrev pub folder_faults : {R : Type 0} → FolderShelf R → ℕ
folder_faults shelf = shelf.faults

-- how many fetches found no file
abbrev pub folder_misses : {R : Type 0} → FolderShelf R → ℕ
folder_misses shelf = shelf.misses

-- where a file was opened and tells its bytes, they are what is answered, if any are
abbrev pub GivesWhole : {F A E D : Type 0} → (F → Option (List ℕ)) → Result F E → Result (Vec ℕ A) D → Type 0
GivesWhole remaining opened result = IfOk opened (λ file. IfSome (remaining file) (λ all. IfOk result (λ bytes. bytes.items ≡ all)))
